-- The statements of the text of `demo`.
use Prim.Native.Char.{code}
use Rattle.std.proofs.Common.{◌≡◌, ℕ, true, false, ◌||◌, ◌&&◌, not, List, [], ◌∷◌, ◌++◌, map, codes, decimal, None, refl, sym, ◌∙◌, ap}
use Rattle.std.specs.List.{AllByRecursion, list_any}
use Rattle.std.proofs.lemmas.List.{append-nil, append_assoc}
use Rattle.std.proofs.lemmas.Bool.{cond-true, cond-false, or_parts}
use Rattle.std.proofs.lemmas.List.Folds.{list_any-append}
use Rattle.qasm_lex.specs.Lexemes.{Lexeme, word, mark}
use Rattle.qasm_forms.specs.Statements.{is_mark, Statement, version, include, qubits, first_word, written_rest, written, ended, semicolon, written_argument, written_each, listed}
use Rattle.qasm_reader.specs.Parts.{Part, is_end, cut, parts_of}
use Rattle.demo_text.specs.Generator.{Call, first_calls, calls_drawn, demo_calls}
use Rattle.demo_reads.proofs.Spelled.{Spelled, lexemes, lexeme_at}
use Rattle.demo_reads.proofs.Pieces.{place_pieces, more_pieces, places_pieces, line_end, line_pieces, lines_pieces, head_pieces, demo_pieces}
use Rattle.demo_reads.proofs.Acting.{place_argument, line_statement, demo_statements, closed_part}

lexemes_append : (xs ys : List Spelled) → lexemes (xs ++ ys) ≡ lexemes xs ++ lexemes ys
unfolding lexemes
lexemes_append [] ys = refl
lexemes_append (x ∷ xs) ys = ap (λ l. lexeme_at x.form x.bytes ++ l) (lexemes_append xs ys) ∙ sym (append_assoc (lexeme_at x.form x.bytes) (lexemes xs) (lexemes ys))

abbrev place_lex : ℕ → List Lexeme
place_lex i = written_argument (place_argument i)

more_lex : List ℕ → List Lexeme
more_lex [] = []
more_lex (i ∷ is) = mark (code ",") ∷ (place_lex i ++ more_lex is)

place_read : (i : ℕ) → lexemes (place_pieces i) ≡ place_lex i
unfolding lexemes
place_read i = refl

more_read : (is : List ℕ) → lexemes (more_pieces is) ≡ more_lex is
unfolding more_pieces more_lex lexemes
more_read [] = refl
more_read (i ∷ is) = ap (λ l. mark (code ",") ∷ l) (lexemes_append (place_pieces i) (more_pieces is) ∙ ap (λ l. l ++ lexemes (more_pieces is)) (place_read i) ∙ ap (λ l. place_lex i ++ l) (more_read is))

listed_more : (i : ℕ) (is : List ℕ) → listed (written_each (map place_argument (i ∷ is))) ≡ place_lex i ++ more_lex is
unfolding more_lex
listed_more i [] = sym (append-nil (place_lex i))
listed_more i (j ∷ js) = ap (λ l. place_lex i ++ (mark (code ",") ∷ l)) (listed_more j js)

places_read : (is : List ℕ) → lexemes (places_pieces is) ≡ listed (written_each (map place_argument is))
unfolding places_pieces lexemes
places_read [] = refl
places_read (i ∷ is) = lexemes_append (place_pieces i) (more_pieces is) ∙ ap (λ l. l ++ lexemes (more_pieces is)) (place_read i) ∙ ap (λ l. place_lex i ++ l) (more_read is) ∙ sym (listed_more i is)

line_read : (c : Call) → lexemes (line_pieces c) ≡ written (line_statement c)
unfolding line_pieces lexemes
line_read c = ap (λ l. word c.name ∷ l) (lexemes_append (places_pieces c.on) line_end ∙ ap (λ l. l ++ (mark (code ";") ∷ [])) (places_read c.on))

-- the lexemes of a statement without its end
abbrev body : Statement → List Lexeme
body s = word (first_word s) ∷ written_rest s

-- they have neither `;` nor braces
abbrev NoStop : List Lexeme → Type 0
NoStop ls = AllByRecursion (λ l. is_mark (code "}") l || (is_mark (code ";") l || is_mark (code "{") l) ≡ false) ls

no_append : (ls ms : List Lexeme) → NoStop ls → NoStop ms → NoStop (ls ++ ms)
no_append [] ms a b = b
no_append (l ∷ ls) ms a b = (a.0, no_append ls ms a.1 b)

no_more : (is : List ℕ) → NoStop (more_lex is)
unfolding more_lex
no_more [] = tt
no_more (i ∷ is) = (refl, no_append (place_lex i) (more_lex is) (refl, (refl, (refl, (refl, tt)))) (no_more is))

no_places : (is : List ℕ) → NoStop (listed (written_each (map place_argument is)))
no_places [] = tt
no_places (i ∷ is) = rw (listed_more i is) (no_append (place_lex i) (more_lex is) (refl, (refl, (refl, (refl, tt)))) (no_more is))

abbrev part : List Lexeme → Part
part ls = record { lexemes = ls; closed = true; bad = None }

cut_here : (before ls rest : List Lexeme) → list_any (is_mark 123) before ≡ false → NoStop ls → cut before (ls ++ (mark (code ";") ∷ rest)) None ≡ part (before ++ ended ls semicolon) ∷ parts_of rest None
unfolding cut
cut_here before [] rest b h = cond-true (not (list_any (is_mark 123) before)) (part (before ++ mark 59 ∷ []) ∷ parts_of rest None) (cut (before ++ mark 59 ∷ []) rest None) (ap not b)
cut_here before (l ∷ ls) rest b h =
    let p = or_parts (is_mark 125 l) (is_mark 59 l || is_mark 123 l) h.0 in
    let q = or_parts (is_mark 59 l) (is_mark 123 l) p.1 in
    let goes_on : is_end before l ≡ false = ap (λ x. x || (is_mark 59 l && not (list_any (is_mark 123) before))) p.0 ∙ ap (λ x. x && not (list_any (is_mark 123) before)) q.0 in
    let none : list_any (is_mark 123) (before ++ l ∷ []) ≡ false = list_any-append (is_mark 123) before (l ∷ []) ∙ ap (λ x. x || (is_mark 123 l || false)) b ∙ ap (λ x. x || false) q.1 in
    cond-false (is_end before l) (part (before ++ l ∷ []) ∷ parts_of (ls ++ (mark (code ";") ∷ rest)) None) (cut (before ++ l ∷ []) (ls ++ (mark (code ";") ∷ rest)) None) goes_on
    ∙ cut_here (before ++ l ∷ []) ls rest none h.1
    ∙ ap (λ x. part x ∷ parts_of rest None) (append_assoc before (l ∷ []) (ended ls semicolon))

lines_parts : (cs : List Call) → parts_of (lexemes (lines_pieces cs)) None ≡ map (λ c. closed_part (line_statement c)) cs
unfolding lines_pieces lexemes cut
lines_parts [] = refl
lines_parts (c ∷ cs) =
    let s = body (line_statement c) in
    ap (λ l. parts_of l None) (lexemes_append (line_pieces c) (lines_pieces cs) ∙ ap (λ l. l ++ lexemes (lines_pieces cs)) (line_read c) ∙ append_assoc s (mark (code ";") ∷ []) (lexemes (lines_pieces cs)))
    ∙ cut_here [] s (lexemes (lines_pieces cs)) refl (refl, no_places c.on)
    ∙ ap (λ ps. closed_part (line_statement c) ∷ ps) (lines_parts cs)

lines_join : (cs ds : List Call) → lines_pieces (cs ++ ds) ≡ lines_pieces cs ++ lines_pieces ds
unfolding lines_pieces
lines_join [] ds = refl
lines_join (c ∷ cs) ds = ap (λ l. line_pieces c ++ l) (lines_join cs ds) ∙ sym (append_assoc (line_pieces c) (lines_pieces cs) (lines_pieces ds))

head_read : (q : ℕ) → lexemes (head_pieces q) ≡ written version ++ (written (include (codes "\"qelib1.inc\"")) ++ written (qubits (codes "q") (decimal q)))
unfolding head_pieces lexemes
head_read q = refl

map_map : (cs : List Call) → map (λ c. closed_part (line_statement c)) cs ≡ map closed_part (map line_statement cs)
map_map [] = refl
map_map (c ∷ cs) = ap (λ l. closed_part (line_statement c) ∷ l) (map_map cs)

-- the statements of the text
pub demo_parts : (q n seed : ℕ) → parts_of (lexemes (demo_pieces q n seed)) None ≡ map closed_part (demo_statements q n seed)
unfolding demo_pieces
demo_parts q n seed =
    let rest = lines_pieces (demo_calls q n seed) in
    let more = lexemes rest in
    let v = body version in
    let i = body (include (codes "\"qelib1.inc\"")) in
    let r = body (qubits (codes "q") (decimal q)) in
    ap (λ l. parts_of (lexemes (head_pieces q ++ l)) None) (sym (lines_join (first_calls q) (calls_drawn q n seed)))
    ∙ ap (λ l. parts_of l None) (lexemes_append (head_pieces q) rest ∙ ap (λ l. l ++ more) (head_read q))
    ∙ cut_here [] v (i ++ (mark (code ";") ∷ (r ++ (mark (code ";") ∷ more)))) refl (refl, (refl, tt))
    ∙ ap (λ ps. closed_part version ∷ ps) (cut_here [] i (r ++ (mark (code ";") ∷ more)) refl (refl, (refl, tt)) ∙ ap (λ ps. part (ended i semicolon) ∷ ps) (cut_here [] r more refl (refl, (refl, (refl, (refl, (refl, tt))))) ∙ ap (λ ps. part (ended r semicolon) ∷ ps) (lines_parts (demo_calls q n seed) ∙ map_map (demo_calls q n seed))))
