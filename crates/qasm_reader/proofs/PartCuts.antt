-- The statements of a text, one after the other.
use Rattle.std.proofs.Common.{◌≡◌, ◌∙◌, sym, ap, refl, ◌<◌, ℕ, suc, Bool, true, false, ◌||◌, ◌&&◌, not, cond, List, [], ◌∷◌, ◌++◌, append_assoc, append-nil, length, Option, Some, None, arith}
use Rattle.std.specs.List.{list_any}
use Rattle.std.specs.Option.{option_map_or}
use Rattle.std.proofs.lemmas.Bool.{and_parts}
use Rattle.std.proofs.lemmas.Option.{same_Some}
use Rattle.std.proofs.lemmas.List.Folds.{list_any-append}
use Rattle.qasm_lex.specs.Lexemes.{Lexeme}
use Rattle.qasm_forms.specs.Statements.{is_mark, End, semicolon, brace, ended}
use Rattle.qasm_forms.specs.Cutting.{end_by, opens, led_end, end_at}
use Rattle.qasm_forms.proofs.Nesting.{mark_is}
use Rattle.qasm_reader.specs.Parts.{Part, last_part, cut, parts_of}
use Rattle.qasm_reader.specs.Private.Drafts.{ended_part}

part : List Lexeme → Part
part ls = record { lexemes = ls; closed = true; bad = None }

after_first : List Lexeme → List Lexeme → Option (List Lexeme × End × List Lexeme) → Option ℕ → List Part
after_first before ls None bad = last_part (before ++ ls) bad
after_first before ls (Some p) bad = part (before ++ ended p.0 p.1) ∷ parts_of p.2 bad

or_false : (b : Bool) → b || false ≡ b
or_false true = refl
or_false false = refl

opens_more : (before : List Lexeme) (l : Lexeme) (opened : Bool) → list_any (is_mark 123) before ≡ opened → list_any (is_mark 123) (before ++ l ∷ []) ≡ opens opened l
opens_more before l opened e =
    list_any-append (is_mark 123) before (l ∷ []) ∙ ap (λ b. b || (is_mark 123 l || false)) e ∙ ap (λ b. opened || b) (or_false (is_mark 123 l))

-- a lexeme more that ends nothing
later : (before ls : List Lexeme) (l : Lexeme) (x : Option (List Lexeme × End × List Lexeme)) (bad : Option ℕ) → after_first (before ++ l ∷ []) ls x bad ≡ after_first before (l ∷ ls) (led_end l x) bad
unfolding part after_first
later before ls l None bad = ap (λ r. last_part r bad) (append_assoc before (l ∷ []) ls)
later before ls l (Some p) bad = ap (λ r. part r ∷ parts_of p.2 bad) (append_assoc before (l ∷ []) (ended p.0 p.1))

here : (before ls : List Lexeme) (l : Lexeme) (end : End) (bad : Option ℕ) → l ∷ [] ≡ ended [] end → part (before ++ l ∷ []) ∷ parts_of ls bad ≡ after_first before (l ∷ ls) (Some ([], end, ls)) bad
unfolding part after_first
here before ls l end bad e = ap (λ r. part (before ++ r) ∷ parts_of ls bad) e

-- what the first lexeme makes of the rest
first_step : (before ls : List Lexeme) (l : Lexeme) (x : Option (List Lexeme × End × List Lexeme)) (more : List Part) (bad : Option ℕ) (b m : Bool) → is_mark 125 l ≡ b → (m ≡ true → is_mark 59 l ≡ true) → more ≡ after_first (before ++ l ∷ []) ls x bad
    → cond (b || m) (part (before ++ l ∷ []) ∷ parts_of ls bad) more ≡ after_first before (l ∷ ls) (option_map_or (λ end. Some ([], end, ls)) (cond b (Some brace) (cond m (Some semicolon) None)) (led_end l x)) bad
first_step before ls l x more bad true m e f h = here before ls l brace bad (ap (λ y. y ∷ []) (mark_is 125 l e))
first_step before ls l x more bad false true e f h = here before ls l semicolon bad (ap (λ y. y ∷ []) (mark_is 59 l (f refl)))
first_step before ls l x more bad false false e f h = h ∙ later before ls l x bad

cut_first : (before ls : List Lexeme) (bad : Option ℕ) (opened : Bool) → list_any (is_mark 123) before ≡ opened → cut before ls bad ≡ after_first before ls (end_at opened ls) bad
unfolding cut part after_first
cut_first before [] bad opened e = ap (λ l. last_part l bad) (sym (append-nil before))
cut_first before (l ∷ ls) bad opened e =
    ap (λ o. cond (is_mark 125 l || (is_mark 59 l && not o)) (part (before ++ l ∷ []) ∷ parts_of ls bad) (cut (before ++ l ∷ []) ls bad)) e
    ∙ first_step before ls l (end_at (opens opened l) ls) (cut (before ++ l ∷ []) ls bad) bad (is_mark 125 l) (is_mark 59 l && not opened) refl (λ m. (and_parts (is_mark 59 l) (not opened) m).0)
    (cut_first (before ++ l ∷ []) ls bad (opens opened l) (opens_more before l opened e))

-- the first statement, and those after it
pub cut_closed : (ls : List Lexeme) (bad : Option ℕ) (front : List Lexeme) (end : End) (rest : List Lexeme) → end_at false ls ≡ Some (front, end, rest) → parts_of ls bad ≡ ended_part front end ∷ parts_of rest bad
unfolding part after_first
cut_closed ls bad front end rest e = cut_first [] ls bad false refl ∙ ap (λ x. after_first [] ls x bad) e

-- or none that is closed
pub cut_open : (ls : List Lexeme) (bad : Option ℕ) → end_at false ls ≡ None → parts_of ls bad ≡ last_part ls bad
unfolding after_first
cut_open ls bad e = cut_first [] ls bad false refl ∙ ap (λ x. after_first [] ls x bad) e

-- what stands behind an end is shorter
pub end_shorter : (opened : Bool) (ls front : List Lexeme) (end : End) (rest : List Lexeme) → end_at opened ls ≡ Some (front, end, rest) → length rest < length ls
end_shorter opened [] front end rest e = absurd cc
end_shorter opened (l ∷ ls) front end rest e = by (end_by opened l) (end_at (opens opened l) ls) (λ p. end_shorter (opens opened l) ls p.0 p.1 p.2) e
  where
    by : (x : Option End) (y : Option (List Lexeme × End × List Lexeme)) → ((p : List Lexeme × End × List Lexeme) → y ≡ Some p → length p.2 < length ls)
        → option_map_or (λ end. Some ([], end, ls)) x (led_end l y) ≡ Some (front, end, rest) → length rest < suc (length ls)
    by (Some x) y h e = let q : length ls ≡ length rest = ap (λ (p : List Lexeme × End × List Lexeme). length p.2) (same_Some ([], x, ls) (front, end, rest) e) in omega arith
    by None None h e = absurd cc
    by None (Some r) h e =
        let q : length r.2 ≡ length rest = ap (λ (p : List Lexeme × End × List Lexeme). length p.2) (same_Some (l ∷ r.0, r.1, r.2) (front, end, rest) e) in
        let m = h r refl in omega arith
