-- A text of pieces is cut into them.
use Rattle.std.proofs.Common.{◌≡◌, ℕ, List, [], ◌∷◌, ◌++◌, length, map, None, Option, refl, sym, ap, subst}
use Rattle.std.specs.List.{filter_map}
use Rattle.std.proofs.Math.Seq.{drop-length}
use Rattle.std.proofs.lemmas.List.{append-nil, take_at}
use Rattle.qasm_lex.specs.declared.pieces.Form.{Form}
use Rattle.qasm_lex.specs.declared.pieces.Form.TheVariants.{Blank, Comment, Token as OfKind}
use Rattle.qasm_lex.specs.Lexemes.{Lexeme, Begins, SpellsForm, Cuts, AreLexemes, of_kind}
use Rattle.qasm_lex.proofs.Forms.{piece_in, spells}
use Rattle.demo_reads.proofs.Spelled.{Spelled, AreFronts, text_of, lexeme_at, lexemes}

pieces : List Spelled → List (Option Lexeme)
pieces ps = map (λ p. piece_in p.form p.bytes) ps

cut_all : (ps : List Spelled) → AreFronts ps [] → Cuts (text_of ps) (pieces ps) []
unfolding pieces AreFronts text_of
cut_all [] h = refl
cut_all (p ∷ ps) h =
    let b : Begins (p.bytes ++ text_of ps) p.form (length p.bytes) = subst (λ t. Begins (p.bytes ++ t) p.form (length p.bytes)) (append-nil (text_of ps)) h.0 in
    (p.bytes, text_of ps, refl, spells p.form p.bytes (subst (SpellsForm p.form) (take_at p.bytes (text_of ps) (length p.bytes) refl) b.spelled), b.longest, cut_all ps h.1)

lexemes_step : (form : Form) (bytes : List ℕ) (ps : List Spelled) → lexemes ps ≡ filter_map (λ piece. piece) (pieces ps)
    → lexeme_at form bytes ++ lexemes ps ≡ filter_map (λ piece. piece) (piece_in form bytes ∷ pieces ps)
lexemes_step Blank bytes ps h = h
lexemes_step Comment bytes ps h = h
lexemes_step (OfKind kind) bytes ps h = ap (λ l. of_kind kind bytes ∷ l) h

lexemes_all : (ps : List Spelled) → lexemes ps ≡ filter_map (λ piece. piece) (pieces ps)
unfolding pieces lexemes
lexemes_all [] = refl
lexemes_all (p ∷ ps) = lexemes_step p.form p.bytes ps (lexemes_all ps)

-- the text has the lexemes of its pieces
pub spelled_lexemes : (ps : List Spelled) → AreFronts ps [] → AreLexemes (text_of ps) (lexemes ps) None
spelled_lexemes ps h = record {
  pieces = pieces ps;
  stop = length (text_of ps);
  cuts = subst (Cuts (text_of ps) (pieces ps)) (sym (drop-length (text_of ps))) (cut_all ps h);
  lexemes_are = lexemes_all ps;
  ends = refl;
}
