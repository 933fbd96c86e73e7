-- What spells a form spells a lexeme, or a blank or a comment, and the other way round.
use Rattle.std.proofs.Common.{◌≡◌, sym, ap, refl, inl, inr, ℕ, List, Option, Some, None}
use Rattle.qasm_lex.specs.declared.token.TokenKind.TheVariants.{Word, Whole, Real, Text, Arrow, Equal, Mark}
use Rattle.qasm_lex.specs.declared.pieces.Form.{Form}
use Rattle.qasm_lex.specs.declared.pieces.Form.TheVariants.{Blank, Comment, Token as OfKind}
use Rattle.qasm_lex.specs.Lexemes.{Lexeme, word, whole, real, quoted, arrow, equal, mark, of_kind, Spells, SpellsForm}

-- the lexeme of a form and its bytes, if it is one
abbrev pub piece_in : Form → List ℕ → Option Lexeme
piece_in (OfKind kind) bs = Some (of_kind kind bs)
piece_in _ bs = None

pub spells : (form : Form) (bs : List ℕ) → SpellsForm form bs → Spells (piece_in form bs) bs
spells Blank bs s = inl s
spells Comment bs s = inr s
spells (OfKind kind) bs s = s

pub form_of : (piece : Option Lexeme) (bs : List ℕ) → Spells piece bs → (form : Form) × SpellsForm form bs × (piece ≡ piece_in form bs)
form_of None bs (inl s) = (Blank, s, refl)
form_of None bs (inr s) = (Comment, s, refl)
form_of (Some (word w)) bs s = (OfKind Word, (refl, s.1), ap (λ x. Some (word x)) (sym s.0))
form_of (Some (whole w)) bs s = (OfKind Whole, (refl, s.1), ap (λ x. Some (whole x)) (sym s.0))
form_of (Some (real w)) bs s = (OfKind Real, (refl, s.1), ap (λ x. Some (real x)) (sym s.0))
form_of (Some (quoted w)) bs s = (OfKind Text, (refl, s.1), ap (λ x. Some (quoted x)) (sym s.0))
form_of (Some arrow) bs s = (OfKind Arrow, s, refl)
form_of (Some equal) bs s = (OfKind Equal, s, refl)
form_of (Some (mark b)) bs s = (OfKind (Mark b), s, refl)
