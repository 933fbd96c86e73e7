-- Reading from the front of lexemes.
use Prim.Native.Char.{code}
use Rattle.std.specs.Prelude.{ℕ, ◌+◌, ◌-◌, Bool, true, false, ◌&&◌, ◌||◌, cond, nat_eq, List, [], ◌∷◌, Option, Some, None, option_map, option_and_then}
use Rattle.std.specs.Borrow.{Bor}
use Rattle.qasm_lex.specs.declared.token.Token.{Token}
use Rattle.qasm_forms.specs.declared.lexemes.Lexeme.{Lexeme as Piece}
use Rattle.qasm_forms.specs.declared.lexemes.Lexeme.TheVariants.{Word as PieceWord, Whole as PieceWhole, Real as PieceReal, Quoted as PieceQuoted, Arrow as PieceArrow, Equal as PieceEqual, Mark as PieceMark}
use Rattle.qasm_lex.specs.Lexemes.{Lexeme, of_kind, word, whole, real, quoted, arrow, equal, mark}
use Rattle.std.specs.Option.{option_map_or}
use Rattle.qasm_forms.specs.declared.lexemes.Closing.{Closing}
use Rattle.qasm_forms.specs.declared.lexemes.Closing.TheVariants.{Semicolon, Brace}
use Rattle.qasm_forms.specs.Statements.{is_mark, is_name, End, semicolon, brace}
use Rattle.qasm_forms.specs.Cutting.{end_by, opens}

-- the code's lexeme, as the definitions have it
abbrev pub seen : Piece → Lexeme
seen (PieceWord bytes) = word bytes.now
seen (PieceWhole bytes) = whole bytes.now
seen (PieceReal bytes) = real bytes.now
seen (PieceQuoted bytes) = quoted bytes.now
seen PieceArrow = arrow
seen PieceEqual = equal
seen (PieceMark b) = mark b

-- what was read, and what is left
abbrev pub then : {A : Type 0} → Option A → List Lexeme → Option (A × List Lexeme)
then read rest = option_map (λ x. (x, rest)) read

abbrev pub then_bytes : Option (Bor (List ℕ)) → List Lexeme → Option (List ℕ × List Lexeme)
then_bytes read rest = option_map (λ x. (x.now, rest)) read

abbrev pub marked : Bool → List Lexeme → Option (List Lexeme)
marked true rest = Some rest
marked false rest = None

abbrev pub and_then : {A B : Type 0} → Option A → (A → Option B) → Option B
and_then read f = option_and_then f read

-- a word that is a name
abbrev pub name_at : List Lexeme → Option (List ℕ × List Lexeme)
name_at (word bytes ∷ ls) = cond (is_name bytes) (Some (bytes, ls)) None
name_at _ = None

-- a whole number
abbrev pub digits_at : List Lexeme → Option (List ℕ × List Lexeme)
digits_at (whole bytes ∷ ls) = Some (bytes, ls)
digits_at _ = None

-- this mark
abbrev pub mark_at : ℕ → List Lexeme → Option (List Lexeme)
mark_at b (mark c ∷ ls) = cond (nat_eq c b) (Some ls) None
mark_at b _ = None

-- nothing more
abbrev pub at_end : {A : Type 0} → A → List Lexeme → Option A
at_end x [] = Some x
at_end x (l ∷ ls) = None

-- `[`, a number and `]`, and nothing more
abbrev pub index_at : List Lexeme → Option (List ℕ)
index_at ls = and_then (mark_at (code "[") ls) (λ r. and_then (digits_at r) (λ d. and_then (mark_at (code "]") d.1) (at_end d.0)))

-- a comma or a closing parenthesis outside of parentheses, where so many are open
abbrev pub ends_angle : ℕ → Lexeme → Bool
ends_angle depth l = nat_eq depth 0 && (is_mark (code ")") l || is_mark (code ",") l)

abbrev pub deeper : ℕ → Lexeme → ℕ
deeper depth l = cond (is_mark (code "(") l) (depth + 1) (cond (is_mark (code ")") l) (depth - 1) depth)

abbrev pub plus : {A : Type 0} → ℕ → Option (ℕ × A) → Option (ℕ × A)
plus n place = option_map (λ p. (n + p.0, p.1)) place

-- how many tokens stand before the end of an angle, and whether it is the closing parenthesis
abbrev pub angle_place : ℕ → List Token → Option (ℕ × Bool)
angle_place depth [] = None
angle_place depth (t ∷ ts) =
    cond (ends_angle depth (of_kind t.kind [])) (Some (0, is_mark (code ")") (of_kind t.kind []))) (plus 1 (angle_place (deeper depth (of_kind t.kind [])) ts))

abbrev pub led_by : Lexeme → Option (List Lexeme × Bool × List Lexeme) → Option (List Lexeme × Bool × List Lexeme)
led_by l read = option_map (λ p. (l ∷ p.0, p.1, p.2)) read

-- the lexemes before the end of an angle, whether it is the closing parenthesis, and those after it
abbrev pub angle_at : ℕ → List Lexeme → Option (List Lexeme × Bool × List Lexeme)
angle_at depth [] = None
angle_at depth (l ∷ ls) = cond (ends_angle depth l) (Some ([], is_mark (code ")") l, ls)) (led_by l (angle_at (deeper depth l) ls))

abbrev pub then_angle : Option (List Lexeme × Bool) → List Lexeme → Option (List Lexeme × Bool × List Lexeme)
then_angle read rest = option_map (λ p. (p.0, p.1, rest)) read

-- how many tokens stand before the end of a statement, and that end
abbrev pub end_place : Bool → List Token → Option (ℕ × End)
end_place opened [] = None
end_place opened (t ∷ ts) = option_map_or (λ end. Some (0, end)) (end_by opened (of_kind t.kind [])) (plus 1 (end_place (opens opened (of_kind t.kind [])) ts))

abbrev pub seen_end : Closing → End
seen_end Semicolon = semicolon
seen_end Brace = brace

abbrev pub then_end : Option (List Lexeme × Closing) → List Lexeme → Option (List Lexeme × End × List Lexeme)
then_end read rest = option_map (λ p. (p.0, seen_end p.1, rest)) read
