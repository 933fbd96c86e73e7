-- The number of a parameter, found one name after the other.
use Rattle.std.proofs.Common.{◌≡◌, ap, ℕ, ◌+◌, false, cond, List, ◌∷◌, Some}
use Rattle.std.specs.List.{position_from, slice_range}
use Rattle.std.specs.Str.{bytes_eq}
use Rattle.qasm_lex.specs.declared.params.Bound.{Bound}
use Rattle.qasm_lex.specs.Angles.{names_of}

-- a name that isn't the first is sought behind it
pub place_step : (text name : List ℕ) (n : ℕ) (b : Bound) (bs : List Bound) → bytes_eq name (slice_range text b.from b.to) ≡ false
    → position_from (bytes_eq name) n (names_of text (b ∷ bs)) ≡ position_from (bytes_eq name) (n + 1) (names_of text bs)
place_step text name n b bs e = ap (λ x. cond x (Some n) (position_from (bytes_eq name) (n + 1) (names_of text bs))) e
