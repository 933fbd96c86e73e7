-- One place of a sum.
use Rattle.std.specs.Prelude.{◌≡◌, ◌⊎◌, ℕ, Bool}
use Rattle.diagram_model.specs.Functions.{Function, fix}
use Rattle.diagram_model.specs.Stores.{Diagram, function_of}
use Rattle.diagram_ops.specs.Diagrams.{variable_of}
use Rattle.slice_vec.specs.declared.place.Pair.{Pair}
use Rattle.slice_vec.specs.Digits.{odd, majority, less, choice}

-- two of the three are one node, and the third is the other
abbrev pub IsPair : ℕ → ℕ → ℕ → Pair → Type 0
IsPair a b c p =
    ((a ≡ b) × (p.twice.0 ≡ a) × (p.third.0 ≡ c))
    ⊎ (((a ≡ c) × (p.twice.0 ≡ a) × (p.third.0 ≡ b)) ⊎ ((b ≡ c) × (p.twice.0 ≡ b) × (p.third.0 ≡ a)))

-- the bit and the carry of three nodes
abbrev pub odd_at : Diagram → ℕ → ℕ → ℕ → Function
odd_at d a b c = odd (function_of d a) (function_of d b) (function_of d c)

abbrev pub majority_at : Diagram → ℕ → ℕ → ℕ → Function
majority_at d a b c = majority (function_of d a) (function_of d b) (function_of d c)

-- f where g is false
abbrev pub less_at : Diagram → ℕ → ℕ → Function
less_at d f g = less (function_of d f) (function_of d g)

-- a where n is true, else b
abbrev pub choice_at : Diagram → ℕ → ℕ → ℕ → Function
choice_at d n a b = choice (function_of d n) (function_of d a) (function_of d b)

-- a where the variable v is true, else b, both with v fixed
abbrev pub merge_at : ℕ → Bool → Function → Function → Function
merge_at v bit a b = choice (variable_of v) (fix v bit a) (fix v bit b)
