-- Boolean functions of variables, and what is left of them once variables are fixed.
use Rattle.std.specs.Prelude.{◌≡◌, ◌⊎◌, ℕ, Bool, false, cond, ◌==◌, List, [], ◌∷◌, slice_index_or}

-- a value for each variable
abbrev pub Assignment : Type 0
Assignment = ℕ → Bool

-- a Boolean function of the values of the variables
abbrev pub Function : Type 0
Function = Assignment → Bool

-- a bit list as an assignment: bit v is the value of variable v
abbrev pub bit : List Bool → Assignment
bit x v = slice_index_or x v false

-- x with the variable v set to b
abbrev pub put : Assignment → ℕ → Bool → Assignment
put x v b w = cond (w == v) b (x w)

-- f with the variable v fixed to b
abbrev pub fix : ℕ → Bool → Function → Function
fix v b f = λ x. f (put x v b)

-- g is f with the variables of a prefix of the order fixed
unfoldable pub IsPrefixOf : List ℕ → Function → Function → Type 0
IsPrefixOf [] f g = g ≡ f
IsPrefixOf (v ∷ vs) f g = (g ≡ f) ⊎ ((b : Bool) × IsPrefixOf vs (fix v b f) g)
