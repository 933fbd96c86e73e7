-- Nodes of a decision diagram by number, and the Boolean functions that they denote.
use Rattle.std.specs.Prelude.{◌≡◌, ◌≢◌, ◌⊎◌, ℕ, ◌<◌, Bool, true, cond, ◌==◌, List, [], ◌∷◌, Option, Some, None, slice_index_or}
use Rattle.bit_lists.specs.Orders.{has, after, AreVars}
use Rattle.diagram_model.specs.declared.parts.Parts.{Parts}
use Rattle.diagram_model.specs.Functions.{Assignment, Function}

-- the parts of a held node; FALSE, TRUE and numbers that are not held have none
abbrev pub parts_of : List (Option Parts) → ℕ → Option Parts
parts_of s n = slice_index_or s n None

-- the child for a value of the variable
abbrev pub child : Bool → Parts → ℕ
child b p = cond b p.high p.low

abbrev pub follow_parts : ℕ → Bool → ℕ → Option Parts → ℕ
follow_parts v b n None = n
follow_parts v b n (Some p) = cond (p.var == v) (child b p) n

-- the node that is left of n once the variable v is fixed to b
unfoldable pub follow : List (Option Parts) → ℕ → Bool → ℕ → ℕ
follow s v b n = follow_parts v b n (parts_of s n)

-- the node that is left of n once the variables are fixed one after the other, top first
unfoldable pub walk : List (Option Parts) → List ℕ → Assignment → ℕ → ℕ
walk s [] x n = n
walk s (v ∷ vs) x n = walk s vs x (follow s v (x v) n)

-- what n denotes at x: whether the walk down the order ends at TRUE
unfoldable pub value : List (Option Parts) → List ℕ → Assignment → ℕ → Bool
value s order x n = walk s order x n == 1

-- the Boolean function that n denotes
abbrev pub denoted : List (Option Parts) → List ℕ → ℕ → Function
denoted s order n = λ x. value s order x n

-- n and m denote the same function
abbrev pub SameFunction : List (Option Parts) → List ℕ → ℕ → ℕ → Type 0
SameFunction s order n m = (x : Assignment) → value s order x n ≡ value s order x m

-- n is held, and its variable is in the list
pub record IsHeldIn (s : List (Option Parts)) (vs : List ℕ) (n : ℕ) : Type 0 where
  pub parts : Parts
  pub is : parts_of s n ≡ Some parts
  pub below : has vs parts.var ≡ true

-- n is FALSE, TRUE or held with a variable of the list
abbrev pub IsLiveIn : List (Option Parts) → List ℕ → ℕ → Type 0
IsLiveIn s vs n = (n < 2) ⊎ IsHeldIn s vs n

-- the children are live, different, and below the node in the order
pub record IsProper (s : List (Option Parts)) (order : List ℕ) (p : Parts) : Type 0 where
  pub low : IsLiveIn s (after order p.var) p.low
  pub high : IsLiveIn s (after order p.var) p.high
  pub differ : p.low ≢ p.high

-- each node whose variable is in the list is proper
abbrev pub AreProper : List (Option Parts) → List ℕ → Type 0
AreProper s vs = (n : ℕ) (p : Parts) → parts_of s n ≡ Some p → has vs p.var ≡ true → IsProper s vs p

-- no two nodes have the same parts
abbrev pub AreUnique : List (Option Parts) → Type 0
AreUnique s = (n m : ℕ) (p : Parts) → parts_of s n ≡ Some p → parts_of s m ≡ Some p → n ≡ m

-- the held nodes are those of a reduced ordered decision diagram
pub record IsDiagram (s : List (Option Parts)) (k : ℕ) (vs : List ℕ) : Type 0 where
  pub ground : (n : ℕ) → n < 2 → parts_of s n ≡ None
  pub order : AreVars k vs
  pub within : (n : ℕ) (p : Parts) → parts_of s n ≡ Some p → has vs p.var ≡ true
  pub proper : AreProper s vs
  pub unique : AreUnique s
