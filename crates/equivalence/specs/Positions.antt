-- Words that only the clauses of private functions cite: positions as lists of bits, the row's first, and what a matrix's bits are to be.
use Rattle.std.specs.Prelude.{◌≡◌, ℕ, ◌+◌, ◌-◌, ◌*◌, ◌<◌, ◌≤◌, nat_lt, pos, Bool, true, cond, List, length, take, drop, Option, Some, None, slice_index_or}
use Rattle.bit_lists.specs.Partials.{agrees}
use Rattle.ring_omega.specs.declared.quad.Quad.{Quad}
use Rattle.ring_omega.specs.Ring.{difference_of}
use Rattle.diagram_model.specs.Functions.{bit}
use Rattle.diagram_model.specs.Stores.{Diagram, function_of}
use Rattle.comparison.specs.Scalars.{Matrix, corner, scalar_entry}
use Rattle.slice_vec.specs.Slices.{value_at}
use Rattle.slice_gates.specs.Sides.{woven}

-- the variable of a bit of a position on n qubits
abbrev pub variable_at : ℕ → ℕ → ℕ
variable_at n i = cond (nat_lt i n) (2 * i) (2 * (i - n) + 1)

-- the values of the variables at a position
abbrev pub in_turns : ℕ → List Bool → List Bool
in_turns n x = woven (take n x) (drop n x)

-- what is left of the matrix at a position, once its corner times the identity is taken away
unfoldable pub rest_at : ℕ → Matrix → List Bool → Quad
rest_at n m x = difference_of (m (take n x) (drop n x)) (scalar_entry (corner n m) (take n x) (drop n x))

-- the first k bits of the position x are fixed, at their variables, and the others are free
pub record AreFixed (n : ℕ) (x : List Bool) (k : ℕ) (p : List (Option Bool)) : Type 0 where
  pub long : length p ≡ n + n
  pub fixed : (i : ℕ) → i < k → slice_index_or p (variable_at n i) None ≡ Some (bit x i)
  pub free : (i : ℕ) → k ≤ i → i < n + n → slice_index_or p (variable_at n i) None ≡ None

-- the kept node where the node m is true at zeros, and else FALSE
abbrev pub wanted : Diagram → ℕ → List Bool → ℕ → ℕ
wanted d kept zeros m = cond (function_of d m (bit zeros)) kept 0

-- at z the integer is what it is at zeros, where the kept node is true, and else 0
abbrev pub IsAlike : Diagram → ℕ → List Bool → List ℕ → List Bool → Type 0
IsAlike d kept zeros ns z = value_at d ns (bit z) ≡ cond (function_of d kept (bit z)) (value_at d ns (bit zeros)) (pos 0)

-- it is so at each list that agrees with p
abbrev pub AreAlike : Diagram → ℕ → List Bool → List ℕ → List (Option Bool) → Type 0
AreAlike d kept zeros ns p = (z : List Bool) → length z ≡ length d.order → agrees p z ≡ true → IsAlike d kept zeros ns z

-- and at some such list it isn't
pub record IsUnlike (d : Diagram) (kept : ℕ) (zeros : List Bool) (ns : List ℕ) (p : List (Option Bool)) : Type 0 where
  pub at : List Bool
  pub long : length at ≡ length d.order
  pub agreeing : agrees p at ≡ true
  pub unlike : IsAlike d kept zeros ns at → ⊥
