-- Four integers over a power of √2, as the working vector of a list of gates.
use Rattle.std.specs.Prelude.{◌≡◌, ℕ, zero, suc, ◌<◌, Bool, List, [], ◌∷◌, length, ◌++◌}
use Rattle.diagram_model.specs.Functions.{Assignment, bit}
use Rattle.diagram_model.specs.Stores.{Diagram}
use Rattle.ring_omega.specs.declared.quad.Quad.{Quad}
use Rattle.circuit_model.specs.Working.{Scaled}
use Rattle.slice_quad.specs.declared.four.Four.{Four}
use Rattle.slice_quad.specs.declared.quad.SliceQuad.{SliceQuad}
use Rattle.slice_quad.specs.Mix.{Vector}
use Rattle.slice_quad.specs.Vectors.{vector_in}
use Rattle.slice_gates.specs.Sides.{woven}

-- a function of variables, at lists of bits
abbrev pub at_lists : Vector → List Bool → Quad
at_lists v x = v (bit x)

-- the values of the first n variables
unfoldable pub first_values : ℕ → Assignment → List Bool
first_values zero x = []
first_values (suc n) x = x 0 ∷ first_values n (λ i. x (suc i))

-- the same for the first n variables
abbrev pub AgreeBelow : ℕ → Assignment → Assignment → Type 0
AgreeBelow n x y = (i : ℕ) → i < n → x i ≡ y i

-- v reads the first n variables alone
abbrev pub ReadsBelow : ℕ → Vector → Type 0
ReadsBelow n v = (x y : Assignment) → AgreeBelow n x y → v x ≡ v y

-- the four over √2 to the power k are the working vector w on n qubits
pub record IsShown (n : ℕ) (d : Diagram) (f : Four) (k : ℕ) (w : Scaled) : Type 0 where
  pub exponent : w.exponent ≡ k
  pub entries : (x : List Bool) → length x ≡ n → w.entries x ≡ vector_in d f (bit x)

-- it is the working vector w, on as many qubits as the store has variables
abbrev pub Shows : Diagram → SliceQuad → Scaled → Type 0
Shows d q w = IsShown (length d.order) d q.four q.exponent w

-- the vector on n qubits, by the values of the first n variables
unfoldable pub by_values : ℕ → (List Bool → Quad) → Vector
by_values n v x = v (first_values n x)

-- the four over √2 to the power k are the working matrix w on n qubits, which has rows first
pub record IsMatrixShown (n : ℕ) (d : Diagram) (f : Four) (k : ℕ) (w : Scaled) : Type 0 where
  pub exponent : w.exponent ≡ k
  pub entries : (r c : List Bool) → length r ≡ n → length c ≡ n → w.entries (r ++ c) ≡ vector_in d f (bit (woven r c))
