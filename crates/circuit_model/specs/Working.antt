-- The working vector: a quadruple for each basis state, all of them over one power of √2, with the factors of 2 that all of them
-- share taken out. The entries are those of the ring of integers with 1/√2 and i; that one exponent serves all of them, and when it
-- falls, is this project's own.
use Rattle.std.specs.Prelude.{◌*◌, ◌≤◌, ◌≡◌, ℕ, suc, ◌+◌, ◌-◌, ◌^◌, ℤ, pos, neg_ℤ, ◌≤ℤ◌, ◌<ℤ◌, Bool, ◌&&◌, cond, List, length, fold}
use Rattle.std.specs.List.{list_all}
use Rattle.ring_omega.specs.declared.quad.Quad.{Quad}
use Rattle.ring_omega.specs.Ring.{quad, product_of, times_power}
use Rattle.ring_omega.specs.Value.{SameValue}
use Rattle.ring_omega.specs.Lowest.{is_even, half}
use Rattle.bit_lists.specs.Lists.{all_lists}
use Rattle.gate_set.specs.declared.gate.Gate.{Gate}
use Rattle.gate_set.specs.Matrix.{half_power_of}
use Rattle.circuit_model.specs.Prefixes.{AtEach, IsFirstFailing}
use Rattle.circuit_model.specs.Product.{applied, basis_state}

-- a vector over a power of √2: the entry at x stands for `entries x` over √2 to the power `exponent`
pub record Scaled : Type 0 where
  pub entries : List Bool → Quad
  pub exponent : ℕ

abbrev pub scaled : (List Bool → Quad) → ℕ → Scaled
scaled v k = record { entries = v; exponent = k }

-- whether all four coefficients are even
unfoldable pub is_even_quad : Quad → Bool
is_even_quad q = is_even q.a && (is_even q.b && (is_even q.c && is_even q.d))

-- half of each coefficient
unfoldable pub half_quad : Quad → Quad
half_quad q = quad (half q.a) (half q.b) (half q.c) (half q.d)

-- whether all coefficients of all entries on n qubits are even
unfoldable pub all_even : ℕ → (List Bool → Quad) → Bool
all_even n v = list_all (λ x. is_even_quad (v x)) (all_lists n)

-- while the exponent is at least 2 and all coefficients of all entries are even, all are halved and the exponent falls by 2
unfoldable pub halved : ℕ → (List Bool → Quad) → ℕ → Scaled
halved n v (suc (suc k)) = cond (all_even n v) (halved n (λ x. half_quad (v x)) k) (scaled v (suc (suc k)))
halved n v k = scaled v k

-- 2
abbrev pub two : Quad
two = quad (pos 0) (pos 0) (pos 0) (pos 2)

-- w is the vector v over the k-th power of √2 with factors of 2 taken out of all entries, each of which lowers the exponent by 2, until it is
-- below 2 or some coefficient is odd
pub record IsHalved (n : ℕ) (v : List Bool → Quad) (k : ℕ) (w : Scaled) : Type 0 where
  pub times : ℕ
  pub exponent_left : k ≡ w.exponent + 2 * times
  pub taken_out : (x : List Bool) → length x ≡ n → v x ≡ times_power two times (w.entries x)
  pub ended : 2 ≤ w.exponent → ¬ ((x : List Bool) → length x ≡ n → (q : Quad) × (product_of q two ≡ w.entries x))

-- the gate's matrix times the vector, the exponent raised by the gate's factors 1/√2
abbrev pub raw : Gate → Scaled → Scaled
raw g w = scaled (applied g w.entries) (w.exponent + half_power_of g.kind)

-- the working vector on n qubits after one gate more
abbrev pub step : ℕ → Scaled → Gate → Scaled
step n w g = halved n (raw g w).entries (raw g w).exponent

-- the working vector of the gates on the basis state `input`, the first gate first
unfoldable pub work : List Gate → List Bool → Scaled
work gates input = fold (step (length input)) (scaled (basis_state input) 0) gates

-- z lies in -2^(w-1) .. 2^(w-1) - 1
abbrev pub IntFits : ℕ → ℤ → Type 0
IntFits w z = (neg_ℤ (pos (2 ^ (w - 1))) ≤ℤ z) × (z <ℤ pos (2 ^ (w - 1)))

-- each coefficient is a signed number of w bits
pub record QuadFits (w : ℕ) (q : Quad) : Type 0 where
  pub a_fits : IntFits w q.a
  pub b_fits : IntFits w q.b
  pub c_fits : IntFits w q.c
  pub d_fits : IntFits w q.d

-- every coefficient of every entry on n qubits is a signed number of w bits
abbrev pub FitsWidth : ℕ → ℕ → (List Bool → Quad) → Type 0
FitsWidth n w v = (x : List Bool) → length x ≡ n → QuadFits w (v x)

-- the gate's matrix times the working vector of the gates, before any halving, fits the width
abbrev pub RawFits : ℕ → List Gate → List Bool → Gate → Type 0
RawFits w gates input g = FitsWidth (length input) w (raw g (work gates input)).entries

-- it does at each gate of the list
abbrev pub AllFit : ℕ → List Bool → List Gate → Type 0
AllFit w input gates = AtEach (λ front g. RawFits w front input g) gates

-- the gate of this number, counted from 1, is the first at which it doesn't
abbrev pub IsFirstUnfit : ℕ → List Bool → List Gate → ℕ → Type 0
IsFirstUnfit w input gates number = IsFirstFailing (λ front g. RawFits w front input g) gates number

-- the vector's entries on n qubits have the values of v over the k-th power of √2
abbrev pub HasValues : ℕ → Scaled → (List Bool → Quad) → ℕ → Type 0
HasValues n w v k = (x : List Bool) → length x ≡ n → SameValue (w.entries x) w.exponent (v x) k
