-- Circuits that differ by one unit scalar, and the matrix that tells it: U·V† for the circuits U and V. Source: two unitary matrices are
-- the same up to a global phase exactly where U·V† is a multiple of the identity.
use Rattle.std.specs.Prelude.{◌≡◌, ◌≢◌, ◌⊎◌, ◌++◌, ℕ, ◌+◌, Bool, false, cond, List, length, replicate}
use Rattle.ring_omega.specs.declared.quad.Quad.{Quad}
use Rattle.ring_omega.specs.Ring.{zero_quad, one_quad, product_of, conjugate_of}
use Rattle.ring_omega.specs.Value.{SameValue}
use Rattle.bit_lists.specs.Lists.{IsBefore}
use Rattle.gate_set.specs.declared.gate.Gate.{Gate}
use Rattle.gate_set.specs.Circuits.{inverse_gates}
use Rattle.circuit_model.specs.Product.{amp, exponent, same_bits}

-- the value of (q, k) times its conjugate is 1
abbrev pub IsUnit : Quad → ℕ → Type 0
IsUnit q k = SameValue (product_of q (conjugate_of q)) (k + k) one_quad 0

-- on n qubits each amplitude of the circuit us is the one of vs times the value of (q, k), which is a unit scalar
pub record SameUpTo (n : ℕ) (us vs : List Gate) (q : Quad) (k : ℕ) : Type 0 where
  pub unit : IsUnit q k
  pub scaled : (input x : List Bool) → length input ≡ n → length x ≡ n
      → SameValue (amp us input x) (exponent us) (product_of q (amp vs input x)) (k + exponent vs)

-- they are the same up to some unit scalar
abbrev pub AreSame : ℕ → List Gate → List Gate → Type 0
AreSame n us vs = (q : Quad) × (k : ℕ) × SameUpTo n us vs q k

-- a matrix has a number for each row and column
abbrev pub Matrix : Type 0
Matrix = List Bool → List Bool → Quad

-- the gates of U·V†: those of the inverse of V, and then those of U
abbrev pub comparison : List Gate → List Gate → List Gate
comparison us vs = inverse_gates vs ++ us

-- the entries of U·V†, over √2 to the power `exponent` of the comparison's gates
abbrev pub compared : List Gate → List Gate → Matrix
compared us vs r c = amp (comparison us vs) c r

-- the entry at zero bits
abbrev pub corner : ℕ → Matrix → Quad
corner n m = m (replicate n false) (replicate n false)

-- the entry of q times the identity
abbrev pub scalar_entry : Quad → Matrix
scalar_entry q r c = cond (same_bits r c) q zero_quad

-- the matrix is its corner times the identity
abbrev pub IsScalar : ℕ → Matrix → Type 0
IsScalar n m = (r c : List Bool) → length r ≡ n → length c ≡ n → m r c ≡ scalar_entry (corner n m) r c

-- the position (s, d) comes before (r, c): by the row, and then by the column
abbrev pub IsEarlier : List Bool → List Bool → List Bool → List Bool → Type 0
IsEarlier s d r c = IsBefore s r ⊎ ((s ≡ r) × IsBefore d c)

-- (r, c) is the first position at which the matrix isn't its corner times the identity
pub record IsFirstDiffering (n : ℕ) (m : Matrix) (r c : List Bool) : Type 0 where
  pub row_long : length r ≡ n
  pub column_long : length c ≡ n
  pub differs : m r c ≢ scalar_entry (corner n m) r c
  pub before : (s d : List Bool) → length s ≡ n → length d ≡ n → IsEarlier s d r c → m s d ≡ scalar_entry (corner n m) s d
