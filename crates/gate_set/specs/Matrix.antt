-- The gates' matrices, without the factor 1/√2 of some. Each entry is zero, a power of ω, an eighth root of unity, or √2. The first
-- qubit of a gate is the highest bit of row and column. The matrices are those of OpenQASM 2.0's standard gates, and further controls.
use Rattle.std.specs.Prelude.{ℕ, ◌+◌, ◌-◌, ◌%◌, ◌^◌, ◌==◌, ◌≤◌, nat_le, ◌&&◌, cond, List, [], ◌∷◌, ◌++◌, map, get_or, ⊤}
use Rattle.gate_set.specs.declared.kind.Kind.{Kind}
use Rattle.gate_set.specs.declared.kind.Kind.TheVariants.{Id, X, Y, Z, H, S, Sdg, T, Tdg, RxP, RxM, RyP, RyM, Cx, Cz, Swap, Ccx, Cswap, Phase}
use Rattle.gate_set.specs.declared.entry.Entry.{Entry}
use Rattle.gate_set.specs.declared.entry.Entry.TheVariants.{Zero, Omega, Root2}
use Rattle.ring_omega.specs.declared.quad.Quad.{Quad}
use Rattle.ring_omega.specs.Ring.{zero_quad, product_of, times_power, omega_unit, root_of_two}

abbrev pub two_by_two : Entry → Entry → Entry → Entry → List (List Entry)
two_by_two a b c d = (a ∷ b ∷ []) ∷ (c ∷ d ∷ []) ∷ []

-- ωⁱ and ωʲ on the diagonal
abbrev pub diagonal : ℕ → ℕ → List (List Entry)
diagonal i j = two_by_two (Omega i) Zero Zero (Omega j)

-- X: the two values of a qubit are exchanged
abbrev pub flip : List (List Entry)
flip = two_by_two Zero (Omega 0) (Omega 0) Zero

-- the two qubits are exchanged
abbrev pub exchange : List (List Entry)
exchange =
    (Omega 0 ∷ Zero ∷ Zero ∷ Zero ∷ [])
    ∷ (Zero ∷ Zero ∷ Omega 0 ∷ Zero ∷ [])
    ∷ (Zero ∷ Omega 0 ∷ Zero ∷ Zero ∷ [])
    ∷ (Zero ∷ Zero ∷ Zero ∷ Omega 0 ∷ []) ∷ []

-- the identity with as many rows as the matrix
abbrev pub identity_like : List (List Entry) → List (List Entry)
identity_like [] = []
identity_like (r ∷ rs) = (Omega 0 ∷ map (λ _. Zero) rs) ∷ map (λ s. Zero ∷ s) (identity_like rs)

-- one more qubit, the first: the matrix where it is 1, and the identity where it is 0
abbrev pub controlled : List (List Entry) → List (List Entry)
controlled m = map (λ r. r ++ map (λ _. Zero) m) (identity_like m) ++ map (λ r. map (λ _. Zero) m ++ r) m

-- the matrix times √2 for each half power
unfoldable pub matrix_of : Kind → List (List Entry)
matrix_of Id = diagonal 0 0
matrix_of X = flip
matrix_of Y = two_by_two Zero (Omega 6) (Omega 2) Zero
matrix_of Z = diagonal 0 4
matrix_of H = two_by_two (Omega 0) (Omega 0) (Omega 0) (Omega 4)
matrix_of S = diagonal 0 2
matrix_of Sdg = diagonal 0 6
matrix_of T = diagonal 0 1
matrix_of Tdg = diagonal 0 7
matrix_of RxP = two_by_two (Omega 0) (Omega 6) (Omega 6) (Omega 0)
matrix_of RxM = two_by_two (Omega 0) (Omega 2) (Omega 2) (Omega 0)
matrix_of RyP = two_by_two (Omega 0) (Omega 4) (Omega 0) (Omega 0)
matrix_of RyM = two_by_two (Omega 0) (Omega 0) (Omega 4) (Omega 0)
matrix_of Cx = controlled flip
matrix_of Cz = controlled (diagonal 0 4)
matrix_of Swap = exchange
matrix_of Ccx = controlled (controlled flip)
matrix_of Cswap = controlled exchange
matrix_of (Phase j) = diagonal 0 j

-- how many qubits a gate is on
abbrev pub arity_of : Kind → ℕ
arity_of Cx = 2
arity_of Cz = 2
arity_of Swap = 2
arity_of Ccx = 3
arity_of Cswap = 3
arity_of _ = 1

-- how many factors 1/√2 the matrix has
abbrev pub half_power_of : Kind → ℕ
half_power_of H = 1
half_power_of RxP = 1
half_power_of RxM = 1
half_power_of RyP = 1
half_power_of RyM = 1
half_power_of _ = 0

-- the kind of the inverse matrix
abbrev pub inverse_of : Kind → Kind
inverse_of S = Sdg
inverse_of Sdg = S
inverse_of T = Tdg
inverse_of Tdg = T
inverse_of RxP = RxM
inverse_of RxM = RxP
inverse_of RyP = RyM
inverse_of RyM = RyP
inverse_of (Phase j) = Phase ((8 - j) % 8)
inverse_of k = k

-- the entry of the kind's matrix in this row and column
unfoldable pub entry_of : Kind → ℕ → ℕ → Entry
entry_of k row col = get_or (get_or (matrix_of k) row []) col Zero

-- what stands on the diagonal where a further control is 0: 1, times √2 where the kind's matrix leaves out a factor 1/√2
abbrev pub beside : Kind → Entry
beside k = cond (half_power_of k == 0) (Omega 0) Root2

-- with e further controls before the kind's qubits: the first row, and column, where all of them are 1
abbrev pub block_start : ℕ → Kind → ℕ
block_start e k = 2 ^ (e + arity_of k) - 2 ^ arity_of k

-- the entry in this row and column with e further controls: the kind's where all of them are 1 in both, and else that of the diagonal
unfoldable pub controlled_entry : ℕ → Kind → ℕ → ℕ → Entry
controlled_entry e k row col =
    cond (nat_le (block_start e k) row && nat_le (block_start e k) col)
    (entry_of k (row - block_start e k) (col - block_start e k))
    (cond (row == col) (beside k) Zero)

-- the entry times a number
abbrev pub times_entry : Entry → Quad → Quad
times_entry Zero q = zero_quad
times_entry (Omega j) q = times_power omega_unit j q
times_entry Root2 q = product_of q root_of_two

-- the power of ω, if there is one, is at most 7
abbrev pub IsReduced : Entry → Type 0
IsReduced Zero = ⊤
IsReduced (Omega j) = j ≤ 7
IsReduced Root2 = ⊤

-- it is zero or a power of ω, at most the seventh: an entry of a kind's matrix
abbrev pub IsPower : Entry → Type 0
IsPower Zero = ⊤
IsPower (Omega j) = j ≤ 7
IsPower Root2 = ⊥

-- the power of a phase is at most 7
abbrev pub IsKind : Kind → Type 0
IsKind (Phase j) = j ≤ 7
IsKind _ = ⊤
