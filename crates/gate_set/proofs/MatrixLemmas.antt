-- Kinds, their arities, their entries and their inverses.
use Rattle.std.proofs.Common.{◌≡◌, ℕ, zero, suc, ◌+◌, ◌-◌, ◌%◌, ◌≤◌, ◌<◌, refl, sym, ◌∙◌, ap, Bool, true, false, cond, ◌&&◌, nat_le, List, [], ◌∷◌, get_or, arith}
use Rattle.std.specs.Prelude.{◌==◌}
use Rattle.std.specs.List.{list_all}
use Rattle.std.proofs.lemmas.Bool.{leb-true, le-leb, and_parts}
use Rattle.gate_set.specs.declared.kind.Kind.{Kind}
use Rattle.gate_set.specs.declared.kind.Kind.TheVariants.{Id, X, Y, Z, H, S, Sdg, T, Tdg, RxP, RxM, RyP, RyM, Cx, Cz, Swap, Ccx, Cswap, Phase}
use Rattle.gate_set.specs.declared.entry.Entry.{Entry}
use Rattle.gate_set.specs.declared.entry.Entry.TheVariants.{Zero, Omega, Root2}
use Rattle.gate_set.specs.Matrix.{arity_of, half_power_of, inverse_of, matrix_of, entry_of, beside, block_start, controlled_entry, IsReduced, IsPower, IsKind}
use Rattle.gate_set.specs.Shape.{IsPlaced, Placement, IsOn, gate_entry}
use Rattle.gate_set.specs.Circuits.{inverse_gate}

pub arity_of-inverse_of : (k : Kind) → arity_of (inverse_of k) ≡ arity_of k
arity_of-inverse_of Id = refl
arity_of-inverse_of X = refl
arity_of-inverse_of Y = refl
arity_of-inverse_of Z = refl
arity_of-inverse_of H = refl
arity_of-inverse_of S = refl
arity_of-inverse_of Sdg = refl
arity_of-inverse_of T = refl
arity_of-inverse_of Tdg = refl
arity_of-inverse_of RxP = refl
arity_of-inverse_of RxM = refl
arity_of-inverse_of RyP = refl
arity_of-inverse_of RyM = refl
arity_of-inverse_of Cx = refl
arity_of-inverse_of Cz = refl
arity_of-inverse_of Swap = refl
arity_of-inverse_of Ccx = refl
arity_of-inverse_of Cswap = refl
arity_of-inverse_of (Phase j) = refl

-- a gate is on one to three qubits
pub arity_of-few : (k : Kind) → arity_of k ≤ 3
arity_of-few Id = omega arith
arity_of-few X = omega arith
arity_of-few Y = omega arith
arity_of-few Z = omega arith
arity_of-few H = omega arith
arity_of-few S = omega arith
arity_of-few Sdg = omega arith
arity_of-few T = omega arith
arity_of-few Tdg = omega arith
arity_of-few RxP = omega arith
arity_of-few RxM = omega arith
arity_of-few RyP = omega arith
arity_of-few RyM = omega arith
arity_of-few Cx = omega arith
arity_of-few Cz = omega arith
arity_of-few Swap = omega arith
arity_of-few Ccx = omega arith
arity_of-few Cswap = omega arith
arity_of-few (Phase j) = omega arith

-- the inverse of a phase is one
eighths_left : (j : ℕ) → (8 - j) % 8 ≤ 7
eighths_left j = omega arith

pub IsKind-inverse : (k : Kind) → IsKind (inverse_of k)
IsKind-inverse Id = tt
IsKind-inverse X = tt
IsKind-inverse Y = tt
IsKind-inverse Z = tt
IsKind-inverse H = tt
IsKind-inverse S = tt
IsKind-inverse Sdg = tt
IsKind-inverse T = tt
IsKind-inverse Tdg = tt
IsKind-inverse RxP = tt
IsKind-inverse RxM = tt
IsKind-inverse RyP = tt
IsKind-inverse RyM = tt
IsKind-inverse Cx = tt
IsKind-inverse Cz = tt
IsKind-inverse Swap = tt
IsKind-inverse Ccx = tt
IsKind-inverse Cswap = tt
IsKind-inverse (Phase j) = eighths_left j

-- the inverse of a gate may be where the gate is
pub IsPlaced-inverse : (k : Kind) (extra on : List ℕ) → IsPlaced k extra on → IsPlaced (inverse_of k) extra on
IsPlaced-inverse k extra on p = record { power = IsKind-inverse k; count = p.count ∙ sym (arity_of-inverse_of k); few = p.few; small = p.small; different = p.different }

pub IsOn-inverse : (n : ℕ) (g : Placement) → IsOn n g → IsOn n (inverse_gate g)
IsOn-inverse n g p = record { placed = IsPlaced-inverse g.kind g.extra g.on p.placed; below = p.below }

-- an entry of a kind's matrix is zero or a power of ω, at most the seventh
is_power : Entry → Bool
is_power Zero = true
is_power (Omega j) = nat_le j 7
is_power Root2 = false

power_entry : (e : Entry) → is_power e ≡ true → IsPower e
unfolding is_power
power_entry Zero t = tt
power_entry (Omega j) t = leb-true j 7 t
power_entry Root2 t = cc

power_row : (r : List Entry) (i : ℕ) → list_all is_power r ≡ true → IsPower (get_or r i Zero)
power_row [] i t = tt
power_row (e ∷ r) zero t = power_entry e (and_parts (is_power e) (list_all is_power r) t).0
power_row (e ∷ r) (suc i) t = power_row r i (and_parts (is_power e) (list_all is_power r) t).1

power_rows : (m : List (List Entry)) (i j : ℕ) → list_all (list_all is_power) m ≡ true → IsPower (get_or (get_or m i []) j Zero)
power_rows [] i j t = tt
power_rows (r ∷ m) zero j t = power_row r j (and_parts (list_all is_power r) (list_all (list_all is_power) m) t).0
power_rows (r ∷ m) (suc i) j t = power_rows m i j (and_parts (list_all is_power r) (list_all (list_all is_power) m) t).1

small_true : (j : ℕ) → j ≤ 7 → nat_le j 7 ≡ true
small_true j h = le-leb j 7 h

power_matrix : (k : Kind) → IsKind k → list_all (list_all is_power) (matrix_of k) ≡ true
unfolding is_power matrix_of
power_matrix Id h = refl
power_matrix X h = refl
power_matrix Y h = refl
power_matrix Z h = refl
power_matrix H h = refl
power_matrix S h = refl
power_matrix Sdg h = refl
power_matrix T h = refl
power_matrix Tdg h = refl
power_matrix RxP h = refl
power_matrix RxM h = refl
power_matrix RyP h = refl
power_matrix RyM h = refl
power_matrix Cx h = refl
power_matrix Cz h = refl
power_matrix Swap h = refl
power_matrix Ccx h = refl
power_matrix Cswap h = refl
power_matrix (Phase j) h = ap (λ b. b && true && true) (small_true j h)

pub IsPower-entry_of : (k : Kind) (row col : ℕ) → IsKind k → IsPower (entry_of k row col)
unfolding entry_of
IsPower-entry_of k row col h = power_rows (matrix_of k) row col (power_matrix k h)

pub IsReduced-power : (e : Entry) → IsPower e → IsReduced e
IsReduced-power Zero h = tt
IsReduced-power (Omega j) h = h
IsReduced-power Root2 h = tt

pub IsReduced-beside : (k : Kind) → IsReduced (beside k)
IsReduced-beside k = by (half_power_of k == 0)
  where
    by : (b : Bool) → IsReduced (cond b (Omega 0) Root2)
    by true = omega arith
    by false = tt

pub IsReduced-controlled : (e : ℕ) (k : Kind) (row col : ℕ) → IsKind k → IsReduced (controlled_entry e k row col)
unfolding controlled_entry
IsReduced-controlled e k row col h = by (nat_le (block_start e k) row && nat_le (block_start e k) col) (row == col)
  where
    by : (a b : Bool) → IsReduced (cond a (entry_of k (row - block_start e k) (col - block_start e k)) (cond b (beside k) Zero))
    by true b = IsReduced-power (entry_of k (row - block_start e k) (col - block_start e k)) (IsPower-entry_of k (row - block_start e k) (col - block_start e k) h)
    by false true = IsReduced-beside k
    by false false = tt
