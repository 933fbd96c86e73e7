-- The gate of a row is defined by all gates, since its lines call those that stand before it.
use Rattle.std.proofs.Common.{◌≡◌, ◌∙◌, sym, ap, refl, ◌≤◌, ◌<◌, ◌+◌, ℕ, zero, suc, List, [], ◌∷◌, ◌++◌, length, map, get_or, All, Some, arith, subst, slice_get}
use Rattle.std.proofs.lemmas.List.{length-append, get_or_append_left}
use Rattle.std.proofs.lemmas.List.Elements.{All-head, All-tail}
use Rattle.qasm_gates.specs.declared.table.Callee.{Callee}
use Rattle.qasm_gates.specs.declared.table.Callee.TheVariants.{Builtin as BuiltIn, Defined}
use Rattle.qasm_gates.specs.declared.table.Line.{Line}
use Rattle.qasm_gates.specs.declared.table.Row.{Row}
use Rattle.qasm_gates.specs.Gates.{Named}
use Rattle.qasm_gates.specs.Bodies.{Call, defined}
use Rattle.qasm_gates.specs.Private.Tables.{Store, nothing, callee_angles, angles_at, gate_of, line_at, lines_of, row_gate, gates_from, gates_of, IsCallee, callee_rank, IsLine, IsRow, IsStore}
use Rattle.qasm_gates.proofs.Grown.{range_length}

-- two lists of gates have the same first ones
abbrev pub SameGates : ℕ → List Named → List Named → Type 0
SameGates n gs hs = (i : ℕ) → i < n → get_or gs i nothing ≡ get_or hs i nothing

gate_same : (n : ℕ) (gs hs : List Named) (c : Callee) → SameGates n gs hs → IsCallee n c → gate_of gs c ≡ gate_of hs c
gate_same n gs hs (BuiltIn b) s h = refl
gate_same n gs hs (Defined i) s h = s i h

line_same : (t : Store) (n : ℕ) (gs hs : List Named) (l : Line) → SameGates n gs hs → IsLine t n l → line_at t gs l ≡ line_at t hs l
line_same t n gs hs l s h = ap (λ g. (let c : Call = record { called = g; angles = (line_at t gs l).angles; on = (line_at t gs l).on } in c)) (gate_same n gs hs l.callee s h.callee)

lines_same : (t : Store) (n : ℕ) (gs hs : List Named) (ls : List Line) → SameGates n gs hs → All (IsLine t n) ls → map (line_at t gs) ls ≡ map (line_at t hs) ls
lines_same t n gs hs [] s h = refl
lines_same t n gs hs (l ∷ ls) s h =
    ap (λ x. x ∷ map (line_at t gs) ls) (line_same t n gs hs l s (All-head (IsLine t n) l ls h)) ∙ ap (λ xs. line_at t hs l ∷ xs) (lines_same t n gs hs ls s (All-tail (IsLine t n) l ls h))

row_same : (t : Store) (n : ℕ) (gs hs : List Named) (r : Row) → SameGates n gs hs → IsRow t n r → row_gate t gs r ≡ row_gate t hs r
row_same t n gs hs r s h = ap (defined r.params r.arity) (lines_same t n gs hs (lines_of t r) s h.lines)

-- the gates so far stay
from_keeps : (t : Store) (gs : List Named) (rows : List Row) → SameGates (length gs) gs (gates_from t gs rows)
from_keeps t gs [] i h = refl
from_keeps t gs (r ∷ rows) i h = sym (get_or_append_left gs (row_gate t gs r ∷ []) nothing i h) ∙ from_keeps t (gs ++ row_gate t gs r ∷ []) rows i (omega (arith, length-append gs (row_gate t gs r ∷ [])))

last_of : (gs : List Named) (g : Named) → get_or (gs ++ g ∷ []) (length gs) nothing ≡ g
last_of [] g = refl
last_of (h ∷ gs) g = last_of gs g

-- the gate of a row that comes
from_at : (t : Store) (gs : List Named) (rows : List Row) (i : ℕ) (r : Row) → ((k : ℕ) (q : Row) → slice_get rows k ≡ Some q → IsRow t (length gs + k) q) → slice_get rows i ≡ Some r
    → get_or (gates_from t gs rows) (length gs + i) nothing ≡ row_gate t (gates_from t gs rows) r
from_at t gs [] i r f e = absurd cc
from_at t gs (q ∷ rows) zero r f e =
    let same : q ≡ r = cc e in
    let more : List Named = gs ++ row_gate t gs q ∷ [] in
    let size : length more ≡ length gs + 1 = length-append gs (row_gate t gs q ∷ []) in
    ap (λ k. get_or (gates_from t more rows) k nothing) (omega arith)
    ∙ sym (from_keeps t more rows (length gs) (omega arith)) ∙ last_of gs (row_gate t gs q)
    ∙ row_same t (length gs + 0) gs (gates_from t gs (q ∷ rows)) q (λ k h. from_keeps t gs (q ∷ rows) k (omega arith)) (f 0 q refl)
    ∙ ap (row_gate t (gates_from t gs (q ∷ rows))) same
from_at t gs (q ∷ rows) (suc i) r f e =
    let more : List Named = gs ++ row_gate t gs q ∷ [] in
    let size : length more ≡ length gs + 1 = length-append gs (row_gate t gs q ∷ []) in
    ap (λ k. get_or (gates_from t more rows) k nothing) (omega arith)
    ∙ from_at t more rows i r (λ k p h. subst (λ n. IsRow t n p) (omega arith) (f (suc k) p h)) e

none_first : (k : ℕ) → k ≡ 0 + k
none_first k = omega arith

-- the gate of a row
pub gate_at : (t : Store) (i : ℕ) (r : Row) → IsStore t → slice_get t.rows i ≡ Some r → get_or (gates_of t) i nothing ≡ row_gate t (gates_of t) r
unfolding gates_of
gate_at t i r h e =
    ap (λ k. get_or (gates_from t [] t.rows) k nothing) (none_first i)
    ∙ from_at t [] t.rows i r (λ k q g. subst (λ n. IsRow t n q) (none_first k) (h.rows k q g)) e

-- there are as many gates as rows
from_length : (t : Store) (gs : List Named) (rows : List Row) → length (gates_from t gs rows) ≡ length gs + length rows
from_length t gs [] = omega arith
from_length t gs (r ∷ rows) = from_length t (gs ++ row_gate t gs r ∷ []) rows ∙ omega (arith, length-append gs (row_gate t gs r ∷ []))

pub gates_length : (t : Store) → length (gates_of t) ≡ length t.rows
unfolding gates_of
gates_length t = from_length t [] t.rows ∙ omega arith

callee_later : (n m : ℕ) (c : Callee) → n ≤ m → IsCallee n c → IsCallee m c
callee_later n m (BuiltIn b) h i = i
callee_later n m (Defined k) h i = omega arith

-- a line of a row is a line of the table
pub line_later : (s : Store) (n m : ℕ) (l : Line) → n ≤ m → IsLine s n l → IsLine s m l
line_later s n m l h i = record { callee = callee_later n m l.callee h i.callee; on_within = i.on_within; angles_within = i.angles_within; different = i.different }

pub row_later : (s : Store) (n m : ℕ) (r : Row) → n ≤ m → IsRow s n r → IsRow s m r
row_later s n m r h i = record { forward = i.forward; within = i.within; lines = λ k d b. line_later s n m (get_or (lines_of s r) k d) h (i.lines k d b); below = i.below }

-- the angles of a line are as many as it asks for
pub angles_length : (s : Store) (n : ℕ) (l : Line) → IsLine s n l → length (angles_at s l) ≡ callee_angles s.rows l.callee
angles_length s n l h = range_length s.angles l.angles (l.angles + callee_angles s.rows l.callee) h.angles_within ∙ omega arith

-- and calls what stands before the row
pub rank_before : (n : ℕ) (c : Callee) → IsCallee n c → callee_rank c ≤ n
rank_before n (BuiltIn b) h = omega arith
rank_before n (Defined k) h = omega arith
