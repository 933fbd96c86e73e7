-- The gates of calls, one call after the other.
use Rattle.std.proofs.Common.{◌≡◌, ◌≢◌, ◌∙◌, sym, ap, subst, ◌<◌, ℕ, ◌+◌, List, ◌++◌, append_assoc, length, map, get_or, All, Some, Result, Ok, Err, arith, length-append}
use Rattle.std.specs.Prelude.{AllPairs}
use Rattle.std.specs.Result.{result_map_both}
use Rattle.std.proofs.lemmas.List.{length-map, map-append}
use Rattle.std.proofs.lemmas.Grind.{flat_map-append}
use Rattle.gate_set.specs.declared.kind.Kind.{Kind}
use Rattle.gate_set.specs.declared.gate.Gate.{Gate}
use Rattle.gate_set.specs.Shape.{IsPlaced}
use Rattle.gate_set.specs.Matrix.{arity_of, IsKind}
use Rattle.qasm_lex.specs.declared.refusal.AngleRefusal.{AngleRefusal}
use Rattle.qasm_lex.specs.declared.value.Value.{Value}
use Rattle.qasm_lex.specs.Expressions.{eval}
use Rattle.qasm_lex.specs.Values.{values}
use Rattle.qasm_lex.specs.Fractions.{Ratio}
use Rattle.qasm_gates.specs.declared.table.Line.{Line}
use Rattle.qasm_gates.specs.Gates.{Builtin, base_arity, arity, Meaning, all_of, call_on, placed}
use Rattle.qasm_gates.specs.Bodies.{Call, joined, means_for, call_means}
use Rattle.qasm_gates.specs.Private.Counts.{body_of, body_for, basic_items, items_done}
use Rattle.qasm_gates.specs.Private.Proper.{AreProper, IsGood, AreQubits, IsMeant, done_in}
use Rattle.qasm_gates.specs.Private.Tables.{Store, callee_arity, on_at, AreBelow, IsLine}
use Rattle.qasm_gates.proofs.Builtins.{IsFit}
use Rattle.qasm_gates.proofs.Bodied.{body_kind}
use Rattle.qasm_gates.proofs.Good.{picked_different, picked_all, ok_mapped, joined_ok, on_length}
use Rattle.qasm_gates.proofs.Placed.{pick, items_placed}

-- what a call comes to is gates on as many qubits as its base has
for_kind : (b : Builtin) → IsFit 8 b → (r : Result (List Ratio) AngleRefusal) (p : Kind × ℕ) → Ok (Some p) ≡ body_for b.base r → (arity_of p.0 ≡ base_arity b.base) × IsKind p.0
for_kind b fit (Err x) p e = absurd cc
for_kind b fit (Ok angles) p e = body_kind b.base fit.base angles p (let q : body_of b.base angles ≡ Some p = cc e in q)

-- the first of its qubits are its further controls
pub parts_placed : (b : Builtin) (r : Result (List Ratio) AngleRefusal) (p : Kind × ℕ) (on extra rest : List ℕ) → IsFit 8 b → Ok (Some p) ≡ body_for b.base r → AreQubits (arity b) on → on ≡ extra ++ rest → length extra ≡ b.controls
    → IsPlaced p.0 extra rest
parts_placed b r p on extra rest fit e q split front =
    let k = for_kind b fit r p e in
    let n = k.0 in
    let all : length on ≡ length extra + length rest = ap length split ∙ length-append extra rest in
    let c = q.counted in
    let f = fit.few in
    record { power = k.1; count = omega arith; few = omega arith; small = subst (All (λ q. q < 64)) split q.small; different = subst (AllPairs (λ p q. p ≢ q)) split q.different }

call_is : (c : Call) (given vs : List Value) → all_of (map (eval (values given)) c.angles) ≡ Ok vs → call_means given c ≡ result_map_both (map (call_on c.on)) (λ e. e) (c.called.means vs)
call_is c given vs e = ap (λ r. result_map_both (map (call_on c.on)) (λ e. e) (means_for c.called r)) e

-- where a call is meant, so is what it calls
pub callee_meant : (c : Call) (given vs : List Value) → all_of (map (eval (values given)) c.angles) ≡ Ok vs → IsMeant (call_means given c) → IsMeant (c.called.means vs)
callee_meant c given vs e m = let o = ok_mapped (map (call_on c.on)) (c.called.means vs) m.0 (sym (call_is c given vs e) ∙ m.1) in (o.0, o.1)

-- no angle of it is refused
pub never_refused : (c : Call) (given : List Value) (x : AngleRefusal) → all_of (map (eval (values given)) c.angles) ≡ Err x → IsMeant (call_means given c) → ⊥
never_refused c given x e m =
    let q : Err x ≡ Ok m.0 = sym (ap (λ r. result_map_both (map (call_on c.on)) (λ e. e) (means_for c.called r)) e) ∙ m.1 in cc q

-- its gates are those of what it calls, on its arguments
pub call_gates : (c : Call) (given vs : List Value) (on : List ℕ) → IsGood c.called → length c.on ≡ c.called.arity → all_of (map (eval (values given)) c.angles) ≡ Ok vs → IsMeant (call_means given c)
    → map (placed (pick on c.on)) (done_in (c.called.means vs)) ≡ map (placed on) (done_in (call_means given c))
call_gates c given vs on good count e m =
    let o = ok_mapped (map (call_on c.on)) (c.called.means vs) m.0 (sym (call_is c given vs e) ∙ m.1) in
    ap (λ r. map (placed (pick on c.on)) (done_in r)) o.1
    ∙ sym (items_placed on c.on o.0 (subst (λ n. AreProper n o.0) (sym count) (good vs o.0 o.1)))
    ∙ ap (λ bs. map (placed on) (items_done bs)) o.2 ∙ sym (ap (λ r. map (placed on) (done_in r)) m.1)

-- the qubits of a call in a body
pub line_qubits : (s : Store) (n : ℕ) (l : Line) (on : List ℕ) → IsLine s n l → AreBelow (length on) (on_at s l) → AreQubits (length on) on → AreQubits (callee_arity s.rows l.callee) (pick on (on_at s l))
line_qubits s n l on h b q = record {
  counted = length-map (on_at s l) (λ k. get_or on k 0) ∙ on_length s n l h;
  small = picked_all (λ q. q < 64) on (on_at s l) q.small b;
  different = picked_different on (on_at s l) q.different h.different b;
}

-- one meaning after the other
pub joined_meant : (a b : Meaning) → IsMeant (joined a b) → IsMeant a × IsMeant b
joined_meant a b m = let j = joined_ok a b m.0 m.1 in ((j.0, j.2), (j.1, j.3))

pub joined_gates : (on : List ℕ) (a b : Meaning) → IsMeant a → IsMeant b → map (placed on) (done_in (joined a b)) ≡ map (placed on) (done_in a) ++ map (placed on) (done_in b)
joined_gates on (Ok xs) (Ok ys) m n = ap (map (placed on)) (flat_map-append basic_items xs ys) ∙ map-append (placed on) (items_done xs) (items_done ys)
joined_gates on (Ok xs) (Err x) m n = let q = n.1 in absurd cc
joined_gates on (Err x) b m n = let q = m.1 in absurd cc

-- one call more
pub gates_step : (on : List ℕ) (old new : List Gate) (a b : Meaning) → IsMeant (joined a b) → new ≡ old ++ map (placed on) (done_in a)
    → new ++ map (placed on) (done_in b) ≡ old ++ map (placed on) (done_in (joined a b))
gates_step on old new a b m e =
    let p = joined_meant a b m in
    ap (λ g. g ++ map (placed on) (done_in b)) e ∙ append_assoc old (map (placed on) (done_in a)) (map (placed on) (done_in b)) ∙ ap (λ g. old ++ g) (sym (joined_gates on a b p.0 p.1))
