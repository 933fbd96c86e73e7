use Rattle.std.proofs.Common.{rules, ◌≡◌, ◌+◌, ◌-◌, ◌*◌, ℕ, List, length, ◌∙◌, ap, arith}
use Rattle.std.proofs.lemmas.List.FromFn.{length-range_with_len}
use Rattle.diagram_model.proofs.Growing.{extends_trans}
use Rattle.diagram_ops.proofs.Results.{same_store}
use Rattle.slice_quad.specs.Started.{StartStopIs}
use Rattle.slice_quad.proofs.IdentityNodes.{diagonal_none, diagonal_as, diagonal_room, stop_as}
use Rattle.slice_quad.proofs.unit_matrix.diagonal_node.Goals as goal

pub loop-i-init : goal.loop-i-init
loop-i-init g c =
    let d = c.args.store.now in
    record {
      built = diagonal_none d c.args.qubits (c.args.qubits - 0) c.held-held.ensures.sound c.requires.empty c.requires.order (omega arith);
      extends = same_store d;
    }

pub with_qubit-requires-clause-few : goal.with_qubit-requires-clause-few
with_qubit-requires-clause-few g c =
    let d = c.args.store.now in let n = c.args.qubits in
    let size : length d.order ≡ 2 * n = ap (λ (l : List ℕ). length l) c.requires.order ∙ length-range_with_len 0 (2 * n) in
    let same : c.len-vars.result ≡ length d.order = c.len-vars.ensures.value ∙ ap (λ (l : List ℕ). length l) c.order.ensures in
    let few = c.len-vars.ensures.few in
    omega (arith, size, same, few)

pub with_qubit-requires-clause-built : goal.with_qubit-requires-clause-built
with_qubit-requires-clause-built g c =
    diagonal_as c.loop-i.store c.args.qubits (c.args.qubits - c.loop-i.i) _ c.loop-i.node.0 (omega (arith, c.loop-i-test.true)) c.loop-i.invariant.built

pub returns-in_err-node-clause-full : goal.returns-in_err-node-clause-full
returns-in_err-node-clause-full g c =
    let stop : StartStopIs c.args.store.now (3 * c.args.qubits) c.in_err-node.field-0.0 =
    stop_as c.args.store.now c.loop-i.store (3 * c.args.qubits) c.loop-i.invariant.extends.limit c.in_err-node.field-0.0 c.in_err-node.ensures.full in
    search rules

pub returns-in_err-node-clause-extends : goal.returns-in_err-node-clause-extends
returns-in_err-node-clause-extends g c = extends_trans c.args.store.now c.loop-i.store c.with_qubit.new.store c.loop-i.invariant.extends c.with_qubit.ensures.extends

pub loop-i-preserved : goal.loop-i-preserved
loop-i-preserved g c =
    record {
      built = diagonal_as c.with_qubit.new.store c.args.qubits _ (c.args.qubits - (c.loop-i.i + 1)) c.in_ok-node.node.0 (omega (arith, c.loop-i-test.true)) c.in_ok-node.ensures.built;
      extends = extends_trans c.args.store.now c.loop-i.store c.with_qubit.new.store c.loop-i.invariant.extends c.with_qubit.ensures.extends;
    }

pub returns-clause-built : goal.returns-clause-built
returns-clause-built g c = diagonal_as c.loop-i.store c.args.qubits (c.args.qubits - c.loop-i.i) 0 c.loop-i.node.0 (omega (arith, c.loop-i-test.false)) c.loop-i.invariant.built

pub returns-clause-room : goal.returns-clause-room
returns-clause-room g c =
    diagonal_room c.args.store.now c.loop-i.store c.args.qubits c.loop-i.node.0
    (diagonal_as c.loop-i.store c.args.qubits (c.args.qubits - c.loop-i.i) 0 c.loop-i.node.0 (omega (arith, c.loop-i-test.false)) c.loop-i.invariant.built)
    c.loop-i.invariant.extends.limit

pub returns-clause-extends : goal.returns-clause-extends
returns-clause-extends g c = c.loop-i.invariant.extends

pub returns-clause-sound : goal.returns-clause-sound
returns-clause-sound g c = c.loop-i.invariant.built.nodes.sound
