use Rattle.std.proofs.Common.{◌+◌, ◌-◌, ◌*◌, ◌<◌, refl, arith}
use Rattle.diagram_model.proofs.Growing.{extends_trans, above_on}
use Rattle.slice_quad.specs.Started.{StartStopIs}
use Rattle.slice_quad.proofs.IdentityNodes.{IsMade, in_order, stands_above, nodes_full, low_nodes, low_on, high_nodes, high_live, qubit_more}
use Rattle.slice_quad.proofs.Serving.{handed_on}
use Rattle.slice_quad.proofs.unit_matrix.with_qubit.Given.{Over}
use Rattle.slice_quad.proofs.unit_matrix.with_qubit.Goals.{In_ok-low, In_ok-high, In_ok-node}
use Rattle.slice_quad.proofs.unit_matrix.with_qubit.Goals as goal

-- the nodes that were made
low : (g : Over) (c : In_ok-low g) → IsMade c.args.store.now c.make.new.self (2 * c.args.qubit + 1) c.args.rest.0 0 c.in_ok-low.low.0
low g c = record { sound = c.make.ensures.sound; extends = c.make.ensures.extends; only = c.in_ok-low.ensures.only; live = c.in_ok-low.ensures.live; denotes = c.in_ok-low.ensures.denotes }

high : (g : Over) (c : In_ok-high g) → IsMade c.make.new.self c.make-2.new.self (2 * c.args.qubit + 1) 0 c.args.rest.0 c.in_ok-high.high.0
high g c = record { sound = c.make-2.ensures.sound; extends = c.make-2.ensures.extends; only = c.in_ok-high.ensures.only; live = c.in_ok-high.ensures.live; denotes = c.in_ok-high.ensures.denotes }

top : (g : Over) (c : In_ok-node g) → IsMade c.make-2.new.self c.make-3.new.self (2 * c.args.qubit) c.in_ok-low.low.0 c.in_ok-high.high.0 c.in_ok-node.node.0
top g c = record { sound = c.make-3.ensures.sound; extends = c.make-3.ensures.extends; only = c.in_ok-node.ensures.only; live = c.in_ok-node.ensures.live; denotes = c.in_ok-node.ensures.denotes }

pub make-requires-clause-var : goal.make-requires-clause-var
make-requires-clause-var g c =
    let d = c.args.store.now in let n = c.args.qubits in let k = c.args.qubit in let rest = c.args.rest.0 in let h = c.requires.built in let within : k < n = c.requires.within in
    in_order d n (2 * (k + 1)) (3 * (n - (k + 1))) (2 * k + 1) h.nodes (omega (arith, within))

pub make-requires-clause-low : goal.make-requires-clause-low
make-requires-clause-low g c =
    let d = c.args.store.now in let n = c.args.qubits in let k = c.args.qubit in let rest = c.args.rest.0 in let h = c.requires.built in let within : k < n = c.requires.within in
    stands_above d n (2 * (k + 1)) (3 * (n - (k + 1))) (2 * k + 1) rest h.nodes (omega arith) h.live

pub returns-in_err-low-clause-full : goal.returns-in_err-low-clause-full
returns-in_err-low-clause-full g c =
    let d = c.args.store.now in let n = c.args.qubits in let k = c.args.qubit in let rest = c.args.rest.0 in let h = c.requires.built in let within : k < n = c.requires.within in
    let stop : StartStopIs d (3 * n) c.in_err-low.field-0.0 = nodes_full d d n (2 * (k + 1)) (3 * (n - (k + 1))) (2 * k + 1) rest 0 h.nodes (omega (arith, within)) refl c.in_err-low.field-0.0 c.in_err-low.ensures.stop in
    handed_on _ _ (StartStopIs d (3 * n)) c.from_residual.ensures.1 stop

pub make-requires-2-clause-var : goal.make-requires-2-clause-var
make-requires-2-clause-var g c =
    let d = c.args.store.now in let n = c.args.qubits in let k = c.args.qubit in let rest = c.args.rest.0 in let h = c.requires.built in let within : k < n = c.requires.within in
    let nodes = low_nodes d c.make.new.self n k rest c.in_ok-low.low.0 h within (low g (goal.at.make-requires-2-clause-var g c).In_ok-low) in
    in_order c.make.new.self n (2 * k + 1) _ (2 * k + 1) nodes (omega (arith, within))

pub make-requires-2-clause-high : goal.make-requires-2-clause-high
make-requires-2-clause-high g c =
    let d = c.args.store.now in let n = c.args.qubits in let k = c.args.qubit in let rest = c.args.rest.0 in let h = c.requires.built in let within : k < n = c.requires.within in
    above_on d c.make.new.self (2 * k + 1) rest c.make.ensures.extends (stands_above d n (2 * (k + 1)) (3 * (n - (k + 1))) (2 * k + 1) rest h.nodes (omega arith) h.live)

pub returns-in_err-high-clause-full : goal.returns-in_err-high-clause-full
returns-in_err-high-clause-full g c =
    let d = c.args.store.now in let n = c.args.qubits in let k = c.args.qubit in let rest = c.args.rest.0 in let h = c.requires.built in let within : k < n = c.requires.within in
    let nodes = low_nodes d c.make.new.self n k rest c.in_ok-low.low.0 h within (low g (goal.at.returns-in_err-high-clause-full g c).In_ok-low) in
    let stop : StartStopIs d (3 * n) c.in_err-high.field-0.0 = nodes_full d c.make.new.self n (2 * k + 1) _ (2 * k + 1) 0 rest nodes (omega (arith, within)) c.make.ensures.extends.limit c.in_err-high.field-0.0 c.in_err-high.ensures.stop in
    handed_on _ _ (StartStopIs d (3 * n)) c.from_residual-in_err-high.ensures.1 stop

pub make-requires-3-clause-var : goal.make-requires-3-clause-var
make-requires-3-clause-var g c =
    let d = c.args.store.now in let n = c.args.qubits in let k = c.args.qubit in let rest = c.args.rest.0 in let h = c.requires.built in let within : k < n = c.requires.within in
    let a = low g (goal.at.make-requires-3-clause-var g c).In_ok-low in let b = high g (goal.at.make-requires-3-clause-var g c).In_ok-high in
    let f = c.make-2.new.self in let m = c.in_ok-low.low.0 in let j = c.in_ok-high.high.0 in let nodes = high_nodes d c.make.new.self f n k rest m j h within a b in
    in_order f n (2 * k + 1) _ (2 * k) nodes (omega (arith, within))

pub make-requires-3-clause-low : goal.make-requires-3-clause-low
make-requires-3-clause-low g c =
    let d = c.args.store.now in let n = c.args.qubits in let k = c.args.qubit in let rest = c.args.rest.0 in let h = c.requires.built in let within : k < n = c.requires.within in
    let a = low g (goal.at.make-requires-3-clause-low g c).In_ok-low in let b = high g (goal.at.make-requires-3-clause-low g c).In_ok-high in
    let f = c.make-2.new.self in let m = c.in_ok-low.low.0 in let j = c.in_ok-high.high.0 in let nodes = high_nodes d c.make.new.self f n k rest m j h within a b in
    stands_above f n (2 * k + 1) _ (2 * k) m nodes (omega arith) (low_on d c.make.new.self f n k rest m j h within a b)

pub make-requires-3-clause-high : goal.make-requires-3-clause-high
make-requires-3-clause-high g c =
    let d = c.args.store.now in let n = c.args.qubits in let k = c.args.qubit in let rest = c.args.rest.0 in let h = c.requires.built in let within : k < n = c.requires.within in
    let a = low g (goal.at.make-requires-3-clause-high g c).In_ok-low in let b = high g (goal.at.make-requires-3-clause-high g c).In_ok-high in
    let f = c.make-2.new.self in let m = c.in_ok-low.low.0 in let j = c.in_ok-high.high.0 in let nodes = high_nodes d c.make.new.self f n k rest m j h within a b in
    stands_above f n (2 * k + 1) _ (2 * k) j nodes (omega arith) (high_live d c.make.new.self f n k rest m j h within a b)

pub returns-in_err-node-clause-full : goal.returns-in_err-node-clause-full
returns-in_err-node-clause-full g c =
    let d = c.args.store.now in let n = c.args.qubits in let k = c.args.qubit in let rest = c.args.rest.0 in let h = c.requires.built in let within : k < n = c.requires.within in
    let a = low g (goal.at.returns-in_err-node-clause-full g c).In_ok-low in let b = high g (goal.at.returns-in_err-node-clause-full g c).In_ok-high in
    let f = c.make-2.new.self in let m = c.in_ok-low.low.0 in let j = c.in_ok-high.high.0 in let nodes = high_nodes d c.make.new.self f n k rest m j h within a b in
    let limit = (extends_trans d c.make.new.self f c.make.ensures.extends c.make-2.ensures.extends).limit in
    let stop : StartStopIs d (3 * n) c.in_err-node.field-0.0 = nodes_full d f n (2 * k + 1) _ (2 * k) m j nodes (omega (arith, within)) limit c.in_err-node.field-0.0 c.in_err-node.ensures.stop in
    handed_on _ _ (StartStopIs d (3 * n)) c.from_residual-in_err-node.ensures.1 stop

pub returns-clause-built : goal.returns-clause-built
returns-clause-built g c =
    let d = c.args.store.now in let n = c.args.qubits in let k = c.args.qubit in let rest = c.args.rest.0 in let h = c.requires.built in let within : k < n = c.requires.within in
    let at = goal.at.returns-clause-built g c in
    qubit_more d c.make.new.self c.make-2.new.self c.make-3.new.self n k rest c.in_ok-low.low.0 c.in_ok-high.high.0 c.in_ok-node.node.0 h within (low g at.In_ok-low) (high g at.In_ok-high) (top g at.In_ok-node)

pub returns-in_err-high-clause-extends : goal.returns-in_err-high-clause-extends
returns-in_err-high-clause-extends g c = extends_trans c.args.store.now c.make.new.self c.make-2.new.self c.make.ensures.extends c.make-2.ensures.extends

pub returns-in_err-node-clause-extends : goal.returns-in_err-node-clause-extends
returns-in_err-node-clause-extends g c = extends_trans c.args.store.now c.make-2.new.self c.make-3.new.self (extends_trans c.args.store.now c.make.new.self c.make-2.new.self c.make.ensures.extends c.make-2.ensures.extends) c.make-3.ensures.extends

pub returns-clause-extends : goal.returns-clause-extends
returns-clause-extends g c = extends_trans c.args.store.now c.make-2.new.self c.make-3.new.self (extends_trans c.args.store.now c.make.new.self c.make-2.new.self c.make.ensures.extends c.make-2.ensures.extends) c.make-3.ensures.extends
