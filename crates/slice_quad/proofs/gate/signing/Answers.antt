use Rattle.diagram_ops.specs.Diagrams.{connective_of, key_of}
use Rattle.slice_quad.specs.Fours.{mix_of}
use Rattle.slice_quad.specs.Column.{where_negated, where_signed}
use Rattle.slice_quad.proofs.Connected.{Connects, connects, connects_as}
use Rattle.slice_quad.proofs.Gates.{where_out, where_in}
use Rattle.slice_quad.proofs.gate.signing.Given.{Over}
use Rattle.slice_quad.proofs.gate.signing.Goals.{After-apply3, After-negating}
use Rattle.slice_quad.proofs.gate.signing.Goals as goal

outside : (g : Over) (c : After-apply3 g) → Connects c.args.d.now c.apply3.new.self (where_signed (mix_of c.args.gate.now.target) c.args.low c.args.high c.args.out) c.apply3.result
outside g c =
    let v = c.args.d.now in let gate = c.args.gate.now in let row = c.row_node-row.result.0 in let s = c.requires.sound.store in let e = c.apply3.ensures in
    let same = where_out v.store gate c.args.low c.args.high s c.requires.nodes row c.args.out c.if-out.true (c.row_node-row.ensures v.store s c.requires.nodes) in
    connects v c.apply3.new.self (key_of 207 gate.all.0 row 0) (connective_of 207 v.store gate.all.0 row 0) (where_signed (mix_of gate.target) c.args.low c.args.high c.args.out) c.apply3.result same e.sound e.extends e.functions e.cache e.stopped e.cached e.made e.live e.denotes e.stop

inside : (g : Over) (c : After-negating g) → Connects c.args.d.now c.negating.new.d (where_signed (mix_of c.args.gate.now.target) c.args.low c.args.high c.args.out) c.negating.result
inside g c =
    let m = mix_of c.args.gate.now.target in
    connects_as c.args.d.now c.negating.new.d (where_negated m c.args.low c.args.high) (where_signed m c.args.low c.args.high c.args.out) c.negating.result (where_in m c.args.low c.args.high c.args.out c.if-out.false)
    (record { grows = c.negating.ensures.grows; node = c.negating.ensures.node; stop = c.negating.ensures.stop })

pub returns-then-out-clause-grows : goal.returns-then-out-clause-grows
returns-then-out-clause-grows g c = (outside g (goal.at.returns-then-out-clause-grows g c).After-apply3).grows

pub returns-then-out-clause-node : goal.returns-then-out-clause-node
returns-then-out-clause-node g c = (outside g (goal.at.returns-then-out-clause-node g c).After-apply3).node

pub returns-then-out-clause-stop : goal.returns-then-out-clause-stop
returns-then-out-clause-stop g c = (outside g (goal.at.returns-then-out-clause-stop g c).After-apply3).stop

pub returns-clause-grows : goal.returns-clause-grows
returns-clause-grows g c = (inside g (goal.at.returns-clause-grows g c).After-negating).grows

pub returns-clause-node : goal.returns-clause-node
returns-clause-node g c = (inside g (goal.at.returns-clause-node g c).After-negating).node

pub returns-clause-stop : goal.returns-clause-stop
returns-clause-stop g c = (inside g (goal.at.returns-clause-stop g c).After-negating).stop
