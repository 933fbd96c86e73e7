use Rattle.std.proofs.Common.{true, false, sym, ◌∙◌}
use Rattle.diagram_ops.specs.Diagrams.{connective_of, key_of}
use Rattle.slice_quad.specs.Fours.{mix_of}
use Rattle.slice_quad.specs.Column.{where_negated}
use Rattle.slice_quad.proofs.Connected.{Connects, connects}
use Rattle.slice_quad.proofs.Gates.{all_denotes, none_denotes, where_set, where_clear, where_same}
use Rattle.slice_quad.proofs.gate.negating.Given.{Over}
use Rattle.slice_quad.proofs.gate.negating.Goals.{After-apply3, After-apply3-then-high-2}
use Rattle.slice_quad.proofs.gate.negating.Goals as goal

where_low : (g : Over) (c : After-apply3 g) → Connects c.args.d.now c.apply3.new.self (where_negated (mix_of c.args.gate.now.target) c.args.low c.args.high) c.apply3.result
where_low g c =
    let v = c.args.d.now in let gate = c.args.gate.now in let m = mix_of gate.target in let e = c.apply3.ensures in
    let same = where_clear v.store gate c.requires.sound.store c.requires.nodes ∙ sym (where_same m c.args.low c.args.high true false c.if-low.true c.if-high.false) in
    connects v c.apply3.new.self (key_of 192 gate.all.0 gate.is_clear.0 0) (connective_of 192 v.store gate.all.0 gate.is_clear.0 0) (where_negated m c.args.low c.args.high) c.apply3.result same e.sound e.extends e.functions e.cache e.stopped e.cached e.made e.live e.denotes e.stop

where_high : (g : Over) (c : After-apply3-then-high-2 g) → Connects c.args.d.now c.apply3-then-high-2.new.self (where_negated (mix_of c.args.gate.now.target) c.args.low c.args.high) c.apply3-then-high-2.result
where_high g c =
    let v = c.args.d.now in let gate = c.args.gate.now in let m = mix_of gate.target in let e = c.apply3-then-high-2.ensures in
    let same = where_set v.store gate c.requires.sound.store c.requires.nodes ∙ sym (where_same m c.args.low c.args.high false true c.if-low.false c.if-high-2.true) in
    connects v c.apply3-then-high-2.new.self (key_of 192 gate.all.0 gate.is_set.0 0) (connective_of 192 v.store gate.all.0 gate.is_set.0 0) (where_negated m c.args.low c.args.high) c.apply3-then-high-2.result same e.sound e.extends e.functions e.cache e.stopped e.cached e.made e.live e.denotes e.stop

pub returns-then-high-clause-node : goal.returns-then-high-clause-node
returns-then-high-clause-node g c = all_denotes c.args.d.now.store c.args.gate.now c.args.low c.args.high c.requires.nodes c.if-low.true c.if-high.true

pub returns-clause-node : goal.returns-clause-node
returns-clause-node g c = none_denotes c.args.d.now.store (mix_of c.args.gate.now.target) c.args.low c.args.high c.requires.sound.store c.if-low.false c.if-high-2.false

pub returns-then-low-clause-grows : goal.returns-then-low-clause-grows
returns-then-low-clause-grows g c = (where_low g (goal.at.returns-then-low-clause-grows g c).After-apply3).grows

pub returns-then-low-clause-node : goal.returns-then-low-clause-node
returns-then-low-clause-node g c = (where_low g (goal.at.returns-then-low-clause-node g c).After-apply3).node

pub returns-then-low-clause-stop : goal.returns-then-low-clause-stop
returns-then-low-clause-stop g c = (where_low g (goal.at.returns-then-low-clause-stop g c).After-apply3).stop

pub returns-then-high-2-clause-grows : goal.returns-then-high-2-clause-grows
returns-then-high-2-clause-grows g c = (where_high g (goal.at.returns-then-high-2-clause-grows g c).After-apply3-then-high-2).grows

pub returns-then-high-2-clause-node : goal.returns-then-high-2-clause-node
returns-then-high-2-clause-node g c = (where_high g (goal.at.returns-then-high-2-clause-node g c).After-apply3-then-high-2).node

pub returns-then-high-2-clause-stop : goal.returns-then-high-2-clause-stop
returns-then-high-2-clause-stop g c = (where_high g (goal.at.returns-then-high-2-clause-stop g c).After-apply3-then-high-2).stop
