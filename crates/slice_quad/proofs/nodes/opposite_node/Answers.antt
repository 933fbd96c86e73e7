use Rattle.diagram_ops.specs.Diagrams.{connective_of, key_of}
use Rattle.slice_vec.proofs.Places.{call_grows, call_node, call_stop}
use Rattle.slice_quad.specs.Variables.{opposite_at}
use Rattle.slice_quad.proofs.Variables.{connected-opposite}
use Rattle.slice_quad.proofs.nodes.opposite_node.Goals as goal

pub returns-clause-grows : goal.returns-clause-grows
returns-clause-grows g c =
    let v = c.args.d.now in let w = c.apply3.new.self in let n = c.args.n.0 in let f = connective_of 15 v.store n 0 0 in let r = opposite_at v.store n in
    let same = connected-opposite v.store n c.requires.sound.store in let e = c.apply3.ensures in
    call_grows v w (key_of 15 n 0 0) c.apply3.result f r same e.sound e.extends e.functions e.cache e.stopped e.cached e.made

pub returns-clause-node : goal.returns-clause-node
returns-clause-node g c =
    let v = c.args.d.now in let w = c.apply3.new.self in let n = c.args.n.0 in let f = connective_of 15 v.store n 0 0 in let r = opposite_at v.store n in
    let same = connected-opposite v.store n c.requires.sound.store in let e = c.apply3.ensures in
    call_node w.store f r c.apply3.result same e.live e.denotes

pub returns-clause-stop : goal.returns-clause-stop
returns-clause-stop g c =
    let v = c.args.d.now in let w = c.apply3.new.self in let n = c.args.n.0 in let f = connective_of 15 v.store n 0 0 in let r = opposite_at v.store n in
    let same = connected-opposite v.store n c.requires.sound.store in let e = c.apply3.ensures in
    call_stop w.store v.store.order f r c.apply3.result same e.stop
