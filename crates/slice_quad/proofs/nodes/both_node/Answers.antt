use Rattle.diagram_ops.specs.Diagrams.{connective_of, key_of}
use Rattle.slice_vec.proofs.Places.{call_grows, call_node, call_stop}
use Rattle.slice_quad.specs.Variables.{both_at}
use Rattle.slice_quad.proofs.Variables.{connected-both}
use Rattle.slice_quad.proofs.nodes.both_node.Goals as goal

pub returns-clause-grows : goal.returns-clause-grows
returns-clause-grows g c =
    let v = c.args.d.now in let w = c.apply3.new.self in let n = c.args.n.0 in let m = c.args.m.0 in let f = connective_of 192 v.store n m 0 in let r = both_at v.store n m in
    let same = connected-both v.store n m c.requires.sound.store in let e = c.apply3.ensures in
    call_grows v w (key_of 192 n m 0) c.apply3.result f r same e.sound e.extends e.functions e.cache e.stopped e.cached e.made

pub returns-clause-node : goal.returns-clause-node
returns-clause-node g c =
    let v = c.args.d.now in let w = c.apply3.new.self in let n = c.args.n.0 in let m = c.args.m.0 in let f = connective_of 192 v.store n m 0 in let r = both_at v.store n m in
    let same = connected-both v.store n m c.requires.sound.store in let e = c.apply3.ensures in
    call_node w.store f r c.apply3.result same e.live e.denotes

pub returns-clause-stop : goal.returns-clause-stop
returns-clause-stop g c =
    let v = c.args.d.now in let w = c.apply3.new.self in let n = c.args.n.0 in let m = c.args.m.0 in let f = connective_of 192 v.store n m 0 in let r = both_at v.store n m in
    let same = connected-both v.store n m c.requires.sound.store in let e = c.apply3.ensures in
    call_stop w.store v.store.order f r c.apply3.result same e.stop
