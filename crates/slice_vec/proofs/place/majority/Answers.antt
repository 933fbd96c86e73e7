use Rattle.diagram_model.specs.Stores.{function_of}
use Rattle.diagram_ops.specs.Diagrams.{connective_of, key_of}
use Rattle.slice_vec.specs.Places.{majority_at}
use Rattle.diagram_ops.specs.Bounds.{joint_size_of}
use Rattle.slice_vec.proofs.Bounds.{steps_none}
use Rattle.slice_vec.proofs.Places.{pair_majority, connected-majority, call_grows, call_node, call_stop}
use Rattle.slice_vec.proofs.place.majority.Goals as goal

pub returns-in-Some-clause-node : goal.returns-in-Some-clause-node
returns-in-Some-clause-node g c =
    pair_majority c.args.d.now.store c.args.a.0 c.args.b.0 c.args.c.0 c.in-Some.pair c.requires.a c.requires.b c.requires.c c.in-Some.ensures

pub returns-in-Some-clause-steps : goal.returns-in-Some-clause-steps
returns-in-Some-clause-steps g c = steps_none c.args.d.now.store (joint_size_of c.args.d.now.store c.args.a.0 c.args.b.0 c.args.c.0) c.args.steps.now

pub returns : goal.returns
returns g c =
    let v = c.args.d.now in let w = c.apply3.new.self in let a = c.args.a.0 in let b = c.args.b.0 in let k = c.args.c.0 in
    let f = connective_of 232 v.store a b k in let r = majority_at v.store a b k in
    let same = connected-majority (function_of v.store a) (function_of v.store b) (function_of v.store k) in
    let e = c.apply3.ensures in
    record {
      grows = call_grows v w (key_of 232 a b k) c.apply3.result f r same e.sound e.extends e.functions e.cache e.stopped e.cached e.made;
      node = call_node w.store f r c.apply3.result same e.live e.denotes;
      stop = call_stop w.store v.store.order f r c.apply3.result same e.stop;
      steps = e.steps;
    }
