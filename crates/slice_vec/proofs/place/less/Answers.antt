use Rattle.std.proofs.Common.{sym, ◌∙◌}
use Rattle.std.proofs.lemmas.Bool.{eqb-true}
use Rattle.diagram_ops.specs.Diagrams.{connective_of, key_of}
use Rattle.slice_vec.specs.Places.{less_at}
use Rattle.diagram_ops.specs.Bounds.{joint_size_of}
use Rattle.slice_vec.proofs.Bounds.{steps_none}
use Rattle.slice_vec.proofs.Places.{less_none, less_all, connected-less, call_grows, call_node, call_stop}
use Rattle.slice_vec.proofs.place.less.Goals as goal

pub returns-then-eq-clause-node : goal.returns-then-eq-clause-node
returns-then-eq-clause-node g c =
    less_none c.args.d.now.store c.args.f.0 c.args.g.0 c.requires.sound.store c.requires.f (eqb-true c.args.f.0 0 (sym c.eq.ensures ∙ c.if-eq.true))

pub returns-then-eq-2-clause-node : goal.returns-then-eq-2-clause-node
returns-then-eq-2-clause-node g c =
    less_all c.args.d.now.store c.args.f.0 c.args.g.0 c.requires.sound.store c.requires.f (eqb-true c.args.g.0 0 (sym c.eq-2.ensures ∙ c.if-eq-2.true))

pub returns-then-eq-clause-steps : goal.returns-then-eq-clause-steps
returns-then-eq-clause-steps g c = steps_none c.args.d.now.store (joint_size_of c.args.d.now.store c.args.f.0 c.args.g.0 0) c.args.steps.now

pub returns-then-eq-2-clause-steps : goal.returns-then-eq-2-clause-steps
returns-then-eq-2-clause-steps g c = steps_none c.args.d.now.store (joint_size_of c.args.d.now.store c.args.f.0 c.args.g.0 0) c.args.steps.now

pub returns : goal.returns
returns g c =
    let v = c.args.d.now in let w = c.apply3.new.self in let a = c.args.f.0 in let b = c.args.g.0 in
    let f = connective_of 48 v.store a b 0 in let r = less_at v.store a b in
    let same = connected-less v.store a b c.requires.sound.store in
    let e = c.apply3.ensures in
    record {
      grows = call_grows v w (key_of 48 a b 0) c.apply3.result f r same e.sound e.extends e.functions e.cache e.stopped e.cached e.made;
      node = call_node w.store f r c.apply3.result same e.live e.denotes;
      stop = call_stop w.store v.store.order f r c.apply3.result same e.stop;
      steps = e.steps;
    }
