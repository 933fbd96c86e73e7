use Rattle.std.proofs.Common.{sym, ◌∙◌}
use Rattle.std.proofs.lemmas.Bool.{eqb-true}
use Rattle.diagram_model.specs.Stores.{function_of}
use Rattle.diagram_ops.specs.Diagrams.{connective_of, key_of}
use Rattle.slice_vec.specs.Places.{choice_at}
use Rattle.diagram_ops.specs.Bounds.{joint_size_of}
use Rattle.slice_vec.proofs.Bounds.{steps_none}
use Rattle.slice_vec.proofs.Places.{choice_same, choice_true, choice_false, connected-choice, call_grows, call_node, call_stop}
use Rattle.slice_vec.proofs.choice.choose.Goals as goal

pub returns-then-eq-clause-node : goal.returns-then-eq-clause-node
returns-then-eq-clause-node g c =
    choice_same c.args.d.now.store c.args.n.0 c.args.a.0 c.args.b.0 c.requires.a (eqb-true c.args.a.0 c.args.b.0 (sym c.eq.ensures ∙ c.if-eq.true))

pub returns-then-eq-2-clause-node : goal.returns-then-eq-2-clause-node
returns-then-eq-2-clause-node g c =
    choice_true c.args.d.now.store c.args.n.0 c.args.a.0 c.args.b.0 c.requires.sound.store c.requires.a (eqb-true c.args.n.0 1 (sym c.eq-2.ensures ∙ c.if-eq-2.true))

pub returns-then-eq-3-clause-node : goal.returns-then-eq-3-clause-node
returns-then-eq-3-clause-node g c =
    choice_false c.args.d.now.store c.args.n.0 c.args.a.0 c.args.b.0 c.requires.sound.store c.requires.b (eqb-true c.args.n.0 0 (sym c.eq-3.ensures ∙ c.if-eq-3.true))

pub returns-then-eq-clause-steps : goal.returns-then-eq-clause-steps
returns-then-eq-clause-steps g c = steps_none c.args.d.now.store (joint_size_of c.args.d.now.store c.args.n.0 c.args.a.0 c.args.b.0) c.args.steps.now

pub returns-then-eq-2-clause-steps : goal.returns-then-eq-2-clause-steps
returns-then-eq-2-clause-steps g c = steps_none c.args.d.now.store (joint_size_of c.args.d.now.store c.args.n.0 c.args.a.0 c.args.b.0) c.args.steps.now

pub returns-then-eq-3-clause-steps : goal.returns-then-eq-3-clause-steps
returns-then-eq-3-clause-steps g c = steps_none c.args.d.now.store (joint_size_of c.args.d.now.store c.args.n.0 c.args.a.0 c.args.b.0) c.args.steps.now

pub returns : goal.returns
returns g c =
    let v = c.args.d.now in let w = c.apply3.new.self in let n = c.args.n.0 in let a = c.args.a.0 in let b = c.args.b.0 in
    let f = connective_of 202 v.store n a b in let r = choice_at v.store n a b in
    let same = connected-choice (function_of v.store n) (function_of v.store a) (function_of v.store b) in
    let e = c.apply3.ensures in
    record {
      grows = call_grows v w (key_of 202 n a b) c.apply3.result f r same e.sound e.extends e.functions e.cache e.stopped e.cached e.made;
      node = call_node w.store f r c.apply3.result same e.live e.denotes;
      stop = call_stop w.store v.store.order f r c.apply3.result same e.stop;
      steps = e.steps;
    }
