use Rattle.std.proofs.Common.{◌≡◌, ◌<◌, ◌++◌, ◌∷◌, [], ◌∙◌, ap, arith, length, length-append}
use Rattle.std.proofs.lemmas.List.{length-map}
use Rattle.std.proofs.lemmas.Result.{err_from_is_err_and}
use Rattle.node_store.specs.declared.node.Node.{Node}
use Rattle.diagram_ops.specs.Cofactors.{numbers_of}
use Rattle.diagram_ops.specs.Operations.{restricted, fixed_in}
use Rattle.diagram_ops.proofs.Cofactoring.{Restricts, restricts_none, restricts_more, restricts_done, numbers_push, next_live, next_stop, next_leaves}
use Rattle.diagram_ops.proofs.Marks.{none_right}
use Rattle.diagram_ops.proofs.restrict.restrict_all.Given.{Over}
use Rattle.diagram_ops.proofs.restrict.restrict_all.Goals.{In-loop-i}
use Rattle.diagram_ops.proofs.restrict.restrict_all.Goals as goal

within : (g : Over) (c : In-loop-i g) → c.loop-i.i < length (numbers_of c.args.fs.now)
within g c = omega (arith, c.loop-i-test.true, length-map c.args.fs.now (λ (n : Node). n.0))

pub loop-i-init : goal.loop-i-init
loop-i-init g c =
    let v = c.args.var in let b = c.args.bit in
    let d = c.args.store.now in let fs = numbers_of c.args.fs.now in let m0 = fixed_in c.args.memo.now in
    let none : Restricts v b d fs m0 d m0 [] c.args.steps.now c.args.steps.now = restricts_none v b d fs m0 c.args.steps.now c.requires.sound (none_right (restricted v b) d c.args.memo.now c.requires.none) in
    record {
      count = ap (λ ns. length (numbers_of ns)) c.in_ok-nodes.ensures;
      restricts = rw (ap numbers_of c.in_ok-nodes.ensures) none;
    }

pub restrict-requires : goal.restrict-requires
restrict-requires g c =
    let h = c.loop-i.invariant.restricts in
    record {
      sound = h.sound;
      live = next_live c.requires.sound c.requires.live h (within g (goal.at.restrict-requires g c).In-loop-i) c.node_at.ensures;
      var = rw h.extends.order c.requires.var;
      results = h.results;
    }

pub returns-in_err-node : goal.returns-in_err-node
returns-in_err-node g c =
    let p = err_from_is_err_and c.from_residual-in_err-node.result c.from_residual-in_err-node.ensures.1 in
    let h = c.loop-i.invariant.restricts in
    let lt = within g (goal.at.returns-in_err-node g c).In-loop-i in
    let stops = c.in_err-node.ensures.stops in
    let left = next_leaves c.requires.sound c.requires.live h lt c.node_at.ensures stops.keeps stops.takes in
    rw (p.1, p.2) (record {
      sound = left.sound;
      extends = left.extends;
      fixed = tt;
      made = left.made;
      stop = next_stop c.requires.sound c.requires.live h lt c.node_at.ensures stops.keeps c.in_err-node.field-0.0 stops.stop;
      steps = left.steps;
    })

pub returns-in_err-push : goal.returns-in_err-push
returns-in_err-push g c =
    let p = err_from_is_err_and c.from_residual-in_err-push.result c.from_residual-in_err-push.ensures.1 in
    let answers = c.in_ok-node.ensures.answers in
    let left = next_leaves c.requires.sound c.requires.live c.loop-i.invariant.restricts (within g (goal.at.returns-in_err-push g c).In-loop-i) c.node_at.ensures answers.keeps answers.takes.takes in
    rw (p.1, p.2) (record { sound = left.sound; extends = left.extends; fixed = tt; made = left.made; stop = tt; steps = left.steps })

pub loop-i-preserved : goal.loop-i-preserved
loop-i-preserved g c =
    let ns = numbers_of c.loop-i.nodes.items in
    let n = c.in_ok-node.node.0 in
    let zs = numbers_of c.push.new.nodes.items in
    let made : zs ≡ ns ++ n ∷ [] = ap numbers_of c.in_ok-push.ensures ∙ numbers_push c.loop-i.nodes.items c.in_ok-node.node in
    let answers = c.in_ok-node.ensures.answers in
    record {
      count = omega (arith, ap length made, length-append ns (n ∷ []), c.loop-i.invariant.count);
      restricts = restricts_more c.requires.sound c.requires.live c.loop-i.invariant.restricts (within g (goal.at.loop-i-preserved g c).In-loop-i) c.node_at.ensures answers.keeps c.loop-i.invariant.count answers.result answers.takes made;
    }

pub returns : goal.returns
returns g c =
    let h = c.loop-i.invariant.restricts in
    let left = restricts_done c.requires.sound h in
    record {
      sound = left.sound;
      extends = left.extends;
      fixed = record {
        count = omega (arith, c.loop-i.invariant.count, c.loop-i-test.false, c.loop-i.auto.i-end, length-map c.args.fs.now (λ (n : Node). n.0));
        live = h.live;
        denote = h.denote;
      };
      made = left.made;
      stop = tt;
      steps = left.steps;
    }
