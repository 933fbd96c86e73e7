use Rattle.std.proofs.Common.{ap, subst, ◌∙◌, arith}
use Rattle.diagram_model.specs.Stores.{Diagram}
use Rattle.node_store.specs.Differs.{Differ}
use Rattle.equivalence.specs.Positions.{wanted}
use Rattle.equivalence.proofs.Alike.{unlike_at, alike_all}
use Rattle.equivalence.proofs.asking.is_unlike.Goals as goal

pub returns-then-branch-clause-yes : goal.returns-then-branch-clause-yes
returns-then-branch-clause-yes c = λ e.
    let d = c.args.d.now.store in
    let p = c.args.p.now in
    let n = c.bit-bit.result.0 in
    let w = c.wanted_node.result.0 in
    let there : Differ d p n w = subst (λ (s : Diagram). Differ s p n w) c.store-store.ensures.value (c.in_ok-differ.ensures.yes c.if-branch.true) in
    unlike_at d c.args.kept.0 c.args.zeros.now c.args.x.now p c.loop-i.i n w c.store-store.ensures.sound.store (omega (arith, c.loop-i-test.true, c.width-i-end.ensures)) c.bit-bit.ensures
    (c.wanted_node.ensures ∙ ap (λ (s : Diagram). wanted s c.args.kept.0 c.args.zeros.now n) c.store-store.ensures.value) there

pub returns-clause-no : goal.returns-clause-no
returns-clause-no c = λ e.
    alike_all c.args.d.now.store c.args.kept.0 c.args.zeros.now c.args.x.now c.args.p.now c.loop-i.i c.store-store.ensures.sound.store c.requires.stands.some
    (omega (arith, c.loop-i-test.false, c.width-i-end.ensures)) c.loop-i.invariant.same
