use Rattle.std.proofs.Common.{rules, ◌≡◌, ◌<◌, ◌*◌, ◌∙◌, ap, subst, length, List, Bool, false}
use Rattle.std.proofs.lemmas.List.{length-replicate}
use Rattle.unitary_update.proofs.Woven.{AreWoven, woven_none, woven_next, woven_all}
use Rattle.unitary_update.proofs.weaving.interleaved.Goals as goal

pub loop-q-init : goal.loop-q-init
loop-q-init c = woven_none c.args.row.now c.args.column.now c.zeros-bits.result (ap (λ (l : List Bool). length l) c.zeros-bits.ensures ∙ length-replicate (2 * c.len.result) false ∙ ap (λ i. 2 * i) c.len.ensures.value)

pub loop-q-preserved : goal.loop-q-preserved
loop-q-preserved c =
    let less : c.loop-q.q < length c.args.row.now = search rules in
    woven_next c.loop-q.q c.args.row.now c.args.column.now c.loop-q.bits c.set.new.self c.set-in-loop-q.new.self c.get.result c.get-in-loop-q.result less c.get.ensures c.get-in-loop-q.ensures c.set.ensures c.set-in-loop-q.ensures c.loop-q.invariant

pub returns : goal.returns
returns c =
    let all : c.loop-q.q ≡ length c.args.row.now = search rules in
    woven_all c.args.row.now c.args.column.now c.loop-q.bits c.requires.same (subst (λ i. AreWoven i c.args.row.now c.args.column.now c.loop-q.bits) all c.loop-q.invariant)
