use Rattle.std.proofs.Common.{◌∙◌}
use Rattle.snapshot.proofs.Judged.{is_judged, judged_narrow, judged_reduced, judged_text}
use Rattle.snapshot.proofs.loading.judged_counted.Goals as goal

pub returns-then-not-is_narrow-clause-bad : goal.returns-then-not-is_narrow-clause-bad
returns-then-not-is_narrow-clause-bad g c = λ s is.
    let l = c.in_ok-loaded.loaded in
    let b = c.in_ok-loaded.ensures.built in
    let e = c.deref.ensures.value ∙ c.in_ok-numbers.ensures in
    c.is_narrow.ensures.other c.if-not-is_narrow.true l.diagrams.store b.sound.store b.stands (judged_narrow c.args.rules.now c.args.text.now c.deref.result.now l s e b is)

pub returns-then-not-is_reduced-clause-bad : goal.returns-then-not-is_reduced-clause-bad
returns-then-not-is_reduced-clause-bad g c = λ s is.
    let l = c.in_ok-loaded.loaded in
    let b = c.in_ok-loaded.ensures.built in
    let e = c.deref.ensures.value ∙ c.in_ok-numbers.ensures in
    c.is_reduced.ensures.other c.if-not-is_reduced.true l.diagrams.store b.sound.store b.stands (judged_reduced c.args.rules.now c.args.text.now c.deref.result.now l s e b is)

pub returns-then-not-same-clause-bad : goal.returns-then-not-same-clause-bad
returns-then-not-same-clause-bad g c = λ s is.
    let l = c.in_ok-loaded.loaded in
    let b = c.in_ok-loaded.ensures.built in
    let e = c.deref.ensures.value ∙ c.in_ok-numbers.ensures in
    c.in_ok-same.ensures.other c.if-not-same.true (judged_text c.args.rules.now c.args.text.now c.deref.result.now l s e b is)

pub returns-clause-judged : goal.returns-clause-judged
returns-clause-judged g c =
    let l = c.in_ok-loaded.loaded in
    let b = c.in_ok-loaded.ensures.built in
    let e = c.deref.ensures.value ∙ c.in_ok-numbers.ensures in
    let d = l.diagrams.store in
    is_judged c.args.rules.now c.args.text.now c.deref.result.now l e b (c.is_narrow.ensures.yes c.if-not-is_narrow.false d b.sound.store b.stands) (c.is_reduced.ensures.yes c.if-not-is_reduced.false d b.sound.store b.stands)
    (c.in_ok-same.ensures.same c.if-not-same.false) (c.in_ok-same.ensures.held c.if-not-same.false)
