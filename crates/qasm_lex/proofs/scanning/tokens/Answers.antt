use Rattle.std.proofs.Common.{◌+◌, Some, None, refl, arith, sym, drop, subst}
use Rattle.qasm_lex.specs.Lexemes.{Begins, Ends}
use Rattle.qasm_lex.proofs.Cuts.{Done, done_ends, tokens_same, done_token, done_gap}
use Rattle.qasm_lex.proofs.AngleLemmas.{tokens_within}
use Rattle.qasm_lex.proofs.scanning.tokens.Goals as goal

pub returns-in_default-clause-of_text : goal.returns-in_default-clause-of_text
returns-in_default-clause-of_text c =
    let ends : Ends c.args.text.now c.loop-place.place (Some c.loop-place.place) = (refl, c.loop-place-test.true, c.in_default.ensures.none) in
    tokens_within c.args.text.now c.loop-place.list.items (Some c.loop-place.place)
    (done_ends c.args.text.now c.loop-place.place c.loop-place.list.items (Some c.loop-place.place) c.loop-place.invariant ends)

pub returns-in_default-clause-only : goal.returns-in_default-clause-only
returns-in_default-clause-only c list bad a =
    let ends : Ends c.args.text.now c.loop-place.place (Some c.loop-place.place) = (refl, c.loop-place-test.true, c.in_default.ensures.none) in
    tokens_same c.args.text.now list c.loop-place.list.items bad (Some c.loop-place.place) a
    (done_ends c.args.text.now c.loop-place.place c.loop-place.list.items (Some c.loop-place.place) c.loop-place.invariant ends)

pub loop-place-preserved-in_ok-push : goal.loop-place-preserved-in_ok-push
loop-place-preserved-in_ok-push c =
    subst (λ x. Done c.args.text.now (c.loop-place.place + c.in-Some.n) x) (sym c.in_ok-push.ensures.items)
    (done_token c.args.text.now c.loop-place.place c.in-Some.n c.in-Token.kind c.loop-place.list.items c.loop-place.invariant
    (subst (λ f. Begins (drop c.loop-place.place c.args.text.now) f c.in-Some.n) c.in-Token.is c.in-Some.ensures.some))

pub loop-place-preserved : goal.loop-place-preserved
loop-place-preserved c = done_gap c.args.text.now c.loop-place.place c.in-Some.n c.in-Some.form c.loop-place.list.items c.loop-place.invariant c.in-Some.ensures.some c.in_default-form.not-Token

pub returns-clause-of_text : goal.returns-clause-of_text
returns-clause-of_text c =
    let h = c.loop-place.invariant.within in
    let ends : Ends c.args.text.now c.loop-place.place None = omega arith in
    tokens_within c.args.text.now c.loop-place.list.items None
    (done_ends c.args.text.now c.loop-place.place c.loop-place.list.items None c.loop-place.invariant ends)

pub returns-clause-only : goal.returns-clause-only
returns-clause-only c list bad a =
    let h = c.loop-place.invariant.within in
    let ends : Ends c.args.text.now c.loop-place.place None = omega arith in
    tokens_same c.args.text.now list c.loop-place.list.items bad None a
    (done_ends c.args.text.now c.loop-place.place c.loop-place.list.items None c.loop-place.invariant ends)
