use Rattle.std.proofs.Common.{rules, ◌≡◌, ◌+◌, ◌<◌, ◌^◌, ℕ, List, length, Err, ◌∙◌, sym, subst}
use Rattle.slice_quad.specs.declared.quad.SliceQuad.{SliceQuad}
use Rattle.slice_quad.specs.declared.stop.QuadStop.TheVariants as quads
use Rattle.slice_quad.specs.Stepping.{half_of, IsStepOn}
use Rattle.step_upkeep.proofs.Trying.{first_same, tried_once, tried_stopped, tried_again}
use Rattle.step_upkeep.proofs.stepping.tried.Goals as goal

pub returns-then-not-is_full : goal.returns-then-not-is_full
returns-then-not-is_full c =
    tried_once c.args.d.now c.once-first.new.d c.args.s.now c.args.q.now c.once-first.new.q c.args.width c.once-first.result c.cached-cached.ensures.sound c.requires.stands
    (sym c.is_full.ensures ∙ c.if-not-is_full.true) c.once-first.ensures

pub returns-in_err-_freed : goal.returns-in_err-_freed
returns-in_err-_freed c =
    let e : c.from_residual.result ≡ Err quads.OutOfMemory = search rules in
    rw e (tried_stopped c.args.d.now c.once-first.new.d c.reclaim_to.new.d c.args.s.now c.args.q.now c.once-first.new.q c.args.width c.once-first.result c.cached-cached.ensures.sound c.requires.stands
    (sym c.is_full.ensures ∙ c.if-not-is_full.false) c.once-first.ensures c.in_err-_freed.ensures.refused)

pub once-second-requires-clause-on : goal.once-second-requires-clause-on
once-second-requires-clause-on c =
    let order = c.reclaim_to.ensures.order ∙ c.once-first.ensures.grows.extends.order in
    subst (λ (l : List ℕ). IsStepOn (length l) c.args.s.now) (sym order) c.requires.on

pub once-second-requires-clause-exponent : goal.once-second-requires-clause-exponent
once-second-requires-clause-exponent c =
    let same = first_same c.once-first.result c.args.q.now c.once-first.new.q (sym c.is_full.ensures ∙ c.if-not-is_full.false) c.once-first.ensures.told.refused in
    subst (λ (p : SliceQuad). p.exponent + half_of c.args.s.now < 2 ^ 32) (sym same) c.requires.exponent

pub returns : goal.returns
returns c =
    tried_again c.args.d.now c.once-first.new.d c.reclaim_to.new.d c.once-second.new.d c.args.s.now c.args.q.now c.once-first.new.q c.once-second.new.q c.args.width c.once-first.result c.once-second.result
    c.cached-cached.ensures.sound c.requires.stands (sym c.is_full.ensures ∙ c.if-not-is_full.false) c.once-first.ensures (record { keeps = c.reclaim_to.ensures.keeps; order = c.reclaim_to.ensures.order }) c.in_ok-_freed.ensures.holds c.once-second.ensures
