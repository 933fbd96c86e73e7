use Rattle.std.proofs.Common.{inl, inr, ap, arith, rules, ◌∙◌, refl}
use Rattle.sifting.specs.Hanging.{rank_of}
use Rattle.sifting.proofs.Lowered.{more_same}
use Rattle.sifting.proofs.ranks.grow.Goals as goal

pub loop-number-init : goal.loop-number-init
loop-number-init c = record { same = λ m. refl; long = search rules }

pub loop-number-preserved : goal.loop-number-preserved
loop-number-preserved c = record {
  same = λ m. ap (λ l. rank_of l m) c.in_ok-push.ensures.items ∙ more_same c.loop-number.ranks.items m ∙ c.loop-number.invariant.same m;
  long = search rules;
}

pub returns-clause-places : goal.returns-clause-places
returns-clause-places c = λ n live.
    let long = c.loop-number.invariant.long in
    elim live [
      | inl small ↦ omega (arith, small, long, c.loop-number-test.false, c.max-past.ensures)
      | inr h ↦ (let lt = c.past.ensures n (h.parts, h.is) in omega (arith, lt, long, c.loop-number-test.false, c.max-past.ensures))
    ]
