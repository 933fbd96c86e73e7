use Rattle.std.proofs.Common.{◌≡◌, ◌≤◌, ◌-◌, ◌^◌, length}
use Rattle.std.specs.Option.{option_copied, ForSome}
use Rattle.circuit_model.specs.Working.{work}
use Rattle.probabilities.specs.Outcomes.{measured_count}
use Rattle.probabilities.specs.Private.{place_behind, place_or_end}
use Rattle.probabilities.proofs.PossibleLemmas.{AreSkipped}
use Rattle.probabilities.proofs.next.next_outcome_dense.Given as goal

-- the outcomes before the next one are impossible
abbrev pub invariant-outcomes : goal.invariant-outcomes
invariant-outcomes l =
    let n = measured_count l.measured in
    record {
      skipped : AreSkipped l.measured (work l.s.gates l.s.input).entries (option_copied l.fn.after) (place_or_end n l.next);
      from : place_behind (option_copied l.fn.after) ≤ place_or_end n l.next;
      long : ForSome l.next (λ y. length y ≡ n);
    }

abbrev pub decreases-outcomes : goal.decreases-outcomes
decreases-outcomes l = 2 ^ measured_count l.measured - place_or_end (measured_count l.measured) l.next
