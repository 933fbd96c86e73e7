use Rattle.std.proofs.Common.{◌≡◌, ◌≤◌, ◌-◌, ◌^◌, Some}
use Rattle.std.specs.Option.{ForSome}
use Rattle.amp_dense.specs.Standing.{vector}
use Rattle.outside.specs.Buffering.{Sent}
use Rattle.probabilities.specs.Outcomes.{measured_count, outcome_weight}
use Rattle.outputs.specs.Outcomes.{has_no_weight, outcome_line}
use Rattle.outputs.proofs.WalkLemmas.{place_next, counted, lines, IsShown, state_of}
use Rattle.outputs.proofs.outcomes.send_weighed.Given as goal

-- the lines of the outcomes before the next one were sent, and are as many as the count
abbrev pub invariant-outcomes : goal.invariant-outcomes
invariant-outcomes g l =
    let n = measured_count l.measured in
    let w = vector (g.A.Amplitudes.standing l.state) in
    record {
      sent : Sent (g.K.Sink.written l.fn.out) l.fn.waiting (g.K.Sink.written l.out) l.waiting (lines n (has_no_weight l.measured w) (outcome_line l.measured w) (place_next n (state_of l.next)));
      count : l.outcomes ≡ counted n (has_no_weight l.measured w) (place_next n (state_of l.next));
      few : l.outcomes ≤ place_next n (state_of l.next);
      shown : ForSome (state_of l.next) (IsShown n (has_no_weight l.measured w));
      weight : ForSome l.next (λ e. e.1 ≡ outcome_weight l.measured w.entries e.0);
      at : ForSome l.next (λ e. g.A.Weigh.last_outcome l.walk ≡ Some e.0);
      weighs : g.A.Weigh.weighs l.state l.measured l.walk;
      counts : g.K.Sink.faults l.fn.out ≤ g.K.Sink.faults l.out;
    }

abbrev pub decreases-outcomes : goal.decreases-outcomes
decreases-outcomes g l = 2 ^ measured_count l.measured - place_next (measured_count l.measured) (state_of l.next)
