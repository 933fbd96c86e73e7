use Rattle.std.proofs.Common.{◌≡◌, ◌≤◌, ◌*◌}
use Rattle.amp_dense.specs.Standing.{vector}
use Rattle.outside.specs.Buffering.{Sent}
use Rattle.probabilities.specs.Outcomes.{measured_count}
use Rattle.sampler.specs.Words.{random_word}
use Rattle.outputs.specs.Shots.{shot_lines}
use Rattle.outputs.proofs.shots.send_drawn.Given as goal

-- the lines of the shots before this one were sent, and the words behind theirs come next
abbrev pub invariant-shots : goal.invariant-shots
invariant-shots g l = record {
  sent : Sent (g.K.Sink.written l.fn.out) l.fn.waiting (g.K.Sink.written l.out) l.waiting (shot_lines l.measured l._shot (random_word l.seed) (vector (g.A.Amplitudes.standing l.state)).entries);
  words : l.words ≡ record { seed = l.seed; number = l._shot * measured_count l.measured };
  counts : g.K.Sink.faults l.fn.out ≤ g.K.Sink.faults l.out;
}
