use Rattle.std.proofs.Common.{◌≡◌, ◌≤◌, ◌-◌, ◌^◌, Some}
use Rattle.std.specs.Option.{ForSome}
use Rattle.amp_dense.specs.Standing.{vector}
use Rattle.outside.specs.Buffering.{Sent}
use Rattle.outputs.specs.Listing.{has_no_entry, entry_line}
use Rattle.outputs.proofs.WalkLemmas.{place_next, counted, lines, IsShown, state_of}
use Rattle.outputs.proofs.output.send_nonzero.Given as goal

-- the lines of the basis states before the next one were sent, and are as many as the count
abbrev pub invariant-states : goal.invariant-states
invariant-states g l =
    let n = l.qubits in
    let w = vector (g.A.Amplitudes.standing l.state) in
    record {
      sent : Sent (g.K.Sink.written l.fn.out) l.fn.waiting (g.K.Sink.written l.out) l.waiting (lines n (has_no_entry w) (entry_line w) (place_next n (state_of l.next)));
      count : l.states ≡ counted n (has_no_entry w) (place_next n (state_of l.next));
      few : l.states ≤ place_next n (state_of l.next);
      shown : ForSome (state_of l.next) (IsShown n (has_no_entry w));
      entry : ForSome l.next (λ e. e.1 ≡ w.entries e.0);
      at : ForSome l.next (λ e. g.A.Amplitudes.last l.walk ≡ Some e.0);
      walks : g.A.Amplitudes.walks l.state l.walk;
      counts : g.K.Sink.faults l.fn.out ≤ g.K.Sink.faults l.out;
    }

abbrev pub decreases-states : goal.decreases-states
decreases-states g l = 2 ^ l.qubits - place_next l.qubits (state_of l.next)
