use Rattle.std.proofs.Common.{◌≡◌, ◌≤◌, ℕ, List, ◌++◌, length}
use Rattle.outside.specs.Bytes.{Added}
use Rattle.outside.proofs.whole.write_all.Given as goal

-- a front of the bytes was added, and the rest is left
abbrev pub invariant-rest : goal.invariant-rest
invariant-rest g l = record {
  bytes : (front : List ℕ) × (l.bytes ≡ front ++ l.rest) × Added (g.K.Sink.written l.fn.sink) (g.K.Sink.written l.sink) front;
  counts : g.K.Sink.faults l.fn.sink ≤ g.K.Sink.faults l.sink;
}

abbrev pub decreases-rest : goal.decreases-rest
decreases-rest g l = length l.rest
