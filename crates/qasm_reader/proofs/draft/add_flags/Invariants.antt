use Rattle.std.proofs.Common.{◌≡◌, ◌++◌, replicate, false}
use Rattle.qasm_reader.proofs.draft.add_flags.Given as goal

abbrev pub invariant-loop-step : goal.invariant-loop-step
invariant-loop-step l = l.flags.items ≡ l.fn.flags.items ++ replicate l._step false
