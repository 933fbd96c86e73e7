use Rattle.std.proofs.Common.{◌≡◌, ◌++◌, replicate}
use Rattle.qasm_gates.proofs.expanding.add_gates.Given as goal

abbrev pub invariant-loop-step : goal.invariant-loop-step
invariant-loop-step l = l.gates.items ≡ l.fn.gates.items ++ replicate l._step (record { kind = l.kind; on = l.on; extra = l.extra })
