use Rattle.std.proofs.Common.{◌≡◌, map, take, get_or}
use Rattle.qasm_gates.specs.Private.Tables.{store_of, on_at}
use Rattle.qasm_gates.proofs.table.Table.qubits_of.Given as goal

abbrev pub invariant-loop-number : goal.invariant-loop-number
invariant-loop-number l = l.out.items ≡ map (λ k. get_or l.on k 0) (take l.number-index (on_at (store_of l.self) l.fn.line))
