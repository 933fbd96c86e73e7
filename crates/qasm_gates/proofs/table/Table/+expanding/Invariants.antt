use Rattle.std.proofs.Common.{◌≡◌, ◌+◌, ◌*◌, ◌++◌, length, map, get_or, All}
use Rattle.qasm_lex.specs.Angles.{given_by}
use Rattle.qasm_gates.specs.declared.table.Line.{Line}
use Rattle.qasm_gates.specs.Gates.{placed}
use Rattle.qasm_gates.specs.Bodies.{body_means}
use Rattle.qasm_gates.specs.Private.Proper.{IsMeant, done_in}
use Rattle.qasm_gates.specs.Private.Tables.{store_of, on_at, AreBelow, IsLine, gates_of, line_at, nothing, callee_rank}
use Rattle.qasm_gates.proofs.table.Table.+expanding.Given as goal

abbrev pub decreases-expand : goal.decreases-expand
decreases-expand l = 3 * callee_rank l.callee + 1

abbrev pub decreases-expand_row : goal.decreases-expand_row
decreases-expand_row l = 3 * (l.gate + 1)

abbrev pub decreases-expand_line : goal.decreases-expand_line
decreases-expand_line l = 3 * callee_rank l.line.callee + 2

-- the gates of the lines so far and those of the rest are those of the gate
abbrev pub invariant-expand_row-loop-line : goal.invariant-expand_row-loop-line
invariant-expand_row-loop-line l = record {
  done : l.gates.items ++ map (placed l.on) (done_in (body_means (given_by l.bound) (map (line_at (store_of l.self) (gates_of (store_of l.self))) l.rest)))
      ≡ l.fn.gates.items ++ map (placed l.on) (done_in ((get_or (gates_of (store_of l.self)) l.fn.gate nothing).means (given_by l.bound)));
  meant : IsMeant (body_means (given_by l.bound) (map (line_at (store_of l.self) (gates_of (store_of l.self))) l.rest));
  lines : All (IsLine (store_of l.self) l.fn.gate) l.rest;
  below : All (λ (line : Line). AreBelow (length l.on) (on_at (store_of l.self) line)) l.rest;
}

abbrev pub decreases-expand_row-loop-line : goal.decreases-expand_row-loop-line
decreases-expand_row-loop-line l = length l.rest
