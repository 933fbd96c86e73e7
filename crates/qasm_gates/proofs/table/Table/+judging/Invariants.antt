use Rattle.std.proofs.Common.{◌≡◌, ◌+◌, ◌*◌, length, map, get_or, All}
use Rattle.qasm_lex.specs.Angles.{given_by}
use Rattle.qasm_gates.specs.Bodies.{body_means}
use Rattle.qasm_gates.specs.Private.Counts.{tally, added, capped}
use Rattle.qasm_gates.specs.Private.Tables.{store_of, IsLine, gates_of, line_at, nothing, callee_rank}
use Rattle.qasm_gates.proofs.table.Table.+judging.Given as goal

abbrev pub decreases-judge : goal.decreases-judge
decreases-judge l = 3 * callee_rank l.callee + 1

abbrev pub decreases-judge_row : goal.decreases-judge_row
decreases-judge_row l = 3 * (l.gate + 1)

abbrev pub decreases-judge_line : goal.decreases-judge_line
decreases-judge_line l = 3 * callee_rank l.line.callee + 2

-- what the lines so far and the rest come to is what the gate comes to
abbrev pub invariant-judge_row-loop-line : goal.invariant-judge_row-loop-line
invariant-judge_row-loop-line l = record {
  sum : capped (added l.sum (tally (body_means (given_by l.bound) (map (line_at (store_of l.self) (gates_of (store_of l.self))) l.rest))))
      ≡ capped (tally ((get_or (gates_of (store_of l.self)) l.fn.gate nothing).means (given_by l.bound)));
  whole : capped l.sum ≡ l.sum;
  lines : All (IsLine (store_of l.self) l.fn.gate) l.rest;
}

abbrev pub decreases-judge_row-loop-line : goal.decreases-judge_row-loop-line
decreases-judge_row-loop-line l = length l.rest
