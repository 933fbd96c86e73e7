use Rattle.std.proofs.Common.{◌≡◌, length}
use Rattle.qasm_lex.specs.Angles.{given_by}
use Rattle.qasm_gates.specs.Private.Counts.{after}
use Rattle.qasm_reader.specs.Private.Meanings.{outcomes_in}
use Rattle.qasm_reader.proofs.calls.each_value.Given as goal

-- the values of all angles are those so far, and the values of the rest
abbrev pub invariant-loop-angle : goal.invariant-loop-angle
invariant-loop-angle l = outcomes_in l.fn.angles ≡ after (given_by l.out.items) (outcomes_in l.rest)

abbrev pub decreases-loop-angle : goal.decreases-loop-angle
decreases-loop-angle l = length l.rest
