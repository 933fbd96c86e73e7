use Rattle.std.proofs.Common.{◌≡◌, ◌≤◌, ◌+◌, ◌*◌, ◌^◌, length}
use Rattle.qasm_lex.specs.Symbols.{decimal}
use Rattle.qasm_lex.proofs.number.number_below.Given as goal

-- the value so far stands before the digits that are left
abbrev pub invariant-loop-digit : goal.invariant-loop-digit
invariant-loop-digit l = record {
  are : l.value * 10 ^ length l.rest + decimal l.rest ≡ decimal l.digits;
  small : l.value ≤ 200000000000000000000;
}

abbrev pub decreases-loop-digit : goal.decreases-loop-digit
decreases-loop-digit l = length l.rest
