use Rattle.std.proofs.Common.{arith}
use Rattle.std.proofs.lemmas.Int.{ints}
use Rattle.qasm_lex.proofs.Divisors.{greatest_divisor-one}
use Rattle.calls.proofs.lexemes.least.Goals as goal

pub invariant_of-result : goal.invariant_of-result
invariant_of-result c = record { positive = omega (arith, ints); lowest = greatest_divisor-one _ }
