use Rattle.std.proofs.Common.{◌≡◌, ◌++◌, length}
use Rattle.qasm_gates.specs.Private.Codes.{unpacked}
use Rattle.qasm_gates.proofs.codes.symbols_in.Given as goal

-- the symbols so far, and those of the rest
abbrev pub invariant-loop-code : goal.invariant-loop-code
invariant-loop-code l = l.symbols.items ++ unpacked l.rest l.left ≡ unpacked l.fn.codes l.fn.numbers

abbrev pub decreases-loop-code : goal.decreases-loop-code
decreases-loop-code l = length l.rest
