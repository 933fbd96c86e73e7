use Rattle.std.proofs.Common.{◌≡◌, ◌++◌, map, take}
use Rattle.std.specs.List.{flat_map}
use Rattle.qasm_gates.specs.Private.Codes.{code_in, numbers_in}
use Rattle.qasm_gates.proofs.codes.add_all.Given as goal

abbrev pub invariant-loop-symbol : goal.invariant-loop-symbol
invariant-loop-symbol l = record {
  codes : l.codes.items ≡ l.fn.codes.items ++ map code_in (take l.symbol-index l.symbols);
  numbers : l.numbers.items ≡ l.fn.numbers.items ++ flat_map numbers_in (take l.symbol-index l.symbols);
}
