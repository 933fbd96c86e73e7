use Rattle.std.proofs.Common.{◌≡◌, ◌+◌, ◌++◌, length, take}
use Rattle.bit_lists.specs.Lists.{bits_text}
use Rattle.amp_printer.proofs.line.Line.add_bits.Given as goal

-- the bits before i are written
abbrev pub invariant-loop-i : goal.invariant-loop-i
invariant-loop-i l = record {
  text : l.self-inside.bytes.items ≡ l.fn.self ++ bits_text (take l.i l.x);
  long : length l.self-inside.bytes.items ≡ length l.fn.self + l.i;
}
