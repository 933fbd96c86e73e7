use Rattle.std.proofs.Common.{◌≡◌, length, take}
use Rattle.bit_lists.specs.Lists.{bits_text}
use Rattle.bit_lists.proofs.bits.Bits.from_text.Given as goal

-- the bits spell the text so far
abbrev pub invariant-loop-byte : goal.invariant-loop-byte
invariant-loop-byte l = (take l.byte-index l.text ≡ bits_text l.bits) × (length l.bits ≡ l.byte-index)
