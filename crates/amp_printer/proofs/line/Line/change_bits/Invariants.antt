use Rattle.std.proofs.Common.{◌≡◌, ◌≤◌, ℕ, List, length, take}
use Rattle.bit_lists.specs.Lists.{place_of}
use Rattle.amp_printer.specs.Private.{line_with}
use Rattle.amp_printer.proofs.LineLemmas.{mixed}
use Rattle.amp_printer.proofs.line.Line.change_bits.Given as goal

-- the first i bits are still the old ones, and a and b are the places of the first i bits
abbrev pub invariant-bits : goal.invariant-bits
invariant-bits l = record {
  within : l.i ≤ length l.after;
  a_is : l.a ≡ place_of (take l.i l.before);
  b_is : l.b ≡ place_of (take l.i l.after);
  long : length l.self ≡ length l.fn.self;
  text : (rest : List ℕ) → l.fn.self ≡ line_with l.before rest → l.self ≡ line_with (mixed l.i l.before l.after) rest;
}

abbrev pub decreases-bits : goal.decreases-bits
decreases-bits l = l.i
