use Rattle.std.proofs.Common.{◌≡◌, length}
use Rattle.sifting.specs.Hanging.{SameRanks}
use Rattle.sifting.proofs.ranks.grow.Given as goal

abbrev pub invariant-loop-number : goal.invariant-loop-number
invariant-loop-number l = record {
  same : SameRanks l.fn.ranks.items l.ranks.items;
  long : length l.ranks.items ≡ l._number;
}
