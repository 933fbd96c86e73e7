use Rattle.std.proofs.Common.{◌≡◌, length, take}
use Rattle.sifting.specs.Hanging.{LowersListed}
use Rattle.sifting.proofs.ranks.lower_listed.Given as goal

abbrev pub invariant-loop-number : goal.invariant-loop-number
invariant-loop-number l = record {
  lowers : LowersListed l.fn.store (take l.number-index l.numbers) l.fn.ranks l.ranks l.fn.rank;
  long : length l.ranks ≡ length l.fn.ranks;
}
