use Rattle.std.proofs.Common.{◌≡◌, length, take}
use Rattle.sifting.specs.Hanging.{LowersRoots}
use Rattle.sifting.proofs.ranks.lower_roots.Given as goal

abbrev pub invariant-loop-root : goal.invariant-loop-root
invariant-loop-root l = record {
  lowers : LowersRoots (take l.root-index l.roots) l.fn.ranks l.ranks;
  long : length l.ranks ≡ length l.fn.ranks;
}
