use Rattle.sifting.proofs.Lowered.{IsRanking}
use Rattle.sifting.proofs.ranks.ranks_above.Given as goal

abbrev pub invariant-loop-place : goal.invariant-loop-place
invariant-loop-place l = record {
  ranking : IsRanking l.fn.store l.fn.roots l.ranks.items l.place;
}
