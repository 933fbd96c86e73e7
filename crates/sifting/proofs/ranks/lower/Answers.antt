use Rattle.std.proofs.Common.{arith}
use Rattle.sifting.proofs.Lowered.{lowered, not_lowered}
use Rattle.sifting.proofs.ranks.lower.Goals as goal

pub returns-then-rank-rank_at-clause-lowers : goal.returns-then-rank-rank_at-clause-lowers
returns-then-rank-rank_at-clause-lowers c = lowered c.args.ranks.now c.args.n c.args.rank c.requires (omega (arith, c.if-rank-rank_at.true, c.rank_at.ensures))

pub returns-else-rank-rank_at-clause-lowers : goal.returns-else-rank-rank_at-clause-lowers
returns-else-rank-rank_at-clause-lowers c = not_lowered c.args.ranks.now c.args.n c.args.rank (omega (arith, c.if-rank-rank_at.false, c.rank_at.ensures))
