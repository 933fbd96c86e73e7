use Rattle.sifting.proofs.Lowered.{both_lowered}
use Rattle.sifting.proofs.ranks.lower_both.Goals as goal

pub returns-clause-both : goal.returns-clause-both
returns-clause-both c = both_lowered c.args.ranks.now c.lower.new.ranks c.lower-2.new.ranks c.args.parts c.args.rank c.lower.ensures.lowers c.lower-2.ensures.lowers
