use Rattle.demo_reads.proofs.Whole.{demo_unrefused}
use Rattle.demo_reads.proofs.laws.demo_texts_are_never_refused.Goals as goal

pub returns : goal.returns
returns c = demo_unrefused
