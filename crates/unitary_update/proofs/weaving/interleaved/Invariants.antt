use Rattle.unitary_update.proofs.Woven.{AreWoven}
use Rattle.unitary_update.proofs.weaving.interleaved.Given as goal

abbrev pub invariant-loop-q : goal.invariant-loop-q
invariant-loop-q l = AreWoven l.q l.fn.row l.fn.column l.bits
