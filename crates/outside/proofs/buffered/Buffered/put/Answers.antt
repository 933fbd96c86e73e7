use Rattle.outside.proofs.BufferingLemmas.{sent_all, some_waited}
use Rattle.outside.proofs.buffered.Buffered.put.Goals as goal

pub returns-then-piece-gt-ROOM-clause-ok : goal.returns-then-piece-gt-ROOM-clause-ok
returns-then-piece-gt-ROOM-clause-ok g c = sent_all _ _ _ c.args.self.now c.flush.new.self c.args.piece.now c.write_all.result c.in_ok-flush.ensures.ok c.in_ok-flush.ensures.empty c.write_all.ensures.ok

pub returns-in_err-flush-clause-err : goal.returns-in_err-flush-clause-err
returns-in_err-flush-clause-err g c = some_waited _ _ c.args.self.now c.args.piece.now c.from_residual.result c.in_err-flush.ensures.err
