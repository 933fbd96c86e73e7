use Rattle.tables.specs.Probing.{ArePassed}
use Rattle.memos.specs.MemoPlaces.{slots_of}
use Rattle.memos.proofs.memo.probe_part.Given as goal

abbrev pub invariant-loop-index : goal.invariant-loop-index
invariant-loop-index l = ArePassed (slots_of l.now l.places) (l.f, l.g, l.h) 0 l.index
