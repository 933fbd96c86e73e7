use Rattle.std.proofs.Common.{◌≡◌, ◌+◌, length, take}
use Rattle.tables.specs.Probing.{entries_of}
use Rattle.memos.specs.MemoPlaces.{slots_of, SameFound}
use Rattle.memos.proofs.memo.Places.refill.Given as goal

abbrev pub invariant-loop-place : goal.invariant-loop-place
invariant-loop-place l = record {
  same : SameFound (entries_of (slots_of l.stamp (take l.place-index l.from))) l.self.entries;
  spare : l.self.spare + length (entries_of (slots_of l.stamp (take l.place-index l.from))) ≡ l.fn.self.spare;
  len : length l.self.entries ≡ length (entries_of (slots_of l.stamp (take l.place-index l.from)));
}
