use Rattle.std.proofs.Common.{◌≡◌, ◌≤◌, ◌-◌, vec_len, IsTrue}
use Rattle.outside.specs.Outside.{SameTexts, NoneFalls}
use Rattle.outside.specs.Bytes.{IsReading}
use Rattle.outside.proofs.whole.read_all.Given as goal

-- the text is what was read and what is left
abbrev pub invariant-pieces : goal.invariant-pieces
invariant-pieces g l =
    let shelf = g.S.Shelf in
    record {
      text : IsReading (shelf.text l.fn.shelf l.name) (shelf.left l.shelf) l.bytes.items;
      taken : shelf.taken l.shelf ≡ vec_len l.bytes;
      few : vec_len l.bytes ≤ 16777216;
      ready : IsTrue (shelf.ready l.shelf);
      begun : IsTrue (shelf.is_begun l.shelf l.name);
      texts : SameTexts (shelf.text l.fn.shelf) (shelf.text l.shelf);
      counts : NoneFalls (shelf.faults l.fn.shelf) (shelf.faults l.shelf);
    }

abbrev pub decreases-pieces : goal.decreases-pieces
decreases-pieces g l = 16777217 - vec_len l.bytes
