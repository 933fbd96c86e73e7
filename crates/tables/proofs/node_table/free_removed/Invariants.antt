use Rattle.std.proofs.Common.{◌≡◌, ℕ, ◌+◌, ◌≤◌, length}
use Rattle.tables.specs.NodePlaces.{slots_of}
use Rattle.tables.specs.NodeTable.{Children}
use Rattle.tables.specs.Probing.{IsProbed, entries_of, used_of}
use Rattle.tables.proofs.node_table.free_removed.Given as goal

abbrev pub invariant-loop-index : goal.invariant-loop-index
invariant-loop-index l = record {
  len : length l.places ≡ length l.fn.places;
  few : l.freed + l.index ≤ length l.fn.places;
  entries : entries_of (slots_of l.places) ≡ entries_of (slots_of l.fn.places);
  used : used_of (slots_of l.places) + l.freed ≡ used_of (slots_of l.fn.places);
  probed : (start : Children → ℕ) → IsProbed start (slots_of l.fn.places) → IsProbed start (slots_of l.places);
}

abbrev pub decreases-loop-index : goal.decreases-loop-index
decreases-loop-index l = l.index
