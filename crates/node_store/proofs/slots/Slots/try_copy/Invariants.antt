use Rattle.std.proofs.Common.{◌≡◌, length}
use Rattle.node_store.proofs.Copies.{AreCopied}
use Rattle.node_store.proofs.slots.Slots.try_copy.Given as goal

abbrev pub invariant-loop-table : goal.invariant-loop-table
invariant-loop-table l = record {
  count : length l.tables.items ≡ l.table-index;
  same : AreCopied l.self-inside.tables.items l.tables.items l.table-index;
}
