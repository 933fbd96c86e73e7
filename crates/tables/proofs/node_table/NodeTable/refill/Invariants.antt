use Rattle.std.proofs.Common.{◌≡◌, ◌+◌, length, take}
use Rattle.tables.specs.Probing.{entries_of}
use Rattle.tables.specs.NodePlaces.{slots_of}
use Rattle.tables.proofs.Nodes.{Copies}
use Rattle.tables.proofs.node_table.NodeTable.refill.Given as goal

abbrev pub invariant-loop-place : goal.invariant-loop-place
invariant-loop-place l = record {
  same : Copies l.self (take l.place-index l.from);
  spare : l.self.spare + length (entries_of (slots_of (take l.place-index l.from))) ≡ l.fn.self.spare;
  len : length l.self.entries ≡ length (entries_of (slots_of (take l.place-index l.from)));
}
