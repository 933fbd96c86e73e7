use Rattle.std.proofs.Common.{◌≡◌, map, take}
use Rattle.tables.specs.NodePlaces.{slots_of}
use Rattle.tables.specs.Probing.{entries_of}
use Rattle.tables.proofs.Listing.{value_of}
use Rattle.tables.proofs.node_table.NodeTable.nodes.Given as goal

abbrev pub invariant-loop-place : goal.invariant-loop-place
invariant-loop-place l = l.nodes.items ≡ map value_of (entries_of (slots_of (take l.place-index l.place-items)))
