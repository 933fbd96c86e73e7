use Rattle.tables.specs.Probing.{ArePassed}
use Rattle.tables.specs.NodePlaces.{slots_of}
use Rattle.tables.proofs.node_table.probe_part.Given as goal

abbrev pub invariant-loop-index : goal.invariant-loop-index
invariant-loop-index l = ArePassed (slots_of l.places) (l.low, l.high) 0 l.index
