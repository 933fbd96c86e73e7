use Rattle.std.proofs.Common.{◌≡◌, ◌+◌, ◌≤◌, length}
use Rattle.std.specs.List.{All}
use Rattle.diagram_model.specs.Stores.{IsLive, IsSound, Extends, held}
use Rattle.node_store.specs.declared.node.Node.{Node}
use Rattle.snapshot.specs.Snapshots.{Snapshot}
use Rattle.snapshot.specs.Making.{AreLinesOf}
use Rattle.snapshot.proofs.Rebuilding.{AreFirst}
use Rattle.snapshot.proofs.making.nodes_of.Given as goal

-- the nodes so far are live, and denote the first functions of each snapshot whose lines these are
abbrev pub invariant-loop-i : goal.invariant-loop-i
invariant-loop-i g l = record {
  sound : IsSound l.store;
  extends : Extends l.fn.store l.store;
  count : length l.nodes.items ≡ l.i + 2;
  live : All (λ (n : Node). IsLive l.store n.0) l.nodes.items;
  held : held l.store ≤ held l.fn.store + l.i;
  told : (s : Snapshot) → AreLinesOf l.fn.store.order l.lines s → AreFirst l.store l.nodes.items s l.i;
}
