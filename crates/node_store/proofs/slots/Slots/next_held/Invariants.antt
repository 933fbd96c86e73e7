use Rattle.std.proofs.Common.{ℕ, ◌≤◌}
use Rattle.diagram_model.specs.Stores.{HasParts}
use Rattle.node_store.specs.Slots.{IsPast}
use Rattle.node_store.proofs.slots.Slots.next_held.Given as goal

abbrev pub invariant-loop-number : goal.invariant-loop-number
invariant-loop-number l = (m : ℕ) → HasParts l.self.diagram m → IsPast l.fn.after m → l.number ≤ m
