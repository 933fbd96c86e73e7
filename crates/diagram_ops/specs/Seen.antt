-- What is read of a node.
use Rattle.std.specs.Prelude.{◌≡◌, ℕ, ◌<◌, Bool, cond, ◌==◌, Some, None}
use Rattle.bit_lists.specs.Orders.{place_in}
use Rattle.diagram_model.specs.declared.parts.Parts.{Parts}
use Rattle.diagram_model.specs.Nodes.{parts_of}
use Rattle.diagram_model.specs.Stores.{Diagram}
use Rattle.diagram_ops.specs.declared.split.Seen.{Seen}

-- the parts of a held node, and the place of its variable
pub record ReadsParts (d : Diagram) (p : Parts) (r : Seen) : Type 0 where
  pub var : r.var ≡ p.var
  pub place : r.place ≡ place_in d.order p.var
  pub within : r.place < 256
  pub low : r.low ≡ p.low
  pub high : r.high ≡ p.high

pub record IsSeen (d : Diagram) (n : ℕ) (r : Seen) : Type 0 where
  pub node : r.node ≡ n
  pub held : (p : Parts) → parts_of d.slots n ≡ Some p → ReadsParts d p r
  pub none : parts_of d.slots n ≡ None → r.place ≡ 256

-- what is left of the node once the variable at a place is fixed to b
abbrev pub child_at : ℕ → Bool → Seen → ℕ
child_at place b r = cond (r.place == place) (cond b r.high r.low) r.node
