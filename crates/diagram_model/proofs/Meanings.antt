-- The equation of a held node's value.
use Rattle.std.proofs.Common.{◌≡◌, Bool, true, false, cond, refl}
use Rattle.diagram_model.specs.Functions.{Assignment}
use Rattle.diagram_model.specs.Nodes.{value, child}
use Rattle.diagram_model.specs.Stores.{Diagram}
use Rattle.diagram_model.specs.declared.parts.Parts.{Parts}

pub child_value : (d : Diagram) (p : Parts) (x : Assignment) (b : Bool) → value d.slots d.order x (child b p) ≡ cond b (value d.slots d.order x p.high) (value d.slots d.order x p.low)
child_value d p x true = refl
child_value d p x false = refl
