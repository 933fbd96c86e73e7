-- What one call of a recursion leaves: its store, and the results that it keeps.
use Rattle.std.specs.Prelude.{◌≡◌, ℕ, Some}
use Rattle.diagram_model.specs.Functions.{IsPrefixOf}
use Rattle.diagram_model.specs.Stores.{Diagram, IsSound, Extends}
use Rattle.diagram_ops.specs.declared.operands.Operands.{Operands}
use Rattle.diagram_ops.specs.Made.{Property, MakesOnly}
use Rattle.diagram_ops.specs.Operations.{Operation, Results, result_of, AreResults, KeepsHigher}

-- a function that arises from the operation's result by fixing a prefix of the order
abbrev pub IsPart : Operation → Diagram → Operands → Property
IsPart op d at = IsPrefixOf d.order (result_of op d at)

-- what a call keeps on each way out: stores with old before new, and the results kept before and after
pub record Keeps (op : Operation) (at : Operands) (old new : Diagram) (before later : Results) : Type 0 where
  pub sound : IsSound new
  pub extends : Extends old new
  pub results : AreResults op new later
  pub higher : KeepsHigher old at before later
  pub made : MakesOnly old new (IsPart op old at)
  pub still : (to : Operands) (n : ℕ) → before to ≡ Some n → later to ≡ Some n
