use Rattle.std.proofs.Common.{◌≡◌, length}
use Rattle.diagram_ops.specs.Cofactors.{numbers_of}
use Rattle.diagram_ops.specs.Operations.{fixed_in}
use Rattle.diagram_ops.proofs.Cofactoring.{Restricts}
use Rattle.diagram_ops.proofs.restrict.restrict_all.Given as goal

abbrev pub invariant-loop-i : goal.invariant-loop-i
invariant-loop-i g l = record {
  count : length (numbers_of l.nodes.items) ≡ l.i;
  restricts : Restricts l.fn.var l.fn.bit l.fn.store (numbers_of l.fn.fs) (fixed_in l.fn.memo) l.store (fixed_in l.memo) (numbers_of l.nodes.items) l.fn.steps l.steps;
}
