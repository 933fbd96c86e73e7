use Rattle.std.proofs.Common.{◌≡◌, take}
use Rattle.slice_quad.specs.Fields.{numbers}
use Rattle.snapshot.specs.Making.{nodes_at, AreThere}
use Rattle.snapshot.proofs.making.integer.Given as goal

abbrev pub invariant-loop-i : goal.invariant-loop-i
invariant-loop-i l = record {
  nodes : numbers l.out.items ≡ nodes_at l.nodes (take l.i-index l.bits);
  there : AreThere l.nodes (take l.i-index l.bits);
}
