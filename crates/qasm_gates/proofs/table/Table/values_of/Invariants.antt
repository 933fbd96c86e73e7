use Rattle.std.proofs.Common.{◌≡◌, length, map, All}
use Rattle.qasm_lex.specs.Expressions.{eval}
use Rattle.qasm_lex.specs.Values.{values}
use Rattle.qasm_lex.specs.Angles.{given_by}
use Rattle.qasm_gates.specs.Gates.{all_of}
use Rattle.qasm_gates.specs.Private.Counts.{after}
use Rattle.qasm_gates.specs.Private.Tables.{store_of, tree_at, angles_at, IsStored}
use Rattle.qasm_gates.proofs.table.Table.values_of.Given as goal

-- the values of all angles are those so far, and the values of the rest
abbrev pub invariant-loop-angle : goal.invariant-loop-angle
invariant-loop-angle l = record {
  all : all_of (map (eval (values (given_by l.bound))) (map (tree_at (store_of l.self)) (angles_at (store_of l.self) l.fn.line)))
      ≡ after (given_by l.out.items) (all_of (map (eval (values (given_by l.bound))) (map (tree_at (store_of l.self)) l.rest)));
  stored : All (IsStored (store_of l.self)) l.rest;
}

abbrev pub decreases-loop-angle : goal.decreases-loop-angle
decreases-loop-angle l = length l.rest
