use Rattle.std.proofs.Common.{◌≡◌, ◌^◌, ◌*◌, List, Bool, length, take}
use Rattle.ring_omega.specs.Bounds.{IsWithin}
use Rattle.bit_lists.specs.Lists.{place_of, all_lists}
use Rattle.circuit_model.specs.Product.{sum_over}
use Rattle.quad_lists.specs.Sums.{quad_value}
use Rattle.dense_matrix.specs.Sides.{part}
use Rattle.dense_matrix.proofs.step.block_after.Given as goal

-- the sum of the terms so far, and a bound for each of them
abbrev pub invariant-terms : goal.invariant-terms
invariant-terms l = record {
  bounded : IsWithin (l.y * 2 ^ 127) (quad_value l.sum);
  value : (r c : List Bool) → length r ≡ l.qubits → length c ≡ l.qubits → place_of r ≡ l.row → place_of c ≡ l.column
      → quad_value l.sum ≡ sum_over (take l.y (all_lists (length l.gate.on))) (part l.side l.gate l.state r c);
}
