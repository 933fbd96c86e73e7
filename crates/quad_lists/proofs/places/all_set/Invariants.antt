use Rattle.std.proofs.Common.{◌≡◌, ◌<◌, ℕ, List, Bool, length, All}
use Rattle.bit_lists.specs.Lists.{place_of}
use Rattle.circuit_model.specs.Vector.{all_set}
use Rattle.quad_lists.proofs.places.all_set.Given as goal

abbrev pub invariant-loop-q : goal.invariant-loop-q
invariant-loop-q l = record {
  below : All (λ q. q < l.fn.qubits) l.rest;
  same : (x : List Bool) → length x ≡ l.fn.qubits → place_of x ≡ l.fn.place → all_set x l.fn.on ≡ all_set x l.rest;
}

abbrev pub decreases-loop-q : goal.decreases-loop-q
decreases-loop-q l = length l.rest
