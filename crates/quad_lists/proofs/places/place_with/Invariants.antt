use Rattle.std.proofs.Common.{◌≡◌, ◌<◌, ◌^◌, List, Bool, length, take}
use Rattle.bit_lists.specs.Lists.{place_of, with_bits}
use Rattle.quad_lists.proofs.places.place_with.Given as goal

-- the place of the list with the values set so far
abbrev pub invariant-loop-i : goal.invariant-loop-i
invariant-loop-i l = record {
  in_state : l.here < 2 ^ l.qubits;
  value : (x y : List Bool) → length x ≡ l.qubits → place_of x ≡ l.place → length y ≡ length l.on → place_of y ≡ l.col → place_of (with_bits x (take l.i l.on) y) ≡ l.here;
}
