use Rattle.std.proofs.Common.{◌≡◌, ◌<◌, ◌^◌, List, Bool, length, take}
use Rattle.bit_lists.specs.Lists.{place_of, bits_at}
use Rattle.quad_lists.proofs.places.row_of.Given as goal

-- the place of the values at the qubits so far
abbrev pub invariant-loop-q : goal.invariant-loop-q
invariant-loop-q l = record {
  below : l.row < 2 ^ l.q-index;
  value : (x : List Bool) → length x ≡ l.qubits → place_of x ≡ l.place → place_of (bits_at x (take l.q-index l.on)) ≡ l.row;
}
