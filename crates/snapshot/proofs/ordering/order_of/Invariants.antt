use Rattle.std.proofs.Common.{◌≡◌, length, take}
use Rattle.snapshot.proofs.ordering.order_of.Given as goal

abbrev pub invariant-loop-place : goal.invariant-loop-place
invariant-loop-place l = record {
  len : length l.order ≡ length l.variables;
  front : take l.place l.order ≡ take l.place l.variables;
}
