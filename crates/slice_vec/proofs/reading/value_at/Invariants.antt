use Rattle.std.proofs.Common.{◌≡◌, ◌-◌, length}
use Rattle.diagram_model.specs.Functions.{bit}
use Rattle.slice_vec.specs.Digits.{slice_value, from_bit}
use Rattle.slice_vec.specs.Slices.{digits_of}
use Rattle.slice_vec.proofs.reading.value_at.Given as goal

abbrev pub invariant-loop-i : goal.invariant-loop-i
invariant-loop-i l = record {
  value : l.value ≡ slice_value l.i (from_bit (length l.fn.x - 1 - l.i) (digits_of l.fn.d.store l.fn.x)) (bit l.fn.at);
}
