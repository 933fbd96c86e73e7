use Rattle.std.proofs.Common.{◌≡◌, length}
use Rattle.qasm_forms.specs.Private.Parsing.{scan, filled, behind_angles}
use Rattle.qasm_forms.proofs.angles.skip_angles.Given as goal

abbrev pub invariant-loop-angle : goal.invariant-loop-angle
invariant-loop-angle l = behind_angles (filled (scan 0 l.fn.lexemes)) ≡ behind_angles (filled (scan 0 l.lexemes))

abbrev pub decreases-loop-angle : goal.decreases-loop-angle
decreases-loop-angle l = length l.lexemes
