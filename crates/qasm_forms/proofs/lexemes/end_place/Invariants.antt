use Rattle.std.proofs.Common.{◌≡◌, ◌+◌, false, length}
use Rattle.qasm_forms.specs.Private.Fronts.{plus, end_place}
use Rattle.qasm_forms.proofs.lexemes.end_place.Given as goal

abbrev pub invariant-loop-token : goal.invariant-loop-token
invariant-loop-token l = record { place : end_place false l.fn.tokens ≡ plus l.place (end_place l.opened l.rest); within : l.place + length l.rest ≡ length l.fn.tokens }

abbrev pub decreases-loop-token : goal.decreases-loop-token
decreases-loop-token l = length l.rest
