use Rattle.std.proofs.Common.{◌≡◌, ◌+◌, ◌≤◌, length}
use Rattle.qasm_forms.specs.Private.Fronts.{angle_place, plus}
use Rattle.qasm_forms.proofs.lexemes.angle_place.Given as goal

abbrev pub invariant-loop-token : goal.invariant-loop-token
invariant-loop-token l = record { place : angle_place 0 l.fn.tokens ≡ plus l.place (angle_place l.depth l.rest); within : l.place + length l.rest ≡ length l.fn.tokens; shallow : l.depth ≤ l.place }

abbrev pub decreases-loop-token : goal.decreases-loop-token
decreases-loop-token l = length l.rest
