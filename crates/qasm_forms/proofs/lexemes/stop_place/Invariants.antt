use Rattle.std.proofs.Common.{◌≡◌, ◌+◌, length}
use Rattle.qasm_forms.proofs.Tokens.{stop_place}
use Rattle.qasm_forms.proofs.lexemes.stop_place.Given as goal

abbrev pub invariant-loop-token : goal.invariant-loop-token
invariant-loop-token l = record { place : stop_place l.stop l.fn.tokens ≡ l.place + stop_place l.stop l.rest; within : l.place + length l.rest ≡ length l.fn.tokens }

abbrev pub decreases-loop-token : goal.decreases-loop-token
decreases-loop-token l = length l.rest
