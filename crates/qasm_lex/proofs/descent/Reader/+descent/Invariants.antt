use Rattle.std.proofs.Common.{◌≡◌, ◌<◌, ◌+◌, ◌*◌, length}
use Rattle.qasm_lex.specs.Angles.{given_by}
use Rattle.qasm_lex.specs.Private.Descent.{expr, term, terms, factors, parsed}
use Rattle.qasm_lex.proofs.descent.Reader.+descent.Given as goal

abbrev pub decreases-atom : goal.decreases-atom
decreases-atom l = 8 * length l.self.now.rest.now + 1

abbrev pub decreases-expression : goal.decreases-expression
decreases-expression l = 8 * length l.self.now.rest.now + 7

abbrev pub decreases-factor : goal.decreases-factor
decreases-factor l = 8 * length l.self.now.rest.now + 3

abbrev pub decreases-power : goal.decreases-power
decreases-power l = 8 * length l.self.now.rest.now + 2

abbrev pub decreases-term : goal.decreases-term
decreases-term l = 8 * length l.self.now.rest.now + 5

-- what is left goes on to what the whole gives
abbrev pub invariant-expression-loop-first : goal.invariant-expression-loop-first
invariant-expression-loop-first l = record { goes : parsed (given_by l.bound) expr l.fn.self.rest.now ≡ parsed (given_by l.bound) (terms l.value) l.self.rest.now; shorter : length l.self.rest.now < length l.fn.self.rest.now }

abbrev pub decreases-expression-loop-first : goal.decreases-expression-loop-first
decreases-expression-loop-first l = length l.self.rest.now

abbrev pub invariant-term-loop-first : goal.invariant-term-loop-first
invariant-term-loop-first l = record { goes : parsed (given_by l.bound) term l.fn.self.rest.now ≡ parsed (given_by l.bound) (factors l.value) l.self.rest.now; shorter : length l.self.rest.now < length l.fn.self.rest.now }

abbrev pub decreases-term-loop-first : goal.decreases-term-loop-first
decreases-term-loop-first l = length l.self.rest.now
