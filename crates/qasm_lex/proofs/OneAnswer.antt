-- An angle has one answer.
use Rattle.std.proofs.Common.{◌≡◌, ◌∙◌, sym, ap, List, [], Result, Ok, arith}
use Rattle.qasm_lex.specs.declared.symbol.Symbol.{Symbol}
use Rattle.qasm_lex.specs.declared.refusal.AngleRefusal.{AngleRefusal}
use Rattle.qasm_lex.specs.Fractions.{Ratio}
use Rattle.qasm_lex.specs.Expressions.{Tree}
use Rattle.qasm_lex.specs.declared.value.Value.{Value}
use Rattle.qasm_lex.specs.Values.{Outcome, multiple_of}
use Rattle.qasm_lex.specs.Angles.{IsShape, too_long, malformed, expression, value_in, IsOutcome, IsAnswer}
use Rattle.qasm_lex.proofs.Whole.{unambiguous}

-- symbols have one shape
pub one_shape : (s : List Symbol) (a b : Result Tree AngleRefusal) → IsShape s a → IsShape s b → a ≡ b
one_shape s a b (too_long l e) (too_long m f) = e ∙ sym f
one_shape s a b (too_long l e) (malformed m n f) = absurd (omega arith)
one_shape s a b (too_long l e) (expression m t x f) = absurd (omega arith)
one_shape s a b (malformed l n e) (too_long m f) = absurd (omega arith)
one_shape s a b (malformed l n e) (malformed m o f) = e ∙ sym f
one_shape s a b (malformed l n e) (expression m t x f) = absurd (n t x)
one_shape s a b (expression l t x e) (too_long m f) = absurd (omega arith)
one_shape s a b (expression l t x e) (malformed m n f) = absurd (n t x)
one_shape s a b (expression l t x e) (expression m u y f) = e ∙ ap Ok (unambiguous t u x.formed y.formed (sym x.spelled ∙ y.spelled)) ∙ sym f

-- one value or refusal, where the parameters have these values
pub one_outcome : (given : List Value) (symbols : List Symbol) (a b : Outcome) → IsOutcome given symbols a → IsOutcome given symbols b → a ≡ b
one_outcome given symbols a b p q = p.value ∙ ap (value_in given) (one_shape symbols p.shape q.shape p.is_shape q.is_shape) ∙ sym q.value

-- and one answer
pub one_answer : (symbols : List Symbol) (a b : Result Ratio AngleRefusal) → IsAnswer symbols a → IsAnswer symbols b → a ≡ b
one_answer symbols a b p q = p.multiple ∙ ap multiple_of (one_outcome [] symbols p.outcome q.outcome p.is_outcome q.is_outcome) ∙ sym q.multiple
