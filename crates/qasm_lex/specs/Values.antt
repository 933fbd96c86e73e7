-- The values of angles, u + v·π with fractions u and v, and the refusal that is met first.
use Rattle.std.specs.Prelude.{cond, nat_le, unsigned_abs, List, get_or, Option, Some, None, Result, Ok, Err, ℤ, pos}
use Rattle.qasm_lex.specs.declared.value.Value.{Value}
use Rattle.qasm_lex.specs.declared.refusal.AngleRefusal.{AngleRefusal}
use Rattle.qasm_lex.specs.declared.refusal.AngleRefusal.TheVariants.{NotExact, ZeroDivisor, TooWide}
use Rattle.qasm_lex.specs.Fractions.{Ratio, most, whole_ratio, is_zero, negative_ratio, reciprocal, ratio_sum, ratio_product}
use Rattle.qasm_lex.specs.Expressions.{Algebra}

-- a value, or the refusal that was met first
abbrev pub Outcome : Type 0
Outcome = Result Value AngleRefusal

-- go on with a value
abbrev pub then : Outcome → (Value → Outcome) → Outcome
then (Ok x) f = f x
then (Err e) f = Err e

-- the left operand first, then the right one, then the operation
abbrev pub both : (Value → Value → Outcome) → Outcome → Outcome → Outcome
both f x y = then x (λ a. then y (λ b. f a b))

-- u + v·π, or the refusal of either part
abbrev pub value_of : Result Ratio AngleRefusal → Result Ratio AngleRefusal → Outcome
value_of (Ok u) (Ok v) = Ok (record { u = u; v = v })
value_of (Ok u) (Err e) = Err e
value_of (Err e) v = Err e

-- a whole number
abbrev pub whole_value : ℤ → Value
whole_value n = record { u = whole_ratio n; v = whole_ratio (pos 0) }

-- π
abbrev pub pi_value : Value
pi_value = record { u = whole_ratio (pos 0); v = whole_ratio (pos 1) }

-- its negative
abbrev pub negative_value : Value → Value
negative_value x = record { u = negative_ratio x.u; v = negative_ratio x.v }

-- the sum, part by part
unfoldable pub value_sum : Value → Value → Outcome
value_sum x y = value_of (ratio_sum x.u y.u) (ratio_sum x.v y.v)

-- the sum with the negative
unfoldable pub value_difference : Value → Value → Outcome
value_difference x y = value_sum x (negative_value y)

-- a value times a fraction
unfoldable pub scaled : Value → Ratio → Outcome
scaled x q = value_of (ratio_product x.u q) (ratio_product x.v q)

-- a product where one of the two has no π, so that none has π twice
unfoldable pub value_product : Value → Value → Outcome
value_product x y = cond (is_zero y.v) (scaled x y.u) (cond (is_zero x.v) (scaled y x.u) (Err NotExact))

-- a quotient by a fraction that isn't 0
unfoldable pub value_quotient : Value → Value → Outcome
value_quotient x y = cond (is_zero y.v) (cond (is_zero y.u) (Err ZeroDivisor) (scaled x (reciprocal y.u))) (Err NotExact)

-- a whole number of a size of at most 2^63 - 1; None is a number that is more
abbrev pub number_of : Option ℤ → Outcome
number_of None = Err TooWide
number_of (Some n) = cond (nat_le (unsigned_abs n) most) (Ok (whole_value n)) (Err TooWide)

-- what expressions stand for, where the parameters have these values: functions, powers and decimal numbers are never exact, but their
-- operands are refused first
abbrev pub values : List Value → Algebra Outcome
values given = record {
  of_whole = number_of;
  of_real = Err NotExact;
  of_pi = Ok pi_value;
  of_param = λ n. Ok (get_or given n (whole_value (pos 0)));
  sum = both value_sum;
  difference = both value_difference;
  product = both value_product;
  quotient = both value_quotient;
  negative = λ x. then x (λ a. Ok (negative_value a));
  power = both (λ _ _. Err NotExact);
  call = λ x. then x (λ _. Err NotExact);
  grouped = λ x. x;
}

-- the multiple of π that a value is
abbrev pub multiple_of : Outcome → Result Ratio AngleRefusal
multiple_of (Ok x) = cond (is_zero x.u) (Ok x.v) (Err NotExact)
multiple_of (Err e) = Err e
