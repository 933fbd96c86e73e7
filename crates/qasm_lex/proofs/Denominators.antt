-- The denominators of values are positive, where those of parameters are.
use Rattle.std.proofs.Common.{◌≡◌, ◌∙◌, sym, ap, refl, subst, ℕ, zero, suc, Bool, true, false, cond, nat_eq, nat_le, List, [], ◌∷◌, get_or, Option, Some, None, Result, Ok, Err, arith, ℤ, pos, ◌≤ℤ◌, ◌*ℤ◌, unsigned_abs}
use Rattle.std.specs.List.{AllByRecursion}
use Rattle.std.proofs.lemmas.Int.{ints}
use Rattle.qasm_lex.specs.declared.symbol.Symbol.{Symbol}
use Rattle.qasm_lex.specs.declared.value.Value.{Value}
use Rattle.qasm_lex.specs.declared.refusal.AngleRefusal.{AngleRefusal}
use Rattle.qasm_lex.specs.declared.refusal.AngleRefusal.TheVariants.{NotExact, ZeroDivisor, TooWide}
use Rattle.qasm_lex.specs.Fractions.{Ratio, most, lowest, fraction, is_zero, is_narrow, reciprocal, ratio_sum, ratio_product}
use Rattle.qasm_lex.specs.Expressions.{Tree, whole, real, pi, param, plus, minus, times, over, opposite, raised, called, group, eval}
use Rattle.qasm_lex.specs.Values.{Outcome, values, both, then, value_of, value_sum, value_difference, value_product, value_quotient, scaled, negative_value, whole_value, number_of, multiple_of}
use Rattle.qasm_lex.specs.Angles.{value_in, IsAnswer}
use Rattle.qasm_lex.proofs.FractionLemmas.{lowest_den, product_positive}

-- a fraction that there is has a positive denominator
abbrev pub Positive : Result Ratio AngleRefusal → Type 0
Positive (Ok q) = pos 1 ≤ℤ q.den
Positive (Err e) = Unit {0}

-- a value whose two fractions have
abbrev pub IsPositive : Value → Type 0
IsPositive x = (pos 1 ≤ℤ x.u.den) × (pos 1 ≤ℤ x.v.den)

abbrev pub MayBePositive : Outcome → Type 0
MayBePositive (Ok x) = IsPositive x
MayBePositive (Err e) = Unit {0}

narrowed_positive : (q : Ratio) (t : Bool) → pos 1 ≤ℤ q.den → Positive (cond t (Ok q) (Err TooWide))
narrowed_positive q true p = p
narrowed_positive q false p = tt

fraction_positive : (n d : ℤ) → pos 1 ≤ℤ d → Positive (fraction n d)
unfolding fraction
fraction_positive n d p = narrowed_positive (lowest n d) (is_narrow (lowest n d)) (lowest_den n d p)

sum_positive : (p q : Ratio) → pos 1 ≤ℤ p.den → pos 1 ≤ℤ q.den → Positive (ratio_sum p q)
sum_positive p q a b = fraction_positive _ (p.den *ℤ q.den) (product_positive p.den q.den a b)

product_of_positive : (p q : Ratio) → pos 1 ≤ℤ p.den → pos 1 ≤ℤ q.den → Positive (ratio_product p q)
product_of_positive p q a b = fraction_positive _ (p.den *ℤ q.den) (product_positive p.den q.den a b)

value_positive : (u v : Result Ratio AngleRefusal) → Positive u → Positive v → MayBePositive (value_of u v)
value_positive (Ok u) (Ok v) a b = (a, b)
value_positive (Ok u) (Err e) a b = tt
value_positive (Err e) v a b = tt

value_sum_positive : (x y : Value) → IsPositive x → IsPositive y → MayBePositive (value_sum x y)
unfolding value_sum
value_sum_positive x y a b =
    value_positive (ratio_sum x.u y.u) (ratio_sum x.v y.v) (sum_positive x.u y.u a.0 b.0) (sum_positive x.v y.v a.1 b.1)

value_difference_positive : (x y : Value) → IsPositive x → IsPositive y → MayBePositive (value_difference x y)
unfolding value_difference
value_difference_positive x y a b = value_sum_positive x (negative_value y) a (b.0, b.1)

scaled_positive : (x : Value) (q : Ratio) → IsPositive x → pos 1 ≤ℤ q.den → MayBePositive (scaled x q)
unfolding scaled
scaled_positive x q a p =
    value_positive (ratio_product x.u q) (ratio_product x.v q) (product_of_positive x.u q a.0 p) (product_of_positive x.v q a.1 p)

-- a choice between two outcomes
choice_positive : (t : Bool) (a b : Outcome) → (t ≡ true → MayBePositive a) → (t ≡ false → MayBePositive b) → MayBePositive (cond t a b)
choice_positive true a b p q = p refl
choice_positive false a b p q = q refl

value_product_positive : (x y : Value) → IsPositive x → IsPositive y → MayBePositive (value_product x y)
unfolding value_product
value_product_positive x y a b =
    choice_positive (is_zero y.v) (scaled x y.u) _ (λ _. scaled_positive x y.u a b.0)
    (λ _. choice_positive (is_zero x.v) (scaled y x.u) (Err NotExact) (λ _. scaled_positive y x.u b a.0) (λ _. tt))

-- a divisor that isn't 0
reciprocal_positive : (q : Ratio) → is_zero q ≡ false → pos 1 ≤ℤ (reciprocal q).den
reciprocal_positive q e = above (unsigned_abs q.num) e
  where
    above : (n : ℕ) → nat_eq n 0 ≡ false → pos 1 ≤ℤ pos n
    above n e = grind (arith, ints)

value_quotient_positive : (x y : Value) → IsPositive x → IsPositive y → MayBePositive (value_quotient x y)
unfolding value_quotient
value_quotient_positive x y a b =
    choice_positive (is_zero y.v) _ (Err NotExact)
    (λ _. choice_positive (is_zero y.u) (Err ZeroDivisor) (scaled x (reciprocal y.u)) (λ _. tt) (λ e. scaled_positive x (reciprocal y.u) a (reciprocal_positive y.u e)))
    (λ _. tt)

-- an operation on two outcomes
both_positive : (f : Value → Value → Outcome) (x y : Outcome) → ((a b : Value) → IsPositive a → IsPositive b → MayBePositive (f a b)) → MayBePositive x → MayBePositive y → MayBePositive (both f x y)
both_positive f (Ok x) (Ok y) h p q = h x y p q
both_positive f (Ok x) (Err e) h p q = tt
both_positive f (Err e) y h p q = tt

whole_positive : (n : ℤ) → IsPositive (whole_value n)
whole_positive n = (omega (arith, ints), omega (arith, ints))

number_positive : (n : Option ℤ) → MayBePositive (number_of n)
number_positive None = tt
number_positive (Some n) = choice_positive (nat_le (unsigned_abs n) most) (Ok (whole_value n)) (Err TooWide) (λ _. whole_positive n) (λ _. tt)

negative_positive : (x : Outcome) → MayBePositive x → MayBePositive (then x (λ a. Ok (negative_value a)))
negative_positive (Ok x) p = (p.0, p.1)
negative_positive (Err e) p = tt

called_positive : (x : Outcome) → MayBePositive (then x (λ _. Err NotExact))
called_positive (Ok x) = tt
called_positive (Err e) = tt

-- the value of a parameter, or 0
param_positive : (given : List Value) (n : ℕ) → AllByRecursion IsPositive given → IsPositive (get_or given n (whole_value (pos 0)))
param_positive [] n a = whole_positive (pos 0)
param_positive (v ∷ given) zero a = a.0
param_positive (v ∷ given) (suc n) a = param_positive given n a.1

module _ (given : List Value) (are : AllByRecursion IsPositive given) where
  pub eval_positive : (t : Tree) → MayBePositive (eval (values given) t)
  eval_positive (whole n) = number_positive n
  eval_positive real = tt
  eval_positive pi = (omega (arith, ints), omega (arith, ints))
  eval_positive (param n) = param_positive given n are
  eval_positive (plus l r) = both_positive value_sum (eval (values given) l) (eval (values given) r) value_sum_positive (eval_positive l) (eval_positive r)
  eval_positive (minus l r) = both_positive value_difference (eval (values given) l) (eval (values given) r) value_difference_positive (eval_positive l) (eval_positive r)
  eval_positive (times l r) = both_positive value_product (eval (values given) l) (eval (values given) r) value_product_positive (eval_positive l) (eval_positive r)
  eval_positive (over l r) = both_positive value_quotient (eval (values given) l) (eval (values given) r) value_quotient_positive (eval_positive l) (eval_positive r)
  eval_positive (opposite t) = negative_positive (eval (values given) t) (eval_positive t)
  eval_positive (raised l r) = both_positive (λ _ _. Err NotExact) (eval (values given) l) (eval (values given) r) (λ a b p q. tt) (eval_positive l) (eval_positive r)
  eval_positive (called t) = called_positive (eval (values given) t)
  eval_positive (group t) = eval_positive t

pub multiple_positive : (x : Outcome) → MayBePositive x → Positive (multiple_of x)
multiple_positive (Ok x) p = by (is_zero x.u)
  where
    by : (t : Bool) → Positive (cond t (Ok x.v) (Err NotExact))
    by true = p.1
    by false = tt
multiple_positive (Err e) p = tt

-- the value of any shape
shape_positive : (shape : Result Tree AngleRefusal) → MayBePositive (value_in [] shape)
shape_positive (Ok t) = eval_positive [] tt t
shape_positive (Err e) = tt

-- so the fraction that is answered has a positive denominator
pub answer_positive : (symbols : List Symbol) (f : Ratio) → IsAnswer symbols (Ok f) → pos 1 ≤ℤ f.den
answer_positive symbols f a =
    subst Positive (sym (a.multiple ∙ ap multiple_of a.is_outcome.value)) (multiple_positive (value_in [] a.is_outcome.shape) (shape_positive a.is_outcome.shape))
