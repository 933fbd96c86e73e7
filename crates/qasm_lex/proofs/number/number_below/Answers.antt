use Rattle.std.proofs.Common.{◌≡◌, ◌∙◌, ap, rules, ◌≤◌, ◌<◌, ◌+◌, ◌-◌, ◌*◌, ◌^◌, ◌∷◌, length}
use Rattle.qasm_lex.specs.Symbols.{decimal}
use Rattle.qasm_lex.proofs.NumberLemmas.{decimal_next, decimal_end, great_already, none_below, some_below}
use Rattle.qasm_lex.proofs.number.number_below.Goals as goal

pub returns-then-value-below : goal.returns-then-value-below
returns-then-value-below c =
    let h : c.args.bound ≤ c.loop-digit.value = search rules in
    record {
      value = none_below (decimal c.args.digits.now) c.args.bound (great_already c.loop-digit.value _ (length c.loop-digit.rest.now) _ c.args.bound h c.loop-digit.invariant.are);
      within = tt;
    }

pub loop-digit-preserved : goal.loop-digit-preserved
loop-digit-preserved c =
    let e : c.loop-digit.rest.now ≡ c.in-Some.digit.now ∷ c.in-Some.after.now = search rules in
    let v : c.digit_of.result ≡ c.in-Some.digit.now - 48 = search rules in
    record {
      are = ap (λ x. (c.loop-digit.value * 10 + x) * 10 ^ length c.in-Some.after.now + decimal c.in-Some.after.now) v
          ∙ decimal_next c.loop-digit.value _ c.in-Some.digit.now c.loop-digit.rest.now c.in-Some.after.now e c.loop-digit.invariant.are;
      small = search rules;
    }

pub returns-then-value-below-2-clause-value : goal.returns-then-value-below-2-clause-value
returns-then-value-below-2-clause-value c =
    let none : length c.loop-digit.rest.now ≡ 0 = search rules in
    let h : c.loop-digit.value < c.args.bound = search rules in
    some_below c.loop-digit.value (decimal c.args.digits.now) c.args.bound (decimal_end _ _ c.loop-digit.rest.now none c.loop-digit.invariant.are) h
