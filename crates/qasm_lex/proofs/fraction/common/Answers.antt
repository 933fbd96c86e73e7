use Rattle.std.proofs.Common.{◌≡◌, ◌∙◌, sym, ap, rules, ◌<◌, ◌^◌, pos, unsigned_abs, arith}
use Rattle.std.specs.Int.{w128}
use Rattle.std.proofs.lemmas.Int.{to_z_pos, to_z-of_z, ints}
use Rattle.qasm_lex.specs.Fractions.{greatest_divisor}
use Rattle.qasm_lex.proofs.Divisors.{greatest_divisor-is, greatest_divisor-some, greatest_divisor-within}
use Rattle.qasm_lex.proofs.FractionLemmas.{positive_abs, abs_below}
use Rattle.qasm_lex.proofs.fraction.common.Goals as goal

found : (c : goal.After-gcd) → c.gcd.result ≡ greatest_divisor (unsigned_abs c.args.num) (unsigned_abs c.args.den)
found c =
    let n : c.unsigned_abs.result ≡ unsigned_abs c.args.num = c.unsigned_abs.ensures.value ∙ ap unsigned_abs (to_z-of_z w128 c.args.num c.ranges.num) in
    let d : c.unsigned_abs-2.result ≡ unsigned_abs c.args.den = c.unsigned_abs-2.ensures.value ∙ ap unsigned_abs (to_z-of_z w128 c.args.den c.ranges.den) in
    let p = positive_abs c.args.den c.requires in
    sym (greatest_divisor-is _ _ _ (omega arith) c.gcd.ensures) ∙ ap (λ a. greatest_divisor a c.unsigned_abs-2.result) n ∙ ap (λ b. greatest_divisor (unsigned_abs c.args.num) b) d

small : (c : goal.After-gcd) → c.gcd.result < 2 ^ 127
small c =
    let e = found c in
    let w = greatest_divisor-within (unsigned_abs c.args.num) (unsigned_abs c.args.den) (positive_abs c.args.den c.requires) in
    let d = abs_below c.args.den c.requires c.ranges.den in
    omega arith

pub overflow_cast-result : goal.overflow_cast-result
overflow_cast-result c = let s = small c in search rules

pub returns-clause-value : goal.returns-clause-value
returns-clause-value c = to_z_pos w128 c.gcd.result (small c) ∙ ap pos (found c)

pub returns-clause-positive : goal.returns-clause-positive
returns-clause-positive c =
    let e = found c in
    let s = greatest_divisor-some (unsigned_abs c.args.num) (unsigned_abs c.args.den) (positive_abs c.args.den c.requires) in
    let l = small c in
    let z = to_z_pos w128 c.gcd.result l in
    omega (arith, ints)
