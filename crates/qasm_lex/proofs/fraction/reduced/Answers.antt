use Rattle.std.proofs.Common.{◌≡◌, ◌∙◌, sym, ap, subst, pos, ◌≤ℤ◌, ℤ, unsigned_abs, int_div, to_z, of_z}
use Rattle.std.specs.Int.{w128}
use Rattle.qasm_lex.specs.Fractions.{Ratio, greatest_divisor, lowest, fraction, narrowed}
use Rattle.qasm_lex.proofs.FractionLemmas.{lowest_positive, lowest_coprime, divided_is, common_is}
use Rattle.qasm_lex.proofs.fraction.reduced.Goals as goal

num_is : (c : goal.After-divided-2) → to_z w128 (of_z w128 c.divided.result) ≡ int_div c.args.num (pos (greatest_divisor (unsigned_abs c.args.num) (unsigned_abs c.args.den)))
num_is c = divided_is _ c.args.num c.common-common.result _ (record { sfits = c.divided.type_inv }) c.ranges.num (record { sfits = c.common-common.type_inv }) c.divided.ensures (common_is c.common-common.result c.args.num c.args.den c.ranges.num c.ranges.den c.common-common.ensures.value)

den_is : (c : goal.After-divided-2) → to_z w128 (of_z w128 c.divided-2.result) ≡ int_div c.args.den (pos (greatest_divisor (unsigned_abs c.args.num) (unsigned_abs c.args.den)))
den_is c = divided_is _ c.args.den c.common-common.result _ (record { sfits = c.divided-2.type_inv }) c.ranges.den (record { sfits = c.common-common.type_inv }) c.divided-2.ensures (common_is c.common-common.result c.args.num c.args.den c.ranges.num c.ranges.den c.common-common.ensures.value)

pub narrowed-requires-clause-positive : goal.narrowed-requires-clause-positive
narrowed-requires-clause-positive c = subst (λ z. pos 1 ≤ℤ z) (sym (den_is c)) (lowest_positive c.args.num c.args.den c.requires)

pub narrowed-requires-clause-lowest : goal.narrowed-requires-clause-lowest
narrowed-requires-clause-lowest c =
    subst (λ x. greatest_divisor (unsigned_abs x) (unsigned_abs (to_z w128 (of_z w128 c.divided-2.result))) ≡ 1) (sym (num_is c))
    (subst (λ y. greatest_divisor (unsigned_abs (int_div c.args.num (pos (greatest_divisor (unsigned_abs c.args.num) (unsigned_abs c.args.den))))) (unsigned_abs y) ≡ 1) (sym (den_is c))
    (lowest_coprime c.args.num c.args.den c.requires))

of_parts : ℤ → ℤ → Ratio
of_parts n d = record { num = n; den = d }

pub returns : goal.returns
unfolding fraction lowest of_parts
returns c =
    let n = divided_is _ c.args.num c.common-common.result _ (record { sfits = c.divided.type_inv }) c.ranges.num (record { sfits = c.common-common.type_inv }) c.divided.ensures (common_is c.common-common.result c.args.num c.args.den c.ranges.num c.ranges.den c.common-common.ensures.value) in
    let d = divided_is _ c.args.den c.common-common.result _ (record { sfits = c.divided-2.type_inv }) c.ranges.den (record { sfits = c.common-common.type_inv }) c.divided-2.ensures (common_is c.common-common.result c.args.num c.args.den c.ranges.num c.ranges.den c.common-common.ensures.value) in
    c.narrowed.ensures
    ∙ ap (λ z. narrowed (of_parts z (to_z w128 (of_z w128 c.divided-2.result)))) n
    ∙ ap (λ z. narrowed (of_parts (int_div c.args.num (pos (greatest_divisor (unsigned_abs c.args.num) (unsigned_abs c.args.den)))) z)) d
