use Rattle.std.proofs.Common.{◌≡◌, sym, subst, rules, pos, ◌*ℤ◌, ◌≤ℤ◌, to_z, of_z}
use Rattle.std.specs.Int.{w128}
use Rattle.qasm_lex.proofs.FractionLemmas.{product_positive}
use Rattle.qasm_lex.proofs.fraction.denominator.Goals as goal

pub returns-clause-positive : goal.returns-clause-positive
returns-clause-positive c =
    let e : to_z w128 (of_z w128 c.product.result) ≡ c.args.x *ℤ c.args.y = search rules in
    subst (λ z. pos 1 ≤ℤ z) (sym e) (product_positive c.args.x c.args.y c.requires.some.0 c.requires.some.1)
