use Rattle.std.proofs.Common.{◌≡◌, ◌∙◌, ap, ◌+ℤ◌, ◌*ℤ◌, FitsSigned, rules, to_z, of_z}
use Rattle.std.specs.Int.{w128}
use Rattle.std.proofs.lemmas.Int.{to_z-of_z}
use Rattle.qasm_lex.proofs.fraction.sum_numerator.Goals as goal

pub returns : goal.returns
returns c =
    let p = c.product.result in
    let q = c.product-2.result in
    let e : to_z w128 (of_z w128 p) ≡ c.args.x.num *ℤ c.args.y.den = search rules in
    let f : to_z w128 (of_z w128 q) ≡ c.args.y.num *ℤ c.args.x.den = search rules in
    let fits : FitsSigned w128 (to_z w128 (of_z w128 p) +ℤ to_z w128 (of_z w128 q)) = search rules in
    to_z-of_z w128 _ fits ∙ ap (λ z. z +ℤ to_z w128 (of_z w128 q)) e ∙ ap (λ z. (c.args.x.num *ℤ c.args.y.den) +ℤ z) f
