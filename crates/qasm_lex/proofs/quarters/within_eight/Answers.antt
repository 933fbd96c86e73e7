use Rattle.std.proofs.Common.{◌≡◌, ◌∙◌, sym, ap, rules, pos, ◌+ℤ◌, ◌*ℤ◌, unsigned_abs, to_z, of_z}
use Rattle.std.specs.Int.{w128, int_rem_euclid}
use Rattle.qasm_lex.proofs.QuarterLemmas.{modulo_eight, modulo_eight_natural}
use Rattle.qasm_lex.proofs.quarters.within_eight.Goals as goal

pub returns-clause-found : goal.returns-clause-found
returns-clause-found c =
    let e : to_z w128 (of_z w128 c.rem_euclid.result) ≡ int_rem_euclid c.args.turns (pos 8) = search rules in
    let m = modulo_eight c.args.turns in
    let n = ap (λ z. pos (unsigned_abs z)) e ∙ modulo_eight_natural c.args.turns in
    (m.0, m.1 ∙ ap (λ z. z +ℤ (m.0 *ℤ pos 8)) (sym n))
