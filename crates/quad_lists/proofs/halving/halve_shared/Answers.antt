use Rattle.std.proofs.Common.{sym, ◌∙◌, ap, map, arith}
use Rattle.bit_lists.specs.Lists.{all_lists}
use Rattle.circuit_model.specs.Working.{Scaled, half_quad}
use Rattle.quad_lists.proofs.halving.halve_shared.Goals as goal
use Rattle.quad_lists.proofs.HalvingLemmas.{map-halved, even_list, halved_once, halved_small, halved_odd}

pub loop-exponent-preserved : goal.loop-exponent-preserved
loop-exponent-preserved c = λ n v e.
    let (u, now, same) = c.loop-exponent.invariant n v e in
    let even = sym (even_list n u c.loop-exponent.entries now) ∙ sym c.all_even.ensures ∙ c.if-all_even.true in
    (λ x. half_quad (u x), c.halve_all.ensures ∙ ap (map half_quad) now ∙ map-halved u (all_lists n), halved_once n u c.loop-exponent.exponent (omega arith) even ∙ same)

pub returns-else-all_even-clause-entries : goal.returns-else-all_even-clause-entries
returns-else-all_even-clause-entries c = λ n v e.
    let (u, now, same) = c.loop-exponent.invariant n v e in
    let odd = sym (even_list n u c.loop-exponent.entries now) ∙ sym c.all_even.ensures ∙ c.if-all_even.false in
    now ∙ ap (λ (w : Scaled). map w.entries (all_lists n)) (sym (halved_odd n u c.loop-exponent.exponent odd) ∙ same)

pub returns-else-all_even-clause-exponent : goal.returns-else-all_even-clause-exponent
returns-else-all_even-clause-exponent c = λ n v e.
    let (u, now, same) = c.loop-exponent.invariant n v e in
    let odd = sym (even_list n u c.loop-exponent.entries now) ∙ sym c.all_even.ensures ∙ c.if-all_even.false in
    ap (λ (w : Scaled). w.exponent) (sym (halved_odd n u c.loop-exponent.exponent odd) ∙ same)

pub returns-after-loop-exponent-clause-entries : goal.returns-after-loop-exponent-clause-entries
returns-after-loop-exponent-clause-entries c = λ n v e.
    let (u, now, same) = c.loop-exponent.invariant n v e in
    now ∙ ap (λ (w : Scaled). map w.entries (all_lists n)) (sym (halved_small n u c.loop-exponent.exponent (omega arith)) ∙ same)

pub returns-after-loop-exponent-clause-exponent : goal.returns-after-loop-exponent-clause-exponent
returns-after-loop-exponent-clause-exponent c = λ n v e.
    let (u, now, same) = c.loop-exponent.invariant n v e in
    ap (λ (w : Scaled). w.exponent) (sym (halved_small n u c.loop-exponent.exponent (omega arith)) ∙ same)
