use Rattle.std.proofs.Common.{◌≡◌, List, Bool, true, false, cond, ◌++◌, length, get_or, sym, ◌∙◌, ap}
use Rattle.std.proofs.Math.Path.{ap₂}
use Rattle.ring_omega.specs.Ring.{zero_quad}
use Rattle.bit_lists.specs.Lists.{all_lists}
use Rattle.gate_set.specs.Matrix.{beside, times_entry}
use Rattle.circuit_model.specs.Product.{sum_over}
use Rattle.circuit_model.specs.Vector.{at, all_set}
use Rattle.dense_matrix.specs.Sides.{own, part}
use Rattle.dense_matrix.proofs.Terms.{own_at, step-parts}
use Rattle.dense_matrix.proofs.step.entry_after.Goals as goal

pub returns-then-all_set : goal.returns-then-all_set
returns-then-all_set c = λ r d lr ld er ed.
    let side = c.args.side in
    let g = c.args.gate.now in
    let state = c.args.state.now in
    let bits = own side r d in
    let (lo, at') = own_at side c.args.qubits r d c.args.row c.args.column lr ld er ed in
    let on = ap (all_set bits) c.extra.ensures.extra in
    let is : all_set bits g.extra ≡ true = sym on ∙ c.all_set.ensures bits lo (at' ∙ sym c.own-here.ensures) ∙ c.if-all_set.true in
    c.block_after.ensures r d lr ld er ed
    ∙ sym (step-parts side g state r d c.extra.ensures.sound.count
    ∙ ap (λ b. cond b (sum_over (all_lists (length g.on)) (part side g state r d)) (times_entry (beside g.kind) (at state (r ++ d)))) is)

pub returns : goal.returns
returns c = λ r d lr ld er ed.
    let side = c.args.side in
    let g = c.args.gate.now in
    let state = c.args.state.now in
    let bits = own side r d in
    let (lo, at') = own_at side c.args.qubits r d c.args.row c.args.column lr ld er ed in
    let on = ap (all_set bits) c.extra.ensures.extra in
    let is : all_set bits g.extra ≡ false = sym on ∙ c.all_set.ensures bits lo (at' ∙ sym c.own-here.ensures) ∙ c.if-all_set.false in
    c.entry_times.ensures
    ∙ ap₂ times_entry c.beside.ensures.value (ap (λ p. get_or state p zero_quad) (sym (c.joined_place-place.ensures.value r d lr ld er ed)))
    ∙ sym (step-parts side g state r d c.extra.ensures.sound.count
    ∙ ap (λ b. cond b (sum_over (all_lists (length g.on)) (part side g state r d)) (times_entry (beside g.kind) (at state (r ++ d)))) is)
