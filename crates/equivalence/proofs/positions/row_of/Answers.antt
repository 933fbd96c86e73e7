use Rattle.std.proofs.Common.{◌≡◌, ℕ, ◌+◌, ◌<◌, false, length, take, ap, sym, ◌∙◌, arith}
use Rattle.std.proofs.lemmas.List.{length-set, get_or-take}
use Rattle.diagram_model.specs.Functions.{bit}
use Rattle.slice_quad.proofs.Walking.{ext_bits}
use Rattle.equivalence.proofs.Places.{zeros_long, row_long, next_bit}
use Rattle.equivalence.proofs.positions.row_of.Goals as goal

pub loop-i-init : goal.loop-i-init
loop-i-init c = record {
  long = zeros_long c.args.qubits c.zeros-row.result c.zeros-row.ensures;
  same = λ j lt. absurd (omega (arith, lt));
}

pub loop-i-preserved : goal.loop-i-preserved
loop-i-preserved c =
    let x = c.args.x.now in
    let i = c.loop-i.i in
    let none : (j : ℕ) → 0 + j ≡ j = λ j. omega arith in
    let more = next_bit x 0 c.loop-i.row c.set.new.self i c.get.result (omega (arith, c.loop-i-test.true, c.loop-i.invariant.long)) (c.get.ensures ∙ ap (bit x) (sym (none i))) c.set.ensures
    (λ j lt. c.loop-i.invariant.same j lt ∙ ap (bit x) (sym (none j))) in
    record {
      long = ap length c.set.ensures ∙ length-set c.loop-i.row i c.get.result ∙ c.loop-i.invariant.long;
      same = λ j lt. more j lt ∙ ap (bit x) (none j);
    }

pub returns : goal.returns
returns c =
    let n = c.args.qubits in
    let x = c.args.x.now in
    let long = row_long n x c.requires.len in
    ext_bits c.loop-i.row (take n x) (c.loop-i.invariant.long ∙ sym long) (λ j lt.
    let under : j < n = omega (arith, lt, c.loop-i.invariant.long) in
    c.loop-i.invariant.same j (omega (arith, under, c.loop-i-test.false)) ∙ sym (get_or-take n x j false under))
