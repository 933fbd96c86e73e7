use Rattle.std.proofs.Common.{false, length, drop, ap, sym, ◌∙◌, arith}
use Rattle.std.proofs.lemmas.List.{length-set, get_or-drop}
use Rattle.slice_quad.proofs.Walking.{ext_bits}
use Rattle.equivalence.proofs.Places.{zeros_long, column_long, next_bit}
use Rattle.equivalence.proofs.positions.column_of.Goals as goal

pub loop-i-init : goal.loop-i-init
loop-i-init c = record {
  long = zeros_long c.args.qubits c.zeros-column.result c.zeros-column.ensures;
  same = λ j lt. absurd (omega (arith, lt));
}

pub loop-i-preserved : goal.loop-i-preserved
loop-i-preserved c = record {
  long = ap length c.set.ensures ∙ length-set c.loop-i.column c.loop-i.i c.get.result ∙ c.loop-i.invariant.long;
  same = next_bit c.args.x.now c.args.qubits c.loop-i.column c.set.new.self c.loop-i.i c.get.result (omega (arith, c.loop-i-test.true, c.loop-i.invariant.long)) c.get.ensures c.set.ensures c.loop-i.invariant.same;
}

pub returns : goal.returns
returns c =
    let n = c.args.qubits in
    let x = c.args.x.now in
    let long = column_long n x c.requires.len in
    ext_bits c.loop-i.column (drop n x) (c.loop-i.invariant.long ∙ sym long) (λ j lt.
    c.loop-i.invariant.same j (omega (arith, lt, c.loop-i.invariant.long, c.loop-i-test.false)) ∙ sym (get_or-drop n x j false))
