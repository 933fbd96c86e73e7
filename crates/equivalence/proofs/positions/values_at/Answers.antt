use Rattle.std.proofs.Common.{◌+◌, ◌<◌, length, ap, ◌∙◌, arith}
use Rattle.std.proofs.lemmas.List.{length-set}
use Rattle.equivalence.proofs.Places.{turned_as, zeros_long, one_more}
use Rattle.equivalence.proofs.positions.values_at.Goals as goal

pub loop-i-init : goal.loop-i-init
loop-i-init c = record {
  long = zeros_long (c.args.qubits + c.args.qubits) c.zeros-values.result c.zeros-values.ensures;
  same = λ j lt. absurd (omega (arith, lt));
}

pub loop-i-preserved : goal.loop-i-preserved
loop-i-preserved c =
    let within : c.loop-i.i < c.args.qubits + c.args.qubits = omega (arith, c.loop-i-test.true) in
    record {
      long = ap length c.set.ensures ∙ length-set c.loop-i.values c.variable_at.result c.get.result ∙ c.loop-i.invariant.long;
      same = one_more c.args.qubits c.args.x.now c.loop-i.values c.set.new.self c.loop-i.i c.variable_at.result c.get.result within c.loop-i.invariant.long c.variable_at.ensures.value c.get.ensures c.set.ensures c.loop-i.invariant.same;
    }

pub returns : goal.returns
returns c =
    turned_as c.args.qubits c.args.x.now c.loop-i.values c.requires.len c.loop-i.invariant.long (λ i lt. c.loop-i.invariant.same i (omega (arith, lt, c.loop-i-test.false)))
