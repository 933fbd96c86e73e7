use Rattle.std.proofs.Common.{◌+◌, ◌<◌, arith}
use Rattle.equivalence.proofs.Places.{fixed_none, fixed_more}
use Rattle.equivalence.proofs.positions.fixed_at.Goals as goal

pub loop-i-init : goal.loop-i-init
loop-i-init c = record { fixed = fixed_none c.args.qubits c.args.x.now c.free-p.result c.free-p.ensures }

pub loop-i-preserved : goal.loop-i-preserved
loop-i-preserved c =
    let within : c.loop-i.i < c.args.qubits + c.args.qubits = omega (arith, c.loop-i-test.true, c.requires.within) in
    record {
      fixed = fixed_more c.args.qubits c.args.x.now c.loop-i.i c.variable_at.result c.get.result c.loop-i.p c.fix.new.self c.loop-i.invariant.fixed within c.variable_at.ensures.value c.get.ensures c.fix.ensures;
    }
