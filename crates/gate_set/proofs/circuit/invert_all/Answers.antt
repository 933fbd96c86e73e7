use Rattle.gate_set.proofs.circuit.invert_all.Goals as goal
use Rattle.gate_set.proofs.CircuitLemmas.{one_more_inverted}

pub loop-gate-preserved : goal.loop-gate-preserved
loop-gate-preserved c = one_more_inverted _ _ _ _ c.gate-item.result c.loop-gate-test.true c.loop-gate.invariant c.invert.ensures.value
