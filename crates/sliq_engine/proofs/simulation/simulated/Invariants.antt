use Rattle.std.proofs.Common.{take, Ok}
use Rattle.amp_dense.specs.Standing.{Walks, begun}
use Rattle.sliq_engine.proofs.simulation.simulated.Given as goal

-- the gates so far were accepted
abbrev pub invariant-gates : goal.invariant-gates
invariant-gates g l = Walks g.A.Amplitudes.policy (begun l.input l.rules) (take l.gate-index l.circuit.gates) (Ok (g.A.Amplitudes.standing l.state))
