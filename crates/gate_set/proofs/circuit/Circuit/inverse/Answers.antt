use Rattle.std.proofs.Common.{◌≡◌, arith}
use Rattle.std.proofs.lemmas.Grind.{common_steps}
use Rattle.gate_set.specs.Circuits.{inverse_gates}
use Rattle.gate_set.proofs.circuit.Circuit.inverse.Goals as goal
use Rattle.gate_set.proofs.CircuitLemmas.{IsCircuit-inverse}

pub invariant_of-result : goal.invariant_of-result
invariant_of-result c =
    let undone : c.reverse.new.self.items ≡ inverse_gates c.self.inside.gates.items = grind (arith, common_steps) in
    rw undone (IsCircuit-inverse _ c.self.invariant)

pub returns-clause-sound : goal.returns-clause-sound
returns-clause-sound c =
    let undone : c.reverse.new.self.items ≡ inverse_gates c.self.inside.gates.items = grind (arith, common_steps) in
    rw undone (IsCircuit-inverse _ c.self.invariant)
