use Rattle.std.proofs.Common.{◌<◌, sym, subst, length}
use Rattle.gate_set.specs.Shape.{IsOn}
use Rattle.gate_set.specs.Circuits.{Circuit}
use Rattle.gate_set.proofs.circuit.Circuit.push.Goals as goal
use Rattle.gate_set.proofs.CircuitLemmas.{IsCircuit-pushed}

pub invariant_of-self-2 : goal.invariant_of-self-2
invariant_of-self-2 c =
    let few = subst (λ (v : Circuit). length v.gates < 1000000) (sym c.self.view_is) c.requires.few in
    let on = subst (λ (v : Circuit). IsOn v.qubits c.args.g) (sym c.self.view_is) c.requires.within in
    rw c.in_ok-push.ensures.items (IsCircuit-pushed _ c.args.g c.self.invariant few on)

pub returns-clause-sound : goal.returns-clause-sound
returns-clause-sound c =
    let few = subst (λ (v : Circuit). length v.gates < 1000000) (sym c.self.view_is) c.requires.few in
    let on = subst (λ (v : Circuit). IsOn v.qubits c.args.g) (sym c.self.view_is) c.requires.within in
    rw c.in_ok-push.ensures.items (IsCircuit-pushed _ c.args.g c.self.invariant few on)
