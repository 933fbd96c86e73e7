use Rattle.std.proofs.Common.{rules, ℕ, sym, subst}
use Rattle.gate_set.specs.declared.gate.Gate.{Gate}
use Rattle.gate_set.specs.Shape.{IsOn}
use Rattle.calls.proofs.vectors.apply_all.Goals as goal

pub refused_at-at-requires : goal.refused_at-at-requires
refused_at-at-requires c =
    let gate : Gate = c.gate-item.result in
    let on : IsOn c.args.circuit.now.qubits gate = search rules in
    subst (λ (n : ℕ). IsOn n gate) (sym c.gates.invariant) on
