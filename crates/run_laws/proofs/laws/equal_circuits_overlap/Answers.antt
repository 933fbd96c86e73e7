use Rattle.std.proofs.Common.{◌≡◌, ◌∙◌, ℕ, List, pos, codes, All, refl, sym, ap, subst, arith}
use Rattle.std.specs.Fmt.{digits}
use Rattle.ring_omega.specs.declared.weight.Weight.{Weight}
use Rattle.ring_omega.specs.Weights.{weight}
use Rattle.gate_set.specs.Shape.{IsOn}
use Rattle.amp_printer.specs.Texts.{weight_line, fidelity_text}
use Rattle.fidelity.proofs.Equals.{fidelity_of_equals}
use Rattle.qasm_reader.proofs.Sound.{read_is_circuit}
use Rattle.causes.specs.declared.cause.Cause.TheVariants.{Done}
use Rattle.sliq_engine.specs.Steps.{Output}
use Rattle.run_laws.proofs.CommandLaws.{fidelity_written}
use Rattle.run_laws.proofs.laws.equal_circuits_overlap.Goals as goal

-- the line of the fidelity 1
whole_line : fidelity_text (weight (pos 1) (pos 0)) 0 ≡ codes "fidelity (1,0)/2^0\n"
unfolding fidelity_text weight_line digits
whole_line = refl

pub returns : goal.returns
returns c rules one two u v output first second same came =
    let written = fidelity_written rules one two u v first second output came in
    let on_us : All (IsOn u.qubits) u.gates = (read_is_circuit one 64 u (omega arith) first).within in
    let on_vs : All (IsOn u.qubits) v.gates = subst (λ n. All (IsOn n) v.gates) (sym written.0) (read_is_circuit two 64 v (omega arith) second).within in
    let line = ap (λ (f : Weight × ℕ). fidelity_text f.0 f.1) (fidelity_of_equals u.qubits u.gates v.gates on_us on_vs same) ∙ whole_line in
    written.1 ∙ ap (λ (b : List ℕ). let o : Output = record { cause = Done; bytes = b } in o) line
