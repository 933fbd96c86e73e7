use Rattle.std.proofs.Common.{rules, ◌≡◌, ◌∙◌, ◌<◌, ◌+◌, ◌++◌, sym, ap, refl, subst, map, append_assoc}
use Rattle.qasm_lex.specs.Angles.{given_by}
use Rattle.qasm_gates.specs.Gates.{placed}
use Rattle.qasm_gates.specs.Private.Proper.{AreQubits, done_in}
use Rattle.qasm_gates.specs.Private.Views.{callee_gate}
use Rattle.qasm_reader.specs.Acts.{place_count, qubits_at}
use Rattle.qasm_reader.specs.Private.Seen.{seen_targets}
use Rattle.qasm_reader.proofs.Applied.{product_up_to, product_next}
use Rattle.qasm_reader.proofs.apply.apply.Goals as goal

pub qubits_at-qubits-requires-clause-small : goal.qubits_at-qubits-requires-clause-small
qubits_at-qubits-requires-clause-small c =
    let h : c.loop-place.place < place_count (seen_targets c.args.targets.now) = search rules in
    (c.requires.placed c.loop-place.place h).small

pub expand-requires-clause-qubits : goal.expand-requires-clause-qubits
expand-requires-clause-qubits c =
    let h : c.loop-place.place < place_count (seen_targets c.args.targets.now) = search rules in
    subst (AreQubits (callee_gate c.args.known.now c.args.callee).arity) (sym (c.as_slice.ensures.value ∙ c.qubits_at-qubits.ensures)) (c.requires.placed c.loop-place.place h)

pub loop-place-preserved : goal.loop-place-preserved
loop-place-preserved c =
    let ts = seen_targets c.args.targets.now in
    let place = c.loop-place.place in
    let items = done_in ((callee_gate c.args.known.now c.args.callee).means (given_by c.args.bound.now)) in
    let e : c.expand.new.gates.items ≡ c.loop-place.gates.items ++ map (placed c.as_slice.result.now) items = search rules in
    e ∙ ap (λ qs. c.loop-place.gates.items ++ map (placed qs) items) (c.as_slice.ensures.value ∙ c.qubits_at-qubits.ensures)
    ∙ ap (λ g. g ++ map (placed (qubits_at ts place)) items) c.loop-place.invariant
    ∙ append_assoc c.args.gates.now.items (product_up_to items ts place) (map (placed (qubits_at ts place)) items)
    ∙ ap (λ r. c.args.gates.now.items ++ r) (sym (product_next items ts place (place + 1) refl))
