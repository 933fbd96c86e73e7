use Rattle.std.proofs.Common.{◌≡◌, ◌∙◌, sym, ap, subst, rules, true, ◌<◌, length}
use Rattle.qasm_reader.specs.Acts.{qubit_at}
use Rattle.qasm_reader.specs.Private.Seen.{seen_target, seen_find, seen_both}
use Rattle.qasm_reader.specs.Private.Scope.{find, both_found}
use Rattle.qasm_reader.specs.Private.Drafts.{Draft}
use Rattle.qasm_reader.proofs.Calling.{found_below}
use Rattle.qasm_reader.proofs.draft.Draft.measure.Goals as goal

pub raise-requires : goal.raise-requires
raise-requires c place h =
    let long : length c.deref_mut.result.now ≡ c.args.self.now.qubits = search rules in
    subst (λ n. qubit_at place (seen_target c.in-Ok.source) < n) (sym long)
    (found_below c.args.self.now c.requires c.args.from.now (seen_find c.find-sink.result) (seen_target c.in-Ok.source, seen_target c.in-Ok.sink)
    (ap (λ (d : Draft). both_found (find d.registers true c.args.from.now) (seen_find c.find-sink.result)) (sym c.self.view_is)
    ∙ ap (λ r. both_found r (seen_find c.find-sink.result)) (sym c.find-source.ensures) ∙ sym c.both.ensures ∙ ap seen_both c.in-Ok.is) place h)
