use Rattle.std.proofs.Common.{◌≡◌, ◌++◌, ◌∙◌, ap, length}
use Rattle.amp_dense.specs.Standing.{vector}
use Rattle.amp_printer.specs.declared.counted.Counted.TheVariants.{Qubits, Gates}
use Rattle.amp_printer.specs.Texts.{count_line}
use Rattle.outputs.proofs.SummaryLemmas.{summary_wrote}
use Rattle.outputs.proofs.summary.summary.Goals as goal

pub returns : goal.returns
returns g c =
    let s = g.A.Amplitudes.standing c.args.state.now in
    let gates : c.put_count-2.new.text.items ≡ c.put_count.new.text.items ++ count_line Gates (length s.gates) =
    c.in_ok-put_count-2.ensures ∙ ap (λ n. c.put_count.new.text.items ++ count_line Gates n) c.accepted.ensures.value in
    summary_wrote c.args.qubits (length s.gates) c.exponent.result c.in_ok-seen.seen.states (vector s) c.in_ok-seen.seen.first c.in_ok-seen.seen.last
    c.put_count.new.text.items c.put_count-2.new.text.items c.put_count-3.new.text.items c.put_count-4.new.text.items c.put_state.new.text.items c.put_state-2.new.text.items
    c.exponent.ensures c.in_ok-seen.ensures.states c.in_ok-seen.ensures.first c.in_ok-seen.ensures.last
    (c.in_ok-put_count.ensures ∙ ap (λ t. t ++ count_line Qubits c.args.qubits) c.new-text.ensures.items) gates c.in_ok-put_count-3.ensures c.in_ok-put_count-4.ensures c.in_ok-put_state.ensures c.in_ok-put_state-2.ensures
