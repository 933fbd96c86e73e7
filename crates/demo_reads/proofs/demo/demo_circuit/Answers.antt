use Rattle.std.proofs.Common.{◌≡◌, ◌≤◌, length, subst, sym, ◌∙◌}
use Rattle.qasm_reader.specs.Reading.{ReadsAs, circuit}
use Rattle.demo_text.specs.Generator.{demo_text}
use Rattle.demo_reads.specs.Drawn.{drawn_circuit}
use Rattle.demo_reads.proofs.Says.{same_circuit, not_refused}
use Rattle.demo_reads.proofs.Shortness.{demo_short}
use Rattle.demo_reads.proofs.Whole.{demo_is_read}
use Rattle.demo_reads.proofs.demo.demo_circuit.Goals as goal

pub read-requires-clause-short : goal.read-requires-clause-short
read-requires-clause-short c =
    let is : c.as_slice.result.now ≡ demo_text c.args.qubits c.args.gates c.args.seed = c.as_slice.ensures.value ∙ c.in_ok-text.ensures in
    subst (λ t. length t ≤ 16777216) (sym is) (demo_short c.args.qubits c.args.gates c.args.seed c.requires.some c.requires.qubits c.requires.gates)

pub returns-in-Ok-clause-drawn : goal.returns-in-Ok-clause-drawn
returns-in-Ok-clause-drawn c =
    let is : c.as_slice.result.now ≡ demo_text c.args.qubits c.args.gates c.args.seed = c.as_slice.ensures.value ∙ c.in_ok-text.ensures in
    let whole = drawn_circuit c.args.qubits c.args.gates c.args.seed in
    let reads : ReadsAs c.as_slice.result.now 64 (circuit whole) = subst (λ t. ReadsAs t 64 (circuit whole)) (sym is) (demo_is_read c.args.qubits c.args.gates c.args.seed c.requires.some c.requires.qubits c.requires.gates) in
    same_circuit whole c.in-Ok.circuit (c.in-Ok.ensures.only (circuit whole) reads)

pub returns-in-Ok-clause-reads : goal.returns-in-Ok-clause-reads
returns-in-Ok-clause-reads c =
    let is : c.as_slice.result.now ≡ demo_text c.args.qubits c.args.gates c.args.seed = c.as_slice.ensures.value ∙ c.in_ok-text.ensures in
    subst (λ t. ReadsAs t 64 (circuit c.in-Ok.circuit)) is c.in-Ok.ensures.circuit

pub unreachable-requires : goal.unreachable-requires
unreachable-requires c =
    let is : c.as_slice.result.now ≡ demo_text c.args.qubits c.args.gates c.args.seed = c.as_slice.ensures.value ∙ c.in_ok-text.ensures in
    let whole = drawn_circuit c.args.qubits c.args.gates c.args.seed in
    let reads : ReadsAs c.as_slice.result.now 64 (circuit whole) = subst (λ t. ReadsAs t 64 (circuit whole)) (sym is) (demo_is_read c.args.qubits c.args.gates c.args.seed c.requires.some c.requires.qubits c.requires.gates) in
    not_refused c.in-Err-Refused.field-0 c.in-Err-Refused.field-0-0 whole c.in-Err-Refused.field-0-is (c.in-Err-Refused.ensures.only (circuit whole) reads)
