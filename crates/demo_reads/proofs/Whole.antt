-- The statements of the text of `demo`, and its reading.
use Rattle.std.proofs.Common.{◌≤◌, ℕ}
use Rattle.qasm_reader.specs.declared.reason.Why.{Why}
use Rattle.qasm_reader.specs.Reading.{ReadsAs, circuit, refusal}
use Rattle.qasm_reader.proofs.OneReading.{one_reading}
use Rattle.demo_text.specs.Generator.{demo_text}
use Rattle.demo_reads.specs.Drawn.{drawn_circuit}
use Rattle.demo_reads.proofs.Acting.{demo_statements, HasStatements}
use Rattle.demo_reads.proofs.Spelled.{lexemes}
use Rattle.demo_reads.proofs.Pieces.{demo_pieces}
use Rattle.demo_reads.proofs.Lines.{demo_has}
use Rattle.demo_reads.proofs.Parting.{demo_parts}
use Rattle.demo_reads.proofs.Reading.{demo_reads}
use Rattle.demo_reads.proofs.Says.{apart}

-- the statements of the text
demo_states : (q n seed : ℕ) → 1 ≤ q → q ≤ 64 → HasStatements (demo_text q n seed) (demo_statements q n seed)
demo_states q n seed some le = record { lexemes = lexemes (demo_pieces q n seed); are_lexemes = demo_has q n seed some le; are_parts = demo_parts q n seed }

-- the text reads as the circuit of its calls
pub demo_is_read : (q n seed : ℕ) → 1 ≤ q → q ≤ 64 → n ≤ 500000 → ReadsAs (demo_text q n seed) 64 (circuit (drawn_circuit q n seed))
demo_is_read q n seed some le few = demo_reads q n seed some le few (demo_states q n seed some le)

-- and no reading of it is a refusal
pub demo_unrefused : (q n seed : ℕ) → 1 ≤ q → q ≤ 64 → n ≤ 500000 → (number : ℕ) (why : Why) → ReadsAs (demo_text q n seed) 64 (refusal number why) → ⊥
demo_unrefused q n seed some le few number why refused =
    let whole = drawn_circuit q n seed in
    apart whole number why (one_reading (demo_text q n seed) 64 (circuit whole) (refusal number why) (demo_is_read q n seed some le few) refused)
