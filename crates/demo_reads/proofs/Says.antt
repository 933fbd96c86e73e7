-- What a reading says of a result.
use Rattle.std.proofs.Common.{◌≡◌, ℕ, Err, sym}
use Rattle.gate_set.specs.Circuits.{Circuit}
use Rattle.qasm_reader.specs.declared.reason.Why.{Why}
use Rattle.qasm_reader.specs.declared.reason.Refusal.{Refusal}
use Rattle.qasm_reader.specs.declared.reason.ReadStop.{ReadStop}
use Rattle.qasm_reader.specs.declared.reason.ReadStop.TheVariants.{Refused, OutOfMemory}
use Rattle.qasm_reader.specs.Reading.{Says, circuit, refusal}

-- two readings as circuits are of one circuit
pub same_circuit : (a b : Circuit) → circuit a ≡ circuit b → b ≡ a
same_circuit a b e = let same : a ≡ b = cc in sym same

-- a refusal is no circuit
pub not_refused : (e : ReadStop) (r : Refusal) (c : Circuit) → e ≡ Refused r → Says (Err e) (circuit c) → ⊥
not_refused (Refused s) r c is says = absurd (cc)
not_refused OutOfMemory r c is says = absurd (cc)

-- a circuit is no refusal
pub apart : (c : Circuit) (number : ℕ) (why : Why) → circuit c ≡ refusal number why → ⊥
apart c number why e = absurd (cc)
