-- Gates place by place.
use Rattle.std.proofs.Common.{◌≡◌, ◌∙◌, ap, ◌<◌, ℕ, suc, ◌+◌, List, [], ◌∷◌, ◌++◌, length, map, get_or, All, arith}
use Rattle.std.specs.List.{flat_map}
use Rattle.std.proofs.lemmas.List.{append-nil, length-map}
use Rattle.std.proofs.Math.ListN.{get_or-map}
use Rattle.std.proofs.lemmas.List.Elements.{All-get_or}
use Rattle.std.proofs.lemmas.Grind.{flat_map-append}
use Rattle.gate_set.specs.declared.gate.Gate.{Gate}
use Rattle.qasm_reader.specs.declared.registers.Target.{Target as Place}
use Rattle.qasm_gates.specs.Gates.{Item, up_to, placed}
use Rattle.qasm_reader.specs.Acts.{Target, qubit_at, qubits_at}
use Rattle.qasm_reader.specs.Private.Seen.{seen_target, seen_targets}
pub use Rattle.qasm_gates.proofs.Placed.{replicate_next}

-- the gates of the places below a number
abbrev pub product_up_to : List Item → List Target → ℕ → List Gate
product_up_to items ts n = flat_map (λ place. map (placed (qubits_at ts place)) items) (up_to n)

-- those of one more place
pub product_next : (items : List Item) (ts : List Target) (place next : ℕ) → next ≡ place + 1
    → product_up_to items ts next ≡ product_up_to items ts place ++ map (placed (qubits_at ts place)) items
product_next items ts place next e =
    let s : next ≡ suc place = omega arith in
    ap (product_up_to items ts) s
    ∙ flat_map-append (λ place. map (placed (qubits_at ts place)) items) (up_to place) (place ∷ [])
    ∙ ap (λ r. product_up_to items ts place ++ r) (append-nil _)

-- each qubit of a gate is small
pub small_at : (ts : List Place) (place i : ℕ) (d : Place) → i < length ts → All (λ q. q < 64) (qubits_at (seen_targets ts) place) → qubit_at place (seen_target (get_or ts i d)) < 64
small_at ts place i d h a =
    let l : i < length (qubits_at (seen_targets ts) place) = let e = length-map (seen_targets ts) (qubit_at place) in let m = length-map ts seen_target in omega arith in
    let e : get_or (qubits_at (seen_targets ts) place) i (qubit_at place (seen_target d)) ≡ qubit_at place (seen_target (get_or ts i d)) =
    get_or-map (qubit_at place) (seen_targets ts) i (seen_target d) ∙ ap (qubit_at place) (get_or-map seen_target ts i d) in
    let b : get_or (qubits_at (seen_targets ts) place) i (qubit_at place (seen_target d)) < 64 =
    All-get_or (λ q. q < 64) (qubits_at (seen_targets ts) place) i (qubit_at place (seen_target d)) l a in
    omega arith
