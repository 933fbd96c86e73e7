-- A circuit with one gate more, and its inverse, are circuits.
use Rattle.std.proofs.Common.{◌≡◌, ℕ, zero, suc, ◌+◌, ◌-◌, ◌<◌, set, take, drop, List, [], ◌∷◌, ◌++◌, length, map, get_or, All, sym, ◌∙◌, ap, subst, arith, length-append, reverse}
use Rattle.std.proofs.lemmas.List.{length-map, length-reverse, get_or-reverse}
use Rattle.std.proofs.lemmas.List.Elements.{All-append, All-cons, All-nil, All-map}
use Rattle.gate_set.specs.declared.gate.Gate.{Gate}
use Rattle.gate_set.specs.Shape.{IsOn}
use Rattle.gate_set.specs.Circuits.{IsCircuit, Circuit, inverse_gate, inverse_gates}
use Rattle.gate_set.proofs.MatrixLemmas.{IsOn-inverse}

-- one gate more
pub IsCircuit-pushed : (c : Circuit) (g : Gate) → IsCircuit c → length c.gates < 1000000 → IsOn c.qubits g → IsCircuit (record c { gates = c.gates ++ g ∷ [] })
IsCircuit-pushed c g sound few on = record {
  few_qubits = sound.few_qubits;
  few_gates = omega (arith, length-append c.gates (g ∷ []));
  within = All-append (IsOn c.qubits) c.gates (g ∷ []) sound.within (All-cons (IsOn c.qubits) g [] on (All-nil (IsOn c.qubits)));
  flags = sound.flags;
}

All-reverse : {X : Type 0} (P : X → Type 0) (xs : List X) → All P xs → All P (reverse xs)
All-reverse P xs h k d lt =
    let long : length (reverse xs) ≡ length xs = length-reverse xs in
    subst P (sym (get_or-reverse xs k d (omega arith))) (h (length xs - 1 - k) d (omega arith))

-- the inverse gates are on the same qubits
pub IsCircuit-inverse : (c : Circuit) → IsCircuit c → IsCircuit (record c { gates = inverse_gates c.gates })
IsCircuit-inverse c sound = record {
  few_qubits = sound.few_qubits;
  few_gates = omega (arith, length-reverse (map inverse_gate c.gates), length-map c.gates inverse_gate, sound.few_gates);
  within = All-reverse (IsOn c.qubits) (map inverse_gate c.gates) (All-map (IsOn c.qubits) inverse_gate c.gates (λ k d lt. IsOn-inverse c.qubits _ (sound.within k d lt)));
  flags = sound.flags;
}

-- one gate more of those at the front is inverted
front_inverted : (gates : List Gate) (i : ℕ) (g d : Gate) → i < length gates → g ≡ inverse_gate (get_or (map inverse_gate (take i gates) ++ drop i gates) i d)
    → set (map inverse_gate (take i gates) ++ drop i gates) i g ≡ map inverse_gate (take (suc i) gates) ++ drop (suc i) gates
front_inverted [] i g d lt e = absurd (omega arith)
front_inverted (x ∷ gates) zero g d lt e = ap (λ h. h ∷ gates) e
front_inverted (x ∷ gates) (suc i) g d lt e = ap (λ rest. inverse_gate x ∷ rest) (front_inverted gates i g d (omega arith) e)

pub one_more_inverted : (gates now : List Gate) (i : ℕ) (g d : Gate) → i < length gates → now ≡ map inverse_gate (take i gates) ++ drop i gates → g ≡ inverse_gate (get_or now i d)
    → set now i g ≡ map inverse_gate (take (i + 1) gates) ++ drop (i + 1) gates
one_more_inverted gates now i g d lt before e =
    let next : suc i ≡ i + 1 = omega arith in
    ap (λ l. set l i g) before ∙ front_inverted gates i g d lt (e ∙ ap (λ l. inverse_gate (get_or l i d)) before)
    ∙ ap (λ k. map inverse_gate (take k gates) ++ drop k gates) next
