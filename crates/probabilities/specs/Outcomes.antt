-- Outcomes of a measurement: a bit for each measured qubit, in the order of the qubits.
use Rattle.std.specs.Prelude.{ℕ, pos, Bool, true, false, not, ◌||◌, ◌&&◌, List, [], ◌∷◌, map, count_by, Option, Some, None}
use Rattle.std.specs.List.{list_any}
use Rattle.std.specs.Ordering.{int_eq}
use Rattle.ring_omega.specs.declared.quad.Quad.{Quad}
use Rattle.ring_omega.specs.declared.weight.Weight.{Weight}
use Rattle.probabilities.specs.Weighing.{weight_at}

-- a qubit counts as measured where it is, or where none is
abbrev pub counted : List Bool → List Bool
counted measured = map (λ b. b || not (list_any (λ c. c) measured)) measured

-- how many qubits are measured
abbrev pub measured_count : List Bool → ℕ
measured_count measured = count_by (λ b. b) measured

-- the measured qubits have the bits of the outcome, and the others are free
abbrev pub fixed_to : List Bool → List Bool → List (Option Bool)
fixed_to (true ∷ measured) (b ∷ y) = Some b ∷ fixed_to measured y
fixed_to (false ∷ measured) y = None ∷ fixed_to measured y
fixed_to _ _ = []

-- the weight of the states with the outcome y
abbrev pub outcome_weight : List Bool → (List Bool → Quad) → List Bool → Weight
outcome_weight measured v y = weight_at v (fixed_to measured y)

-- whether both parts are zero
abbrev pub is_zero_weight : Weight → Bool
is_zero_weight w = int_eq w.a (pos 0) && int_eq w.b (pos 0)

-- the bits of the measured qubits of a state
abbrev pub measured_bits : List Bool → List Bool → List Bool
measured_bits (true ∷ measured) (b ∷ x) = b ∷ measured_bits measured x
measured_bits (false ∷ measured) (b ∷ x) = measured_bits measured x
measured_bits _ _ = []
