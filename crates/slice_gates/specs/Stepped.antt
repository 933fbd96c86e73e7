-- Which step a gate is.
use Rattle.std.specs.Prelude.{◌≡◌, ◌<◌, ℕ, ◌-◌, ◌^◌, ◌==◌, Bool, true, false, cond, List, [], ◌∷◌, length, map, take, set, get_or, replicate, fold}
use Rattle.diagram_model.specs.Functions.{Assignment, bit}
use Rattle.gate_set.specs.declared.entry.Entry.{Entry}
use Rattle.gate_set.specs.declared.gate.Gate.{Gate}
use Rattle.gate_set.specs.declared.kind.Kind.{Kind}
use Rattle.gate_set.specs.declared.kind.Kind.TheVariants.{Swap, Cswap}
use Rattle.gate_set.specs.Matrix.{half_power_of, arity_of}
use Rattle.gate_set.specs.Shape.{qubits_of, arity_with}
use Rattle.slice_quad.specs.declared.gate.Target.{Target}
use Rattle.slice_quad.specs.declared.kind.Step.{Step}
use Rattle.slice_quad.specs.declared.kind.Step.TheVariants as steps
use Rattle.slice_quad.specs.Mix.{Vector, all_true, mixed}
use Rattle.slice_quad.specs.Raws.{AreReduced}
use Rattle.slice_quad.specs.Fours.{true_places, mix_of}
use Rattle.slice_quad.specs.Stepping.{stepped, half_of, IsStepOn}
use Rattle.slice_gates.specs.declared.side.Side.{Side}
use Rattle.slice_gates.specs.Sides.{place_on, entry_on, gate_on}

-- whether a kind exchanges two qubits
abbrev pub exchanges : Kind → Bool
exchanges Swap = true
exchanges Cswap = true
exchanges _ = false

-- n variables, of which these are controls
unfoldable pub controls_for : ℕ → List ℕ → List Bool
controls_for n on = fold (λ cs q. set cs q true) (replicate n false) on

-- ---- which step a gate is, on n variables
-- its last qubit is the target, with the last two rows of the kind's matrix, and the others, further controls among them, are controls
abbrev pub target_for : ℕ → Side → Gate → Target
target_for n side g = record {
  controls = controls_for n (take (arity_with g - 1) (map (place_on side) (qubits_of g)));
  target = get_or (map (place_on side) (qubits_of g)) (arity_with g - 1) 0;
  low_low = entry_on side g.kind (2 ^ arity_of g.kind - 2) (2 ^ arity_of g.kind - 2);
  low_high = entry_on side g.kind (2 ^ arity_of g.kind - 2) (2 ^ arity_of g.kind - 1);
  high_low = entry_on side g.kind (2 ^ arity_of g.kind - 1) (2 ^ arity_of g.kind - 2);
  high_high = entry_on side g.kind (2 ^ arity_of g.kind - 1) (2 ^ arity_of g.kind - 1);
  rooted = half_power_of g.kind == 1;
}

-- the rows of a target's matrix
abbrev pub rows_of : Target → List (List Entry)
rows_of t = (t.low_low ∷ t.low_high ∷ []) ∷ (t.high_low ∷ t.high_high ∷ []) ∷ []

abbrev pub mix_for : ℕ → Side → Gate → Step
mix_for n side g = steps.Mix (target_for n side g).controls (target_for n side g).target (rows_of (target_for n side g)) (half_power_of g.kind)

-- its last two qubits are exchanged, and the others are controls
abbrev pub pair_for : ℕ → Side → Gate → Step
pair_for n side g =
    steps.Exchange (controls_for n (take (arity_with g - 2) (map (place_on side) (qubits_of g))))
    (get_or (map (place_on side) (qubits_of g)) (arity_with g - 2) 0) (get_or (map (place_on side) (qubits_of g)) (arity_with g - 1) 0)

abbrev pub step_for : ℕ → Side → Gate → Step
step_for n side g = cond (exchanges g.kind) (pair_for n side g) (mix_for n side g)

-- the controls, of n variables, are the first i of these
pub record HaveControls (n : ℕ) (on : List ℕ) (i : ℕ) (controls : List Bool) : Type 0 where
  pub value : controls ≡ controls_for n (take i on)
  pub long : length controls ≡ n
  pub same : (x : Assignment) → all_true (true_places 0 controls) x ≡ all_true (take i on) x

-- on n variables, the gate's matrix is that of the target
pub record IsTargetOf (n : ℕ) (side : Side) (g : Gate) (t : Target) : Type 0 where
  pub value : t ≡ target_for n side g
  pub long : length t.controls ≡ n
  pub reduced : AreReduced t
  pub below : t.target < n
  pub applied_is : (v : Vector) (x : List Bool) → length x ≡ n → gate_on side g (λ y. v (bit y)) x ≡ mixed (mix_of t) v (bit x)

-- on n variables, the gate's matrix is that of the step
pub record IsStepOf (n : ℕ) (side : Side) (g : Gate) (s : Step) : Type 0 where
  pub value : s ≡ step_for n side g
  pub within : IsStepOn n s
  pub half : half_of s ≡ half_power_of g.kind
  pub applied_is : (v : Vector) (x : List Bool) → length x ≡ n → gate_on side g (λ y. v (bit y)) x ≡ stepped s v (bit x)
