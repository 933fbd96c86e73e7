-- The step that a gate is, whatever the side and the vector.
use Rattle.std.proofs.Common.{◌≡◌, ℕ, zero, suc, ◌+◌, ◌-◌, ◌^◌, ◌<◌, ◌≤◌, Bool, true, false, List, [], ◌∷◌, length-append, All, length, get_or, map, replicate, set, inl, inr, refl, ◌∙◌, ap, subst, arith}
use Rattle.std.proofs.lemmas.Bool.{cases_Bool}
use Rattle.std.proofs.lemmas.List.{length-map}
use Rattle.std.proofs.lemmas.List.Elements.{All-map}
use Rattle.gate_set.specs.declared.entry.Entry.{Entry}
use Rattle.gate_set.specs.declared.gate.Gate.{Gate}
use Rattle.gate_set.specs.declared.kind.Kind.{Kind}
use Rattle.gate_set.specs.Matrix.{arity_of, half_power_of, IsPower, IsKind}
use Rattle.gate_set.specs.Shape.{IsPlaced, qubits_of}
use Rattle.gate_set.proofs.MatrixLemmas.{IsPower-entry_of}
use Rattle.diagram_model.specs.Functions.{Assignment}
use Rattle.slice_quad.specs.declared.kind.Step.{Step}
use Rattle.slice_gates.specs.declared.side.Side.{Side}
use Rattle.slice_gates.specs.declared.side.Side.TheVariants.{State, Rows, Columns}
use Rattle.slice_gates.specs.Shown.{first_values, AgreeBelow}
use Rattle.slice_gates.specs.Sides.{place_on, entry_on}
use Rattle.slice_gates.specs.Stepped.{exchanges, HaveControls, IsStepOf, step_for}
use Rattle.slice_gates.proofs.Controls.{controls_begin, controls_more}
use Rattle.slice_gates.proofs.GateWorks.{rows_of_kind}
use Rattle.slice_gates.proofs.Made.{IsEntryAt, HasEntries, target_made, exchange_made, step_made}

-- ---- the step
-- each entry is one of the kind's, on columns that of the transposed matrix
entry_power : (side : Side) (k : Kind) (row col : ℕ) → IsKind k → IsPower (entry_on side k row col)
entry_power State k row col h = IsPower-entry_of k row col h
entry_power Rows k row col h = IsPower-entry_of k row col h
entry_power Columns k row col h = IsPower-entry_of k col row h

-- the controls up to a number of qubits
abbrev Controls : ℕ → List ℕ → ℕ → Type 0
Controls n l i = (cs : List Bool) × HaveControls n l i cs

controls_to : (n : ℕ) (l : List ℕ) → All (λ q. q < n) l → (i : ℕ) → i ≤ length l → Controls n l i
controls_to n l below zero le = (replicate n false, controls_begin n l)
controls_to n l below (suc i) le =
    let before = controls_to n l below i (omega (arith, le)) in
    (set before.0 (get_or l i 0) true, subst (λ j. HaveControls n l j (set before.0 (get_or l i 0) true)) (let e : i + 1 ≡ suc i = omega arith in e) (controls_more n l i before.0 below (omega (arith, le)) before.1))

module _ (n : ℕ) (side : Side) (g : Gate) (placed : IsPlaced g.kind g.extra g.on) (within : All (λ q. place_on side q < n) (qubits_of g)) where
  abbrev l : List ℕ
  l = map (place_on side) (qubits_of g)

  abbrev a : ℕ
  a = arity_of g.kind

  abbrev e : ℕ → ℕ → Entry
  e row col = entry_on side g.kind row col

  below : All (λ q. q < n) l
  below = All-map (λ q. q < n) (place_on side) (qubits_of g) within

  count : length l ≡ length g.extra + a
  count = length-map (qubits_of g) (place_on side) ∙ length-append g.extra g.on ∙ ap (λ k. length g.extra + k) placed.count

  controls : (i : ℕ) → i ≤ a → Controls n l (length g.extra + i)
  controls i le = controls_to n l below (length g.extra + i) (omega (arith, le, count))

  entry_at : (row col : ℕ) → IsEntryAt side g.kind row col (e row col)
  entry_at row col = record { value = refl; power = entry_power side g.kind row col placed.power }

  mixed_is : exchanges g.kind ≡ false → IsStepOf n side g (step_for n side g)
  mixed_is one =
      let rows = rows_of_kind g.kind in
      let r = 2 ^ a - 2 in
      let c = controls (a - 1) (omega arith) in
      let entries : HasEntries side g.kind r (e r r) (e r (r + 1)) (e (r + 1) r) (e (r + 1) (r + 1)) =
      record { low_low = entry_at r r; low_high = entry_at r (r + 1); high_low = entry_at (r + 1) r; high_high = entry_at (r + 1) (r + 1) } in
      let is = target_made n side g g.extra g.on a r (half_power_of g.kind) c.0 (e r r) (e r (r + 1)) (e (r + 1) r) (e (r + 1) (r + 1)) placed within one refl refl refl rows.some rows.last refl c.1 entries in
      let matrix : List (List Entry) = (e r r ∷ e r (r + 1) ∷ []) ∷ (e (r + 1) r ∷ e (r + 1) (r + 1) ∷ []) ∷ [] in
      let made = step_made n side g c.0 (place_on side (get_or g.on (a - 1) 0)) matrix (half_power_of g.kind) one refl is refl in
      subst (λ (s : Step). IsStepOf n side g s) made.value made

  crossed_is : exchanges g.kind ≡ true → IsStepOf n side g (step_for n side g)
  crossed_is two =
      let c = controls (a - 2) (omega arith) in
      let made = exchange_made n side g g.extra g.on a c.0 placed within two refl refl refl c.1 in
      subst (λ (s : Step). IsStepOf n side g s) made.value made

  pub step_is : IsStepOf n side g (step_for n side g)
  step_is = elim (cases_Bool (exchanges g.kind)) [ inl two ↦ crossed_is two | inr one ↦ mixed_is one ]

-- ---- the values of variables
pub values_agree : (n : ℕ) (x y : Assignment) → AgreeBelow n x y → first_values n x ≡ first_values n y
unfolding first_values
values_agree zero x y same = refl
values_agree (suc n) x y same =
    ap (λ (b : Bool). b ∷ first_values n (λ i. x (suc i))) (same 0 (omega arith))
    ∙ ap (λ (r : List Bool). y 0 ∷ r) (values_agree n (λ i. x (suc i)) (λ i. y (suc i)) (λ i less. same (suc i) (omega (arith, less))))
