-- The work functions of a gate are those of the step that it is.
use Rattle.std.proofs.Common.{◌≡◌, ℕ, ◌+◌, ◌-◌, ◌^◌, ◌≤◌, Bool, true, false, cond, List, ◌∷◌, map, take, refl, sym, ap, arith}
use Rattle.std.proofs.Math.Path.{ap₂}
use mathlib.Core.Path.{fun_ext}
use Rattle.std.specs.Prelude.{◌==◌}
use Rattle.diagram_model.specs.Functions.{Function}
use Rattle.gate_set.specs.declared.entry.Entry.{Entry}
use Rattle.gate_set.specs.declared.gate.Gate.{Gate}
use Rattle.gate_set.specs.declared.kind.Kind.{Kind}
use Rattle.gate_set.specs.declared.kind.Kind.TheVariants.{Id, X, Y, Z, H, S, Sdg, T, Tdg, RxP, RxM, RyP, RyM, Cx, Cz, Swap, Ccx, Cswap, Phase}
use Rattle.gate_set.specs.Matrix.{arity_of, half_power_of}
use Rattle.gate_set.specs.Shape.{qubits_of, arity_with}
use Rattle.slice_quad.specs.Exchange.{Exchange, exchange_work}
use Rattle.slice_quad.specs.Fours.{true_places}
use Rattle.slice_quad.specs.Mix.{Mix, Vector, Coordinates}
use Rattle.slice_quad.specs.Bits.{bits_of}
use Rattle.slice_quad.specs.Stepping.{mix_with, exchange_with, step_functions, work_functions}
use Rattle.slice_quad.specs.Work.{mix_functions}
use Rattle.slice_gates.specs.declared.side.Side.{Side}
use Rattle.slice_gates.specs.Sides.{place_on, entry_on}
use Rattle.slice_gates.specs.Stepped.{exchanges, controls_for, target_for, rows_of, mix_for, pair_for, step_for}
use Rattle.slice_gates.specs.GateWork.{controls_on, variable_on, last_entry, mix_on, exchange_on, functions_on}
use Rattle.slice_gates.proofs.Rising.{rising}

-- some qubit is the target, and the last two rows are the last two
pub record HasRows (k : Kind) : Type 0 where
  pub some : 1 ≤ arity_of k
  pub last : 2 ^ arity_of k - 2 + 2 ≡ 2 ^ arity_of k

pub rows_of_kind : (k : Kind) → HasRows k
rows_of_kind Id = record { some = omega arith; last = refl }
rows_of_kind X = record { some = omega arith; last = refl }
rows_of_kind Y = record { some = omega arith; last = refl }
rows_of_kind Z = record { some = omega arith; last = refl }
rows_of_kind H = record { some = omega arith; last = refl }
rows_of_kind S = record { some = omega arith; last = refl }
rows_of_kind Sdg = record { some = omega arith; last = refl }
rows_of_kind T = record { some = omega arith; last = refl }
rows_of_kind Tdg = record { some = omega arith; last = refl }
rows_of_kind RxP = record { some = omega arith; last = refl }
rows_of_kind RxM = record { some = omega arith; last = refl }
rows_of_kind RyP = record { some = omega arith; last = refl }
rows_of_kind RyM = record { some = omega arith; last = refl }
rows_of_kind Cx = record { some = omega arith; last = refl }
rows_of_kind Cz = record { some = omega arith; last = refl }
rows_of_kind Swap = record { some = omega arith; last = refl }
rows_of_kind Ccx = record { some = omega arith; last = refl }
rows_of_kind Cswap = record { some = omega arith; last = refl }
rows_of_kind (Phase j) = record { some = omega arith; last = refl }

module _ (n : ℕ) (side : Side) (g : Gate) where
  -- the matrix of the step
  abbrev own : Mix
  own = mix_with (target_for n side g).controls (target_for n side g).target (rows_of (target_for n side g)) (half_power_of g.kind)

  before_last : 2 ^ arity_of g.kind - 2 + 0 ≡ 2 ^ arity_of g.kind - 2
  before_last = omega arith

  last : 2 ^ arity_of g.kind - 2 + 1 ≡ 2 ^ arity_of g.kind - 1
  last = let h = (rows_of_kind g.kind).last in omega (arith, h)

  entry_same : (row col : Bool) → last_entry side g.kind row col ≡ own.rows row col
  entry_same true true = ap₂ (entry_on side g.kind) last last
  entry_same true false = ap₂ (entry_on side g.kind) last before_last
  entry_same false true = ap₂ (entry_on side g.kind) before_last last
  entry_same false false = ap₂ (entry_on side g.kind) before_last before_last

  -- the controls of the step
  abbrev pub places : ℕ → List ℕ
  places k = true_places 0 (controls_for n (take (arity_with g - k) (map (place_on side) (qubits_of g))))

  pub controls_same : (k : ℕ) → controls_on n side g k ≡ places k
  controls_same k = rising n (take (arity_with g - k) (map (place_on side) (qubits_of g)))

  mix_same : mix_on n side g ≡ own
  mix_same =
      let M : List ℕ → (Bool → Bool → Entry) → Mix = λ controls rows. record { controls = controls; target = variable_on side g 1; rows = rows; rooted = half_power_of g.kind == 1 } in
      ap₂ M (controls_same 1) (fun_ext (λ row. fun_ext (λ col. entry_same row col)))

  exchange_same : exchange_on n side g ≡ exchange_with (controls_for n (take (arity_with g - 2) (map (place_on side) (qubits_of g)))) (variable_on side g 2) (variable_on side g 1)
  exchange_same =
      let E : List ℕ → Exchange = λ controls. record { controls = controls; first = variable_on side g 2; second = variable_on side g 1 } in
      ap E (controls_same 2)

  pub functions_same : (w : ℕ) (q : Coordinates) → functions_on n side g w q ≡ step_functions w (step_for n side g) q
  unfolding step_functions
  functions_same w q = by (exchanges g.kind)
    where
      by : (b : Bool) → cond b (exchange_work w (exchange_on n side g) q) (mix_functions w (mix_on n side g) q) ≡ step_functions w (cond b (pair_for n side g) (mix_for n side g)) q
      by true = ap (λ (e : Exchange). exchange_work w e q) exchange_same
      by false = ap (λ (m : Mix). mix_functions w m q) mix_same

  -- beside a kept function
  pub work_gate : (w : ℕ) (kept : Function) (v : Vector) → work_functions w kept (step_for n side g) v ≡ kept ∷ functions_on n side g w (bits_of v)
  unfolding work_functions
  work_gate w kept v = ap (λ (fs : List Function). kept ∷ fs) (sym (functions_same w (bits_of v)))
