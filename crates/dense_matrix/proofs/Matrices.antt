-- The working matrix by its list of entries.
use Rattle.std.proofs.Common.{◌≡◌, ℕ, suc, ◌+◌, ◌*◌, ◌≤◌, nat_le, refl, sym, ◌∙◌, ap, subst, Bool, true, false, cond, List, [], ◌∷◌, ◌++◌, All, map, length, ◌^◌, get_or, take, drop, replicate, arith}
use Rattle.std.proofs.Math.Path.{ap₂}
use Rattle.std.proofs.lemmas.List.{length-append, length-drop, length-map, length-replicate, length-take-le}
use Rattle.ring_omega.specs.declared.quad.Quad.{Quad}
use Rattle.ring_omega.specs.Ring.{zero_quad, times_power, root_of_two}
use Rattle.bit_lists.specs.Lists.{all_lists, place_of}
use Rattle.bit_lists.proofs.Places.{place_of-zeros}
use Rattle.gate_set.specs.declared.gate.Gate.{Gate}
use Rattle.gate_set.specs.declared.kind.Kind.{Kind}
use Rattle.gate_set.specs.declared.kind.Kind.TheVariants.{Id, X, Y, Z, H, S, Sdg, T, Tdg, RxP, RxM, RyP, RyM, Cx, Cz, Swap, Ccx, Cswap, Phase}
use Rattle.gate_set.specs.Matrix.{half_power_of}
use Rattle.gate_set.specs.Shape.{IsOn}
use Rattle.gate_set.specs.Circuits.{inverse_gate}
use Rattle.circuit_model.specs.Product.{exponent}
use Rattle.circuit_model.specs.Vector.{at}
use Rattle.circuit_model.specs.Working.{Scaled, FitsWidth, QuadFits}
use Rattle.circuit_model.proofs.VectorLemmas.{map-all_lists_same, at-map}
use Rattle.circuit_model.proofs.WorkingLemmas.{IsHalved-halved}
use Rattle.circuit_model.proofs.PrefixLemmas.{AtEach-more}
use Rattle.amp_printer.specs.declared.verdict.Verdict.{Verdict}
use Rattle.comparison.specs.Scalars.{comparison, compared, corner}
use Rattle.comparison.specs.Products.{Step, gate_of, times_step, joined, by_position, raw_matrix, step_matrix, work_matrix, RawStepFits, AllStepsFit, IsFirstUnfitStep}
use Rattle.comparison.specs.Products.Step.{left, right}
use Rattle.comparison.specs.Steps.{mixed, steps_of}
use Rattle.comparison.specs.Verdicts.{IsVerdict}
use Rattle.comparison.proofs.Working.{times_step-same, work_matrix-last, work_matrix-value}
use Rattle.comparison.proofs.Values.{SameValues, SameValues-sym}
use Rattle.comparison.proofs.Verdicts.{verdict-same}
use Rattle.dense_matrix.specs.Kept.{Entries, IsMatrix}
use Rattle.dense_matrix.proofs.Splits.{place_of-joined}
use Rattle.comparison.proofs.TurnLemmas.{take-next}

-- the entries of a list are those of w
pub at-joined : (n : ℕ) (w : List Bool → Quad) (entries : List Quad) → entries ≡ map w (all_lists (n + n)) → (r c : List Bool) → length r ≡ n → length c ≡ n
    → by_position (at entries) r c ≡ by_position w r c
at-joined n w entries e r c lr lc = ap (λ l. at l (r ++ c)) e ∙ at-map (n + n) w (r ++ c) (length-append r c ∙ ap₂ (λ i j. i + j) lr lc)

-- so they are the same after a step
pub raw-same : (n : ℕ) (w : Scaled) (entries : List Quad) (s : Step) (x : List Bool) → entries ≡ map w.entries (all_lists (n + n)) → length x ≡ n + n
    → joined n (times_step s (by_position (at entries))) x ≡ (raw_matrix n w s).entries x
raw-same n w entries s x e len =
    times_step-same n s (by_position (at entries)) (by_position w.entries) (take n x) (drop n x) (at-joined n w.entries entries e) (length-take-le n x (omega arith)) (length-drop n x ∙ omega arith)

pub raw-list : (n : ℕ) (w : Scaled) (entries : List Quad) (s : Step) → entries ≡ map w.entries (all_lists (n + n))
    → map (joined n (times_step s (by_position (at entries)))) (all_lists (n + n)) ≡ map (raw_matrix n w s).entries (all_lists (n + n))
raw-list n w entries s e = map-all_lists_same (n + n) _ _ (λ x len. raw-same n w entries s x e len)

pub fits-same : (n width : ℕ) (v w : List Bool → Quad) → ((x : List Bool) → length x ≡ n → v x ≡ w x) → FitsWidth n width v → FitsWidth n width w
fits-same n width v w h f x len = subst (QuadFits width) (h x len) (f x len)

-- a gate has at most one factor 1/√2
half_power_of-small : (k : Kind) → half_power_of k ≤ 1
half_power_of-small Id = omega arith
half_power_of-small X = omega arith
half_power_of-small Y = omega arith
half_power_of-small Z = omega arith
half_power_of-small H = omega arith
half_power_of-small S = omega arith
half_power_of-small Sdg = omega arith
half_power_of-small T = omega arith
half_power_of-small Tdg = omega arith
half_power_of-small RxP = omega arith
half_power_of-small RxM = omega arith
half_power_of-small RyP = omega arith
half_power_of-small RyM = omega arith
half_power_of-small Cx = omega arith
half_power_of-small Cz = omega arith
half_power_of-small Swap = omega arith
half_power_of-small Ccx = omega arith
half_power_of-small Cswap = omega arith
half_power_of-small (Phase j) = omega arith

-- a step raises the exponent by at most 1
pub step_matrix-exponent : (n : ℕ) (w : Scaled) (s : Step) → (step_matrix n w s).exponent ≤ w.exponent + 1
step_matrix-exponent n w s =
    let h = (IsHalved-halved (n + n) (raw_matrix n w s).entries (raw_matrix n w s).exponent).exponent_left in
    let small = half_power_of-small (gate_of s).kind in
    omega arith

-- ---- the matrix after the steps so far, and one more
module _ (n width : ℕ) (steps : List Step) (t : ℕ) (s : Step) (rest : List Step) (next : drop t steps ≡ s ∷ rest) (m : Entries) (same : m.qubits ≡ n)
    (kept : IsMatrix m (work_matrix n (take t steps))) where
  taken : take (t + 1) steps ≡ take t steps ++ s ∷ []
  taken = (take-next steps t s rest next).0

  pub next_kept : (new : Entries) → ((w : Scaled) → IsMatrix m w → IsMatrix new (step_matrix m.qubits w s)) → IsMatrix new (work_matrix n (take (t + 1) steps))
  next_kept new h =
      let w = work_matrix n (take t steps) in
      let is : step_matrix m.qubits w s ≡ work_matrix n (take (t + 1) steps) = ap (λ q. step_matrix q w s) same ∙ sym (work_matrix-last n (take t steps) s) ∙ ap (work_matrix n) (sym taken) in
      subst (IsMatrix new) is (h w kept)

  here : ((w : Scaled) → IsMatrix m w → FitsWidth (m.qubits + m.qubits) width (raw_matrix m.qubits w s).entries) → RawStepFits width n (take t steps) s
  here h = let P : ℕ → Type 0 = λ q. FitsWidth (q + q) width (raw_matrix q (work_matrix n (take t steps)) s).entries in subst P same (h (work_matrix n (take t steps)) kept)

  pub next_fits : AllStepsFit width n (take t steps) → ((w : Scaled) → IsMatrix m w → FitsWidth (m.qubits + m.qubits) width (raw_matrix m.qubits w s).entries) → AllStepsFit width n (take (t + 1) steps)
  next_fits before h =
      let P : List Step → Type 0 = λ l. AllStepsFit width n l in
      subst P (sym taken) (AtEach-more (RawStepFits width n) (take t steps) s before (here h))

  pub stops_at : AllStepsFit width n (take t steps) → length (take t steps) ≡ t → ((w : Scaled) → IsMatrix m w → FitsWidth (m.qubits + m.qubits) width (raw_matrix m.qubits w s).entries → ⊥)
      → IsFirstUnfitStep width n steps (t + 1)
  stops_at before long wide = record {
    front = take t steps;
    element = s;
    rest = rest;
    split = (take-next steps t s rest next).1.1;
    count = ap (λ k. k + 1) (sym long);
    before = before;
    fails = λ fits. (let P : ℕ → Type 0 = λ q. FitsWidth (q + q) width (raw_matrix q (work_matrix n (take t steps)) s).entries in
        wide (work_matrix n (take t steps)) kept (subst P (sym same) fits));
  }

-- ---- after all steps the list has the values of U·V†
pub same_values : (n : ℕ) (us vs : List Gate) (entries : List Quad) → All (IsOn n) us → All (IsOn n) vs → entries ≡ map (work_matrix n (steps_of us vs)).entries (all_lists (n + n))
    → SameValues n (by_position (at entries)) (work_matrix n (steps_of us vs)).exponent (compared us vs) (exponent (comparison us vs))
same_values n us vs entries on_us on_vs e r c lr lc =
    ap (times_power root_of_two (exponent (comparison us vs))) (at-joined n (work_matrix n (steps_of us vs)).entries entries e r c lr lc) ∙ work_matrix-value n us vs r c on_us on_vs lr lc

-- so what is said of the list is said of U·V†
pub said : (n : ℕ) (us vs : List Gate) (m : Entries) (v : Verdict) → All (IsOn n) us → All (IsOn n) vs → m.qubits ≡ n → IsMatrix m (work_matrix n (steps_of us vs))
    → IsVerdict m.qubits (by_position (at m.entries)) m.exponent v → IsVerdict n (compared us vs) (exponent (comparison us vs)) v
said n us vs m v on_us on_vs q is h =
    let w = work_matrix n (steps_of us vs) in
    let entries : m.entries ≡ map w.entries (all_lists (n + n)) = is.0 ∙ ap (λ k. map w.entries (all_lists (k + k))) q in
    let same : SameValues n (by_position (at m.entries)) w.exponent (compared us vs) (exponent (comparison us vs)) = same_values n us vs m.entries on_us on_vs entries in
    let own : IsVerdict n (by_position (at m.entries)) w.exponent v =
    subst (λ k. IsVerdict n (by_position (at m.entries)) k v) is.1 (subst (λ k. IsVerdict k (by_position (at m.entries)) m.exponent v) q h) in
    verdict-same n (compared us vs) (exponent (comparison us vs)) (by_position (at m.entries)) w.exponent v
    (SameValues-sym n (by_position (at m.entries)) w.exponent (compared us vs) (exponent (comparison us vs)) same) own

-- the corner stands first
pub corner_is : (n : ℕ) (entries : List Quad) → corner n (by_position (at entries)) ≡ get_or entries 0 zero_quad
corner_is n entries =
    let z = replicate n false in
    let place : place_of (z ++ z) ≡ 0 = place_of-joined n z z (length-replicate n false) ∙ ap (λ k. k * 2 ^ n + k) (place_of-zeros n) ∙ omega arith in
    ap (λ i. get_or entries i zero_quad) place
