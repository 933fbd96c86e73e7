-- Each step of a comparison is one on the circuits' qubits.
use Rattle.std.proofs.Common.{ℕ, ◌+◌, ◌*◌, nat_le, Bool, true, false, cond, List, [], ◌∷◌, map, length, All}
use Rattle.std.proofs.lemmas.List.Elements.{All-nil, All-cons, All-map, All-weaker}
use Rattle.gate_set.specs.declared.gate.Gate.{Gate}
use Rattle.gate_set.specs.Shape.{IsOn}
use Rattle.gate_set.specs.Circuits.{inverse_gate}
use Rattle.gate_set.proofs.MatrixLemmas.{IsOn-inverse}
use Rattle.comparison.specs.Products.{Step, gate_of}
use Rattle.comparison.specs.Products.Step.{left, right}
use Rattle.comparison.specs.Steps.{mixed, steps_of}
use Rattle.comparison.proofs.Undo.{heads}

abbrev pub IsStepOn : ℕ → Step → Type 0
IsStepOn n s = IsOn n (gate_of s)

lefts_on : (n : ℕ) (us : List Gate) → All (IsOn n) us → All (IsStepOn n) (map left us)
lefts_on n us on = All-map (IsStepOn n) left us on

rights_on : (n : ℕ) (vs : List Gate) → All (IsOn n) vs → All (IsStepOn n) (map (λ v. right (inverse_gate v)) vs)
rights_on n vs on = All-map (IsStepOn n) (λ v. right (inverse_gate v)) vs (All-weaker (IsOn n) (λ v. IsOn n (inverse_gate v)) (λ v. IsOn-inverse n v) vs on)

mixed_on : (n m p i j : ℕ) (us vs : List Gate) → All (IsOn n) us → All (IsOn n) vs → All (IsStepOn n) (mixed m p i j us vs)
mixed_on n m p i j [] [] on_us on_vs = All-nil (IsStepOn n)
mixed_on n m p i j (u ∷ us) [] on_us on_vs = lefts_on n (u ∷ us) on_us
mixed_on n m p i j [] (v ∷ vs) on_us on_vs = rights_on n (v ∷ vs) on_vs
mixed_on n m p i j (u ∷ us) (v ∷ vs) on_us on_vs =
    let (on_u, rest_us) = heads n u us on_us in
    let (on_v, rest_vs) = heads n v vs on_vs in
    by (nat_le (i * p) (j * m)) on_u (mixed_on n m p (i + 1) j us (v ∷ vs) rest_us on_vs) (IsOn-inverse n v on_v) (mixed_on n m p i (j + 1) (u ∷ us) vs on_us rest_vs)
  where
    by : (b : Bool) → IsOn n u → All (IsStepOn n) (mixed m p (i + 1) j us (v ∷ vs)) → IsOn n (inverse_gate v) → All (IsStepOn n) (mixed m p i (j + 1) (u ∷ us) vs)
        → All (IsStepOn n) (cond b (left u ∷ mixed m p (i + 1) j us (v ∷ vs)) (right (inverse_gate v) ∷ mixed m p i (j + 1) (u ∷ us) vs))
    by true on_u l on_v r = All-cons (IsStepOn n) (left u) (mixed m p (i + 1) j us (v ∷ vs)) on_u l
    by false on_u l on_v r = All-cons (IsStepOn n) (right (inverse_gate v)) (mixed m p i (j + 1) (u ∷ us) vs) on_v r

-- the steps of a comparison are
pub steps_on : (n : ℕ) (us vs : List Gate) → All (IsOn n) us → All (IsOn n) vs → All (IsStepOn n) (steps_of us vs)
steps_on n us vs on_us on_vs = mixed_on n (length us) (length vs) 0 0 us vs on_us on_vs
