-- A gate on one, two or three qubits that are different and small is placed.
use Rattle.std.proofs.Common.{◌≡◌, ◌≢◌, ℕ, ◌<◌, sym, [], ◌∷◌, arith}
use Rattle.std.specs.List.{AllPairs}
use Rattle.std.proofs.lemmas.List.Elements.{All-nil, All-cons}
use Rattle.std.proofs.lemmas.List.Kept.{AllPairs-cons}
use Rattle.gate_set.specs.declared.kind.Kind.{Kind}
use Rattle.gate_set.specs.Matrix.{arity_of, IsKind}
use Rattle.gate_set.specs.Shape.{IsPlaced}

AllPairs-nil : {X : Type 0} (R : X → X → Type 0) → AllPairs R []
AllPairs-nil R i j d lt below = absurd (omega arith)

abbrev Small : ℕ → Type 0
Small q = q < 64

abbrev Differs : ℕ → ℕ → Type 0
Differs p q = p ≢ q

pub IsPlaced-one : (k : Kind) (p : ℕ) → IsKind k → arity_of k ≡ 1 → p < 64 → IsPlaced k [] (p ∷ [])
IsPlaced-one k p h e sp = record {
  power = h;
  few = omega arith;
  count = sym e;
  small = All-cons Small p [] sp (All-nil Small);
  different = AllPairs-cons Differs p [] (All-nil (Differs p)) (AllPairs-nil Differs);
}

pub IsPlaced-two : (k : Kind) (p q : ℕ) → IsKind k → arity_of k ≡ 2 → p < 64 → q < 64 → p ≢ q → IsPlaced k [] (p ∷ q ∷ [])
IsPlaced-two k p q h e sp sq pq = record {
  power = h;
  few = omega arith;
  count = sym e;
  small = All-cons Small p (q ∷ []) sp (All-cons Small q [] sq (All-nil Small));
  different =
      AllPairs-cons Differs p (q ∷ []) (All-cons (Differs p) q [] pq (All-nil (Differs p)))
      (AllPairs-cons Differs q [] (All-nil (Differs q)) (AllPairs-nil Differs));
}

pub IsPlaced-three : (k : Kind) (p q r : ℕ) → IsKind k → arity_of k ≡ 3 → p < 64 → q < 64 → r < 64 → p ≢ q → p ≢ r → q ≢ r → IsPlaced k [] (p ∷ q ∷ r ∷ [])
IsPlaced-three k p q r h e sp sq sr pq pr qr = record {
  power = h;
  few = omega arith;
  count = sym e;
  small = All-cons Small p (q ∷ r ∷ []) sp (All-cons Small q (r ∷ []) sq (All-cons Small r [] sr (All-nil Small)));
  different =
      AllPairs-cons Differs p (q ∷ r ∷ []) (All-cons (Differs p) q (r ∷ []) pq (All-cons (Differs p) r [] pr (All-nil (Differs p))))
      (AllPairs-cons Differs q (r ∷ []) (All-cons (Differs q) r [] qr (All-nil (Differs q)))
      (AllPairs-cons Differs r [] (All-nil (Differs r)) (AllPairs-nil Differs)));
}
