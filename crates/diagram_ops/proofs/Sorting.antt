-- Operands of a table that reads them in any order.
use Rattle.std.proofs.Common.{◌≡◌, ℕ, ◌≤◌, Bool, true, min, max, eqb, List, Some, None, inl, inr, refl, sym, ◌∙◌, ap, subst, arith}
use Rattle.std.proofs.Math.Nat.{min-eq_left, min-eq_right, max-eq_left, max-eq_right, min-le_left, le-max_left, le_trans}
use Rattle.std.proofs.lemmas.Bool.{cases_lt, cases_Bool, cond-true, cond-false, eqb-true, or_cases}
use mathlib.Core.Path.{fun_ext}
use Rattle.diagram_model.specs.Functions.{Function}
use Rattle.diagram_model.specs.Stores.{Diagram, function_of}
use Rattle.memos.specs.Memo.{Triple}
use Rattle.diagram_ops.specs.declared.operands.Operands.{Operands}
use Rattle.diagram_ops.specs.Connectives.{connective, connected}
use Rattle.diagram_ops.specs.Diagrams.{connective_of}
use Rattle.diagram_ops.specs.Keys.{is_symmetric, sorted, keyed}
use Rattle.diagram_ops.specs.Operands.{depths}
use Rattle.diagram_ops.specs.Operations.{IsResult, AreOther, kept_in, kept_under}
use Rattle.diagram_ops.proofs.Calls.{PutsAs, cases_at, operands_eq}
use Rattle.diagram_ops.proofs.Splits.{three}
use Rattle.diagram_ops.proofs.Cases.{of_three}

-- what holds of three numbers holds once two neighbours are exchanged
record Swaps (P : ℕ → ℕ → ℕ → Type 0) : Type 0 where
  first : (a b c : ℕ) → P a b c → P b a c
  last : (a b c : ℕ) → P a b c → P a c b

pair_sorted : (P : ℕ → ℕ → Type 0) → ((a b : ℕ) → P a b → P b a) → (a b : ℕ) → P a b → P (min a b) (max a b)
pair_sorted P swap a b h =
    elim (cases_lt a b) [
      | inl lt ↦ rw (min-eq_left {n = a} {m = b} (omega (arith, lt)), max-eq_right {n = a} {m = b} (omega (arith, lt))) h
      | inr le ↦ rw (min-eq_right {n = b} {m = a} le, max-eq_left {n = a} {m = b} le) (swap a b h)
    ]

pair_back : (P : ℕ → ℕ → Type 0) → ((a b : ℕ) → P a b → P b a) → (a b : ℕ) → P (min a b) (max a b) → P a b
pair_back P swap a b h =
    elim (cases_lt a b) [
      | inl lt ↦ rw (min-eq_left {n = a} {m = b} (omega (arith, lt)), max-eq_right {n = a} {m = b} (omega (arith, lt))) at h
      | inr le ↦ swap b a (rw (min-eq_right {n = b} {m = a} le, max-eq_left {n = a} {m = b} le) at h)
    ]

-- the least of a, and of the lesser of b and c, where a is at most b
least_is : (a b c : ℕ) → a ≤ b → min a (min b c) ≡ min a c
least_is a b c le =
    elim (cases_lt b c) [
      | inl lt ↦ ap (min a) (min-eq_left {n = b} {m = c} (omega (arith, lt))) ∙ min-eq_left {n = a} {m = b} le ∙ sym (min-eq_left {n = a} {m = c} (omega (arith, lt, le)))
      | inr more ↦ ap (min a) (min-eq_right {n = c} {m = b} more)
    ]

low_high : (a b : ℕ) → min a b ≤ max a b
low_high a b = le_trans (min-le_left a b) (le-max_left a b)

to_sorted : (P : ℕ → ℕ → ℕ → Type 0) → Swaps P → (at : Operands) → P at.f at.g at.h → P (sorted at).f (sorted at).g (sorted at).h
to_sorted P s at h =
    let low = min at.f at.g in
    let high = max at.f at.g in
    let one : P low high at.h = pair_sorted (λ x y. P x y at.h) (λ x y. s.first x y at.h) at.f at.g h in
    let two : P low (min high at.h) (max high at.h) = pair_sorted (P low) (s.last low) high at.h one in
    let last : P (min low (min high at.h)) (max low (min high at.h)) (max high at.h) = pair_sorted (λ x y. P x y (max high at.h)) (λ x y. s.first x y (max high at.h)) low (min high at.h) two in
    subst (λ x. P x (max low (min high at.h)) (max high at.h)) (least_is low high at.h (low_high at.f at.g)) last

of_sorted : (P : ℕ → ℕ → ℕ → Type 0) → Swaps P → (at : Operands) → P (sorted at).f (sorted at).g (sorted at).h → P at.f at.g at.h
of_sorted P s at h =
    let low = min at.f at.g in
    let high = max at.f at.g in
    let last : P (min low (min high at.h)) (max low (min high at.h)) (max high at.h) = subst (λ x. P x (max low (min high at.h)) (max high at.h)) (sym (least_is low high at.h (low_high at.f at.g))) h in
    let two : P low (min high at.h) (max high at.h) = pair_back (λ x y. P x y (max high at.h)) (λ x y. s.first x y (max high at.h)) low (min high at.h) last in
    let one : P low high at.h = pair_back (P low) (s.last low) high at.h two in
    pair_back (λ x y. P x y at.h) (λ x y. s.first x y at.h) at.f at.g one

-- what holds of three operands holds of those under which an answer is kept, and the other way round
to_keyed : (t : ℕ) (P : ℕ → ℕ → ℕ → Type 0) → (is_symmetric t ≡ true → Swaps P) → (at : Operands) → P at.f at.g at.h → P (keyed t at).f (keyed t at).g (keyed t at).h
to_keyed t P s at h =
    elim (cases_Bool (is_symmetric t)) [
      | inl e ↦ subst (λ (o : Operands). P o.f o.g o.h) (sym (cond-true (is_symmetric t) (sorted at) at e)) (to_sorted P (s e) at h)
      | inr e ↦ subst (λ (o : Operands). P o.f o.g o.h) (sym (cond-false (is_symmetric t) (sorted at) at e)) h
    ]

of_keyed : (t : ℕ) (P : ℕ → ℕ → ℕ → Type 0) → (is_symmetric t ≡ true → Swaps P) → (at : Operands) → P (keyed t at).f (keyed t at).g (keyed t at).h → P at.f at.g at.h
of_keyed t P s at h =
    elim (cases_Bool (is_symmetric t)) [
      | inl e ↦ of_sorted P (s e) at (subst (λ (o : Operands). P o.f o.g o.h) (cond-true (is_symmetric t) (sorted at) at e) h)
      | inr e ↦ subst (λ (o : Operands). P o.f o.g o.h) (cond-false (is_symmetric t) (sorted at) at e) h
    ]

-- the table's connective is the same once two neighbours are exchanged
record IsSymmetric (t : ℕ) : Type 0 where
  first : (a b c : Bool) → connective t b a c ≡ connective t a b c
  last : (a b c : Bool) → connective t a c b ≡ connective t a b c

odd_first : (a b c : Bool) → connective 150 b a c ≡ connective 150 a b c
unfolding connective
odd_first = of_three (λ a b c. connective 150 b a c ≡ connective 150 a b c) refl refl refl refl refl refl refl refl

odd_last : (a b c : Bool) → connective 150 a c b ≡ connective 150 a b c
unfolding connective
odd_last = of_three (λ a b c. connective 150 a c b ≡ connective 150 a b c) refl refl refl refl refl refl refl refl

majority_first : (a b c : Bool) → connective 232 b a c ≡ connective 232 a b c
unfolding connective
majority_first = of_three (λ a b c. connective 232 b a c ≡ connective 232 a b c) refl refl refl refl refl refl refl refl

majority_last : (a b c : Bool) → connective 232 a c b ≡ connective 232 a b c
unfolding connective
majority_last = of_three (λ a b c. connective 232 a c b ≡ connective 232 a b c) refl refl refl refl refl refl refl refl

symmetric_as : (t u : ℕ) → t ≡ u → IsSymmetric u → IsSymmetric t
symmetric_as t u e s = subst IsSymmetric (sym e) s

symmetric : (t : ℕ) → is_symmetric t ≡ true → IsSymmetric t
symmetric t is =
    elim (or_cases (eqb t 150) (eqb t 232) is) [
      | inl e ↦ symmetric_as t 150 (eqb-true t 150 e) (record { first = odd_first; last = odd_last })
      | inr e ↦ symmetric_as t 232 (eqb-true t 232 e) (record { first = majority_first; last = majority_last })
    ]

connected_first : (t : ℕ) → IsSymmetric t → (f g h : Function) → connected t g f h ≡ connected t f g h
unfolding connected
connected_first t s f g h = fun_ext (λ x. s.first (f x) (g x) (h x))

connected_last : (t : ℕ) → IsSymmetric t → (f g h : Function) → connected t f h g ≡ connected t f g h
unfolding connected
connected_last t s f g h = fun_ext (λ x. s.last (f x) (g x) (h x))

result_swaps : (t : ℕ) (d : Diagram) (n : ℕ) → is_symmetric t ≡ true → Swaps (λ a b c. IsResult (connected t) d (three a b c) n)
result_swaps t d n is =
    let s = symmetric t is in
    record {
      first = λ a b c r. record {
        operands = (r.operands.1, r.operands.0, r.operands.2);
        live = r.live;
        below = λ w there above. r.below w there (above.1, above.0, above.2);
        denotes = r.denotes ∙ sym (connected_first t s (function_of d a) (function_of d b) (function_of d c));
      };
      last = λ a b c r. record {
        operands = (r.operands.0, r.operands.2, r.operands.1);
        live = r.live;
        below = λ w there above. r.below w there (above.0, above.2, above.1);
        denotes = r.denotes ∙ sym (connected_last t s (function_of d a) (function_of d b) (function_of d c));
      };
    }

-- a result is one for the operands under which it is kept, and the other way round
pub result_keyed : (t : ℕ) (d : Diagram) (at : Operands) (n : ℕ) → IsResult (connected t) d at n → IsResult (connected t) d (keyed t at) n
result_keyed t d at n r = to_keyed t (λ a b c. IsResult (connected t) d (three a b c) n) (result_swaps t d n) at r

result_unkeyed : (t : ℕ) (d : Diagram) (at : Operands) (n : ℕ) → IsResult (connected t) d (keyed t at) n → IsResult (connected t) d at n
result_unkeyed t d at n r = of_keyed t (λ a b c. IsResult (connected t) d (three a b c) n) (result_swaps t d n) at r

connective_swaps : (t : ℕ) (d : Diagram) (f : Function) → is_symmetric t ≡ true → Swaps (λ a b c. connective_of t d a b c ≡ f)
connective_swaps t d f is =
    let s = symmetric t is in
    record {
      first = λ a b c e. connected_first t s (function_of d a) (function_of d b) (function_of d c) ∙ e;
      last = λ a b c e. connected_last t s (function_of d a) (function_of d b) (function_of d c) ∙ e;
    }

-- the connective of the operands under which it is kept is that of the operands
pub connective_keyed : (t : ℕ) (d : Diagram) (at : Operands) → connective_of t d (keyed t at).f (keyed t at).g (keyed t at).h ≡ connective_of t d at.f at.g at.h
connective_keyed t d at = to_keyed t (λ a b c. connective_of t d a b c ≡ connective_of t d at.f at.g at.h) (connective_swaps t d (connective_of t d at.f at.g at.h)) at refl

depths_swaps : (d : Diagram) (n : ℕ) → Swaps (λ a b c. depths d (three a b c) ≡ n)
depths_swaps d n = record { first = λ a b c e. omega (arith, e); last = λ a b c e. omega (arith, e) }

depths_keyed : (t : ℕ) (d : Diagram) (at : Operands) → depths d (keyed t at) ≡ depths d at
depths_keyed t d at = to_keyed t (λ a b c. depths d (three a b c) ≡ depths d at) (λ is. depths_swaps d (depths d at)) at refl

-- a result that is put for three operands is put for all that are kept under the same
pub puts_keyed : (t : ℕ) (d m : Diagram) (at : Operands) (n : ℕ) (old new : List (Triple × ℕ)) → IsResult (connected t) m at n → kept_under t old at ≡ None → kept_under t new at ≡ Some n → ((to : Operands) → AreOther (keyed t at) (keyed t to) → kept_under t new to ≡ kept_under t old to) → (to : Operands) → PutsAs (connected t) d m at n (kept_under t old) (kept_under t new) to
puts_keyed t d m at n old new is none here others to =
    elim (cases_at (keyed t at) (keyed t to)) [
      | inl e ↦
          let same : keyed t to ≡ keyed t at = operands_eq (keyed t at) (keyed t to) e in
          inr (record {
            now = ap (kept_in new) same ∙ here;
            none = ap (kept_in old) same ∙ none;
            is = result_unkeyed t m to n (subst (λ o. IsResult (connected t) m o n) (sym same) (result_keyed t m at n is));
            deep = sym (depths_keyed t d to) ∙ ap (depths d) same ∙ depths_keyed t d at;
          })
      | inr ne ↦ inl (others to ne)
    ]
