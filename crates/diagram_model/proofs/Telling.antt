-- Truth lists tell nodes apart, and how many different lists there are at most.
use Rattle.std.proofs.Common.{◌≡◌, ◌≢◌, ◌⊎◌, ℕ, suc, ◌≤◌, Bool, true, false, not, List, [], ◌∷◌, length, inl, inr, refl, sym, ◌∙◌, ap, arith}
use Rattle.std.proofs.lemmas.Bool.{cases_Bool}
use Rattle.bit_lists.specs.Orders.{has}
use Rattle.diagram_model.specs.Bryant.{IsIn, AreDifferent}
use Rattle.diagram_model.specs.Functions.{fix}
use Rattle.diagram_model.specs.Nodes.{follow, IsLiveIn}
use Rattle.diagram_model.specs.Size.{truths, same_truths, depends}
use Rattle.diagram_model.specs.Stores.{Diagram, IsLive, IsSound, from, HasVariable, function_of}
use Rattle.diagram_model.proofs.Canonical.{follow-at, same_node}
use Rattle.diagram_model.proofs.Counting.{same_is, is_same}
use Rattle.diagram_model.proofs.Fixing.{follow_above, above_live, fix_function}
use Rattle.diagram_model.proofs.Sizes.{same_from_truths}

-- live nodes with the same truth values are one
pub truths_one : (d : Diagram) (n m : ℕ) → IsSound d → IsLive d n → IsLive d m → truths (length d.order) (function_of d n) ≡ truths (length d.order) (function_of d m) → n ≡ m
unfolding function_of
truths_one d n m s ln lm e =
    same_node d.slots (length d.order) d.order n m s.diagram.order s.diagram.proper s.diagram.unique ln lm
    (same_from_truths d.slots (length d.order) d.order n m s.diagram.order (is_same (truths (length d.order) (function_of d n)) (truths (length d.order) (function_of d m)) e))

-- a node's function depends on its variable
pub node_depends : (d : Diagram) (v n : ℕ) → IsSound d → has d.order v ≡ true → IsLiveIn d.slots (from d.order v) n → HasVariable d v n → depends (length d.order) v (function_of d n) ≡ true
node_depends d v n s is live at =
    let k = length d.order in
    let f = function_of d n in
    let low = follow d.slots v false n in
    let high = follow d.slots v true n in
    elim (cases_Bool (same_truths (truths k (fix v false f)) (truths k (fix v true f)))) [
      | inr e ↦ ap not e
      | inl e ↦
          let same : truths k (function_of d low) ≡ truths k (function_of d high) =
          ap (truths k) (sym (fix_function d v n false s is live)) ∙ same_is (truths k (fix v false f)) (truths k (fix v true f)) e ∙ ap (truths k) (fix_function d v n true s is live) in
          let one : low ≡ high = truths_one d low high s (above_live d v low (follow_above d v n false s is live)) (above_live d v high (follow_above d v n true s is live)) same in
          let differ : at.0.low ≢ at.0.high = (s.diagram.proper n at.0 at.1 (s.diagram.within n at.0 at.1)).differ in
          absurd (differ (sym (follow-at d.slots v n at.0 at.1 at.2 false) ∙ one ∙ follow-at d.slots v n at.0 at.1 at.2 true))
    ]

-- a list of lists without one of them
record Without (t : List Bool) (all : List (List Bool)) : Type 0 where
  rest : List (List Bool)
  count : length all ≡ suc (length rest)
  others : (s : List Bool) → IsIn s all → (s ≡ t) ⊎ IsIn s rest

without : (t : List Bool) (all : List (List Bool)) → IsIn t all → Without t all
without t [] h = absurd h
without t (u ∷ us) (inl e) = record {
  rest = us;
  count = refl;
  others = λ s h. elim h [ inl at ↦ inl (at ∙ sym e) | inr more ↦ inr more ];
}
without t (u ∷ us) (inr more) =
    let r = without t us more in
    record {
      rest = u ∷ r.rest;
      count = ap suc r.count;
      others = λ s h. elim h [
        | inl at ↦ inr (inl at)
        | inr there ↦ elim (r.others s there) [ inl same ↦ inl same | inr left ↦ inr (inr left) ]
      ];
    }

-- different lists among others are at most as many
pub different_few : (ts all : List (List Bool)) → AreDifferent ts → ((t : List Bool) → IsIn t ts → IsIn t all) → length ts ≤ length all
different_few [] all different among = omega arith
different_few (t ∷ ts) all different among =
    let w = without t all (among t (inl refl)) in
    let into : (s : List Bool) → IsIn s ts → IsIn s w.rest = λ s h.
    elim (w.others s (among s (inr h))) [
      | inl same ↦ absurd (different.0 (rw (sym same) h))
      | inr left ↦ left
    ] in
    let few : length ts ≤ length w.rest = different_few ts w.rest different.1 into in
    omega (arith, few, w.count)
