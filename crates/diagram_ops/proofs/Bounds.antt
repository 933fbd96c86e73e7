-- A call takes at most as many steps as there are triples, or functions, to be met.
use Rattle.std.proofs.Common.{◌≡◌, ℕ, ◌≤◌, Bool, List, [], ◌∷◌, map, length, inl, inr, refl, sym, ◌∙◌, ap, arith}
use Rattle.std.proofs.lemmas.List.{length-map}
use Rattle.diagram_model.specs.Bryant.{IsIn, IsOneOf, AreDifferent}
use Rattle.diagram_model.specs.Functions.{Function}
use Rattle.diagram_model.specs.Joint.{trio_truths, joint_size}
use Rattle.diagram_model.specs.Size.{truths, size}
use Rattle.diagram_model.specs.Stores.{Diagram, IsLive, IsSound, Extends, function_of}
use Rattle.diagram_model.proofs.Counting.{counted_lists, counted_whole, counted_length}
use Rattle.diagram_model.proofs.Fixing.{ignores_above}
use Rattle.diagram_model.proofs.Growing.{function_on}
use Rattle.diagram_model.proofs.Joint.{trio_parts, trio_lists, trio_lists_length, trio_in, alone_counted}
use Rattle.diagram_model.proofs.Prefixes.{Ignores}
use Rattle.diagram_model.proofs.Telling.{truths_one, different_few}
use Rattle.diagram_ops.specs.declared.operands.Operands.{Operands}
use Rattle.diagram_ops.specs.Bounds.{joint_size_in, size_in, TakesAtMost}
use Rattle.diagram_ops.specs.Operands.{AreLive, alone}
use Rattle.diagram_ops.specs.Operations.{Results}
use Rattle.diagram_ops.specs.Taken.{Reading, Kind, plain, trio_by, IsMet, IsAmong, AreDistinct, Takes}
use Rattle.diagram_ops.proofs.Calls.{operands_eq}
use Rattle.diagram_ops.proofs.Taking.{order_same, takes_as}
use Rattle.diagram_ops.proofs.Readings.{Tells}

-- Different triples of nodes have different marks, so they are at most as many as the marks.
module _ (mark : Operands → List Bool) (Is : Operands → Type 0) (tells : (x y : Operands) → Is x → Is y → mark x ≡ mark y → x ≡ y) where
  marked : (xs : List Operands) (l : List Bool) → IsIn l (map mark xs) → (x : Operands) × IsAmong xs x × (l ≡ mark x)
  marked [] l h = absurd h
  marked (x ∷ xs) l (inl e) = (x, inl refl, e)
  marked (x ∷ xs) l (inr more) = let r = marked xs l more in (r.0, inr r.1, r.2)

  marks_different : (xs : List Operands) → AreDistinct xs → ((x : Operands) → IsAmong xs x → Is x) → AreDifferent (map mark xs)
  marks_different [] once all = tt
  marks_different (x ∷ xs) once all = (
    λ h. let r = marked xs (mark x) h in once.0 (rw (tells x r.0 (all x (inl refl)) (all r.0 (inr r.1)) r.2) r.1),
    marks_different xs once.1 (λ y h. all y (inr h)),
  )

  marks_few : (xs : List Operands) (ls : List (List Bool)) → AreDistinct xs → ((x : Operands) → IsAmong xs x → Is x × IsIn (mark x) ls) → length xs ≤ length ls
  marks_few xs ls once all =
      let few = different_few (map mark xs) ls (marks_different xs once (λ x h. (all x h).0)) (λ l h. let r = marked xs l h in rw r.2 (all r.0 r.1).1) in
      omega (arith, few, length-map xs mark)

one_triple : (r : Reading) (e : Diagram) (x y : Operands) → IsSound e → Tells r e → AreLive e x → AreLive e y → trio_truths (length e.order) (trio_by r e x) ≡ trio_truths (length e.order) (trio_by r e y) → x ≡ y
one_triple r e x y se tells lx ly same =
    let parts = trio_parts (length e.order) (trio_by r e x) (trio_by r e y) same in
    operands_eq y x (truths_one e x.f y.f se lx.0 ly.0 parts.0, tells x.g y.g lx.1 ly.1 parts.1, truths_one e x.h y.h se lx.2 ly.2 parts.2)

-- as many steps as triples were met, and no more than there are
at_most : (Is : Kind) (d e : Diagram) (es : Results) (s0 s1 n : ℕ) (t : Takes Is d e es s0 s1) → length t.met ≤ n → TakesAtMost n d e s0 s1
at_most Is d e es s0 s1 n t few = record { steps = omega (arith, t.count, few); made = omega (arith, t.made, few) }

-- The steps are at most the joint size.
pub takes_joint_size : (r : Reading) (d : Diagram) (at : Operands) (e : Diagram) (es : Results) (s0 s1 : ℕ) → IsSound e → Extends d e → Tells r e → Takes (IsMet r d at) d e es s0 s1 → TakesAtMost (joint_size_in d (function_of d at.f) (r (function_of d at.g)) (function_of d at.h)) d e s0 s1
takes_joint_size r d at e es s0 s1 se ext tells t =
    let k = length e.order in
    let start = trio_by r d at in
    let few = marks_few (λ x. trio_truths k (trio_by r e x)) (AreLive e) (λ x y lx ly same. one_triple r e x y se tells lx ly same) t.met (trio_lists k e.order (start ∷ [])) t.once
    (λ x h. let met = t.arise x h in (met.live, trio_in k e.order start (trio_by r e x) (order_same d.order e.order start (trio_by r e x) (sym ext.order) met.arises))) in
    let same : joint_size k e.order (start ∷ []) ≡ joint_size (length d.order) d.order (start ∷ []) = ap (λ o. joint_size (length o) o (start ∷ [])) ext.order in
    at_most (IsMet r d at) d e es s0 s1 (joint_size (length d.order) d.order (start ∷ [])) t (omega (arith, few, trio_lists_length k e.order (start ∷ []), same))

-- a triple with FALSE in the other two places
record IsAlone (e : Diagram) (x : Operands) : Type 0 where
  live : AreLive e x
  g : x.g ≡ 0
  h : x.h ≡ 0

alone_triple : (e : Diagram) (x y : Operands) → IsSound e → IsAlone e x → IsAlone e y → truths (length e.order) (function_of e x.f) ≡ truths (length e.order) (function_of e y.f) → x ≡ y
alone_triple e x y se ax ay same = operands_eq y x (truths_one e x.f y.f se ax.live.0 ay.live.0 same, ax.g ∙ sym ay.g, ax.h ∙ sym ay.h)

false_node : (d e : Diagram) (n : ℕ) → IsSound d → IsSound e → Extends d e → IsLive e n → function_of e n ≡ function_of d 0 → n ≡ 0
false_node d e n sd se ext live same =
    truths_one e n 0 se live (inl (omega arith)) (ap (truths (length e.order)) (same ∙ sym (function_on d e 0 sd se ext (inl (omega arith)))))

-- met from one of the functions of a list, with FALSE in the other two places
pub record IsMetFrom (d : Diagram) (fs : List Function) (e : Diagram) (to : Operands) : Type 0 where
  pub root : ℕ
  pub one : IsOneOf fs (function_of d root)
  pub met : IsMet plain d (alone root) e to

-- The steps on a list of nodes are at most the size of their functions.
pub takes_size : (d : Diagram) (fs : List Function) (e : Diagram) (es : Results) (s0 s1 : ℕ) → IsSound d → IsSound e → Extends d e → Takes (IsMetFrom d fs) d e es s0 s1 → TakesAtMost (size_in d fs) d e s0 s1
takes_size d fs e es s0 s1 sd se ext t =
    let k = length e.order in
    let none : (w : ℕ) → Ignores (function_of d 0) w = λ w. ignores_above d w 0 sd (inl (omega arith)) in
    let few = marks_few (λ x. truths k (function_of e x.f)) (IsAlone e) (λ x y ax ay same. alone_triple e x y se ax ay same) t.met (counted_lists k e.order fs) t.once
    (λ x h.
    let from = t.arise x h in
    let start = trio_by plain d (alone from.root) in
    let counted = alone_counted k e.order start (trio_by plain e x) none none (order_same d.order e.order start (trio_by plain e x) (sym ext.order) from.met.arises) in (
      record { live = from.met.live; g = false_node d e x.g sd se ext from.met.live.1 counted.1; h = false_node d e x.h sd se ext from.met.live.2 counted.2 },
      counted_whole k e.order fs (function_of d from.root) (function_of e x.f) from.one counted.0,
    )) in
    let same : size k e.order fs ≡ size_in d fs = ap (λ o. size (length o) o fs) ext.order in
    at_most (IsMetFrom d fs) d e es s0 s1 (size_in d fs) t (omega (arith, few, counted_length k e.order fs, same))

-- The steps on one node are at most its size.
pub takes_one : (d : Diagram) (f : ℕ) (e : Diagram) (es : Results) (s0 s1 : ℕ) → IsSound d → IsSound e → Extends d e → Takes (IsMet plain d (alone f)) d e es s0 s1 → TakesAtMost (size_in d (function_of d f ∷ [])) d e s0 s1
takes_one d f e es s0 s1 sd se ext t =
    takes_size d (function_of d f ∷ []) e es s0 s1 sd se ext
    (takes_as (IsMet plain d (alone f)) (IsMetFrom d (function_of d f ∷ [])) d e es s0 s1 (λ to met. record { root = f; one = inl refl; met = met }) t)
