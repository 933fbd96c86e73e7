-- A step that is tried once, and once more after a reclaim, with upkeep before.
use Rattle.std.proofs.Common.{◌≡◌, ℕ, ◌+◌, ◌≤◌, true, false, List, length, Result, Ok, Err, refl, sym, ◌∙◌, ap, subst}
use Rattle.std.specs.Prelude.{IfErr, OnOk, OnErr}
use Rattle.std.proofs.lemmas.Bool.{false≢true}
use Rattle.amp_dense.specs.Rules.{Settings}
use Rattle.amp_dense.specs.declared.stop.Stop.{Stop}
use Rattle.amp_dense.specs.declared.stop.Stop.TheVariants.{OutOfMemory}
use Rattle.diagram_model.specs.Functions.{Function}
use Rattle.diagram_model.specs.Stores.{Diagram}
use Rattle.diagram_ops.specs.Diagrams.{StoreAndCache, IsConsistent}
use Rattle.diagram_ops.specs.Made.{Property}
use Rattle.node_reclaim.specs.Reclaims.{HoldsOnly}
use Rattle.slice_vec.specs.Growing.{Grows}
use Rattle.slice_vec.proofs.Growing.{grows_wider}
use Rattle.slice_quad.specs.declared.kind.Step.{Step}
use Rattle.slice_quad.specs.declared.quad.SliceQuad.{SliceQuad}
use Rattle.slice_quad.specs.declared.stop.QuadStop.{QuadStop}
use Rattle.slice_quad.specs.declared.stop.QuadStop.TheVariants as quads
use Rattle.slice_quad.specs.Mix.{Vector}
use Rattle.slice_quad.specs.Settled.{IsSettled}
use Rattle.slice_quad.specs.Stepping.{stepped, half_of, IsWork}
use Rattle.slice_quad.specs.Stops.{OnWidth, QuadStopIs}
use Rattle.slice_quad.specs.Vectors.{vector_in, FitsWidth, Stands}
use Rattle.step_upkeep.specs.declared.upkeep.Schedule.{Schedule}
use Rattle.step_upkeep.specs.Accepted.{IsAccepted, IsStopOf, Reorders, stop_of}
use Rattle.step_upkeep.specs.Due.{is_due, IsInForce, IsLeft}
use Rattle.step_upkeep.specs.Tried.{IsAnswer, IsStepped, IsStill, IsTried, is_full}
use Rattle.step_upkeep.specs.Upkept.{KeepsQuad, InQuad, NeedsNodes, functions_in, work_in}
use Rattle.step_upkeep.proofs.Keeping.{keeps_then, still_then, still_grown, holds_grown, holds_wider, work_same, work_back, work_on, reclaimed_wanted, full_needs}

abbrev pub Answer : Type 0
Answer = Result (Unit {0}) QuadStop

-- the answer is by the vector, which stays
answer_on : (u v w : StoreAndCache) (s : Step) (q r : SliceQuad) (width : ℕ) (o : Answer) → KeepsQuad u q v → IsAnswer v w s q r width o → IsAnswer u w s q r width o
answer_on u v w s q r width o k h = record {
  settled = subst (λ (x : Vector). OnOk o (IsSettled w.store (stepped s x) (q.exponent + half_of s) r.four r.exponent)) k.vector h.settled;
  fits = subst (λ (x : Vector). OnOk o (FitsWidth width (stepped s x))) k.vector h.fits;
  narrow = h.narrow;
  unfit = subst (λ (x : Vector). IfErr o (OnWidth (¬ FitsWidth width (stepped s x)))) k.vector h.unfit;
  refused = h.refused;
  kept = h.kept;
  stands = h.stands;
}

-- ---- one try is enough
not_needed : (d : Diagram) (fs : List Function) (o : Answer) → is_full o ≡ false → IfErr o (NeedsNodes d fs)
not_needed d fs (Ok x) less = tt
not_needed d fs (Err quads.Width) less = tt
not_needed d fs (Err (quads.Full held)) less = absurd (false≢true (sym less))
not_needed d fs (Err quads.OutOfMemory) less = tt

pub tried_once : (u v : StoreAndCache) (s : Step) (q r : SliceQuad) (width : ℕ) (o : Answer) → IsConsistent u → Stands u.store q → is_full o ≡ false → IsStepped u v s q r width o → IsTried u v s q r width o
tried_once u v s q r width o sound stands less h = record {
  told = h.told;
  full = not_needed v.store (work_in u.store s q) o less;
  still = still_grown u v (IsWork u.store s q) q sound h.grows stands;
  holds = λ all. holds_grown u v (IsWork u.store s q) sound h.grows all;
}

-- ---- a second try
-- the first one left the vector or matrix
pub first_same : (o : Answer) (q r : SliceQuad) → is_full o ≡ true → OnErr o (r ≡ q) → r ≡ q
first_same (Ok x) q r full h = absurd (false≢true full)
first_same (Err e) q r full h = h

-- no memory for the reclaim
pub tried_stopped : (u v w : StoreAndCache) (s : Step) (q r : SliceQuad) (width : ℕ) (o : Answer) → IsConsistent u → Stands u.store q → is_full o ≡ true → IsStepped u v s q r width o → w ≡ v
    → IsTried u w s q r width (Err quads.OutOfMemory)
tried_stopped u v w s q r width o sound stands full h same = subst (λ (x : StoreAndCache). IsTried u x s q r width (Err quads.OutOfMemory)) (sym same) here
  where
    here : IsTried u v s q r width (Err quads.OutOfMemory)
    here = record {
      told = record { settled = tt; fits = tt; narrow = tt; unfit = tt; refused = first_same o q r full h.told.refused; kept = h.told.kept; stands = h.told.stands };
      full = tt;
      still = still_grown u v (IsWork u.store s q) q sound h.grows stands;
      holds = λ all. holds_grown u v (IsWork u.store s q) sound h.grows all;
    }

-- after a reclaim
module _ (u v w : StoreAndCache) (s : Step) (q r : SliceQuad) (width : ℕ) (o : Answer) (k : IsStill u q v) (stands : Stands u.store q) (clean : HoldsOnly v.store (IsWork u.store s q)) (h : IsStepped v w s q r width o) where
  abbrev Is : Property
  Is = IsWork u.store s q

  wider : Grows v Is w
  wider = grows_wider v w (IsWork v.store s q) Is (work_back u v s q k) h.grows

  all : HoldsOnly w.store Is
  all = holds_grown v w Is k.keeps.sound wider clean

  needed : (p : Answer) → IfErr p (QuadStopIs w.store (IsWork v.store s q)) → IfErr p (NeedsNodes w.store (work_in u.store s q))
  needed (Ok x) stop = tt
  needed (Err quads.Width) stop = tt
  needed (Err (quads.Full n)) stop = (stop.0, full_needs u.store w.store (work_in u.store s q) wider.sound.store (wider.extends.order ∙ k.order) stop.1.full all)
  needed (Err quads.OutOfMemory) stop = tt

  pub tried_clean : IsTried u w s q r width o
  tried_clean = record {
    told = answer_on u v w s q r width o k.keeps h.told;
    full = needed o h.full;
    still = still_then u v w q k (still_grown v w (IsWork v.store s q) q k.keeps.sound h.grows k.keeps.stands);
    holds = λ before. all;
  }

-- the first try was full, the reclaim left v as w, and the second try as x
pub tried_again : (u v w x : StoreAndCache) (s : Step) (q m r : SliceQuad) (width : ℕ) (o a : Answer) → IsConsistent u → Stands u.store q → is_full o ≡ true → IsStepped u v s q m width o
    → IsStill v m w → HoldsOnly w.store (InQuad v.store m) → IsStepped w x s m r width a → IsTried u x s q r width a
tried_again u v w x s q m r width o a sound stands full first keeps clean second =
    let same : m ≡ q = first_same o q m full first.told.refused in
    let grown : IsStill u q v = still_grown u v (IsWork u.store s q) q sound first.grows stands in
    let kept : IsStill v q w = subst (λ (p : SliceQuad). IsStill v p w) same keeps in
    let k : IsStill u q w = still_then u v w q grown kept in
    let mine : HoldsOnly w.store (InQuad v.store q) = subst (λ (p : SliceQuad). HoldsOnly w.store (InQuad v.store p)) same clean in
    let wanted : HoldsOnly w.store (IsWork v.store s q) = reclaimed_wanted v w.store s q grown.keeps.stands mine in
    let ours : HoldsOnly w.store (IsWork u.store s q) = holds_wider w.store (IsWork v.store s q) (IsWork u.store s q) (work_back u v s q grown) wanted in
    let again : IsStepped w x s q r width a = subst (λ (p : SliceQuad). IsStepped w x s p r width a) same second in
    tried_clean u w x s q r width a k stands ours again

-- ---- upkeep before
on_ok : (o : Answer) (P : Type 0) → P → OnOk o P
on_ok (Ok x) P h = h
on_ok (Err e) P h = tt

-- after a due reclaim no nodes are held but those of the work functions
due_holds : (u v w : StoreAndCache) (s : Step) (q r : SliceQuad) (width : ℕ) (o : Answer) → Stands u.store q → KeepsQuad u q v → v.store.order ≡ u.store.order → HoldsOnly v.store (InQuad u.store q) → IsTried v w s q r width o → OnOk o (HoldsOnly w.store (IsWork u.store s q))
due_holds u v w s q r width o stands k order clean h =
    let still : IsStill u q v = record { keeps = k; order = order } in
    let ours : HoldsOnly v.store (IsWork u.store s q) = reclaimed_wanted u v.store s q stands clean in
    let theirs : HoldsOnly v.store (IsWork v.store s q) = holds_wider v.store (IsWork u.store s q) (IsWork v.store s q) (work_on u v s q still) ours in
    on_ok o (HoldsOnly w.store (IsWork u.store s q)) (holds_wider w.store (IsWork v.store s q) (IsWork u.store s q) (work_back u v s q still) (h.holds theirs))

-- the order after want of memory
left_order : (every gates : ℕ) (u v : StoreAndCache) (q : SliceQuad) → KeepsQuad u q v → (is_due every gates ≡ false → v.store.order ≡ u.store.order) → IsLeft every gates u.store.order v.store.order
left_order every gates u v q k same = record {
  is_order = record { once = k.sound.store.diagram.order; all = k.sound.store.all };
  variables = k.variables;
  same = same;
}

-- ---- the step's answer, as the product's
abbrev pub answered : Answer → ℕ → List ℕ → Result (Unit {0}) Stop
answered (Ok x) number order = Ok x
answered (Err stop) number order = Err (stop_of stop number order)

module _ (number : ℕ) (order : List ℕ) (P : Type 0) where
  ok_answered : (o : Answer) → OnOk o P → OnOk (answered o number order) P
  ok_answered (Ok x) h = h
  ok_answered (Err stop) h = tt

  err_answered : (o : Answer) → OnErr o P → OnErr (answered o number order) P
  err_answered (Ok x) h = tt
  err_answered (Err quads.Width) h = h
  err_answered (Err (quads.Full n)) h = h
  err_answered (Err quads.OutOfMemory) h = h

-- upkeep after so many accepted steps left u as v
module _ (rules : Settings) (accepted : ℕ) (t : Schedule) (is_t : t ≡ record { reclaim = rules.reclaim; sift = rules.sift }) (u v : StoreAndCache) (s : Step) (q : SliceQuad) (k : KeepsQuad u q v)
    (unsifted : is_due t.sift accepted ≡ false → v.store.order ≡ u.store.order) where
  sift : t.sift ≡ rules.sift
  sift = ap (λ (x : Schedule). x.sift) is_t

  same : is_due rules.sift accepted ≡ false → v.store.order ≡ u.store.order
  same due = unsifted (ap (λ i. is_due i accepted) sift ∙ due)

  -- memory ran out at it
  pub accept_stopped : IsAccepted rules accepted u v s q q (Err OutOfMemory)
  accept_stopped = record {
    settled = tt;
    fits = tt;
    narrow = tt;
    stops = tt;
    refused = refl;
    kept = refl;
    stands = k.stands;
    keeps = k;
    order = left_order rules.sift accepted u v q k same;
    holds = λ due not_sifted. tt;
  }

  -- or the step was tried
  module _ (w : StoreAndCache) (r : SliceQuad) (stands : Stands u.store q) (force : IsInForce t.sift accepted (functions_in u.store q) u.store.limit u.store.order v.store.order)
      (clean : is_due t.reclaim accepted ≡ true → is_due t.sift accepted ≡ false → HoldsOnly v.store (InQuad u.store q)) where
    stop_says : (o : Answer) → IfErr o (OnWidth (¬ FitsWidth rules.width (stepped s (vector_in u.store q.four)))) → IfErr o (NeedsNodes w.store (work_in u.store s q))
        → IfErr (answered o (accepted + 1) w.store.order) (IsStopOf rules accepted u.store w.store s q)
    stop_says (Ok x) wide full = tt
    stop_says (Err quads.Width) wide full = (refl, wide)
    stop_says (Err (quads.Full n)) wide full = (refl, refl, full.0, full.1)
    stop_says (Err quads.OutOfMemory) wide full = tt

    in_force : w.store.order ≡ v.store.order → IsInForce rules.sift accepted (functions_in u.store q) u.store.limit u.store.order w.store.order
    in_force e =
        let F : ℕ → List ℕ → Type 0 = λ i l. IsInForce i accepted (functions_in u.store q) u.store.limit u.store.order l in
        subst (F rules.sift) (sym e) (subst (λ i. F i v.store.order) sift force)

    ordered : (o : Answer) → IsStill v q w → Reorders rules.sift accepted u.store q (answered o (accepted + 1) w.store.order) w.store.order
    ordered (Ok x) still = in_force still.order
    ordered (Err quads.Width) still = in_force still.order
    ordered (Err (quads.Full n)) still = in_force still.order
    ordered (Err quads.OutOfMemory) still = left_order rules.sift accepted u w q (keeps_then u v w q k still.keeps) (λ due. still.order ∙ same due)

    pub accept_tried : (width : ℕ) (o : Answer) → width ≡ rules.width → IsTried v w s q r width o → IsAccepted rules accepted u w s q r (answered o (accepted + 1) w.store.order)
    accept_tried width o wide tried =
        let n = accepted + 1 in
        let l = w.store.order in
        let h : IsTried v w s q r rules.width o = subst (λ i. IsTried v w s q r i o) wide tried in
        let told = answer_on u v w s q r rules.width o k h.told in
        record {
          settled = ok_answered n l (IsSettled w.store (stepped s (vector_in u.store q.four)) (q.exponent + half_of s) r.four r.exponent) o told.settled;
          fits = ok_answered n l (FitsWidth rules.width (stepped s (vector_in u.store q.four))) o told.fits;
          narrow = ok_answered n l (length r.four.a ≤ rules.width) o told.narrow;
          stops = stop_says o told.unfit (subst (λ (fs : List Function). IfErr o (NeedsNodes w.store fs)) (work_same u v s q k) h.full);
          refused = err_answered n l (r ≡ q) o told.refused;
          kept = told.kept;
          stands = told.stands;
          keeps = keeps_then u v w q k h.still.keeps;
          order = ordered o h.still;
          holds = λ due not_sifted.
              let never : is_due t.sift accepted ≡ false = ap (λ i. is_due i accepted) sift ∙ not_sifted in
              let reclaim : is_due t.reclaim accepted ≡ true = ap (λ (x : Schedule). is_due x.reclaim accepted) is_t ∙ due in
              ok_answered n l (HoldsOnly w.store (IsWork u.store s q)) o (due_holds u v w s q r rules.width o stands k (unsifted never) (clean reclaim never) h);
        }
