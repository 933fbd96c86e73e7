-- Freeing by the two levels of a swap alone: which nodes lose their last parent.
use Rattle.std.proofs.Common.{◌≡◌, ◌≢◌, ◌⊎◌, ℕ, zero, suc, ◌<◌, ◌≤◌, Bool, true, false, List, length, Option, Some, None, inl, inr, refl, sym, ◌∙◌, ap, arith, All}
use Rattle.std.proofs.lemmas.Bool.{cases_eq, cases_lt}
use Rattle.bit_lists.specs.Orders.{place_in}
use Rattle.diagram_model.specs.declared.parts.Parts.{Parts}
use Rattle.diagram_model.specs.Nodes.{parts_of, child, follow, IsDiagram}
use Rattle.diagram_model.specs.Reach.{is_in, Reaches}
use Rattle.diagram_model.specs.Reach.Reaches.{root, step}
use Rattle.diagram_model.specs.Size.{size}
use Rattle.diagram_model.specs.Stores.{Diagram, IsLive, IsSound}
use Rattle.diagram_model.proofs.Canonical.{some_same, follow-at, follow-other}
use Rattle.diagram_model.proofs.Held.{held_list, length-held_list, distinct-held_list, in_held_list, of_held_list}
use Rattle.diagram_model.proofs.Reached.{size_of_reached}
use Rattle.level_swap.specs.Swaps.{IsNodeOf, IsRewritten, AreSwapped}
use Rattle.node_reclaim.specs.Reclaims.{KeepsReached}
use Rattle.node_store.specs.declared.node.Node.{Node}
use Rattle.node_store.specs.Marks.{numbers}
use Rattle.node_store.specs.Slots.{parts}
use Rattle.sifting.specs.Hanging.{HasParent, AreFound, rank_of}
use Rattle.sifting.specs.Sifts.{IsTidy}
use Rattle.sifting.proofs.Keeps.{level_reclaimed, each_live, denoted_all}
use Rattle.sifting.proofs.Pairs.{IsPair, child_place}

reached_at : (s : List (Option Parts)) (roots : List ℕ) (m n : ℕ) → n ≡ m → Reaches s roots n → Reaches s roots m
reached_at s roots m n e h = rw (← e) h

reached_by : (s : List (Option Parts)) (k : ℕ) (vs roots : List ℕ) → IsDiagram s k vs → ((m : ℕ) (p : Parts) → parts_of s m ≡ Some p → (is_in roots m ≡ true) ⊎ HasParent s m) → (i m : ℕ) (p : Parts) → parts_of s m ≡ Some p → place_in vs p.var < i → Reaches s roots m
reached_by s k vs roots d found zero m p is lt = absurd (omega arith)
reached_by s k vs roots d found (suc i) m p is lt =
    elim (found m p is) [
      | inl at ↦ root m at
      | inr h ↦
          let here : parts_of s (child h.side h.its) ≡ Some p = ap (parts_of s) h.there ∙ is in
          let above = child_place s k vs h.parent h.its p h.side d h.is here in
          reached_at s roots m (child h.side h.its) h.there (step h.parent h.its h.side (reached_by s k vs roots d found i h.parent h.its h.is (omega (arith, above, lt))) h.is)
    ]

-- where each held node is a root or has a parent, as many are held as the functions of the roots need
pub tidy_found : (d : Diagram) (roots : List Node) → IsSound d → All (λ (n : Node). IsLive d n.0) roots → AreFound d roots → IsTidy d roots
tidy_found d roots sound live found =
    let all : (m : ℕ) (p : Parts) → parts_of d.slots m ≡ Some p → Reaches d.slots (numbers roots) m = λ m p is. reached_by d.slots (length d.order) d.order (numbers roots) sound.diagram found (suc (place_in d.order p.var)) m p is (omega arith) in
    record {
      whole =
          sym (length-held_list d)
          ∙ size_of_reached d.slots (length d.order) d.order (numbers roots) (held_list d) sound.diagram (each_live d roots live) (distinct-held_list d)
          (λ q h. let a = of_held_list d q h in (all q a.0 a.1, a))
          (λ q p h is. in_held_list d q (p, is))
          ∙ ap (size (length d.order) d.order) (sym (denoted_all d roots));
      levels = λ i lt. level_reclaimed d d roots i sound live (record { kept = λ n p is h. is; was = λ n p is. is; only = λ n p is. all n p is }) lt;
    }

hangs_left : (d e : Diagram) (roots : List Node) → KeepsReached d e roots → (m : ℕ) → Reaches d.slots (numbers roots) m → (is_in (numbers roots) m ≡ true) ⊎ HasParent e.slots m
hangs_left d e roots left m (root _ h) = inl h
hangs_left d e roots left m (step q p b h is) = inr (record { parent = q; its = p; side = b; is = left.kept q p is h; there = refl })

-- after a reclaim each held node is a root or has a parent
pub found_left : (d e : Diagram) (roots : List Node) → KeepsReached d e roots → AreFound e roots
found_left d e roots left m p is = hangs_left d e roots left m (left.only m p is)

pub along : (P : ℕ → Type 0) (x y : ℕ) → x ≡ y → P x → P y
along P x y e h = rw (← e) h

-- m is a root or has a parent above both variables
abbrev pub Hung : List (Option Parts) → (ℕ → Type 0) → List ℕ → ℕ → Type 0
Hung s Above roots m = (is_in roots m ≡ true) ⊎ ((h : HasParent s m) × (Above h.its.var))

-- the ranks say which nodes hang so
pub record AreHung (s : List (Option Parts)) (Above : ℕ → Type 0) (roots ranks : List ℕ) (bound : ℕ) : Type 0 where
  pub right : (m : ℕ) → rank_of ranks m ≤ bound → Hung s Above roots m
  pub whole : (m : ℕ) → Hung s Above roots m → rank_of ranks m ≤ bound

-- w is t without the nodes of v that do not hang
pub record Drops (t w : List (Option Parts)) (v : ℕ) (ranks : List ℕ) (bound : ℕ) : Type 0 where
  pub kept : (n : ℕ) (p : Parts) → parts_of t n ≡ Some p → (p.var ≢ v) ⊎ (rank_of ranks n ≤ bound) → parts_of w n ≡ Some p
  pub was : (n : ℕ) (p : Parts) → parts_of w n ≡ Some p → parts_of t n ≡ Some p
  pub only : (n : ℕ) (p : Parts) → parts_of w n ≡ Some p → p.var ≡ v → rank_of ranks n ≤ bound

either_child : (b : Bool) (p : Parts) (m : ℕ) → child b p ≡ m → (p.low ≡ m) ⊎ (p.high ≡ m)
either_child false p m e = inl e
either_child true p m e = inr e

child_same : (b : Bool) (p : Parts) (u : ℕ) → child b (parts u p.low p.high) ≡ child b p
child_same false p u = refl
child_same true p u = refl

-- a node of u as parts
parts_at : (s : List (Option Parts)) (u q : ℕ) (p : Parts) → parts_of s q ≡ Some p → p.var ≡ u → parts_of s q ≡ Some (parts u p.low p.high)
parts_at s u q p is at = is ∙ ap (λ x. let r : Option Parts = Some (parts x p.low p.high) in r) at

-- the swap alone
module _ (s t : List (Option Parts)) (u v : ℕ) (Above : ℕ → Type 0) (pair : IsPair s u v Above) (swapped : AreSwapped s t u v) where
  not_upper : (p q : Parts) → p ≡ q → q.var ≡ u → Above p.var → ⊥
  not_upper p q e at above = pair.not_u (along Above p.var u (ap (λ (z : Parts). z.var) e ∙ at) above)

  not_lower : (p q : Parts) → p ≡ q → q.var ≡ v → Above p.var → ⊥
  not_lower p q e at above = pair.not_v (along Above p.var v (ap (λ (z : Parts). z.var) e ∙ at) above)

  above_in : (o : Option Parts) (q : ℕ) (p : Parts) → parts_of s q ≡ o → parts_of t q ≡ Some p → Above p.var → o ≡ Some p
  above_in None q p held is above = absurd (not_upper p p refl (swapped.added q p held is).0 above)
  above_in (Some r) q p held is above =
      elim (cases_eq r.var u) [
        | inl at ↦ elim (swapped.upper q r.low r.high (parts_at s u q r held at)) [
          | inl left ↦ absurd (not_upper p (parts u r.low r.high) (some_same p (parts u r.low r.high) (sym is ∙ left.is)) refl above)
          | inr new ↦ absurd (not_lower p (parts v new.false_part new.true_part) (some_same p (parts v new.false_part new.true_part) (sym is ∙ new.is)) refl above)
        ]
        | inr ne ↦ sym (swapped.others q r held ne) ∙ is
      ]

  -- a node above both was there before, and is there afterwards
  pub above_before : (q : ℕ) (p : Parts) → parts_of t q ≡ Some p → Above p.var → parts_of s q ≡ Some p
  above_before q p is above = above_in (parts_of s q) q p refl is above

  pub above_after : (q : ℕ) (p : Parts) → parts_of s q ≡ Some p → Above p.var → parts_of t q ≡ Some p
  above_after q p is above = swapped.others q p is (λ e. pair.not_u (along Above p.var u e above))

-- the swap, and then the freeing of the nodes of v that do not hang
module _ (s t w : List (Option Parts)) (u v : ℕ) (Above : ℕ → Type 0) (roots ranks : List ℕ) (bound : ℕ) (pair : IsPair s u v Above) (swapped : AreSwapped s t u v) (found : (m : ℕ) (p : Parts) → parts_of s m ≡ Some p → (is_in roots m ≡ true) ⊎ HasParent s m) (hung : AreHung s Above roots ranks bound) (drops : Drops t w v ranks bound) where
  stays : (q : ℕ) (p : Parts) (b : Bool) (m : ℕ) → parts_of t q ≡ Some p → (p.var ≢ v) ⊎ (rank_of ranks q ≤ bound) → child b p ≡ m → HasParent w m
  stays q p b m is why at = record { parent = q; its = p; side = b; is = drops.kept q p is why; there = at }

  -- a node above both stays
  pub above_kept : (q : ℕ) (p : Parts) → parts_of s q ≡ Some p → Above p.var → parts_of w q ≡ Some p
  above_kept q p is above = drops.kept q p (above_after s t u v Above pair swapped q p is above) (inl (λ e. pair.not_v (along Above p.var v e above)))

  pub above_was : (q : ℕ) (p : Parts) → parts_of w q ≡ Some p → Above p.var → parts_of s q ≡ Some p
  above_was q p is above = above_before s t u v Above pair swapped q p (drops.was q p is) above

  -- a node of u hangs
  upper_hangs : (q : ℕ) (p : Parts) → parts_of s q ≡ Some p → p.var ≡ u → rank_of ranks q ≤ bound
  upper_hangs q p is at =
      elim (found q p is) [
        | inl r ↦ hung.whole q (inl r)
        | inr h ↦ hung.whole q (inr (h, pair.over_u h.parent h.its p h.side h.is (ap (parts_of s) h.there ∙ is) at))
      ]

  -- what the children of a rewritten node led to still hangs on it
  below_part : (q m a x y : ℕ) (b : Bool) (r : Parts) → parts_of t q ≡ Some r → child b r ≡ a → rank_of ranks q ≤ bound → IsNodeOf t u x y a → (x ≡ m) ⊎ (y ≡ m) → HasParent w m
  below_part q m a x y b r is at hangs (inl same) which = stays q r b m is (inr hangs) (at ∙ same.1 ∙ elim which [ inl e ↦ e | inr e ↦ same.0 ∙ e ])
  below_part q m a x y b r is at hangs (inr made) (inl e) = stays a (parts u x y) false m made.1 (inl pair.differ) e
  below_part q m a x y b r is at hangs (inr made) (inr e) = stays a (parts u x y) true m made.1 (inl pair.differ) e

  below_rewritten : (q low high m : ℕ) (b : Bool) → rank_of ranks q ≤ bound → IsRewritten s t u v q low high → (follow s v b low ≡ m) ⊎ (follow s v b high ≡ m) → HasParent w m
  below_rewritten q low high m false hangs r which = below_part q m r.false_part (follow s v false low) (follow s v false high) false (parts v r.false_part r.true_part) r.is refl hangs r.when_false which
  below_rewritten q low high m true hangs r which = below_part q m r.true_part (follow s v true low) (follow s v true high) true (parts v r.false_part r.true_part) r.is refl hangs r.when_true which

  follow_child : (n m : ℕ) (p : Parts) (b : Bool) (x : ℕ) → parts_of s n ≡ Some p → p.var ≡ v → child b p ≡ m → x ≡ n → follow s v b x ≡ m
  follow_child n m p b x is at e same = ap (follow s v b) same ∙ follow-at s v n p is at b ∙ e

  follow_itself : (m x : ℕ) (p : Parts) → parts_of s m ≡ Some p → p.var ≢ v → x ≡ m → follow s v false x ≡ m
  follow_itself m x p is ne same = ap (follow s v false) same ∙ follow-other s v m (λ r rs at. ne (ap (λ (z : Parts). z.var) (some_same p r (sym is ∙ rs)) ∙ at)) false

  -- the parent of m was a node of v that is freed
  under_dropped : (m q : ℕ) (r : Parts) (b : Bool) → parts_of s q ≡ Some r → r.var ≡ v → child b r ≡ m → bound < rank_of ranks q → HasParent w m
  under_dropped m q r b is at there loose =
      elim (found q r is) [
        | inl e ↦ let f = hung.whole q (inl e) in absurd (omega (arith, loose, f))
        | inr h ↦ elim (pair.over_v h.parent h.its r h.side h.is (ap (parts_of s) h.there ∙ is) at) [
          | inr above ↦ let f = hung.whole q (inr (h, above)) in absurd (omega (arith, loose, f))
          | inl at_u ↦
              let hangs = upper_hangs h.parent h.its h.is at_u in
              let lead : (follow s v b h.its.low ≡ m) ⊎ (follow s v b h.its.high ≡ m) = elim (either_child h.side h.its q h.there) [
                | inl e ↦ inl (follow_child q m r b h.its.low is at there e)
                | inr e ↦ inr (follow_child q m r b h.its.high is at there e)
              ] in
              elim (swapped.upper h.parent h.its.low h.its.high (parts_at s u h.parent h.its h.is at_u)) [
                | inl left ↦ elim (either_child h.side h.its q h.there) [
                  | inl e ↦ absurd (left.low_lacks r (ap (parts_of s) e ∙ is) at)
                  | inr e ↦ absurd (left.high_lacks r (ap (parts_of s) e ∙ is) at)
                ]
                | inr rewritten ↦ below_rewritten h.parent h.its.low h.its.high m b hangs rewritten lead
              ]
        ]
      ]

  -- the parent of m was a node of u
  under_upper : (m q : ℕ) (r p : Parts) (b : Bool) → parts_of s q ≡ Some r → r.var ≡ u → child b r ≡ m → parts_of s m ≡ Some p → p.var ≢ v → HasParent w m
  under_upper m q r p b is at there held ne =
      elim (swapped.upper q r.low r.high (parts_at s u q r is at)) [
        | inl left ↦ stays q (parts u r.low r.high) b m left.is (inl pair.differ) (child_same b r u ∙ there)
        | inr rewritten ↦ below_rewritten q r.low r.high m false (upper_hangs q r is at) rewritten (elim (either_child b r m there) [
          | inl e ↦ inl (follow_itself m r.low p held ne e)
          | inr e ↦ inr (follow_itself m r.high p held ne e)
        ])
      ]

  -- m was held, and has another variable than v
  was_held : (m : ℕ) (p q : Parts) → parts_of s m ≡ Some q → parts_of t m ≡ Some p → p.var ≢ v → (is_in roots m ≡ true) ⊎ HasParent w m
  was_held m p q held is ne =
      let old : q.var ≢ v = λ e. ne (ap (λ (z : Parts). z.var) (some_same p q (sym is ∙ swapped.others m q held (λ f. pair.differ (sym f ∙ e)))) ∙ e) in
      elim (found m q held) [
        | inl e ↦ inl e
        | inr h ↦ inr (elim (cases_eq h.its.var u) [
          | inl at ↦ under_upper m h.parent h.its q h.side h.is at h.there held old
          | inr nu ↦ elim (cases_eq h.its.var v) [
            | inl at ↦ elim (cases_lt bound (rank_of ranks h.parent)) [
              | inl loose ↦ under_dropped m h.parent h.its h.side h.is at h.there loose
              | inr hangs ↦ stays h.parent h.its h.side m (swapped.others h.parent h.its h.is nu) (inr hangs) h.there
            ]
            | inr nv ↦ stays h.parent h.its h.side m (swapped.others h.parent h.its h.is nu) (inl nv) h.there
          ]
        ])
      ]

  was_added : (m : ℕ) (p : Parts) → parts_of s m ≡ None → parts_of t m ≡ Some p → HasParent w m
  was_added m p none is =
      let a = (swapped.added m p none is).1 in
      stays a.parent a.its a.side m a.is (inr (upper_hangs a.parent a.before a.was a.var_is)) a.there

  other_found : (o : Option Parts) (m : ℕ) (p : Parts) → parts_of s m ≡ o → parts_of t m ≡ Some p → p.var ≢ v → (is_in roots m ≡ true) ⊎ HasParent w m
  other_found None m p held is ne = inr (was_added m p held is)
  other_found (Some q) m p held is ne = was_held m p q held is ne

  -- once the nodes of v that do not hang are freed, each node is a root or has a parent again
  pub found_again : (m : ℕ) (p : Parts) → parts_of w m ≡ Some p → (is_in roots m ≡ true) ⊎ HasParent w m
  found_again m p is =
      elim (cases_eq p.var v) [
        | inl at ↦ elim (hung.right m (drops.only m p is at)) [
          | inl r ↦ inl r
          | inr h ↦ inr (record { parent = h.0.parent; its = h.0.its; side = h.0.side; is = above_kept h.0.parent h.0.its h.0.is h.1; there = h.0.there })
        ]
        | inr ne ↦ other_found (parts_of s m) m p refl (drops.was m p is) ne
      ]
