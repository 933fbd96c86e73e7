-- A swap, and then the freeing of the nodes of the variable that came up that do not hang on nodes above.
use Rattle.std.proofs.Common.{◌≡◌, ℕ, ◌+◌, ◌<◌, ◌≤◌, Bool, true, List, length, Some, inl, inr, refl, sym, ◌∙◌, ap, arith, slice_index, All, get_or}
use Rattle.std.proofs.lemmas.Bool.{cases_lt, both_ways, false_from_ne_true}
use Rattle.bit_lists.specs.Orders.{place_in, exchanged}
use Rattle.diagram_model.specs.declared.parts.Parts.{Parts}
use Rattle.diagram_model.specs.Nodes.{parts_of, child, IsLiveIn}
use Rattle.diagram_model.specs.Reach.{is_in}
use Rattle.diagram_model.specs.Stores.{Diagram, IsSound, IsLive, KeepsFunctions}
use Rattle.diagram_model.proofs.Canonical.{some_same}
use Rattle.level_swap.specs.Swaps.{AreSwapped}
use Rattle.node_reclaim.specs.Reclaims.{NoneIsChild, KeepsOthers}
use Rattle.node_store.specs.declared.node.Node.{Node}
use Rattle.node_store.specs.Marks.{numbers}
use Rattle.node_store.proofs.Kept.{length-exchanged}
use Rattle.sifting.specs.Hanging.{AreFound, Hangs, AreRanked, AreLoose, IsFreed, KeepsHanging, rank_of}
use Rattle.sifting.specs.Sifts.{KeepsRoots, IsTidy}
use Rattle.sifting.proofs.Keeps.{same_functions, live_kept, root_in}
use Rattle.sifting.proofs.Orphans.{AreHung, Drops, above_before, above_kept, above_was, found_again, tidy_found}
use Rattle.sifting.proofs.Pairs.{IsPair, child_place, pair_at, place_at, above_exchanged, exchanged_above, second_first}

-- nodes above a place are the same in e, with their places
hangs_on : (d e : Diagram) (roots : List Node) (j m : ℕ) → ((q : ℕ) (p : Parts) → parts_of d.slots q ≡ Some p → place_in d.order p.var < j → (parts_of e.slots q ≡ Some p) × (place_in e.order p.var < j)) → Hangs d roots j m → Hangs e roots j m
hangs_on d e roots j m kept (inl r) = inl r
hangs_on d e roots j m kept (inr h) =
    let k = kept h.0.parent h.0.its h.0.is h.1 in
    inr (record { parent = h.0.parent; its = h.0.its; side = h.0.side; is = k.0; there = h.0.there }, k.1)

-- the exchange of the places i and i + 1 leads from d to e, where ranks tell what hangs above both in d
pub record IsExchanged (d e : Diagram) (i : ℕ) (roots : List Node) (ranks : List ℕ) (bound : ℕ) : Type 0 where
  pub before : IsSound d
  pub after : IsSound e
  pub within : i + 1 < length d.order
  pub order : e.order ≡ exchanged d.order i
  pub swapped : AreSwapped d.slots e.slots (slice_index d.order i) (slice_index d.order (i + 1))
  pub found : AreFound d roots
  pub ranked : AreRanked d roots i ranks bound

-- the swap alone
module _ (d e : Diagram) (i : ℕ) (roots : List Node) (ranks : List ℕ) (bound : ℕ) (x : IsExchanged d e i roots ranks bound) where
  pair : IsPair d.slots (slice_index d.order i) (slice_index d.order (i + 1)) (λ y. place_in d.order y < i)
  pair = pair_at d i x.before x.within

  hung : AreHung d.slots (λ y. place_in d.order y < i) (numbers roots) ranks bound
  hung = record { right = x.ranked.right; whole = x.ranked.whole }

  lower_place : place_in e.order (slice_index d.order (i + 1)) ≡ i
  lower_place =
      let long : length e.order ≡ length d.order = ap length x.order ∙ length-exchanged d.order i in
      ap (place_in e.order) (sym (ap (λ l. slice_index l i) x.order ∙ second_first d.order i x.within))
      ∙ place_at (length e.order) e.order i x.after.diagram.order (omega (arith, x.within, long))

  -- the place of a variable above both
  place_before : (y : ℕ) → place_in e.order y < i → place_in d.order y ≡ place_in e.order y
  place_before y h =
      let g : place_in e.order y ≡ place_in (exchanged d.order i) y = ap (λ l. place_in l y) x.order in
      let r = above_exchanged d.order i y (omega (arith, g, h)) in
      omega (arith, g, r)

  place_after : (y : ℕ) → place_in d.order y < i → place_in e.order y ≡ place_in d.order y
  place_after y h =
      let g : place_in e.order y ≡ place_in (exchanged d.order i) y = ap (λ l. place_in l y) x.order in
      let r = exchanged_above d.order i y h in
      omega (arith, g, r)

  -- the children of the variable that came up hang on nodes above both
  lower_hangs : (q : ℕ) (p r : Parts) (b : Bool) → parts_of e.slots q ≡ Some p → parts_of e.slots (child b p) ≡ Some r → r.var ≡ slice_index d.order (i + 1) → rank_of ranks (child b p) ≤ bound
  lower_hangs q p r b is there at =
      let a = child_place e.slots (length e.order) e.order q p r b x.after.diagram is there in
      let f = ap (place_in e.order) at in
      let g = place_before p.var (omega (arith, a, f, lower_place)) in
      let above : place_in d.order p.var < i = omega (arith, a, f, g, lower_place) in
      let before = above_before d.slots e.slots (slice_index d.order i) (slice_index d.order (i + 1)) (λ y. place_in d.order y < i) pair x.swapped q p is above in
      x.ranked.whole (child b p) (inr (record { parent = q; its = p; side = b; is = before; there = refl }, above))

  -- so no other node has a loose one as a child
  pub loose_childless : (ns : List ℕ) → AreLoose e (slice_index d.order (i + 1)) ranks bound ns → NoneIsChild e ns
  loose_childless ns loose n p b q is out at =
      false_from_ne_true (is_in ns (child b p)) (λ h.
      let l = loose.each (child b p) h in
      let same : q.var ≡ l.0.0.var = ap (λ (z : Parts). z.var) (some_same q l.0.0 (sym at ∙ l.0.1)) in
      let k = lower_hangs n p q b is at (same ∙ l.0.2) in
      let lt = l.1 in
      absurd (omega (arith, k, lt)))

  drops : (f : Diagram) (ns : List ℕ) → AreLoose e (slice_index d.order (i + 1)) ranks bound ns → KeepsOthers e f ns → Drops e.slots f.slots (slice_index d.order (i + 1)) ranks bound
  drops f ns loose others = record {
    kept = λ n p is why. others.kept n p is (false_from_ne_true (is_in ns n) (λ h.
        let l = loose.each n h in
        let same : p.var ≡ l.0.0.var = ap (λ (z : Parts). z.var) (some_same p l.0.0 (sym is ∙ l.0.1)) in
        let lt = l.1 in
        elim why [ inl ne ↦ ne (same ∙ l.0.2) | inr le ↦ absurd (omega (arith, lt, le)) ]));
    was = others.was;
    only = λ n p is at. elim (cases_lt bound (rank_of ranks n)) [
      | inl lt ↦ absurd (both_ways (is_in ns n) (others.only n p is) (loose.all n (p, others.was n p is, at) lt))
      | inr le ↦ le
    ];
  }

-- what holds once the loose nodes are freed
module _ (d e : Diagram) (i : ℕ) (roots : List Node) (ranks : List ℕ) (bound : ℕ) (x : IsExchanged d e i roots ranks bound) (f : Diagram) (ns : List ℕ) (loose : AreLoose e (slice_index d.order (i + 1)) ranks bound ns) (others : KeepsOthers e f ns) (fo : f.order ≡ e.order) where
  pair_here : IsPair d.slots (slice_index d.order i) (slice_index d.order (i + 1)) (λ y. place_in d.order y < i)
  pair_here = pair d e i roots ranks bound x

  hung_here : AreHung d.slots (λ y. place_in d.order y < i) (numbers roots) ranks bound
  hung_here = hung d e i roots ranks bound x

  drops_here : Drops e.slots f.slots (slice_index d.order (i + 1)) ranks bound
  drops_here = drops d e i roots ranks bound x f ns loose others

  pub freed_found : AreFound f roots
  freed_found = found_again d.slots e.slots f.slots (slice_index d.order i) (slice_index d.order (i + 1)) (λ y. place_in d.order y < i) (numbers roots) ranks bound pair_here x.swapped x.found hung_here drops_here

  kept_here : (j : ℕ) → j ≤ i → (q : ℕ) (p : Parts) → parts_of d.slots q ≡ Some p → place_in d.order p.var < j → (parts_of f.slots q ≡ Some p) × (place_in f.order p.var < j)
  kept_here j le q p is above =
      let g : place_in f.order p.var ≡ place_in e.order p.var = ap (λ l. place_in l p.var) fo in
      let k = place_after d e i roots ranks bound x p.var (omega (arith, le, above)) in (
        above_kept d.slots e.slots f.slots (slice_index d.order i) (slice_index d.order (i + 1)) (λ y. place_in d.order y < i) (numbers roots) ranks bound pair_here x.swapped x.found hung_here drops_here q p is (omega (arith, le, above)),
        omega (arith, g, k, above),
      )

  was_here : (j : ℕ) → j ≤ i → (q : ℕ) (p : Parts) → parts_of f.slots q ≡ Some p → place_in f.order p.var < j → (parts_of d.slots q ≡ Some p) × (place_in d.order p.var < j)
  was_here j le q p is above =
      let g : place_in f.order p.var ≡ place_in e.order p.var = ap (λ l. place_in l p.var) fo in
      let k = place_before d e i roots ranks bound x p.var (omega (arith, g, le, above)) in
      let at : place_in d.order p.var < j = omega (arith, g, k, above) in
      (above_was d.slots e.slots f.slots (slice_index d.order i) (slice_index d.order (i + 1)) (λ y. place_in d.order y < i) (numbers roots) ranks bound pair_here x.swapped x.found hung_here drops_here q p is (omega (arith, le, at)), at)

  pub freed_hanging : KeepsHanging d f roots i
  freed_hanging j le rs b old = record {
    right = λ m h. hangs_on d f roots j m (kept_here j le) (old.right m h);
    whole = λ m h. old.whole m (hangs_on f d roots j m (was_here j le) h);
  }

  -- a root that is live stays live
  root_left : (m : ℕ) → is_in (numbers roots) m ≡ true → IsLive e m → IsLive f m
  root_left m r (inl small) = inl small
  root_left m r (inr h) =
      let t : IsLiveIn f.slots e.order m = inr (record { parts = h.parts; is = drops_here.kept m h.parts h.is (inr (x.ranked.whole m (inl r))); below = h.below }) in
      rw fo t

  pub freed_roots : All (λ (n : Node). IsLive e n.0) roots → All (λ (n : Node). IsLive f n.0) roots
  freed_roots live k z at = root_left (get_or roots k z).0 (root_in roots k z at) (live k z at)

-- what holds once the variables are exchanged and the loose nodes freed
pub record IsShifted (d f : Diagram) (roots : List Node) (i : ℕ) : Type 0 where
  pub found : AreFound f roots
  pub hanging : KeepsHanging d f roots i
  pub tidy : IsTidy f roots
  pub keeps : KeepsRoots d f roots

pub shifted : (d e f : Diagram) (i : ℕ) (roots : List Node) (ranks : List ℕ) (bound : ℕ) (x : IsExchanged d e i roots ranks bound) → IsFreed e f (slice_index d.order (i + 1)) ranks bound → IsSound f → f.order ≡ e.order → f.limit ≡ e.limit → e.limit ≡ d.limit → KeepsFunctions d e → KeepsFunctions f e → All (λ (n : Node). IsLive d n.0) roots → IsShifted d f roots i
shifted d e f i roots ranks bound x freed sound fo fl el keeps back live =
    let found = freed_found d e i roots ranks bound x f freed.listed freed.loose freed.others fo in
    let there = freed_roots d e i roots ranks bound x f freed.listed freed.loose freed.others fo (live_kept d e roots keeps live) in
    record {
      found = found;
      hanging = freed_hanging d e i roots ranks bound x f freed.listed freed.loose freed.others fo;
      tidy = tidy_found f roots sound there found;
      keeps = record {
        live = there;
        same = sym (same_functions f e roots back there) ∙ same_functions d e roots keeps live;
        limit = fl ∙ el;
        vars = ap length (fo ∙ x.order) ∙ length-exchanged d.order i;
      };
    }
