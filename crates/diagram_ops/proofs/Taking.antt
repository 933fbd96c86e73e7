-- The triples that a call meets, put together from those of its parts.
use Rattle.std.proofs.Common.{◌≡◌, ◌⊎◌, ℕ, ◌+◌, ◌≤◌, Bool, true, false, List, [], ◌∷◌, ◌++◌, length, Option, Some, None, inl, inr, refl, sym, ◌∙◌, ap, arith, length-append}
use Rattle.bit_lists.specs.Orders.{has, after}
use Rattle.diagram_model.specs.Joint.{Trio, one_depends, fix_trio, IsTrioFrom}
use Rattle.diagram_model.specs.Stores.{Diagram, IsSound, Extends, counted}
use Rattle.diagram_model.proofs.Joint.{TrioIgnores, from_same, trio_here, trio_fix}
use Rattle.diagram_ops.specs.declared.operands.Operands.{Operands}
use Rattle.diagram_ops.specs.declared.split.Split.{Split}
use Rattle.diagram_ops.specs.Keeping.{Keeps}
use Rattle.diagram_ops.specs.Operands.{AreLive}
use Rattle.diagram_ops.specs.Operations.{Operation, Results}
use Rattle.diagram_ops.specs.Taken.{Reading, Kind, trio_by, IsMet, IsAmong, AreDistinct, Takes, TakesAll}
use Rattle.diagram_ops.proofs.Calls.{Begins, some_none, low_live, high_live_d}
use Rattle.diagram_ops.proofs.Readings.{IsRead, trio_on}
use Rattle.diagram_ops.proofs.Results.{same_store, lives_on}

-- lists of triples
among_append : (xs ys : List Operands) (t : Operands) → IsAmong (xs ++ ys) t → IsAmong xs t ⊎ IsAmong ys t
among_append [] ys t h = inr h
among_append (x ∷ xs) ys t (inl e) = inl (inl e)
among_append (x ∷ xs) ys t (inr h) = elim (among_append xs ys t h) [ inl a ↦ inl (inr a) | inr b ↦ inr b ]

distinct_append : (xs ys : List Operands) → AreDistinct xs → AreDistinct ys → ((t : Operands) → IsAmong xs t → IsAmong ys t → ⊥) → AreDistinct (xs ++ ys)
distinct_append [] ys dx dy apart = dy
distinct_append (x ∷ xs) ys dx dy apart = (
  λ h. elim (among_append xs ys x h) [ inl a ↦ dx.0 a | inr b ↦ apart x (inl refl) b ],
  distinct_append xs ys dx.1 dy (λ t a b. apart t (inr a) b),
)

-- results that are kept, or not
none_back : (o p : Option ℕ) → ((n : ℕ) → o ≡ Some n → p ≡ Some n) → p ≡ None → o ≡ None
none_back None p on none = refl
none_back (Some n) p on none = absurd (some_none p n (on n refl) none)

-- a later memo has each result of an earlier one
abbrev pub Stays : Results → Results → Type 0
Stays before later = (to : Operands) (n : ℕ) → before to ≡ Some n → later to ≡ Some n

-- no triple is met
pub takes_none : (Is : Kind) (d : Diagram) (es : Results) (s : ℕ) → TakesAll Is d d es es s s
takes_none Is d es s = record {
  takes = record { met = []; once = tt; fresh = λ to h. absurd h; arise = λ to h. absurd h; count = omega arith; made = omega arith };
  kept = λ to h. absurd h;
}

-- the same triples, as another kind
pub takes_as : (Is Are : Kind) (d e : Diagram) (m : Results) (s t : ℕ) → ((to : Operands) → Is e to → Are e to) → Takes Is d e m s t → Takes Are d e m s t
takes_as Is Are d e m s t wider h = record { met = h.met; once = h.once; fresh = h.fresh; arise = λ to i. wider to (h.arise to i); count = h.count; made = h.made }

pub all_as : (Is Are : Kind) (d e : Diagram) (m0 m1 : Results) (s t : ℕ) → ((to : Operands) → Is e to → Are e to) → TakesAll Is d e m0 m1 s t → TakesAll Are d e m0 m1 s t
unfolding takes_as
all_as Is Are d e m0 m1 s t wider h = record { takes = takes_as Is Are d e m0 s t wider h.takes; kept = h.kept }

-- one call after another
pub takes_then : (Is : Kind) (d e k : Diagram) (m0 m1 : Results) (s0 s1 s2 : ℕ) → ((to : Operands) → Is e to → Is k to) → Stays m0 m1 → TakesAll Is d e m0 m1 s0 s1 → Takes Is e k m1 s1 s2 → Takes Is d k m0 s0 s2
takes_then Is d e k m0 m1 s0 s1 s2 on still first second = record {
  met = first.takes.met ++ second.met;
  once = distinct_append first.takes.met second.met first.takes.once second.once (λ to h i. some_none (m1 to) (first.kept to h).0 (first.kept to h).1 (second.fresh to i));
  fresh = λ to h. elim (among_append first.takes.met second.met to h) [
    | inl i ↦ first.takes.fresh to i
    | inr i ↦ none_back (m0 to) (m1 to) (still to) (second.fresh to i)
  ];
  arise = λ to h. elim (among_append first.takes.met second.met to h) [ inl i ↦ on to (first.takes.arise to i) | inr i ↦ second.arise to i ];
  count = omega (arith, first.takes.count, second.count, length-append first.takes.met second.met);
  made = omega (arith, first.takes.made, second.made, length-append first.takes.met second.met);
}

pub all_then : (Is : Kind) (d e k : Diagram) (m0 m1 m2 : Results) (s0 s1 s2 : ℕ) → ((to : Operands) → Is e to → Is k to) → Stays m0 m1 → Stays m1 m2 → TakesAll Is d e m0 m1 s0 s1 → TakesAll Is e k m1 m2 s1 s2 → TakesAll Is d k m0 m2 s0 s2
unfolding takes_then
all_then Is d e k m0 m1 m2 s0 s1 s2 on still later first second = record {
  takes = takes_then Is d e k m0 m1 s0 s1 s2 on still first second.takes;
  kept = λ to h. elim (among_append first.takes.met second.takes.met to h) [
    | inl i ↦ let was = first.kept to i in (was.0, later to was.0 was.1)
    | inr i ↦ second.kept to i
  ];
}

pub order_same : (vs ws : List ℕ) (t u : Trio) → vs ≡ ws → IsTrioFrom (length vs) vs t u → IsTrioFrom (length ws) ws t u
order_same vs ws t u e h = rw (sym e) h

to_same : (k : ℕ) (vs : List ℕ) (t u w : Trio) → u ≡ w → IsTrioFrom k vs t u → IsTrioFrom k vs t w
to_same k vs t u w e h = rw (sym e) h

-- what is met is met in a larger store
pub met_on : (r : Reading) (d : Diagram) (at : Operands) (e k : Diagram) (to : Operands) → IsSound e → IsSound k → Extends e k → IsMet r d at e to → IsMet r d at k to
met_on r d at e k to se sk ext h = record {
  live = lives_on e k to ext h.live;
  arises = to_same (length d.order) d.order (trio_by r d at) (trio_by r e to) (trio_by r k to) (sym (trio_on r e k to se sk ext h.live)) h.arises;
}

-- what is met in a larger store than that of the start
pub met_from : (r : Reading) (d e : Diagram) (at : Operands) (m : Diagram) (to : Operands) → IsSound d → IsSound e → Extends d e → AreLive d at → IsMet r e at m to → IsMet r d at m to
met_from r d e at m to sd se ext live h = record {
  live = h.live;
  arises = from_same (length d.order) d.order (trio_by r e at) (trio_by r d at) (trio_by r m to) (trio_on r d e at sd se ext live) (order_same e.order d.order (trio_by r e at) (trio_by r m to) ext.order h.arises);
}

-- what is met from a part is met from the whole
met_part : (r : Reading) (d e : Diagram) (v : ℕ) (b : Bool) (at part : Operands) (m : Diagram) (to : Operands) → IsSound d → IsSound e → Extends d e → AreLive d part → has d.order v ≡ true → trio_by r d part ≡ fix_trio v b (trio_by r d at) → ((w : ℕ) → has (after d.order w) v ≡ true → TrioIgnores (trio_by r d at) w) → IsMet r e part m to → IsMet r d at m to
met_part r d e v b at part m to sd se ext live is same above h =
    let k = length d.order in
    let here = met_from r d e part m to sd se ext live h in
    record {
      live = here.live;
      arises = trio_fix k d.order v b (trio_by r d at) (trio_by r m to) is above (from_same k d.order (trio_by r d part) (fix_trio v b (trio_by r d at)) (trio_by r m to) same here.arises);
    }

-- the nodes themselves are met
pub met_whole : (r : Reading) (d m : Diagram) (at : Operands) (s : Split) → IsSound d → IsSound m → Extends d m → AreLive d at → IsRead r d at s → IsMet r d at m at
met_whole r d m at s sd sm ext live read =
    let k = length d.order in
    let same = trio_on r d m at sd sm ext live in
    record {
      live = lives_on d m at ext live;
      arises = trio_here k d.order s.var (trio_by r d at) (trio_by r m at) read.var read.above same (ap (one_depends k s.var) same ∙ read.reads);
    }

-- a count that stands still at its end rises by at most one
pub one_more : (k m : Diagram) → m.made ≡ counted k.made → m.made ≤ k.made + 1
one_more k m asked = omega (arith, asked)

module _ (op : Operation) (r : Reading) (d : Diagram) (at : Operands) (s : Split) (b : Begins op d at s) (read : IsRead r d at s) where
  -- the first part alone
  pub takes_low : (e : Diagram) (m0 : Results) (s0 s1 : ℕ) → Takes (IsMet r d s.low) d e m0 s0 s1 → Takes (IsMet r d at) d e m0 s0 s1
  takes_low e m0 s0 s1 t =
      takes_as (IsMet r d s.low) (IsMet r d at) d e m0 s0 s1 (λ to h. met_part r d d s.var false at s.low e to b.sound b.sound (same_store d) (low_live op d at s b) read.var read.low read.above h) t

  all_low : (e : Diagram) (m0 m1 : Results) (s0 s1 : ℕ) → TakesAll (IsMet r d s.low) d e m0 m1 s0 s1 → TakesAll (IsMet r d at) d e m0 m1 s0 s1
  all_low e m0 m1 s0 s1 t =
      all_as (IsMet r d s.low) (IsMet r d at) d e m0 m1 s0 s1 (λ to h. met_part r d d s.var false at s.low e to b.sound b.sound (same_store d) (low_live op d at s b) read.var read.low read.above h) t

  -- the second part, in the store that the first one left
  module _ (e : Diagram) (m0 m1 : Results) (s0 s1 : ℕ) (first : Keeps op s.low d e m0 m1) (low : TakesAll (IsMet r d s.low) d e m0 m1 s0 s1) where
    from_high : (k : Diagram) (to : Operands) → IsMet r e s.high k to → IsMet r d at k to
    from_high k to h = met_part r d e s.var true at s.high k to b.sound first.sound first.extends (high_live_d op d at s b) read.var read.high read.above h

    pub takes_both : (k : Diagram) (m2 : Results) (s2 : ℕ) → Keeps op s.high e k m1 m2 → Takes (IsMet r e s.high) e k m1 s1 s2 → Takes (IsMet r d at) d k m0 s0 s2
    takes_both k m2 s2 second high =
        takes_then (IsMet r d at) d e k m0 m1 s0 s1 s2 (λ to h. met_on r d at e k to first.sound second.sound second.extends h) first.still (all_low e m0 m1 s0 s1 low)
        (takes_as (IsMet r e s.high) (IsMet r d at) e k m1 s1 s2 (λ to h. from_high k to h) high)

    pub takes_all : (k : Diagram) (m2 : Results) (s2 : ℕ) → Keeps op s.high e k m1 m2 → TakesAll (IsMet r e s.high) e k m1 m2 s1 s2 → TakesAll (IsMet r d at) d k m0 m2 s0 s2
    takes_all k m2 s2 second high =
        all_then (IsMet r d at) d e k m0 m1 m2 s0 s1 s2 (λ to h. met_on r d at e k to first.sound second.sound second.extends h) first.still second.still (all_low e m0 m1 s0 s1 low)
        (all_as (IsMet r e s.high) (IsMet r d at) e k m1 m2 s1 s2 (λ to h. from_high k to h) high)
