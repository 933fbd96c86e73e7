-- Connectives with a variable flipped in the second function, as operations.
use Rattle.std.proofs.Common.{◌≡◌, ◌≢◌, ◌⊎◌, ℕ, zero, suc, ◌/◌, ◌%◌, ◌<◌, ◌≤◌, Bool, true, false, not, cond, eqb, inl, inr, refl, sym, ◌∙◌, ap, arith, eq-eqb, length, Option, Some, None, IfSome, IfNone}
use Rattle.std.proofs.lemmas.Bool.{cases_eq, cond-true, cond-false, ne_eqb}
use mathlib.Core.Path.{fun_ext}
use Rattle.bit_lists.specs.Orders.{has, after, place_in}
use Rattle.bit_lists.proofs.Variables.{has-tail}
use Rattle.diagram_model.specs.Functions.{Assignment, Function, put, fix}
use Rattle.diagram_model.specs.Nodes.{follow, value}
use Rattle.diagram_model.specs.Stores.{Diagram, IsLive, IsAbove, IsSound, from, function_of}
use Rattle.diagram_model.proofs.Fixing.{follow_above, depth_follow, depth_falls, fix_function, ignores_above, ignores_higher, put_at}
use Rattle.diagram_model.proofs.Prefixes.{Ignores, fix_twice}
use Rattle.diagram_model.proofs.Values.{value-small}
use Rattle.diagram_ops.specs.Connectives.{connective, connected}
use Rattle.diagram_ops.specs.Flips.{flip, exchanged, flipping, turned_at, half_of, IsKept}
use Rattle.diagram_ops.specs.declared.operands.Operands.{Operands}
use Rattle.diagram_ops.specs.declared.split.Seen.{Seen}
use Rattle.diagram_ops.specs.declared.split.Split.{Split}
use Rattle.diagram_ops.specs.Operands.{AreLive, AreFrom, SomeHas, rest, depths, IsSplit}
use Rattle.diagram_ops.specs.Operations.{IsResult}
use Rattle.diagram_ops.specs.Seen.{IsSeen}
use Rattle.diagram_ops.specs.Short.{IsValuation, IsShort}
use Rattle.diagram_ops.proofs.Connecting.{connected_fixes, short_result}
use Rattle.diagram_ops.proofs.Restricting.{from_place, put_both}
use Rattle.diagram_ops.proofs.Results.{Fixes, IsPartAt, IsParted, parted, put_same}
use Rattle.diagram_ops.proofs.Splits.{three}
use Rattle.diagram_ops.proofs.Cases.{of_three}

at_point : (f g : Function) → f ≡ g → (x : Assignment) → f x ≡ g x
at_point f g e x = ap (λ (w : Function). w x) e

-- another variable than the flipped one
put_flip : (x : Assignment) (u v : ℕ) (b : Bool) → u ≢ v → put (put x u b) v (not (put x u b v)) ≡ put (put x v (not (x v))) u b
put_flip x u v b ne =
    ap (λ c. put (put x u b) v (not c)) (cond-false (eqb v u) b (x v) (ne_eqb v u (λ e. ne (sym e))))
    ∙ fun_ext (λ w. put_both x u v b (not (x v)) ne w)

pub flip_other : (v u : ℕ) (b : Bool) (g : Function) → u ≢ v → fix u b (flip v g) ≡ flip v (fix u b g)
unfolding flip
flip_other v u b g ne = fun_ext (λ x. ap g (put_flip x u v b ne))

-- the flipped variable is fixed the other way
pub flip_own : (v : ℕ) (b : Bool) (g : Function) → fix v b (flip v g) ≡ flip v (fix v (not b) g)
unfolding flip
flip_own v b g =
    fun_ext (λ x.
    ap (λ a. g (put (put x v b) v (not a))) (put_at x v b)
    ∙ at_point (fix v b (fix v (not b) g)) (fix v (not b) g) (fix_twice v (not b) b g) x
    ∙ sym (at_point (fix v (not (x v)) (fix v (not b) g)) (fix v (not b) g) (fix_twice v (not b) (not (x v)) g) x)
    )

-- a function that doesn't read v isn't changed
pub flip_none : (v : ℕ) (g : Function) → Ignores g v → flip v g ≡ g
unfolding flip
flip_none v g drops = fun_ext (λ x. at_point (fix v (not (x v)) g) g (drops (not (x v))) x)

pub flip_ignores : (v u : ℕ) (g : Function) → Ignores g u → Ignores (flip v g) u
flip_ignores v u g h b =
    elim (cases_eq u v) [
      | inl e ↦ ap (λ w. fix w b (flip v g)) e ∙ flip_own v b g ∙ ap (flip v) (ap (λ w. fix w (not b) g) (sym e) ∙ h (not b))
      | inr ne ↦ flip_other v u b g ne ∙ ap (flip v) (h b)
    ]

-- such a connective goes through each other variable
other_fixed : (t v u : ℕ) (b : Bool) (f g h : Function) → u ≢ v → fix u b (flipping t v f g h) ≡ flipping t v (fix u b f) (fix u b g) (fix u b h)
unfolding flipping
other_fixed t v u b f g h ne = (connected_fixes t u).both b f (flip v g) h ∙ ap (λ (w : Function). connected t (fix u b f) w (fix u b h)) (flip_other v u b g ne)

-- the flipped variable is fixed the other way in the second function
own_fixed : (t v : ℕ) (b : Bool) (f g h : Function) → fix v b (flipping t v f g h) ≡ flipping t v (fix v b f) (fix v (not b) g) (fix v b h)
unfolding flipping
own_fixed t v b f g h = (connected_fixes t v).both b f (flip v g) h ∙ ap (λ (w : Function). connected t (fix v b f) w (fix v b h)) (flip_own v b g)

flipping_same : (t v : ℕ) (f g h k l m : Function) → f ≡ k → g ≡ l → h ≡ m → flipping t v f g h ≡ flipping t v k l m
flipping_same t v f g h k l m p q r = ap (λ (w : Function). flipping t v w g h) p ∙ ap (λ (w : Function). flipping t v k w h) q ∙ ap (λ (w : Function). flipping t v k l w) r

flipping_ignores : (t v u : ℕ) (f g h : Function) → Ignores f u → Ignores g u → Ignores h u → Ignores (flipping t v f g h) u
unfolding flipping
flipping_ignores t v u f g h lf lg lh = (connected_fixes t u).ignores u f (flip v g) h lf (flip_ignores v u g lg) lh

flipping_fixes : (t v u : ℕ) → u ≢ v → Fixes (flipping t v) u
flipping_fixes t v u ne = record {
  both = λ b f g h. other_fixed t v u b f g h ne;
  ignores = λ w f g h lf lg lh. flipping_ignores t v w f g h lf lg lh;
}

-- what is left of the nodes where v is fixed to b, and the other way in the second
abbrev pub turned : Diagram → ℕ → Bool → Operands → Operands
turned d v b at = record { f = follow d.slots v b at.f; g = follow d.slots v (not b) at.g; h = follow d.slots v b at.h }

turned_falls : (d : Diagram) (v : ℕ) (b : Bool) (at : Operands) → IsSound d → SomeHas d v at → depths d (turned d v b at) < depths d at
turned_falls d v b at s (inl h) = let p = depth_falls d v at.f b s h in let q = depth_follow d v at.g (not b) s in let r = depth_follow d v at.h b s in omega (arith, p, q, r)
turned_falls d v b at s (inr (inl h)) = let p = depth_follow d v at.f b s in let q = depth_falls d v at.g (not b) s h in let r = depth_follow d v at.h b s in omega (arith, p, q, r)
turned_falls d v b at s (inr (inr h)) = let p = depth_follow d v at.f b s in let q = depth_follow d v at.g (not b) s in let r = depth_falls d v at.h b s h in omega (arith, p, q, r)

turned_part : (t : ℕ) (d : Diagram) (v : ℕ) (b : Bool) (at : Operands) → IsSound d → has d.order v ≡ true → AreFrom d v at → SomeHas d v at → IsPartAt (flipping t v) d at v b (turned d v b at)
turned_part t d v b at s is below some = record {
  above = (follow_above d v at.f b s is below.0, follow_above d v at.g (not b) s is below.1, follow_above d v at.h b s is below.2);
  falls = turned_falls d v b at s some;
  fixed =
      own_fixed t v b (function_of d at.f) (function_of d at.g) (function_of d at.h)
      ∙ flipping_same t v (fix v b (function_of d at.f)) (fix v (not b) (function_of d at.g)) (fix v b (function_of d at.h))
      (function_of d (follow d.slots v b at.f)) (function_of d (follow d.slots v (not b) at.g)) (function_of d (follow d.slots v b at.h))
      (fix_function d v at.f b s is below.0) (fix_function d v at.g (not b) s is below.1) (fix_function d v at.h b s is below.2);
}

part_same : (t : ℕ) (d : Diagram) (at : Operands) (v : ℕ) (b : Bool) (to from : Operands) → to ≡ from → IsPartAt (flipping t v) d at v b from → IsPartAt (flipping t v) d at v b to
part_same t d at v b to from e p = rw e p

-- the parts of the second node change their places
pub own_low : (d : Diagram) (v : ℕ) (at : Operands) (l h : Operands) → l ≡ rest d v false at → h ≡ rest d v true at → three l.f h.g l.h ≡ turned d v false at
own_low d v at l h el eh = ap (λ (k : Operands). three k.f h.g k.h) el ∙ ap (λ (k : Operands). three (follow d.slots v false at.f) k.g (follow d.slots v false at.h)) eh

pub own_high : (d : Diagram) (v : ℕ) (at : Operands) (l h : Operands) → l ≡ rest d v false at → h ≡ rest d v true at → three h.f l.g h.h ≡ turned d v true at
own_high d v at l h el eh = ap (λ (k : Operands). three k.f l.g k.h) eh ∙ ap (λ (k : Operands). three (follow d.slots v true at.f) k.g (follow d.slots v true at.h)) el

abbrev pub crossed : Split → Split
crossed s = record { var = s.var; low = three s.low.f s.high.g s.low.h; high = three s.high.f s.low.g s.high.h }

crossed_parted : (t : ℕ) (d : Diagram) (at : Operands) (s : Split) → IsSound d → IsSplit d at s → IsParted (flipping t s.var) d at (crossed s)
crossed_parted t d at s sd split = record {
  var = split.var;
  some = split.some;
  ignores = λ u lower.
      flipping_ignores t s.var u (function_of d at.f) (function_of d at.g) (function_of d at.h)
      (ignores_higher d u s.var at.f sd lower split.below.0) (ignores_higher d u s.var at.g sd lower split.below.1) (ignores_higher d u s.var at.h sd lower split.below.2);
  low = part_same t d at s.var false (three s.low.f s.high.g s.low.h) (turned d s.var false at) (own_low d s.var at s.low s.high split.low split.high) (turned_part t d s.var false at sd split.var split.below split.some);
  high = part_same t d at s.var true (three s.high.f s.low.g s.high.h) (turned d s.var true at) (own_high d s.var at s.low s.high split.low split.high) (turned_part t d s.var true at sd split.var split.below split.some);
}

-- the three nodes, parted by their topmost variable
pub flipped_parted : (t v : ℕ) (d : Diagram) (at : Operands) (s k : Split) → IsSound d → IsSplit d at s → k ≡ turned_at v s → IsParted (flipping t v) d at k
flipped_parted t v d at s k sd split same =
    elim (cases_eq s.var v) [
      | inl e ↦
          let is : k ≡ crossed s = same ∙ cond-true (eqb s.var v) (crossed s) s (eq-eqb s.var v e) in
          let own : IsParted (flipping t v) d at (crossed s) = rw (sym e) (crossed_parted t d at s sd split) in
          rw is own
      | inr ne ↦
          let is : k ≡ s = same ∙ cond-false (eqb s.var v) (crossed s) s (ne_eqb s.var v ne) in
          rw is (parted (flipping t v) d at s sd split (flipping_fixes t v s.var ne))
    ]

-- the second function isn't asked
pub short_kept : (t v : ℕ) (d : Diagram) (at : Operands) (n : ℕ) → IsSound d → AreLive d at → IsKept t at.f at.h n → IsResult (flipping t v) d at n
unfolding connected flipping flip function_of
short_kept t v d at n s live kept =
    record {
      operands = live;
      live = elim kept.one [ inl lt ↦ inl lt | inr e ↦ rw e live.2 ];
      below = λ w is above. elim kept.one [ inl lt ↦ inl lt | inr e ↦ rw e above.2 ];
      denotes = fun_ext (λ x. kept.right (λ m. value d.slots d.order x m) (value d.slots d.order (put x v (not (x v))) at.g) (record {
        at_false = value-small d.slots (length d.order) d.order 0 s.diagram (omega arith) x;
        at_true = value-small d.slots (length d.order) d.order 1 s.diagram (omega arith) x;
      }));
    }

pub short_kept_some : (t v : ℕ) (d : Diagram) (at : Operands) (o : Option ℕ) → IsSound d → AreLive d at → IfSome o (IsKept t at.f at.h) → IfSome o (λ n. IsResult (flipping t v) d at n)
short_kept_some t v d at (Some n) s live kept = short_kept t v d at n s live kept
short_kept_some t v d at None s live kept = kept

-- the bits of a table where the first function is false, and where it is true
none_low : (t : ℕ) (b c : Bool) → t % 16 ≡ 0 → connective t false b c ≡ false
unfolding connective
none_low t false false e = let h : t / 1 % 2 ≡ 0 = omega (arith, e) in ap (λ m. eqb m 1) h
none_low t false true e = let h : t / 2 % 2 ≡ 0 = omega (arith, e) in ap (λ m. eqb m 1) h
none_low t true false e = let h : t / 4 % 2 ≡ 0 = omega (arith, e) in ap (λ m. eqb m 1) h
none_low t true true e = let h : t / 8 % 2 ≡ 0 = omega (arith, e) in ap (λ m. eqb m 1) h

third_low : (t : ℕ) (b c : Bool) → t % 16 ≡ 10 → connective t false b c ≡ c
unfolding connective
third_low t false false e = let h : t / 1 % 2 ≡ 0 = omega (arith, e) in ap (λ m. eqb m 1) h
third_low t false true e = let h : t / 2 % 2 ≡ 1 = omega (arith, e) in ap (λ m. eqb m 1) h
third_low t true false e = let h : t / 4 % 2 ≡ 0 = omega (arith, e) in ap (λ m. eqb m 1) h
third_low t true true e = let h : t / 8 % 2 ≡ 1 = omega (arith, e) in ap (λ m. eqb m 1) h

none_high : (t : ℕ) (b c : Bool) → t / 16 ≡ 0 → connective t true b c ≡ false
unfolding connective
none_high t false false e = let h : t / 16 % 2 ≡ 0 = omega (arith, e) in ap (λ m. eqb m 1) h
none_high t false true e = let h : t / 32 % 2 ≡ 0 = omega (arith, e) in ap (λ m. eqb m 1) h
none_high t true false e = let h : t / 64 % 2 ≡ 0 = omega (arith, e) in ap (λ m. eqb m 1) h
none_high t true true e = let h : t / 128 % 2 ≡ 0 = omega (arith, e) in ap (λ m. eqb m 1) h

third_high : (t : ℕ) (b c : Bool) → t / 16 ≡ 10 → connective t true b c ≡ c
unfolding connective
third_high t false false e = let h : t / 16 % 2 ≡ 0 = omega (arith, e) in ap (λ m. eqb m 1) h
third_high t false true e = let h : t / 32 % 2 ≡ 1 = omega (arith, e) in ap (λ m. eqb m 1) h
third_high t true false e = let h : t / 64 % 2 ≡ 0 = omega (arith, e) in ap (λ m. eqb m 1) h
third_high t true true e = let h : t / 128 % 2 ≡ 1 = omega (arith, e) in ap (λ m. eqb m 1) h

none_of : (t f : ℕ) (e : ℕ → Bool) (b c : Bool) → IsValuation e → f < 2 → half_of t f ≡ 0 → connective t (e f) b c ≡ false
none_of t zero e b c v lt is = ap (λ a. connective t a b c) v.at_false ∙ none_low t b c is
none_of t (suc zero) e b c v lt is = ap (λ a. connective t a b c) v.at_true ∙ none_high t b c is
none_of t (suc (suc f)) e b c v lt is = absurd (omega (arith, lt))

third_of : (t f : ℕ) (e : ℕ → Bool) (b c : Bool) → IsValuation e → f < 2 → half_of t f ≡ 10 → connective t (e f) b c ≡ c
third_of t zero e b c v lt is = ap (λ a. connective t a b c) v.at_false ∙ third_low t b c is
third_of t (suc zero) e b c v lt is = ap (λ a. connective t a b c) v.at_true ∙ third_high t b c is
third_of t (suc (suc f)) e b c v lt is = absurd (omega (arith, lt))

pub kept_none : (t f h : ℕ) → f < 2 → half_of t f ≡ 0 → IsKept t f h 0
kept_none t f h lt is = record { one = inl (omega arith); right = λ e b v. v.at_false ∙ sym (none_of t f e b (e h) v lt is) }

pub kept_third : (t f h : ℕ) → f < 2 → half_of t f ≡ 10 → IsKept t f h h
kept_third t f h lt is = record { one = inr refl; right = λ e b v. sym (third_of t f e b (e h) v lt is) }

-- a node whose place is below that of v stands below v
passed_above : (d : Diagram) (n v : ℕ) (r : Seen) → IsSound d → IsLive d n → has d.order v ≡ true → IsSeen d n r → place_in d.order v < r.place → IsAbove d v n
passed_above d n v r s live is seen lt =
    elim (from_place d n v r s live is seen (omega (arith, lt))) [
      | inl small ↦ inl small
      | inr h ↦
          let p = h.parts in
          let other : v ≢ p.var = λ e. omega (arith, lt, (seen.held p h.is).place, ap (place_in d.order) e) in
          inr (record { parts = p; is = h.is; below = has-tail v p.var (after d.order v) h.below other })
    ]

pub short_passed : (t v : ℕ) (d : Diagram) (at : Operands) (n place : ℕ) (r : Seen) → IsSound d → AreLive d at → has d.order v ≡ true → IsSeen d at.g r → place ≡ place_in d.order v → place < r.place → IsShort t at.f at.g at.h n → IsResult (flipping t v) d at n
unfolding flipping
short_passed t v d at n place r s live is seen here lt short =
    let drops = ignores_above d v at.g s (passed_above d at.g v r s live.1 is seen (omega (arith, lt, here))) in
    let one = short_result t d at n s live short in
    record {
      operands = one.operands;
      live = one.live;
      below = one.below;
      denotes = one.denotes ∙ ap (λ (w : Function). connected t (function_of d at.f) w (function_of d at.h)) (sym (flip_none v (function_of d at.g) drops));
    }

pub short_passed_some : (t v : ℕ) (d : Diagram) (at : Operands) (place : ℕ) (r : Seen) (o : Option ℕ) → IsSound d → AreLive d at → has d.order v ≡ true → IsSeen d at.g r → place ≡ place_in d.order v → place < r.place → IfSome o (IsShort t at.f at.g at.h) → IfSome o (λ n. IsResult (flipping t v) d at n)
short_passed_some t v d at place r (Some n) s live is seen here lt short = short_passed t v d at n place r s live is seen here lt short
short_passed_some t v d at place r None s live is seen here lt short = short

small_or_more : (n : ℕ) → (n < 2) ⊎ (2 ≤ n)
small_or_more zero = inl (omega arith)
small_or_more (suc zero) = inl (omega arith)
small_or_more (suc (suc n)) = inr (omega arith)

-- a node that has a place is no constant
pub placed_some : (d : Diagram) (n : ℕ) (r : Seen) → IsSound d → IsSeen d n r → r.place < 256 → 2 ≤ n
placed_some d n r s seen lt =
    elim (small_or_more n) [
      | inl small ↦ absurd (omega (arith, seen.none (s.diagram.ground n small), lt))
      | inr big ↦ big
    ]

pub none_placed : (d : Diagram) (at : Operands) (r : Seen) (o : Option ℕ) → IsSound d → IsSeen d at.g r → r.place < 256 → IfNone o ((2 ≤ at.f) ⊎ ((2 ≤ at.g) ⊎ (2 ≤ at.h)))
none_placed d at r (Some n) s seen lt = tt
none_placed d at r None s seen lt = inr (inl (placed_some d at.g r s seen lt))

choice_is : (a b c : Bool) → connective 202 a b c ≡ cond a b c
unfolding connective
choice_is = of_three (λ a b c. connective 202 a b c ≡ cond a b c) refl refl refl refl refl refl refl refl

-- one function in both places of a choice
pub both_exchanged : (v : ℕ) (c f : Function) → connected 202 c (flip v f) f ≡ exchanged v c f
unfolding connected flip exchanged
both_exchanged v c f = fun_ext (λ x. choice_is (c x) (f (put x v (not (x v)))) (f x) ∙ flipped_or x (c x))
  where
    flipped_or : (x : Assignment) (b : Bool) → cond b (f (put x v (not (x v)))) (f x) ≡ f (put x v (cond b (not (x v)) (x v)))
    flipped_or x true = refl
    flipped_or x false = ap f (sym (put_same x v (x v) refl))
