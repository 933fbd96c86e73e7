-- Cofactors as operations.
use Rattle.std.proofs.Common.{◌≡◌, ◌≢◌, ℕ, ◌<◌, ◌≤◌, Bool, true, false, cond, eqb, List, inl, inr, refl, sym, ◌∙◌, ap, arith, eq-eqb, length}
use Rattle.std.proofs.lemmas.Bool.{cases_eq, cond-true, cond-false, ne_eqb}
use mathlib.Core.Path.{fun_ext}
use Rattle.bit_lists.specs.Orders.{has, after, place_in}
use Rattle.bit_lists.proofs.Variables.{has-head}
use Rattle.diagram_model.specs.declared.parts.Parts.{Parts}
use Rattle.diagram_model.specs.Functions.{Assignment, Function, put, fix}
use Rattle.diagram_model.specs.Nodes.{follow, IsLiveIn}
use Rattle.diagram_model.specs.Stores.{Diagram, IsLive, IsAbove, IsSound, from}
use Rattle.diagram_model.proofs.Canonical.{cases_var, follow-other}
use Rattle.diagram_model.proofs.Fixing.{follow_above, above_live, from_after, var_above, fix_function}
use Rattle.diagram_model.proofs.Heights.{follow_none, follow_some, has_from}
use Rattle.diagram_model.proofs.Prefixes.{fix_twice, ignores_fix}
use Rattle.diagram_model.proofs.Values.{live-wider}
use Rattle.diagram_ops.specs.declared.split.Seen.{Seen}
use Rattle.diagram_ops.specs.declared.split.Split.{Split}
use Rattle.diagram_ops.specs.Operands.{alone, IsSplit}
use Rattle.diagram_ops.specs.Operations.{restricted, IsResult}
use Rattle.diagram_ops.specs.Seen.{IsSeen, child_at}
use Rattle.diagram_ops.proofs.Results.{Fixes}
use Rattle.diagram_ops.proofs.Splits.{three, place_after, left, placed_parts}

pub put_both : (x : Assignment) (u v : ℕ) (a b : Bool) → u ≢ v → (w : ℕ) → put (put x u a) v b w ≡ put (put x v b) u a w
put_both x u v a b ne w =
    elim (cases_eq w v) [
      | inl e ↦
          let other : eqb w u ≡ false = ne_eqb w u (λ at. ne (sym at ∙ e)) in
          cond-true (eqb w v) b (put x u a w) (eq-eqb w v e) ∙ sym (cond-false (eqb w u) a (put x v b w) other ∙ cond-true (eqb w v) b (x w) (eq-eqb w v e))
      | inr away ↦ cond-false (eqb w v) b (put x u a w) (ne_eqb w v away) ∙ ap (λ t. cond (eqb w u) a t) (sym (cond-false (eqb w v) b (x w) (ne_eqb w v away)))
    ]

-- two variables may be fixed in either order
fix_other : (u v : ℕ) (a b : Bool) (f : Function) → u ≢ v → fix u a (fix v b f) ≡ fix v b (fix u a f)
fix_other u v a b f ne = fun_ext (λ x. ap f (fun_ext (λ w. put_both x u v a b ne w)))

-- a cofactor goes through each other fixed variable
pub restricted_fixes : (v : ℕ) (b : Bool) (u : ℕ) → u ≢ v → Fixes (restricted v b) u
unfolding restricted
restricted_fixes v b u ne = record {
  both = λ a f g h. fix_other u v a b f ne;
  ignores = λ w f g h lf lg lh a.
      elim (cases_eq w v) [
        | inl e ↦ ap (λ k. fix k a (fix v b f)) e ∙ fix_twice v b a f
        | inr away ↦ ignores_fix w v b f away lf a
      ];
}

-- a node whose place isn't above that of v has v or stands below it
pub from_place : (d : Diagram) (n v : ℕ) (r : Seen) → IsSound d → IsLive d n → has d.order v ≡ true → IsSeen d n r → place_in d.order v ≤ r.place → IsLiveIn d.slots (from d.order v) n
from_place d n v r s (inl small) is seen le = inl small
from_place d n v r s (inr h) is seen le =
    let p = h.parts in
    let at = (seen.held p h.is).place in
    let a = place_after d.order v is in
    let c = place_after d.order p.var h.below in
    inr (record { parts = p; is = h.is; below = has_from d.order p.var v h.below is (omega (arith, at, a, c, le)) })

-- what is left of a node stands below what the node stands below
pub follow_below : (d : Diagram) (w v n : ℕ) (b : Bool) → IsSound d → has d.order v ≡ true → IsLiveIn d.slots (from d.order v) n → IsAbove d w n → IsAbove d w (follow d.slots v b n)
follow_below d w v n b s is live above =
    elim (cases_var d.slots v n) [
      | inl at ↦
          let below : has (after d.order w) v ≡ true = var_above d w v n s at above in
          live-wider d.slots (after d.order v) (after d.order w) (follow d.slots v b n)
          (λ u h. from_after (length d.order) d.order w v u s.diagram.order below (has-head v u (after d.order v) h)) (follow_above d v n b s is live)
      | inr lacks ↦ rw (follow-other d.slots v n lacks b) above
    ]

-- a node that has v, or stands below it, is left with the cofactor
pub restricted_here : (d : Diagram) (v f n : ℕ) (b : Bool) (r : Seen) (place : ℕ) → IsSound d → IsLive d f → has d.order v ≡ true → IsSeen d f r → place ≡ place_in d.order v → place < 256 → place ≤ r.place → n ≡ child_at place b r → IsResult (restricted v b) d (alone f) n
unfolding restricted
restricted_here d v f n b r place s live is seen at within le same =
    let from_v = from_place d f v r s live is seen (omega (arith, at, le)) in
    let whole : n ≡ follow d.slots v b f = same ∙ left d f v place r b s seen is at within in
    rw whole (record {
      operands = (live, inl (omega arith), inl (omega arith));
      live = above_live d v (follow d.slots v b f) (follow_above d v f b s is from_v);
      below = λ w has_w above. follow_below d w v f b s is from_v above.0;
      denotes = sym (fix_function d v f b s is from_v);
    })

from_self : (vs : List ℕ) (v : ℕ) → has (from vs v) v ≡ true
unfolding has
from_self vs v = cond-true (eqb v v) true (has (after vs v) v) (eq-eqb v v refl)

abbrev pub alone_split : Seen → Split
alone_split r = record { var = r.var; low = alone r.low; high = alone r.high }

-- one node, parted by its own variable
pub alone_splits : (d : Diagram) (f : ℕ) (r : Seen) → IsSound d → IsSeen d f r → r.place < 256 → IsSplit d (alone f) (alone_split r)
alone_splits d f r s seen lt =
    let held = placed_parts d f r seen lt in
    let p : Parts = held.0 in
    let reads = seen.held p held.1 in
    let ground : (b : Bool) → follow d.slots r.var b 0 ≡ 0 = λ b. follow_none d.slots r.var b 0 (s.diagram.ground 0 (omega arith)) in
    let to = λ (b : Bool). follow_some d.slots r.var b f p held.1 (sym reads.var) in
    let here : IsLiveIn d.slots (from d.order r.var) f = rw reads.var (inr (record { parts = p; is = held.1; below = from_self d.order p.var })) in
    record {
      var = ap (has d.order) reads.var ∙ s.diagram.within f p held.1;
      below = (here, inl (omega arith), inl (omega arith));
      some = inl (p, held.1, sym reads.var);
      low = ap (λ k. three k 0 0) (reads.low ∙ sym (to false)) ∙ ap (λ k. three (follow d.slots r.var false f) k 0) (sym (ground false)) ∙ ap (λ k. three (follow d.slots r.var false f) (follow d.slots r.var false 0) k) (sym (ground false));
      high = ap (λ k. three k 0 0) (reads.high ∙ sym (to true)) ∙ ap (λ k. three (follow d.slots r.var true f) k 0) (sym (ground true)) ∙ ap (λ k. three (follow d.slots r.var true f) (follow d.slots r.var true 0) k) (sym (ground true));
    }

-- variables at different places differ
pub other_place : (d : Diagram) (f v : ℕ) (r : Seen) → IsSeen d f r → r.place < 256 → r.place < place_in d.order v → r.var ≢ v
other_place d f v r seen lt above e =
    let held = placed_parts d f r seen lt in
    let p : Parts = held.0 in
    let reads = seen.held p held.1 in
    omega (arith, above, reads.place, ap (place_in d.order) (sym reads.var ∙ e))
