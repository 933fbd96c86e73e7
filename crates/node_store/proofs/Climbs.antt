-- Heights of nodes and their top variables.
use Rattle.std.proofs.Common.{◌≡◌, ℕ, suc, ◌+◌, ◌<◌, ◌≤◌, max, true, false, eqb, length, inl, inr, refl, sym, ◌∙◌, ap, arith, List, [], ◌∷◌, eq-eqb}
use Rattle.std.proofs.lemmas.Bool.{cases_eq, cond-true, cond-false, ne_eqb, false≢true}
use Rattle.bit_lists.proofs.Variables.{has-tail}
use Rattle.bit_lists.specs.Orders.{has, after, place_in}
use Rattle.diagram_model.proofs.Canonical.{after-head, after-tail}
use Rattle.diagram_model.specs.Stores.{Diagram, IsSound, IsLive, depth, depth_of}
use Rattle.diagram_model.proofs.Heights.{length-place}

has-none : (v : ℕ) → has [] v ≡ false
unfolding has
has-none v = refl

-- no node is deeper than the number of variables
pub depth-le : (d : Diagram) (n : ℕ) → IsSound d → IsLive d n → depth d n ≤ length d.order
depth-le d n sound (inl h) = let flat : depth d n ≡ 0 = ap (depth_of d.order) (sound.diagram.ground n h) in omega arith
depth-le d n sound (inr h) =
    let deep : depth d n ≡ 1 + length (after d.order h.parts.var) = ap (depth_of d.order) h.is in
    omega (arith, length-place d.order h.parts.var h.below)

pub max-le : (a b c n : ℕ) → a ≤ n → b ≤ n → c ≤ n → max (max a b) c ≤ n
max-le a b c n ha hb hc = omega arith

-- a variable at a later place stands below
pub below_by_place : (vs : List ℕ) (v u : ℕ) → has vs v ≡ true → has vs u ≡ true → place_in vs v < place_in vs u → has (after vs v) u ≡ true
unfolding place_in
below_by_place [] v u hv hu lt = absurd (false≢true (sym (has-none u) ∙ hu))
below_by_place (w ∷ ws) v u hv hu lt =
    elim (cases_eq w u) [
      | inl f ↦ absurd (omega (arith, lt, cond-true (eqb w u) 0 (suc (place_in ws u)) (eq-eqb w u f)))
      | inr nf ↦
          let there : has ws u ≡ true = has-tail w u ws hu nf in
          elim (cases_eq w v) [
            | inl e ↦ ap (λ l. has l u) (after-head w v ws e) ∙ there
            | inr ne ↦
                ap (λ l. has l u) (after-tail w v ws ne) ∙ below_by_place ws v u (has-tail w v ws hv ne) there
                (omega (arith, lt, cond-false (eqb w v) 0 (suc (place_in ws v)) (ne_eqb w v ne), cond-false (eqb w u) 0 (suc (place_in ws u)) (ne_eqb w u nf)))
          ]
    ]
