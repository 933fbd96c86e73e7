-- A store without the nodes of a list.
use Rattle.std.proofs.Common.{◌≡◌, ◌≢◌, ℕ, ◌≤◌, false, eqb, List, [], ◌∷◌, ◌++◌, Some, None, refl, sym, ◌∙◌, ap}
use Rattle.std.proofs.lemmas.Bool.{or_parts, or_from, ne_eqb, eq-eqb, both_ways}
use Rattle.diagram_model.specs.declared.parts.Parts.{Parts}
use Rattle.diagram_model.specs.Nodes.{parts_of, child}
use Rattle.diagram_model.specs.Reach.{is_in}
use Rattle.diagram_model.specs.Stores.{Diagram, IsSound, KeepsFunctions, held}
use Rattle.diagram_model.proofs.Growing.{functions_kept}
use Rattle.diagram_model.proofs.Reached.{in_append}
use Rattle.diagram_model.proofs.Values.{none_some}
use Rattle.node_store.specs.Slots.{Takes}
use Rattle.node_reclaim.specs.Reclaims.{NoneIsChild, KeepsOthers}
use Rattle.node_reclaim.proofs.Left.{sound_left}

-- a number is outside a longer list where it is outside the list and is not the new number
outside_more : (ns : List ℕ) (i n : ℕ) → is_in ns n ≡ false → n ≢ i → is_in (ns ++ i ∷ []) n ≡ false
outside_more ns i n out ne = in_append ns (i ∷ []) n ∙ or_from (is_in ns n) (is_in (i ∷ []) n) out (or_from (eqb n i) false (ne_eqb n i ne) refl)

outside_less : (ns : List ℕ) (i n : ℕ) → is_in (ns ++ i ∷ []) n ≡ false → (is_in ns n ≡ false) × (n ≢ i)
outside_less ns i n out =
    let r = or_parts (is_in ns n) (is_in (i ∷ []) n) (sym (in_append ns (i ∷ []) n) ∙ out) in
    let q = or_parts (eqb n i) false r.1 in
    (r.0, λ e. both_ways (eqb n i) q.0 (eq-eqb n i e))

pub dropped_none : (d : Diagram) → KeepsOthers d d []
dropped_none d = record { kept = λ n p is out. is; was = λ n p is. is; only = λ n p is. refl }

-- the number i is passed where no node has it
pub dropped_pass : (d e : Diagram) (ns : List ℕ) (i : ℕ) → KeepsOthers d e ns → parts_of e.slots i ≡ None → KeepsOthers d e (ns ++ i ∷ [])
dropped_pass d e ns i others none = record {
  kept = λ n p is out. others.kept n p is (outside_less ns i n out).0;
  was = others.was;
  only = λ n p is. outside_more ns i n (others.only n p is) (λ f. none_some p (sym none ∙ ap (parts_of e.slots) (sym f) ∙ is));
}

-- the node i is freed
pub dropped_free : (d e f : Diagram) (ns : List ℕ) (i : ℕ) → KeepsOthers d e ns → Takes e.slots f.slots i → KeepsOthers d f (ns ++ i ∷ [])
dropped_free d e f ns i others takes =
    let gone : (n : ℕ) (p : Parts) → parts_of f.slots n ≡ Some p → n ≢ i = λ n p is g. none_some p (sym takes.gone ∙ ap (parts_of f.slots) (sym g) ∙ is) in
    record {
      kept = λ n p is out. let r = outside_less ns i n out in takes.others n r.1 ∙ others.kept n p is r.0;
      was = λ n p is. others.was n p (sym (takes.others n (gone n p is)) ∙ is);
      only = λ n p is. outside_more ns i n (others.only n p (sym (takes.others n (gone n p is)) ∙ is)) (gone n p is);
    }

-- what is said of a store d without the nodes of a list
pub record IsDropped (d e : Diagram) (ns : List ℕ) : Type 0 where
  pub others : KeepsOthers d e ns
  pub sound : IsSound e
  pub functions : KeepsFunctions e d

dropped_here : (d e : Diagram) (ns : List ℕ) → IsSound d → NoneIsChild d ns → KeepsOthers d e ns → e.order ≡ d.order → e.limit ≡ d.limit → held e ≤ held d → IsDropped d e ns
dropped_here d e ns sound none others eo el few =
    let se : IsSound e = sound_left d e sound eo el others.was (λ n p b q is at. others.kept (child b p) q at (none n p b q (others.was n p is) (others.only n p is) at)) few in
    record {
      others = others;
      sound = se;
      functions = functions_kept e d se sound (record { order = sym eo; limit = sym el; kept = others.was });
    }

pub dropped : (d m e : Diagram) (ns : List ℕ) → m ≡ d → IsSound d → NoneIsChild d ns → KeepsOthers m e ns → e.order ≡ m.order → e.limit ≡ m.limit → held e ≤ held m → IsDropped d e ns
dropped d m e ns same sound none others eo el few =
    let few_d : held e ≤ held d = rw same at few in
    dropped_here d e ns sound none (rw same at others) (eo ∙ ap (λ (f : Diagram). f.order) same) (el ∙ ap (λ (f : Diagram). f.limit) same) few_d
