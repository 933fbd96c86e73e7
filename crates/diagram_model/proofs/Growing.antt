-- What stays of nodes once others are added.
use Rattle.std.proofs.Common.{◌≡◌, ℕ, ◌+◌, ◌<◌, ◌≤◌, true, List, length, Some, inl, inr, refl, sym, ◌∙◌, ap, arith}
use mathlib.Core.Path.{fun_ext}
use Rattle.bit_lists.specs.Orders.{has, after}
use Rattle.diagram_model.proofs.Canonical.{some_same}
use Rattle.diagram_model.proofs.Extend.{diagram_put, live-keeps, value-extends}
use Rattle.diagram_model.specs.Nodes.{IsProper, IsLiveIn}
use Rattle.diagram_model.specs.Stores.{Diagram, IsLive, IsAbove, IsSound, depth_of, depth, Extends, function_of, KeepsFunctions, PutsNode, IsNew, held}
use Rattle.diagram_model.specs.declared.parts.Parts.{Parts}

-- a node that was live in the smaller store stands where it stood
pub live_back : (d e : Diagram) (ws : List ℕ) (n : ℕ) → Extends d e → IsLive d n → IsLiveIn e.slots ws n → IsLiveIn d.slots ws n
live_back d e ws n ext (inl h) there = inl h
live_back d e ws n ext (inr h) (inl there) = inl there
live_back d e ws n ext (inr h) (inr there) =
    let same = some_same h.parts there.parts (sym (ext.kept n h.parts h.is) ∙ there.is) in
    inr (record { parts = there.parts; is = h.is ∙ ap (λ p. Some p) same; below = there.below })

pub live_on : (d e : Diagram) (n : ℕ) → Extends d e → IsLive d n → IsLive e n
live_on d e n ext live = rw ext.order (live-keeps d.slots e.slots d.order n ext.kept live)

pub above_on : (d e : Diagram) (w n : ℕ) → Extends d e → IsAbove d w n → IsAbove e w n
above_on d e w n ext live = rw ext.order (live-keeps d.slots e.slots (after d.order w) n ext.kept live)

pub above_back : (d e : Diagram) (w n : ℕ) → Extends d e → IsLive d n → IsAbove e w n → IsAbove d w n
above_back d e w n ext live there = live_back d e (after d.order w) n ext live (rw ext.order at there)

pub extends_trans : (d e f : Diagram) → Extends d e → Extends e f → Extends d f
extends_trans d e f p q = record {
  order = q.order ∙ p.order;
  limit = q.limit ∙ p.limit;
  kept = λ n r is. q.kept n r (p.kept n r is);
}

pub depth_on : (d e : Diagram) (n : ℕ) → IsSound d → IsSound e → Extends d e → IsLive d n → depth e n ≡ depth d n
depth_on d e n sd se ext (inl h) = rw (se.diagram.ground n h) (sym (ap (depth_of d.order) (sd.diagram.ground n h)))
depth_on d e n sd se ext (inr h) = ap (depth_of e.order) (ext.kept n h.parts h.is) ∙ ap (λ o. depth_of o (Some h.parts)) ext.order ∙ sym (ap (depth_of d.order) h.is)

-- live nodes keep their functions
pub function_on : (d e : Diagram) (n : ℕ) → IsSound d → IsSound e → Extends d e → IsLive d n → function_of e n ≡ function_of d n
unfolding function_of
function_on d e n sd se ext live = fun_ext (λ x. value-extends d e n sd se ext live x)

-- a store that grew keeps all functions
pub functions_kept : (d e : Diagram) → IsSound d → IsSound e → Extends d e → KeepsFunctions d e
functions_kept d e sd se ext = record {
  live = λ n live. live_on d e n ext live;
  same = λ n live x. value-extends d e n sd se ext live x;
}

pub functions_same : (d : Diagram) → KeepsFunctions d d
functions_same d = record { live = λ n live. live; same = λ n live x. refl }

-- a sound store with one more proper node of new parts is sound
pub sound_put : (d e : Diagram) (n : ℕ) (p : Parts) → IsSound d → e.order ≡ d.order → e.limit ≡ d.limit → PutsNode d.slots e.slots n p → 2 ≤ n → has d.order p.var ≡ true → IsProper d.slots d.order p → IsNew d p → held d < d.limit → held e ≡ held d + 1 → IsSound e
sound_put d e n p s eo el puts big below proper new room count =
    let g = diagram_put d.slots e.slots (length d.order) d.order n p s.diagram puts big below proper new in
    record { diagram = rw eo g; all = rw eo s.all; few = omega arith; most = omega (arith, s.most) }
