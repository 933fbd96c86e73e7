-- A variable above a node, told by places.
use Rattle.std.proofs.Common.{◌≡◌, ◌≢◌, ℕ, ◌<◌, true, length, Some, None, option_map, is_some, inl, inr, sym, ◌∙◌, ap, arith}
use Rattle.std.proofs.lemmas.Option.{same_Some}
use Rattle.std.proofs.lemmas.Bool.{false≢true}
use Rattle.bit_lists.specs.Orders.{has, after, place_in}
use Rattle.bit_lists.proofs.Variables.{has-tail}
use Rattle.diagram_model.specs.declared.parts.Parts.{Parts}
use Rattle.diagram_model.specs.Nodes.{parts_of}
use Rattle.diagram_model.specs.Stores.{Diagram, IsLive, IsAbove, IsSound, from}
use Rattle.diagram_model.proofs.Heights.{has_from, length-place}
use Rattle.diagram_model.proofs.Values.{after-after, length-after, has-after, below-order}

none_var : (u : ℕ) → Some u ≡ None → ⊥
none_var u e = false≢true (ap is_some (sym e))

-- the variable of a held node
top_is : (d : Diagram) (n w : ℕ) (p : Parts) → Some w ≡ option_map (λ (q : Parts). q.var) (parts_of d.slots n) → parts_of d.slots n ≡ Some p → w ≡ p.var
top_is d n w p e is = same_Some w p.var (e ∙ ap (option_map (λ (q : Parts). q.var)) is)

pub place_below : (d : Diagram) (v n w : ℕ) → IsSound d → v < length d.order → IsLive d n → Some w ≡ option_map (λ (q : Parts). q.var) (parts_of d.slots n) → place_in d.order v < place_in d.order w → IsAbove d v n
place_below d v n w s lt (inl small) e less = inl small
place_below d v n w s lt (inr h) e less =
    let order = d.order in
    let same : w ≡ h.parts.var = top_is d n w h.parts e h.is in
    let there : has order w ≡ true = ap (has order) same ∙ h.below in
    let here : has order v ≡ true = s.all v lt in
    let long_v = length-place order v here in
    let long_w = length-place order w there in
    let lower : has (from order v) w ≡ true = has_from order w v there here (omega (arith, long_v, long_w, less)) in
    let apart : v ≢ w = λ at. (let p : place_in order v ≡ place_in order w = ap (place_in order) at in omega (arith, p, less)) in
    inr (record { parts = h.parts; is = h.is; below = ap (has (after order v)) (sym same) ∙ has-tail v w (after order v) lower apart })

pub below_place : (d : Diagram) (v n w : ℕ) → IsSound d → v < length d.order → Some w ≡ option_map (λ (q : Parts). q.var) (parts_of d.slots n) → IsAbove d v n → place_in d.order v < place_in d.order w
below_place d v n w s lt e (inl small) = absurd (none_var w (e ∙ ap (option_map (λ (q : Parts). q.var)) (s.diagram.ground n small)))
below_place d v n w s lt e (inr h) =
    let order = d.order in
    let k = length order in
    let same : w ≡ h.parts.var = top_is d n w h.parts e h.is in
    let below : has (after order v) w ≡ true = ap (has (after order v)) same ∙ h.below in
    let there : has order w ≡ true = has-after order v w below in
    let here : has order v ≡ true = s.all v lt in
    let long_v = length-place order v here in
    let long_w = length-place order w there in
    let shorter : length (after (after order v) w) < length (after order v) = length-after (after order v) w below in
    let tail : length (after order w) ≡ length (after (after order v) w) = ap length (after-after k order v w s.diagram.order below) in
    omega (arith, long_v, long_w, shorter, tail)

pub var_within : (d : Diagram) (n w : ℕ) → IsSound d → IsLive d n → Some w ≡ option_map (λ (q : Parts). q.var) (parts_of d.slots n) → w < length d.order
var_within d n w s (inl small) e = absurd (none_var w (e ∙ ap (option_map (λ (q : Parts). q.var)) (s.diagram.ground n small)))
var_within d n w s (inr h) e = let within = below-order (length d.order) d.order h.parts.var s.diagram.order h.below in omega (arith, within, top_is d n w h.parts e h.is)
