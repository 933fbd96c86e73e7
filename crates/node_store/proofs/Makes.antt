-- What `make` keeps where it adds a node.
use Rattle.std.proofs.Common.{◌≡◌, ◌≢◌, ℕ, true, length, Some, inl, inr, refl, sym, ◌∙◌, ap, arith, Ok, Err, Result, IfOk, IfErr, OnOk, OnErr}
use Rattle.std.proofs.lemmas.Bool.{cases_eq}
use Rattle.bit_lists.proofs.Variables.{has-here}
use Rattle.bit_lists.specs.Orders.{has, after}
use Rattle.diagram_model.specs.declared.parts.Parts.{Parts}
use Rattle.diagram_model.specs.Nodes.{parts_of, IsLiveIn, IsProper}
use Rattle.diagram_model.specs.Stores.{Diagram, IsSound, KeepsFunctions, Extends, AddsOnly, IsChoice, NoRoom, from}
use Rattle.diagram_model.proofs.Extend.{keeps_put}
use Rattle.diagram_model.proofs.Growing.{functions_kept, sound_put}
use Rattle.diagram_model.proofs.Values.{value-node}
use Rattle.node_store.specs.declared.node.Node.{Node}
use Rattle.node_store.specs.declared.node.StoreStop.{StoreStop}
use Rattle.node_store.specs.declared.node.StoreStop.TheVariants.{Full, OutOfMemory}
use Rattle.node_store.specs.Makes.{FindsOrPuts, Refuses, StopMeans}
use Rattle.node_store.specs.Slots.{parts}
use Rattle.node_store.proofs.Freed.{held_put}

-- what is known of a store once a node of these parts was asked for
pub record Tried (d e : Diagram) (p : Parts) (r : Result Node StoreStop) : Type 0 where
  pub puts : IfOk r (λ n. FindsOrPuts d e p n.0)
  pub rest : OnOk r ((e.order ≡ d.order) × (e.limit ≡ d.limit))
  pub refused : OnErr r (e ≡ d)
  pub before : IsSound d
  pub after : IsSound e

-- the node has its parts
pub found_here : (d e : Diagram) (p : Parts) (n : ℕ) → FindsOrPuts d e p n → parts_of e.slots n ≡ Some p
found_here d e p n (inl h) = ap (λ (x : Diagram). parts_of x.slots n) h.1 ∙ h.0
found_here d e p n (inr put) = put.puts.here

same_extends : (d e : Diagram) → e ≡ d → Extends d e
same_extends d e same = record {
  order = ap (λ (x : Diagram). x.order) same;
  limit = ap (λ (x : Diagram). x.limit) same;
  kept = λ n p is. ap (λ (x : Diagram). parts_of x.slots n) same ∙ is;
}

found_extends : (d e : Diagram) (p : Parts) (n : ℕ) → e.order ≡ d.order → e.limit ≡ d.limit → FindsOrPuts d e p n → Extends d e
found_extends d e p n eo el (inl h) = same_extends d e h.1
found_extends d e p n eo el (inr put) = record { order = eo; limit = el; kept = keeps_put d.slots e.slots n p put.puts }

found_only : (d e : Diagram) (p : Parts) (n : ℕ) → FindsOrPuts d e p n → AddsOnly d e n
found_only d e p n (inl h) m q is = inl (ap (λ (x : Diagram). parts_of x.slots m) (sym h.1) ∙ is)
found_only d e p n (inr put) m q is = elim (cases_eq m n) [ inl at ↦ inr at | inr ne ↦ inl (sym (put.puts.others m ne) ∙ is) ]

pub tried_extends : (d e : Diagram) (p : Parts) (r : Result Node StoreStop) → Tried d e p r → Extends d e
tried_extends d e p (Ok n) t = found_extends d e p n.0 t.rest.0 t.rest.1 t.puts
tried_extends d e p (Err s) t = same_extends d e t.refused

pub tried_functions : (d e : Diagram) (p : Parts) (r : Result Node StoreStop) → Tried d e p r → KeepsFunctions d e
tried_functions d e p r t = functions_kept d e t.before t.after (tried_extends d e p r t)

pub tried_only : (d e : Diagram) (p : Parts) (r : Result Node StoreStop) → Tried d e p r → IfOk r (λ n. AddsOnly d e n.0)
tried_only d e p (Ok n) t = found_only d e p n.0 t.puts
tried_only d e p (Err s) t = tt

pub tried_live : (d e : Diagram) (p : Parts) (r : Result Node StoreStop) → Tried d e p r → IfOk r (λ n. IsLiveIn e.slots (from d.order p.var) n.0)
tried_live d e p (Ok n) t = inr (record { parts = p; is = found_here d e p n.0 t.puts; below = has-here p.var (after d.order p.var) p.var refl })
tried_live d e p (Err s) t = tt

pub tried_denotes : (d e : Diagram) (v l h : ℕ) (r : Result Node StoreStop) → Tried d e (parts v l h) r → has d.order v ≡ true → IfOk r (λ n. IsChoice e v l h n.0)
tried_denotes d e v l h (Ok n) t below =
    let there : has e.order v ≡ true = rw t.rest.0 below in
    λ x. value-node e.slots (length e.order) e.order n.0 (parts v l h) t.after.diagram (found_here d e (parts v l h) n.0 t.puts) there x
tried_denotes d e v l h (Err s) t below = tt

-- a store stays sound where a node of proper parts is found or put
pub found_sound : (d e : Diagram) (p : Parts) (n : ℕ) → IsSound d → e.order ≡ d.order → e.limit ≡ d.limit → has d.order p.var ≡ true → IsProper d.slots d.order p → FindsOrPuts d e p n → IsSound e
found_sound d e p n s eo el below proper (inl h) = rw h.1 s
found_sound d e p n s eo el below proper (inr put) = sound_put d e n p s eo el put.puts put.number below proper put.new put.room (held_put d.slots e.slots n p put.puts)

refused_means : (d : Diagram) (v l h : ℕ) (s : StoreStop) → l ≢ h → Refuses d (parts v l h) s → StopMeans d v l h s
refused_means d v l h (Full k) differ why = (why.0, record { differ = differ; new = why.2; full = why.1 })
refused_means d v l h OutOfMemory differ why = tt

-- a node whose children differ is refused for want of room or of memory
pub tried_stop : (d : Diagram) (v l h : ℕ) (r : Result Node StoreStop) → l ≢ h → IfErr r (Refuses d (parts v l h)) → IfErr r (StopMeans d v l h)
tried_stop d v l h (Ok n) differ why = tt
tried_stop d v l h (Err s) differ why = refused_means d v l h s differ why

found_room : (d e : Diagram) (v l h n : ℕ) → FindsOrPuts d e (parts v l h) n → NoRoom d v l h → ⊥
found_room d e v l h n (inl f) none = none.new n f.0
found_room d e v l h n (inr put) none = omega (arith, put.room, none.full)

-- a node that is found, or for which there was room, is not without room
pub tried_room : (d e : Diagram) (v l h : ℕ) (r : Result Node StoreStop) → IfOk r (λ n. FindsOrPuts d e (parts v l h) n.0) → OnOk r (NoRoom d v l h → ⊥)
tried_room d e v l h (Ok n) puts = found_room d e v l h n.0 puts
tried_room d e v l h (Err s) puts = tt
