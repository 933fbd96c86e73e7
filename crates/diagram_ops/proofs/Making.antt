-- Which functions the nodes denote that a call makes, and which one is missing where it stops.
use Rattle.std.proofs.Common.{◌≡◌, ◌≢◌, ℕ, zero, suc, ◌<◌, Bool, true, cond, eqb, List, [], ◌∷◌, ◌++◌, length, Option, Some, None, inl, inr, refl, sym, ◌∙◌, ap, arith}
use Rattle.std.proofs.lemmas.Bool.{cases_Bool, cond-true, cond-false}
use Rattle.bit_lists.specs.Orders.{has, after}
use Rattle.diagram_model.specs.declared.parts.Parts.{Parts}
use Rattle.diagram_model.specs.Functions.{Assignment, Function, fix, IsPrefixOf}
use Rattle.diagram_model.specs.Nodes.{parts_of, value, IsLiveIn, IsDiagram}
use Rattle.diagram_model.specs.Stores.{Diagram, IsLive, IsAbove, IsSound, Extends, AddsOnly, NoRoom, PutsNode, function_of, requested}
use Rattle.diagram_model.proofs.Canonical.{same_node}
use Rattle.diagram_model.proofs.Extend.{live-keeps, walk-keeps, keeps_put, diagram_put}
use Rattle.diagram_model.proofs.Growing.{function_on}
use Rattle.diagram_model.proofs.Prefixes.{prefix_fix, prefix_self}
use Rattle.diagram_model.proofs.Values.{none_some, live-wider, value-node, has-after}
use Rattle.node_store.specs.declared.node.StoreStop.{StoreStop}
use Rattle.node_store.specs.declared.node.StoreStop.TheVariants.{Full, OutOfMemory}
use Rattle.node_store.specs.Makes.{StopMeans}
use Rattle.diagram_ops.specs.declared.operands.Operands.{Operands}
use Rattle.diagram_ops.specs.declared.split.Split.{Split}
use Rattle.diagram_ops.specs.Keeping.{IsPart}
use Rattle.diagram_ops.specs.Made.{Property, MakesOnly, IsMissing, StopIs}
use Rattle.diagram_ops.specs.Operands.{AreLive}
use Rattle.diagram_ops.specs.Operations.{Operation, result_of, IsResult}
use Rattle.diagram_ops.proofs.Results.{IsPartAt, IsParted, IsStep, below_live, result_on, var_on, step_low, step_high, step_choice}

has_property : (Is : Property) (f g : Function) → f ≡ g → Is f → Is g
has_property Is f g e h = rw (sym e) h

pub makes_none : (d : Diagram) (Is : Property) → MakesOnly d d Is
makes_none d Is n p is = inl is

-- one call after another
pub makes_then : (d e k : Diagram) (Is : Property) → IsSound e → IsSound k → Extends e k → MakesOnly d e Is → MakesOnly e k Is → MakesOnly d k Is
makes_then d e k Is se sk ext first second n p is =
    elim (second n p is) [
      | inl old ↦ elim (first n p old) [
        | inl older ↦ inl older
        | inr made ↦
            let live : IsLive e n = inr (record { parts = p; is = old; below = se.diagram.within n p old }) in
            inr (has_property Is (function_of e n) (function_of k n) (sym (function_on e k n se sk ext live)) made)
      ]
      | inr made ↦ inr made
    ]

pub makes_wider : (d e : Diagram) (Is Are : Property) → ((f : Function) → Is f → Are f) → MakesOnly d e Is → MakesOnly d e Are
makes_wider d e Is Are wider all n p is =
    elim (all n p is) [ inl old ↦ inl old | inr made ↦ inr (wider (function_of e n) made) ]

missing_wider : (d : Diagram) (Is Are : Property) → ((f : Function) → Is f → Are f) → IsMissing d Is → IsMissing d Are
missing_wider d Is Are wider h = record { full = h.full; missing = h.missing; is = wider h.missing h.is; none = h.none }

pub stop_wider : (d : Diagram) (Is Are : Property) → ((f : Function) → Is f → Are f) → (r : StoreStop) → StopIs d Is r → StopIs d Are r
stop_wider d Is Are wider (Full h) s = (s.0, missing_wider d Is Are wider s.1)
stop_wider d Is Are wider OutOfMemory s = s

-- what is wanted for a part of the result, in a larger store, is wanted for the whole
pub part_of_whole : (op : Operation) (d e : Diagram) (at : Operands) (s : Split) (b : Bool) (to : Operands) → IsSound d → IsSound e → Extends d e → IsParted op d at s → IsPartAt op d at s.var b to → (p : Function) → IsPart op e to p → IsPart op d at p
part_of_whole op d e at s b to sd se ext parted part p made =
    let r = result_of op d at in
    let on : result_of op e to ≡ fix s.var b r = result_on op d e to sd se ext (below_live d s.var to part.above) ∙ sym part.fixed in
    prefix_fix d.order s.var b r p parted.var parted.ignores (has_property (λ w. IsPrefixOf d.order w p) (result_of op e to) (fix s.var b r) on (rw (sym ext.order) made))

-- the node of the whole is wanted for the whole, in the store at the start
pub whole_made : (op : Operation) (d k m : Diagram) (at : Operands) (n : ℕ) → IsSound d → IsSound m → Extends d m → AreLive d at → IsResult op m at n → AddsOnly k m n → MakesOnly k m (IsPart op d at)
whole_made op d k m at n sd sm ext live r only i p is =
    elim (only i p is) [
      | inl old ↦ inl old
      | inr same ↦ inr (prefix_self d.order (result_of op d at) (function_of m i) (ap (function_of m) same ∙ r.denotes ∙ result_on op d m at sd sm ext live))
    ]

-- A node of parts that no node has, put past the end of the slots.
abbrev far : List (Option Parts) → Parts → List (Option Parts)
far s p = s ++ (None ∷ None ∷ Some p ∷ [])

far_here : (s : List (Option Parts)) (p : Parts) → parts_of (far s p) (suc (suc (length s))) ≡ Some p
far_here [] p = refl
far_here (o ∷ os) p = far_here os p

far_free : (s : List (Option Parts)) → parts_of s (suc (suc (length s))) ≡ None
far_free [] = refl
far_free (o ∷ os) = far_free os

far_others : (s : List (Option Parts)) (p : Parts) (m : ℕ) → m ≢ suc (suc (length s)) → parts_of (far s p) m ≡ parts_of s m
far_others [] p zero ne = refl
far_others [] p (suc zero) ne = refl
far_others [] p (suc (suc zero)) ne = absurd (ne refl)
far_others [] p (suc (suc (suc m))) ne = refl
far_others (o ∷ os) p zero ne = refl
far_others (o ∷ os) p (suc m) ne = far_others os p m (λ e. ne (ap suc e))

same_value : (s t : List (Option Parts)) (k : ℕ) (vs : List ℕ) (n : ℕ) → IsDiagram s k vs → ((m : ℕ) → m < 2 → parts_of t m ≡ None) → ((m : ℕ) (q : Parts) → parts_of s m ≡ Some q → parts_of t m ≡ Some q) → IsLiveIn s vs n → (x : ℕ → Bool) → value t vs x n ≡ value s vs x n
unfolding value
same_value s t k vs n d gt keeps live x = ap (λ m. eqb m 1) (walk-keeps s t k vs n d.ground gt d.order d.proper keeps live x)

-- where no node has the parts, no live node denotes their choice
pub no_node : (d : Diagram) (v low high n : ℕ) → IsSound d → has d.order v ≡ true → IsAbove d v low → IsAbove d v high → NoRoom d v low high → IsLive d n → ((x : ℕ → Bool) → value d.slots d.order x n ≡ value d.slots d.order x (cond (x v) high low)) → ⊥
no_node d v low high n sd is ll lh room live same =
    let p : Parts = record { var = v; low = low; high = high } in
    let m = suc (suc (length d.slots)) in
    let t = far d.slots p in
    let puts : PutsNode d.slots t m p = record { free = far_free d.slots; here = far_here d.slots p; others = λ i ne. far_others d.slots p i ne } in
    let keeps = keeps_put d.slots t m p puts in
    let dia : IsDiagram t (length d.order) d.order = diagram_put d.slots t (length d.order) d.order m p sd.diagram puts (omega arith) is (record { low = ll; high = lh; differ = room.differ }) room.new in
    let wider = λ (c : ℕ) (l : IsAbove d v c). live-wider d.slots (after d.order v) d.order c (λ w h. has-after d.order v w h) l in
    let live_m : IsLiveIn t d.order m = inr (record { parts = p; is = far_here d.slots p; below = is }) in
    let both : (x : ℕ → Bool) → value t d.order x n ≡ value t d.order x m = λ x.
    same_value d.slots t (length d.order) d.order n sd.diagram dia.ground keeps live x
    ∙ same x
    ∙ sym (same_value d.slots t (length d.order) d.order (cond (x v) high low) sd.diagram dia.ground keeps (elim (cases_Bool (x v)) [
      | inl e ↦ let l = wider high lh in rw (cond-true (x v) high low e) l
      | inr e ↦ let l = wider low ll in rw (cond-false (x v) high low e) l
    ]) x)
    ∙ sym (value-node t (length d.order) d.order m p dia (far_here d.slots p) is x) in
    let one : n ≡ m = same_node t (length d.order) d.order n m dia.order dia.proper dia.unique (live-keeps d.slots t d.order n keeps live) live_m both in
    elim live [
      | inl small ↦ absurd (omega (arith, small, one))
      | inr is_held ↦ none_some is_held.parts (sym (far_free d.slots) ∙ ap (parts_of d.slots) (sym one) ∙ is_held.is)
    ]

at_point : (f g : Function) → f ≡ g → (x : Assignment) → f x ≡ g x
at_point f g e x = ap (λ (w : Function). w x) e

-- where the node over both parts has no room, the result is denoted by no live node
pub whole_missing : (op : Operation) (d e m : Diagram) (at : Operands) (s : Split) (low high : ℕ) → IsStep op d e at s low high → m ≡ requested e → (r : StoreStop) → StopMeans e s.var low high r → StopIs m (IsPart op d at) r
unfolding function_of
whole_missing op d e m at s low high t same OutOfMemory stop = stop
whole_missing op d e m at s low high t same (Full h) stop =
    let none : (n : ℕ) → IsLive (requested e) n → function_of (requested e) n ≢ result_of op d at = λ n live eq.
    no_node e s.var low high n t.sound_e (var_on d e s.var t.extends t.parted.var) (step_low op d e at s low high t) (step_high op d e at s low high t) stop.1 live (λ x.
    at_point (function_of e n) (result_of op d at) eq x ∙ sym (step_choice op d e at s low high t x)) in
    let out : StopIs (requested e) (IsPart op d at) (Full h) =
    (stop.0, record { full = stop.1.full; missing = result_of op d at; is = prefix_self d.order (result_of op d at) (result_of op d at) refl; none = none }) in
    rw same out
