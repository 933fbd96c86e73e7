-- Nodes that are reached from roots arise from the functions of the roots, and so do all that are left by a reclaim.
use Rattle.std.proofs.Common.{◌≡◌, ℕ, Bool, true, List, [], ◌∷◌, length, Some, inl, inr, refl, sym, ◌∙◌, ap}
use mathlib.Core.Path.{fun_ext}
use Rattle.bit_lists.specs.Orders.{has, after, AreVars}
use Rattle.bit_lists.proofs.Variables.{has-here}
use Rattle.diagram_model.specs.declared.parts.Parts.{Parts}
use Rattle.diagram_model.specs.Functions.{Function, fix, IsPrefixOf}
use Rattle.diagram_model.specs.Nodes.{parts_of, child, IsLiveIn}
use Rattle.diagram_model.specs.Reach.{is_in, Reaches}
use Rattle.diagram_model.specs.Reach.Reaches.{root, step}
use Rattle.diagram_model.specs.Stores.{Diagram, IsLive, IsSound, Extends, KeepsFunctions, from, function_of}
use Rattle.diagram_model.proofs.Canonical.{follow-at}
use Rattle.diagram_model.proofs.Fixing.{fix_function, ignores_higher}
use Rattle.diagram_model.proofs.Growing.{function_on}
use Rattle.diagram_model.proofs.Prefixes.{Ignores, prefix_self, prefix_fix}
use Rattle.diagram_ops.specs.Made.{Property, MakesOnly, IsPrefixOfSome}
use Rattle.node_store.specs.declared.node.Node.{Node}
use Rattle.node_store.specs.Marks.{numbers}
use Rattle.node_reclaim.specs.Reclaims.{KeepsReached, HoldsOnly}
use Rattle.node_reclaim.proofs.Bound.{prefix_ignores, fixed_ignores}

over : (vs : List ℕ) (f h g : Function) → f ≡ h → IsPrefixOf vs f g → IsPrefixOf vs h g
over vs f h g e p = rw (sym e) p

to : (vs : List ℕ) (f g h : Function) → g ≡ h → IsPrefixOf vs f g → IsPrefixOf vs f h
to vs f g h e p = rw (sym e) p

-- What arises from what arises from f arises from f.
pub prefix_then : (n : ℕ) (vs : List ℕ) (f g h : Function) → AreVars n vs → IsPrefixOf vs f g → IsPrefixOf vs g h → IsPrefixOf vs f h
unfolding IsPrefixOf
prefix_then n [] f g h vars p q = q ∙ p
prefix_then n (v ∷ vs) f g h vars (inl p) q = over (v ∷ vs) g f h p q
prefix_then n (v ∷ vs) f g h vars (inr p) (inl q) = to (v ∷ vs) f g h (sym q) (inr p)
prefix_then n (v ∷ vs) f g h vars (inr p) (inr q) =
    let ign : Ignores g v = prefix_ignores vs v (fix v p.0 f) g vars.1 (fixed_ignores v p.0 f) p.1 in
    inr (p.0, prefix_then n vs (fix v p.0 f) g h vars.2 p.1 (over vs (fix v q.0 g) g h (ign q.0) q.1))

-- the function of a child arises from that of its node
pub child_prefix : (d : Diagram) (n : ℕ) (p : Parts) (b : Bool) → IsSound d → parts_of d.slots n ≡ Some p → IsPrefixOf d.order (function_of d n) (function_of d (child b p))
child_prefix d n p b s is =
    let v = p.var in
    let in_order : has d.order v ≡ true = s.diagram.within n p is in
    let live : IsLiveIn d.slots (from d.order v) n = inr (record { parts = p; is = is; below = has-here v (after d.order v) v refl }) in
    let same : function_of d (child b p) ≡ fix v b (function_of d n) = sym (fix_function d v n b s in_order live ∙ ap (function_of d) (follow-at d.slots v n p is refl b)) in
    prefix_fix d.order v b (function_of d n) (function_of d (child b p)) in_order (λ u below. ignores_higher d u v n s below live)
    (prefix_self d.order (fix v b (function_of d n)) (function_of d (child b p)) same)

-- the functions of the roots
some_then : (n : ℕ) (vs : List ℕ) (fs : List Function) (g h : Function) → AreVars n vs → IsPrefixOfSome vs fs g → IsPrefixOf vs g h → IsPrefixOfSome vs fs h
unfolding IsPrefixOfSome
some_then n vs [] g h vars p q = absurd p
some_then n vs (f ∷ fs) g h vars (inl p) q = inl (prefix_then n vs f g h vars p q)
some_then n vs (f ∷ fs) g h vars (inr p) q = inr (some_then n vs fs g h vars p q)

-- Where the roots arise from a list of functions, each node reached from them does.
pub reached_prefix : (d : Diagram) (fs : List Function) (roots : List ℕ) → IsSound d → ((r : ℕ) → is_in roots r ≡ true → IsPrefixOfSome d.order fs (function_of d r)) → (n : ℕ) → Reaches d.slots roots n → IsPrefixOfSome d.order fs (function_of d n)
reached_prefix d fs roots s all n (root _ h) = all n h
reached_prefix d fs roots s all n (step m p b h is) =
    some_then (length d.order) d.order fs (function_of d m) (function_of d (child b p)) s.diagram.order (reached_prefix d fs roots s all m h) (child_prefix d m p b s is)

-- a node that stayed has its function
pub same_function : (d e : Diagram) (n : ℕ) → KeepsFunctions e d → IsLive e n → function_of e n ≡ function_of d n
unfolding function_of
same_function d e n kept live = fun_ext (λ x. sym (kept.same n live x))

-- After a reclaim each held node arises from any functions from which the roots' arise.
pub reclaimed_holds : (d e : Diagram) (roots : List Node) (fs : List Function) → IsSound d → IsSound e → KeepsReached d e roots → KeepsFunctions e d
    → ((r : ℕ) → is_in (numbers roots) r ≡ true → IsPrefixOfSome d.order fs (function_of d r)) → HoldsOnly e (IsPrefixOfSome d.order fs)
reclaimed_holds d e roots fs sd se left kept all n p is =
    let live : IsLive e n = inr (record { parts = p; is = is; below = se.diagram.within n p is }) in
    let h = reached_prefix d fs (numbers roots) sd all n (left.only n p is) in
    rw (same_function d e n kept live) h

-- Nodes of a kind are added to nodes of the kind.
pub made_holds : (d e : Diagram) (Is : Property) → IsSound d → IsSound e → Extends d e → MakesOnly d e Is → HoldsOnly d Is → HoldsOnly e Is
made_holds d e Is sd se ext made all n p is =
    elim (made n p is) [
      | inl old ↦
          let live : IsLive d n = inr (record { parts = p; is = old; below = sd.diagram.within n p old }) in
          let h = all n p old in
          rw (function_on d e n sd se ext live) h
      | inr new ↦ new
    ]
