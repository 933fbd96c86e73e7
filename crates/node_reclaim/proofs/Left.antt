-- What is left of a store once some of its nodes are freed.
use Rattle.std.proofs.Common.{◌≡◌, ℕ, ◌+◌, ◌≤◌, ◌<◌, zero, suc, Bool, true, false, List, [], ◌∷◌, map, length, Option, Some, None, inl, inr, refl, sym, ◌∙◌, ap, arith, All, get_or, eqb, eq-eqb}
use Rattle.std.proofs.lemmas.Bool.{or_left, or_right}
use Rattle.bit_lists.specs.Orders.{after}
use Rattle.diagram_model.specs.declared.parts.Parts.{Parts}
use Rattle.diagram_model.specs.Nodes.{parts_of, child, denoted, IsLiveIn, IsDiagram}
use Rattle.diagram_model.specs.Reach.{is_in}
use Rattle.diagram_model.specs.Reach.Reaches.{root, step}
use Rattle.diagram_model.specs.Size.{size}
use Rattle.diagram_model.specs.Stores.{Diagram, IsLive, IsSound, KeepsFunctions, held, function_of}
use Rattle.diagram_model.proofs.Growing.{functions_kept}
use Rattle.diagram_model.proofs.Held.{held_list, length-held_list, distinct-held_list, in_held_list, of_held_list}
use Rattle.diagram_model.proofs.Reached.{size_of_reached}
use Rattle.diagram_model.proofs.Sizes.{Each}
use Rattle.diagram_model.proofs.Values.{none_some}
use Rattle.node_store.specs.declared.node.Node.{Node}
use Rattle.node_store.specs.Marks.{numbers, AreReached, KeepsMarked}
use Rattle.node_reclaim.specs.Reclaims.{KeepsReached}

none_of : (o : Option Parts) → ((p : Parts) → o ≡ Some p → ⊥) → o ≡ None
none_of None f = refl
none_of (Some p) f = absurd (f p refl)

live_left : (s t : List (Option Parts)) (vs : List ℕ) (n : ℕ) → ((p : Parts) → parts_of s n ≡ Some p → parts_of t n ≡ Some p) → IsLiveIn s vs n → IsLiveIn t vs n
live_left s t vs n kept (inl h) = inl h
live_left s t vs n kept (inr h) = inr (record { parts = h.parts; is = kept h.parts h.is; below = h.below })

-- a store without some of its nodes is sound where the nodes that are left have their children
pub sound_left : (d e : Diagram) → IsSound d → e.order ≡ d.order → e.limit ≡ d.limit → ((n : ℕ) (p : Parts) → parts_of e.slots n ≡ Some p → parts_of d.slots n ≡ Some p) → ((n : ℕ) (p : Parts) (b : Bool) (q : Parts) → parts_of e.slots n ≡ Some p → parts_of d.slots (child b p) ≡ Some q → parts_of e.slots (child b p) ≡ Some q) → held e ≤ held d → IsSound e
sound_left d e sound eo el was closed few =
    let g = sound.diagram in
    let all : IsDiagram e.slots (length d.order) d.order = record {
      ground = λ n small. none_of (parts_of e.slots n) (λ p is. none_some p (sym (g.ground n small) ∙ was n p is));
      order = g.order;
      within = λ n p is. g.within n p (was n p is);
      proper = λ n p is below.
          let h = g.proper n p (was n p is) below in
          record {
            low = live_left d.slots e.slots (after d.order p.var) p.low (λ q at. closed n p false q is at) h.low;
            high = live_left d.slots e.slots (after d.order p.var) p.high (λ q at. closed n p true q is at) h.high;
            differ = h.differ;
          };
      unique = λ n m p a b. g.unique n m p (was n p a) (was m p b);
    } in
    record { diagram = rw eo all; all = rw eo sound.all; few = omega (arith, sound.few); most = omega (arith, sound.most) }

each_live : (d : Diagram) (ns : List Node) → All (λ (n : Node). IsLive d n.0) ns → Each (IsLiveIn d.slots d.order) (numbers ns)
each_live d [] all = tt
each_live d (n ∷ ns) all = (all 0 n (omega arith), each_live d ns (λ k e lt. all (suc k) e (omega arith)))

denoted_all : (d : Diagram) (ns : List Node) → map (λ (n : Node). function_of d n.0) ns ≡ map (denoted d.slots d.order) (numbers ns)
unfolding function_of
denoted_all d [] = refl
denoted_all d (n ∷ ns) = ap (λ l. denoted d.slots d.order n.0 ∷ l) (denoted_all d ns)

-- what is left where the marked nodes are those reached from the roots
module _ (d e : Diagram) (roots : List Node) (ms : List Bool) (sound : IsSound d) (live : All (λ (n : Node). IsLive d n.0) roots) (reached : AreReached d roots ms) (kept : KeepsMarked d e ms) (eo : e.order ≡ d.order) (el : e.limit ≡ d.limit) (k : ℕ) (freed : k + held e ≡ held d) where
  pub left_reached : KeepsReached d e roots
  left_reached = record {
    kept = λ n p is h. kept.kept n p is (reached.whole n (p, is) h);
    was = kept.was;
    only = λ n p is. reached.right n (kept.only n p is);
  }

  pub left_sound : IsSound e
  left_sound = sound_left d e sound eo el kept.was
      (λ n p b q is at. kept.kept (child b p) q at (reached.whole (child b p) (q, at) (step n p b (reached.right n (kept.only n p is)) (kept.was n p is))))
      (omega arith)

  pub left_functions : KeepsFunctions e d
  left_functions = functions_kept e d left_sound sound (record { order = sym eo; limit = sym el; kept = kept.was })

  pub left_size : held e ≡ size (length d.order) d.order (map (λ (n : Node). function_of d n.0) roots)
  left_size =
      sym (length-held_list e)
      ∙ size_of_reached d.slots (length d.order) d.order (numbers roots) (held_list e) sound.diagram (each_live d roots live) (distinct-held_list e)
      (λ q h. let a = of_held_list e q h in (reached.right q (kept.only q a.0 a.1), (a.0, kept.was q a.0 a.1)))
      (λ q p h is. in_held_list e q (p, kept.kept q p is (reached.whole q (p, is) h)))
      ∙ ap (size (length d.order) d.order) (sym (denoted_all d roots))

-- what is said of a store d that was reclaimed to roots, and is e
pub record IsReclaimed (d e : Diagram) (roots : List Node) : Type 0 where
  pub reached : KeepsReached d e roots
  pub sound : IsSound e
  pub functions : KeepsFunctions e d
  pub size_is : held e ≡ size (length d.order) d.order (map (λ (n : Node). function_of d n.0) roots)
  pub live : All (λ (n : Node). IsLive e n.0) roots

-- a root by its place
pub root_in : (ns : List Node) (k : ℕ) (z : Node) → k < length ns → is_in (numbers ns) (get_or ns k z).0 ≡ true
root_in [] k z lt = absurd (omega arith)
root_in (n ∷ ns) zero z lt = or_left (eqb n.0 n.0) (is_in (numbers ns) n.0) (eq-eqb n.0 n.0 refl)
root_in (n ∷ ns) (suc k) z lt = or_right (eqb (get_or ns k z).0 n.0) (is_in (numbers ns) (get_or ns k z).0) (root_in ns k z (omega arith))

roots_live : (d e : Diagram) (roots : List Node) → e.order ≡ d.order → All (λ (n : Node). IsLive d n.0) roots → KeepsReached d e roots → All (λ (n : Node). IsLive e n.0) roots
roots_live d e roots eo live kept k z lt =
    let h : IsLiveIn e.slots d.order (get_or roots k z).0 = live_left d.slots e.slots d.order (get_or roots k z).0 (λ p is. kept.kept (get_or roots k z).0 p is (root (get_or roots k z).0 (root_in roots k z lt))) (live k z lt) in
    rw eo h

reclaimed_here : (d e : Diagram) (roots : List Node) (ms : List Bool) (k : ℕ) → IsSound d → All (λ (n : Node). IsLive d n.0) roots → AreReached d roots ms → KeepsMarked d e ms → e.order ≡ d.order → e.limit ≡ d.limit → k + held e ≡ held d → IsReclaimed d e roots
reclaimed_here d e roots ms k sound live reached kept eo el freed = record {
  reached = left_reached d e roots ms sound live reached kept eo el k freed;
  sound = left_sound d e roots ms sound live reached kept eo el k freed;
  functions = left_functions d e roots ms sound live reached kept eo el k freed;
  size_is = left_size d e roots ms sound live reached kept eo el k freed;
  live = roots_live d e roots eo live (left_reached d e roots ms sound live reached kept eo el k freed);
}

pub reclaimed : (d m e : Diagram) (roots : List Node) (ms : List Bool) (k : ℕ) → m ≡ d → IsSound d → All (λ (n : Node). IsLive d n.0) roots → AreReached d roots ms → KeepsMarked m e ms → e.order ≡ m.order → e.limit ≡ m.limit → k + held e ≡ held m → IsReclaimed d e roots
reclaimed d m e roots ms k same sound live reached kept eo el freed =
    reclaimed_here d e roots ms k sound live reached (rw same at kept) (eo ∙ ap (λ (f : Diagram). f.order) same) (el ∙ ap (λ (f : Diagram). f.limit) same) (freed ∙ ap (λ (f : Diagram). held f) same)
