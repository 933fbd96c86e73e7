-- What a sift keeps of a vector or matrix, and the order that it leads to.
use Rattle.std.proofs.Common.{◌≡◌, ℕ, true, eqb, List, [], ◌∷◌, map, length, inl, inr, refl, sym, ◌∙◌, ap, subst}
use Rattle.std.proofs.lemmas.Bool.{eqb-true, false≢true, or_cases}
use mathlib.Core.Path.{fun_ext}
use Rattle.diagram_model.specs.Functions.{Assignment, Function}
use Rattle.diagram_model.specs.Reach.{is_in}
use Rattle.diagram_model.specs.Stores.{Diagram, IsLive, function_of}
use Rattle.diagram_ops.specs.Diagrams.{StoreAndCache, IsConsistent}
use Rattle.node_store.specs.declared.node.Node.{Node}
use Rattle.node_store.specs.Marks.{numbers}
use Rattle.sifting.specs.declared.sift.Sifted.{Sifted}
use Rattle.sifting.specs.Answers.{AreInTurn, SiftsTo, last_order}
use Rattle.sifting.specs.Sifts.{functions_of, KeepsRoots}
use Rattle.sifting.proofs.SiftedOrders.{turns_to}
use Rattle.slice_vec.specs.Slices.{digits_of, bit_node}
use Rattle.slice_quad.specs.declared.coord.Coord.{Coord}
use Rattle.slice_quad.specs.declared.coord.Coord.TheVariants.{A, B, C, D}
use Rattle.slice_quad.specs.declared.quad.SliceQuad.{SliceQuad}
use Rattle.slice_quad.specs.Fields.{roots_of}
use Rattle.slice_quad.specs.Fours.{nodes_of}
use Rattle.slice_quad.specs.Vectors.{vector_in, Stands}
use Rattle.step_upkeep.specs.Upkept.{KeepsQuad, functions_in}
use Rattle.step_upkeep.proofs.Roots.{in_nodes, to_roots, kept_root, live_stands}
use Rattle.step_upkeep.proofs.Stored.{bit_in}

-- ---- the functions of the roots
-- a list's first function, and the others
abbrev first_of : Function → List Function → Function
first_of f [] = f
first_of f (g ∷ gs) = g

abbrev others_of : List Function → List Function
others_of [] = []
others_of (g ∷ gs) = gs

same_node : (d e : Diagram) (ns : List Node) → functions_of e ns ≡ functions_of d ns → (m : ℕ) → is_in (numbers ns) m ≡ true → function_of e m ≡ function_of d m
same_node d e [] same m is = absurd (false≢true is)
same_node d e (n ∷ ns) same m is =
    elim (or_cases (eqb m n.0) (is_in (numbers ns) m) is) [
      | inl at ↦
          let head : function_of e n.0 ≡ function_of d n.0 = ap (first_of (function_of e n.0)) same in
          subst (λ k. function_of e k ≡ function_of d k) (sym (eqb-true m n.0 at)) head
      | inr more ↦ same_node d e ns (ap others_of same) m more
    ]

by_numbers : (d : Diagram) (ns : List Node) → functions_of d ns ≡ map (function_of d) (numbers ns)
by_numbers d [] = refl
by_numbers d (n ∷ ns) = ap (λ (fs : List Function). function_of d n.0 ∷ fs) (by_numbers d ns)

pub functions_are : (d : Diagram) (q : SliceQuad) (roots : List Node) → numbers roots ≡ roots_of q → functions_of d roots ≡ functions_in d q
functions_are d q roots are = by_numbers d roots ∙ ap (λ (ns : List ℕ). map (function_of d) ns) are

-- ---- the vector or matrix
module _ (d e : Diagram) (q : SliceQuad) (h : Stands d q) (same : (n : ℕ) → is_in (roots_of q) n ≡ true → function_of e n ≡ function_of d n) where
  digits_same : (z : Coord) → digits_of e (nodes_of q.four z) ≡ digits_of d (nodes_of q.four z)
  unfolding digits_of
  digits_same z = fun_ext (λ i. same (bit_node (nodes_of q.four z) i) (to_roots q z (bit_node (nodes_of q.four z) i) (bit_in (nodes_of q.four z) i ((h.integers z).some))))

  vector_same : vector_in e q.four ≡ vector_in d q.four
  vector_same = fun_ext (λ x. at x)
    where
      at : (x : Assignment) → vector_in e q.four x ≡ vector_in d q.four x
      at x = rw (digits_same A, digits_same B, digits_same C, digits_same D) refl

pub keeps_sifted : (u v : StoreAndCache) (q : SliceQuad) (roots : List Node) → numbers roots ≡ roots_of q → Stands u.store q → KeepsRoots u.store v.store roots → IsConsistent v → v.cache.capacity ≡ u.cache.capacity → KeepsQuad u q v
keeps_sifted u v q roots are h kept sound capacity =
    let in_roots : (n : ℕ) → is_in (roots_of q) n ≡ true → is_in (numbers roots) n ≡ true = λ n is. subst (λ (l : List ℕ). is_in l n ≡ true) (sym are) is in
    let same : (n : ℕ) → is_in (roots_of q) n ≡ true → function_of v.store n ≡ function_of u.store n = λ n is. same_node u.store v.store roots kept.same n (in_roots n is) in
    record {
      sound = sound;
      variables = kept.vars;
      limit = kept.limit;
      capacity = capacity;
      stands = live_stands u.store v.store q h (λ n is. in_nodes (IsLive v.store) roots kept.live n (in_roots n is));
      vector = vector_same u.store v.store q h same;
      function = same q.kept.0 (kept_root q);
    }

-- ---- the order
pub turns_in : (d : Diagram) (q : SliceQuad) (roots : List Node) (limit : ℕ) (order : List ℕ) (rs : List Sifted) → numbers roots ≡ roots_of q → AreInTurn (functions_of d roots) limit order 0 rs → AreInTurn (functions_in d q) limit order 0 rs
turns_in d q roots limit order rs are turns = subst (λ (fs : List Function). AreInTurn fs limit order 0 rs) (functions_are d q roots are) turns

pub all_sifted : (fs : List Function) (limit : ℕ) (order new : List ℕ) (rs : List Sifted) → length rs ≡ length order → AreInTurn fs limit order 0 rs → new ≡ last_order order rs → SiftsTo fs limit (length order) 0 order new
all_sifted fs limit order new rs count turns last =
    subst (λ (l : List ℕ). SiftsTo fs limit (length order) 0 order l) (sym last) (subst (λ k. SiftsTo fs limit k 0 order (last_order order rs)) count (turns_to fs limit order 0 rs turns))
