-- What a reclaim, and what a step keeps of a vector or matrix.
use Rattle.std.proofs.Common.{◌≡◌, ℕ, ◌≤◌, true, List, All, get_or, length, refl, sym, ◌∙◌, ap, subst, arith}
use mathlib.Core.Path.{fun_ext}
use Rattle.diagram_model.specs.Functions.{Assignment, Function}
use Rattle.diagram_model.specs.Reach.{is_in}
use Rattle.diagram_model.specs.Size.{size}
use Rattle.diagram_model.specs.Stores.{Diagram, IsLive, IsSound, KeepsFunctions, held, function_of}
use Rattle.diagram_model.proofs.Growing.{function_on}
use Rattle.diagram_ops.specs.Diagrams.{StoreAndCache, IsConsistent}
use Rattle.diagram_ops.specs.Made.{Property, IsPrefixOfSome}
use Rattle.node_store.specs.declared.node.Node.{Node}
use Rattle.node_store.specs.Marks.{numbers}
use Rattle.node_reclaim.specs.Reclaims.{KeepsReached, HoldsOnly}
use Rattle.node_reclaim.proofs.Bound.{held-le}
use Rattle.node_reclaim.proofs.Left.{root_in}
use Rattle.node_reclaim.proofs.Exact.{same_function, reclaimed_holds, made_holds}
use Rattle.slice_vec.specs.Growing.{Grows}
use Rattle.slice_vec.specs.Slices.{StandsIn, digits_of, bit_node}
use Rattle.slice_vec.proofs.Bits.{bit_live}
use Rattle.slice_quad.specs.declared.coord.Coord.{Coord}
use Rattle.slice_quad.specs.declared.coord.Coord.TheVariants.{A, B, C, D}
use Rattle.slice_quad.specs.declared.four.Four.{Four}
use Rattle.slice_quad.specs.declared.kind.Step.{Step}
use Rattle.slice_quad.specs.declared.quad.SliceQuad.{SliceQuad}
use Rattle.slice_quad.specs.Fields.{roots_of}
use Rattle.slice_quad.specs.Fours.{nodes_of, AreIntegers}
use Rattle.slice_quad.specs.Mix.{Vector}
use Rattle.slice_quad.specs.Stepping.{work_functions, IsWork}
use Rattle.slice_quad.specs.Vectors.{vector_in, Stands}
use Rattle.slice_quad.proofs.Onwards.{vector_on}
use Rattle.slice_quad.proofs.StepCalls.{whole_of, stands_later}
use Rattle.step_upkeep.specs.Tried.{IsStill}
use Rattle.step_upkeep.specs.Upkept.{KeepsQuad, InQuad, functions_in, work_in}
use Rattle.step_upkeep.proofs.Roots.{in_nodes, roots_live, live_stands, one_of_map, quad_wanted}

-- ---- nodes that are freed
digits_kept : (d e : Diagram) (ns : List ℕ) → KeepsFunctions e d → StandsIn e ns → digits_of e ns ≡ digits_of d ns
unfolding digits_of
digits_kept d e ns kept h = fun_ext (λ i. same_function d e (bit_node ns i) kept (bit_live e ns i h))

vector_kept : (d e : Diagram) (q : Four) → KeepsFunctions e d → ((z : Coord) → StandsIn e (nodes_of q z)) → vector_in e q ≡ vector_in d q
vector_kept d e q kept h = fun_ext (λ x. at x)
  where
    at : (x : Assignment) → vector_in e q x ≡ vector_in d q x
    at x = rw (digits_kept d e q.a kept (h A), digits_kept d e q.b kept (h B), digits_kept d e q.c kept (h C), digits_kept d e q.d kept (h D)) refl

-- the integers of a vector or matrix have one width
pub integers_of : (d : Diagram) (q : SliceQuad) → Stands d q → AreIntegers d (length q.four.a) q.four
integers_of d q h = whole_of d q h q.width_b q.width_c q.width_d

pub keeps_same : (u : StoreAndCache) (q : SliceQuad) → IsConsistent u → Stands u.store q → KeepsQuad u q u
keeps_same u q sound h = record { sound = sound; variables = refl; limit = refl; capacity = refl; stands = h; vector = refl; function = refl }

pub keeps_then : (u v w : StoreAndCache) (q : SliceQuad) → KeepsQuad u q v → KeepsQuad v q w → KeepsQuad u q w
keeps_then u v w q a b = record {
  sound = b.sound;
  variables = b.variables ∙ a.variables;
  limit = b.limit ∙ a.limit;
  capacity = b.capacity ∙ a.capacity;
  stands = b.stands;
  vector = b.vector ∙ a.vector;
  function = b.function ∙ a.function;
}

-- in the same order too
pub still_same : (u : StoreAndCache) (q : SliceQuad) → IsConsistent u → Stands u.store q → IsStill u q u
still_same u q sound h = record { keeps = keeps_same u q sound h; order = refl }

pub still_then : (u v w : StoreAndCache) (q : SliceQuad) → IsStill u q v → IsStill v q w → IsStill u q w
still_then u v w q a b = record { keeps = keeps_then u v w q a.keeps b.keeps; order = b.order ∙ a.order }

-- ---- a reclaim to its roots
-- the roots are live, as `reclaim` asks for
pub all_live : (d : Diagram) (q : SliceQuad) (roots : List Node) → numbers roots ≡ roots_of q → Stands d q → All (λ (n : Node). IsLive d n.0) roots
all_live d q roots are h k z lt = roots_live d q h (get_or roots k z).0 (subst (λ (l : List ℕ). is_in l (get_or roots k z).0 ≡ true) are (root_in roots k z lt))

pub keeps_reclaimed : (u v : StoreAndCache) (q : SliceQuad) (roots : List Node) → numbers roots ≡ roots_of q → Stands u.store q → All (λ (n : Node). IsLive v.store n.0) roots → KeepsFunctions v.store u.store
    → IsConsistent v → v.store.order ≡ u.store.order → v.store.limit ≡ u.store.limit → v.cache.capacity ≡ u.cache.capacity → KeepsQuad u q v
keeps_reclaimed u v q roots are h live kept sound order limit capacity =
    let stands : Stands v.store q = live_stands u.store v.store q h (λ n is. in_nodes (IsLive v.store) roots live n (subst (λ (l : List ℕ). is_in l n ≡ true) (sym are) is)) in
    record {
      sound = sound;
      variables = ap length order;
      limit = limit;
      capacity = capacity;
      stands = stands;
      vector = vector_kept u.store v.store q.four kept stands.integers;
      function = same_function u.store v.store q.kept.0 kept stands.kept;
    }

-- only its functions are left
pub holds_reclaimed : (u v : StoreAndCache) (q : SliceQuad) (roots : List Node) → numbers roots ≡ roots_of q → IsConsistent u → IsConsistent v → KeepsReached u.store v.store roots → KeepsFunctions v.store u.store
    → HoldsOnly v.store (InQuad u.store q)
holds_reclaimed u v q roots are su sv left kept =
    reclaimed_holds u.store v.store roots (functions_in u.store q) su.store sv.store left kept
    (λ r is. one_of_map u.store.order (function_of u.store) (roots_of q) r (subst (λ (l : List ℕ). is_in l r ≡ true) are is))

-- ---- nodes that are added
pub keeps_grown : (u v : StoreAndCache) (Is : Property) (q : SliceQuad) → IsConsistent u → Grows u Is v → Stands u.store q → KeepsQuad u q v
keeps_grown u v Is q sound g h = record {
  sound = g.sound;
  variables = ap length g.extends.order;
  limit = g.extends.limit;
  capacity = g.capacity;
  stands = stands_later u v Is q g h;
  vector = vector_on u v Is (length q.four.a) q.four sound g (integers_of u.store q h);
  function = function_on u.store v.store q.kept.0 sound.store g.sound.store g.extends h.kept;
}

pub still_grown : (u v : StoreAndCache) (Is : Property) (q : SliceQuad) → IsConsistent u → Grows u Is v → Stands u.store q → IsStill u q v
still_grown u v Is q sound g h = record { keeps = keeps_grown u v Is q sound g h; order = g.extends.order }

pub holds_grown : (u v : StoreAndCache) (Is : Property) → IsConsistent u → Grows u Is v → HoldsOnly u.store Is → HoldsOnly v.store Is
holds_grown u v Is sound g h = made_holds u.store v.store Is sound.store g.sound.store g.extends g.made h

pub holds_wider : (d : Diagram) (Is Are : Property) → ((p : Function) → Is p → Are p) → HoldsOnly d Is → HoldsOnly d Are
holds_wider d Is Are wider h n p is = wider (function_of d n) (h n p is)

-- ---- work functions
over_list : (vs ws : List ℕ) (fs gs : List Function) (p : Function) → vs ≡ ws → fs ≡ gs → IsPrefixOfSome vs fs p → IsPrefixOfSome ws gs p
over_list vs ws fs gs p e f h = subst (λ (l : List ℕ). IsPrefixOfSome l gs p) e (subst (λ (hs : List Function). IsPrefixOfSome vs hs p) f h)

-- they stay the same
pub work_same : (u v : StoreAndCache) (s : Step) (q : SliceQuad) → KeepsQuad u q v → work_in v.store s q ≡ work_in u.store s q
work_same u v s q k =
    let w = length q.four.a in
    ap (λ (f : Function). work_functions w f s (vector_in v.store q.four)) k.function ∙ ap (λ (x : Vector). work_functions w (function_of u.store q.kept.0) s x) k.vector

pub work_back : (u v : StoreAndCache) (s : Step) (q : SliceQuad) → IsStill u q v → (p : Function) → IsWork v.store s q p → IsWork u.store s q p
work_back u v s q k p h = over_list v.store.order u.store.order (work_in v.store s q) (work_in u.store s q) p k.order (work_same u v s q k.keeps) h

pub work_on : (u v : StoreAndCache) (s : Step) (q : SliceQuad) → IsStill u q v → (p : Function) → IsWork u.store s q p → IsWork v.store s q p
work_on u v s q k p h = over_list u.store.order v.store.order (work_in u.store s q) (work_in v.store s q) p (sym k.order) (sym (work_same u v s q k.keeps)) h

-- what is left after a reclaim is among them
pub reclaimed_wanted : (u : StoreAndCache) (d : Diagram) (s : Step) (q : SliceQuad) → Stands u.store q → HoldsOnly d (InQuad u.store q) → HoldsOnly d (IsWork u.store s q)
reclaimed_wanted u d s q h all = holds_wider d (InQuad u.store q) (IsWork u.store s q) (quad_wanted u.store s q (integers_of u.store q h)) all

-- ---- a full store
over_order : (vs ws : List ℕ) (fs : List Function) (p : Function) → vs ≡ ws → IsPrefixOfSome vs fs p → IsPrefixOfSome ws fs p
over_order vs ws fs p e h = subst (λ (l : List ℕ). IsPrefixOfSome l fs p) e h

-- Where a full store holds nothing but functions that arise from a list, the list needs as many nodes as the limit.
pub full_needs : (d e : Diagram) (fs : List Function) → IsSound e → e.order ≡ d.order → held e ≡ e.limit → HoldsOnly e (IsPrefixOfSome d.order fs) → e.limit ≤ size (length e.order) e.order fs
full_needs d e fs sound order full all =
    let here : HoldsOnly e (IsPrefixOfSome e.order fs) = λ n p is. over_order d.order e.order fs (function_of e n) (sym order) (all n p is) in
    let le : held e ≤ size (length e.order) e.order fs = held-le e fs sound here in
    omega (arith, le, full)
