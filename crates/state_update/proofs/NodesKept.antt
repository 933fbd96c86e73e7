-- What upkeep keeps of the nodes of integers, and so of a state.
use Rattle.std.proofs.Common.{◌≡◌, ℕ, ◌+◌, ◌*◌, ◌≤◌, List, [], ◌∷◌, All, map, length, refl, sym, ◌∙◌, ap, subst, arith}
use Rattle.bit_lists.specs.Orders.{exchanged}
use Rattle.gate_set.specs.declared.gate.Gate.{Gate}
use Rattle.circuit_model.specs.Working.{work}
use Rattle.diagram_model.specs.Size.{size}
use Rattle.diagram_model.specs.Stores.{Diagram, IsLive, KeepsFunctions, held}
use Rattle.diagram_ops.specs.Diagrams.{StoreAndCache, IsConsistent}
use Rattle.node_store.specs.declared.node.Node.{Node}
use Rattle.node_store.specs.Marks.{numbers}
use Rattle.node_store.proofs.Kept.{length-exchanged}
use Rattle.node_reclaim.specs.Reclaims.{KeepsReached}
use Rattle.level_swap.specs.Swaps.{HasRoom, level_nodes}
use Rattle.sifting.specs.Sifts.{KeepsRoots, functions_of}
use Rattle.sifting.proofs.Keeps as sifts
use Rattle.slice_quad.specs.declared.quad.SliceQuad.{SliceQuad}
use Rattle.slice_quad.specs.Fields.{roots_of}
use Rattle.slice_quad.specs.Vectors.{vector_in, Stands}
use Rattle.step_upkeep.specs.Upkept.{KeepsQuad}
use Rattle.step_upkeep.proofs.Gates.{shows_kept}
use Rattle.step_upkeep.proofs.Keeping.{all_live}
use Rattle.step_upkeep.proofs.Sifted.{keeps_sifted}
use Rattle.state_update.specs.declared.events.Event.{Event}
use Rattle.state_update.specs.declared.events.Event.TheVariants as events
use Rattle.state_update.specs.declared.events.Report.{Report}
use Rattle.state_update.specs.declared.events.Report.TheVariants as reports
use Rattle.state_update.specs.Kept.{State, IsKept}
use Rattle.state_update.specs.Events.{KeepsNodes, Reclaims, Swaps, Upkeeps, Reports, nodes_in, gate_of, with_diagrams}
use Rattle.state_update.proofs.StateLemmas.{kept_stop}

-- ---- lists of nodes and of their numbers
numbers_again : (ns : List ℕ) → numbers (map (λ n. let node : Node = record { 0 = n } in node) ns) ≡ ns
numbers_again [] = refl
numbers_again (n ∷ ns) = ap (λ (l : List ℕ). n ∷ l) (numbers_again ns)

nodes_again : (ns : List Node) → map (λ n. let node : Node = record { 0 = n } in node) (numbers ns) ≡ ns
nodes_again [] = refl
nodes_again (n ∷ ns) = ap (λ (l : List Node). n ∷ l) (nodes_again ns)

numbers_in : (q : SliceQuad) → numbers (nodes_in q) ≡ roots_of q
numbers_in q = numbers_again (roots_of q)

-- nodes with the numbers of q's are those
pub nodes_are : (ns : List Node) (q : SliceQuad) → numbers ns ≡ roots_of q → ns ≡ nodes_in q
nodes_are ns q are = sym (nodes_again ns) ∙ ap (map (λ n. let node : Node = record { 0 = n } in node)) are

pub live_in : (d : Diagram) (q : SliceQuad) → Stands d q → All (λ (n : Node). IsLive d n.0) (nodes_in q)
live_in d q h = all_live d q (nodes_in q) (numbers_in q) h

-- ---- the integers and the state
-- the integers stand as before
pub quad_kept : (q : SliceQuad) (u v : StoreAndCache) → Stands u.store q → KeepsNodes q u v → KeepsQuad u q v
quad_kept q u v h k = keeps_sifted u v q (nodes_in q) (numbers_in q) h k.nodes k.sound k.capacity

-- a state over diagrams that keep its nodes
pub kept_upkept : (s : State) (v : StoreAndCache) → IsKept s → KeepsNodes s.quad s.diagrams v → IsKept (with_diagrams s v)
kept_upkept s v h k =
    let still = quad_kept s.quad s.diagrams v h.stands k in
    kept_stop s v h still.sound still.variables still.limit still.capacity still.stands (shows_kept s.diagrams v s.quad (work s.gates s.input) still h.shows)

-- ---- each upkeep
pub same_kept : (u : StoreAndCache) (q : SliceQuad) → IsConsistent u → Stands u.store q → KeepsNodes q u u
same_kept u q sound h = record { nodes = sifts.keeps_refl u.store (nodes_in q) (live_in u.store q h); capacity = refl; sound = sound }

-- the store is as before
pub cache_kept : (u v : StoreAndCache) (q : SliceQuad) → Stands u.store q → v.store ≡ u.store → v.cache.capacity ≡ u.cache.capacity → IsConsistent v → KeepsNodes q u v
cache_kept u v q h same capacity sound = record {
  nodes = subst (λ (d : Diagram). KeepsRoots u.store d (nodes_in q)) (sym same) (sifts.keeps_refl u.store (nodes_in q) (live_in u.store q h));
  capacity = capacity;
  sound = sound;
}

-- the nodes are those of a list
pub sift_kept : (u v : StoreAndCache) (q : SliceQuad) (ns : List Node) → ns ≡ nodes_in q → KeepsRoots u.store v.store ns → v.cache.capacity ≡ u.cache.capacity → IsConsistent v → KeepsNodes q u v
sift_kept u v q ns are nodes capacity sound = record { nodes = subst (λ l. KeepsRoots u.store v.store l) are nodes; capacity = capacity; sound = sound }

pub reclaim_kept : (u v : StoreAndCache) (q : SliceQuad) (ns : List Node) (freed : ℕ) → ns ≡ nodes_in q → IsConsistent u → Stands u.store q → KeepsReached u.store v.store ns → KeepsFunctions v.store u.store
    → All (λ (n : Node). IsLive v.store n.0) ns → held v.store ≡ size (length u.store.order) u.store.order (functions_of u.store ns) → freed + held v.store ≡ held u.store → v.cache.entries ≡ [] → v.store.order ≡ u.store.order
    → v.store.limit ≡ u.store.limit → v.cache.capacity ≡ u.cache.capacity → IsConsistent v → Reclaims q u freed v
reclaim_kept u v q ns freed are before h reached functions there count freed_are empty order limit capacity sound =
    let live : All (λ (n : Node). IsLive u.store n.0) ns = subst (λ (l : List Node). All (λ (n : Node). IsLive u.store n.0) l) (sym are) (live_in u.store q h) in
    let nodes = (sifts.tidied u.store v.store ns before.store live reached functions there count order limit).0 in
    record {
      keeps = sift_kept u v q ns are nodes capacity sound;
      reached = subst (λ l. KeepsReached u.store v.store l) are reached;
      order = order;
      freed_are = freed_are;
      empty = empty;
    }

pub swap_kept : (u v : StoreAndCache) (q : SliceQuad) (level : ℕ) → Stands u.store q → HasRoom u.store level → v.store.order ≡ exchanged u.store.order level → KeepsFunctions u.store v.store
    → held v.store ≤ held u.store + 2 * level_nodes u.store level → v.cache.entries ≡ [] → v.store.limit ≡ u.store.limit → v.cache.capacity ≡ u.cache.capacity → IsConsistent v → Swaps q u level v
swap_kept u v q level h room order functions few empty limit capacity sound = record {
  keeps = record {
    nodes = sifts.swapped u.store v.store (nodes_in q) (live_in u.store q h) functions limit (ap length order ∙ length-exchanged u.store.order level);
    capacity = capacity;
    sound = sound;
  };
  room = room;
  order = order;
  functions = functions;
  few = few;
  empty = empty;
}

-- ---- entries
upkeep_vector : (q : SliceQuad) (u v : StoreAndCache) (e : Event) (r : Report) → Stands u.store q → Upkeeps q u e r v → vector_in v.store q.four ≡ vector_in u.store q.four
upkeep_vector q u v events.Reclaim (reports.Freed k) h is = (quad_kept q u v h is.keeps).vector
upkeep_vector q u v (events.Swap level) reports.Swapped h is = (quad_kept q u v h is.keeps).vector
upkeep_vector q u v (events.Swap level) (reports.NoRoom r) h is = ap (λ (w : StoreAndCache). vector_in w.store q.four) is.0
upkeep_vector q u v (events.SiftOne var) (reports.OneSifted r) h is = (quad_kept q u v h is.keeps).vector
upkeep_vector q u v events.SiftAll (reports.AllSifted rs) h is = (quad_kept q u v h is.keeps).vector
upkeep_vector q u v events.ForgetCache reports.Forgotten h is = ap (λ (w : StoreAndCache). vector_in w.store q.four) is
upkeep_vector q u v _ _ h is = absurd is

same_vector : (s t : State) (e : Event) (r : Report) → t ≡ with_diagrams s t.diagrams → Upkeeps s.quad s.diagrams e r t.diagrams → Stands s.diagrams.store s.quad
    → vector_in t.diagrams.store t.quad.four ≡ vector_in s.diagrams.store s.quad.four
same_vector s t e r same is h =
    ap (λ (w : State). vector_in t.diagrams.store w.quad.four) same
    ∙ upkeep_vector s.quad s.diagrams t.diagrams e r h is

-- every event but a gate keeps the vector
pub entries_kept : (s t : State) (e : Event) (r : Report) → Reports s e r t → gate_of e ≡ [] → Stands s.diagrams.store s.quad → vector_in t.diagrams.store t.quad.four ≡ vector_in s.diagrams.store s.quad.four
entries_kept s t (events.Gate g) r is none h = absurd (let long = ap (λ (l : List Gate). length l) none in omega (arith, long))
entries_kept s t events.Reclaim r is none h = same_vector s t events.Reclaim r is.0 is.1 h
entries_kept s t (events.Swap level) r is none h = same_vector s t (events.Swap level) r is.0 is.1 h
entries_kept s t (events.SiftOne var) r is none h = same_vector s t (events.SiftOne var) r is.0 is.1 h
entries_kept s t events.SiftAll r is none h = same_vector s t events.SiftAll r is.0 is.1 h
entries_kept s t events.ForgetCache r is none h = same_vector s t events.ForgetCache r is.0 is.1 h
