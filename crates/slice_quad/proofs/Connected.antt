-- One connective, whose function has another name.
use Rattle.std.proofs.Common.{◌≡◌, ◌≤◌, Result, IfOk, IfErr, OnErr, sym, length}
use Rattle.node_store.specs.declared.node.Node.{Node}
use Rattle.node_store.specs.declared.node.StoreStop.{StoreStop}
use Rattle.computed_cache.specs.declared.key.Key.{Key}
use Rattle.diagram_model.specs.Functions.{Function, IsPrefixOf}
use Rattle.diagram_model.specs.Stores.{IsLive, Extends, KeepsFunctions, function_of}
use Rattle.diagram_ops.specs.Diagrams.{StoreAndCache, IsConsistent, with_answer}
use Rattle.diagram_ops.specs.Made.{MakesOnly, StopIs}
use Rattle.slice_vec.specs.Growing.{Grows, Denotes}
use Rattle.slice_vec.proofs.Places.{call_grows, call_node, call_stop}

-- the result is a node of r, made from v
pub record Connects (v w : StoreAndCache) (r : Function) (o : Result Node StoreStop) : Type 0 where
  pub grows : Grows v (IsPrefixOf v.store.order r) w
  pub node : IfOk o (λ n. Denotes w.store n.0 r)
  pub stop : IfErr o (StopIs w.store (IsPrefixOf v.store.order r))

pub connects : (v w : StoreAndCache) (k : Key) (f r : Function) (o : Result Node StoreStop) → f ≡ r → IsConsistent w → Extends v.store w.store → KeepsFunctions v.store w.store → IfOk o (λ n. w.cache ≡ with_answer v.cache k n.0) → OnErr o (w.cache ≡ v.cache) → length v.cache.entries ≤ length w.cache.entries → MakesOnly v.store w.store (IsPrefixOf v.store.order f) → IfOk o (λ n. IsLive w.store n.0) → IfOk o (λ n. function_of w.store n.0 ≡ f) → IfErr o (StopIs w.store (IsPrefixOf v.store.order f)) → Connects v w r o
connects v w k f r o same sound extends functions cache stopped cached made live denotes stop = record {
  grows = call_grows v w k o f r same sound extends functions cache stopped cached made;
  node = call_node w.store f r o same live denotes;
  stop = call_stop w.store v.store.order f r o same stop;
}

pub connects_as : (v w : StoreAndCache) (f r : Function) (o : Result Node StoreStop) → f ≡ r → Connects v w f o → Connects v w r o
connects_as v w f r o same h = rw (sym same) h
