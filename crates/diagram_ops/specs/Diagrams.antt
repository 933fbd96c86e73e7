-- A store with the cache of its connectives, as contracts see it.
use Rattle.std.specs.Prelude.{◌≡◌, ℕ, Bool, List, Result, Ok, IfOk, IfErr, OnOk, OnErr}
use Rattle.std.specs.List.{All}
use Rattle.computed_cache.specs.declared.key.Key.{Key}
use Rattle.computed_cache.specs.Entries.{Cached, kept}
use Rattle.diagram_model.specs.Functions.{Function, fix, IsPrefixOf}
use Rattle.diagram_model.specs.Stores.{Diagram, IsLive, IsSound, Extends, KeepsFunctions, AddsOnly, NoRoom, function_of, counted, requested}
use Rattle.node_store.specs.declared.node.Node.{Node}
use Rattle.node_store.specs.declared.node.StoreStop.{StoreStop}
use Rattle.node_store.specs.Makes.{StopMeans}
use Rattle.diagram_ops.specs.Connectives.{connected}
use Rattle.diagram_ops.specs.declared.operands.Operands.{Operands}
use Rattle.diagram_ops.specs.Keys.{keyed}
use Rattle.diagram_ops.specs.Made.{Property}

-- a store, and the cache of its connectives
pub record StoreAndCache : Type 0 where
  pub store : Diagram
  pub cache : Cached

-- the connective of three nodes by a table, as a function
abbrev pub connective_of : ℕ → Diagram → ℕ → ℕ → ℕ → Function
connective_of t d f g h = connected t (function_of d f) (function_of d g) (function_of d h)

-- a function that arises from the connective by fixing a prefix of the order
abbrev pub InConnective : ℕ → Diagram → ℕ → ℕ → ℕ → Property
InConnective t d f g h = IsPrefixOf d.order (connective_of t d f g h)

-- a function that arises from the function of n with v fixed to b
abbrev pub InCofactor : ℕ → Bool → Diagram → ℕ → Property
InCofactor v b d n = IsPrefixOf d.order (fix v b (function_of d n))

-- the function that is true where v is
unfoldable pub variable_of : ℕ → Function
variable_of v = λ x. x v

-- what the answer of a connective is kept under
abbrev pub key_of : ℕ → ℕ → ℕ → ℕ → Key
key_of t f g h =
    let at : Operands = record { f = f; g = g; h = h } in
    record { table = t; f = (keyed t at).f; g = (keyed t at).g; h = (keyed t at).h }

-- an entry names live nodes only, and its value denotes its table's connective of its three functions
pub record IsRight (d : Diagram) (e : Key × ℕ) : Type 0 where
  pub f : IsLive d e.0.f
  pub g : IsLive d e.0.g
  pub h : IsLive d e.0.h
  pub value : IsLive d e.1
  pub denotes : function_of d e.1 ≡ connective_of e.0.table d e.0.f e.0.g e.0.h

-- each entry is right
abbrev pub AreRight : Diagram → List (Key × ℕ) → Type 0
AreRight d es = All (IsRight d) es

-- what holds of all diagrams
pub record IsConsistent (v : StoreAndCache) : Type 0 where
  pub store : IsSound v.store
  pub entries : AreRight v.store v.cache.entries

-- the call answered with the value n that the cache had
pub record IsHit (old new : StoreAndCache) (n : ℕ) (result : Result Node StoreStop) : Type 0 where
  pub answer : result ≡ Ok (record { 0 = n })
  pub store : new.store ≡ old.store

-- the call answered with the node of the variable v, or was refused: diagrams with old before new
pub record MakesVariable (v : ℕ) (old new : StoreAndCache) (result : Result Node StoreStop) : Type 0 where
  pub live : IfOk result (λ n. IsLive new.store n.0)
  pub denotes : IfOk result (λ n. function_of new.store n.0 ≡ variable_of v)
  pub only : IfOk result (λ n. AddsOnly old.store new.store n.0)
  pub refused : OnErr result (new.store ≡ requested old.store)
  pub made : new.store.made ≡ counted old.store.made
  pub stop : IfErr result (StopMeans old.store v 0 1)
  pub room : OnOk result (NoRoom old.store v 0 1 → ⊥)
  pub extends : Extends old.store new.store
  pub functions : KeepsFunctions old.store new.store
  pub cache : new.cache ≡ old.cache
  pub sound : IsConsistent new

-- the cache after a put of the answer under its key, which stands first then: also what a look at a key
-- leaves that has this answer
abbrev pub with_answer : Cached → Key → ℕ → Cached
with_answer c k n = record { entries = kept c.capacity c.entries k n; capacity = c.capacity }
