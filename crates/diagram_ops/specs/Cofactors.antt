-- The cofactors of a list of nodes.
use Rattle.std.specs.Prelude.{◌≡◌, ℕ, ◌<◌, Bool, List, length, map, slice_index_or}
use Rattle.diagram_model.specs.Functions.{Function, fix}
use Rattle.diagram_model.specs.Stores.{Diagram, IsLive, function_of}
use Rattle.node_store.specs.declared.node.Node.{Node}
use Rattle.diagram_ops.specs.Made.{Property, IsPrefixOfSome}

-- the numbers of nodes
abbrev pub numbers_of : List Node → List ℕ
numbers_of ns = map (λ n. n.0) ns

-- each of the nodes is live
abbrev pub AreAllLive : Diagram → List ℕ → Type 0
AreAllLive d ns = (i : ℕ) → i < length ns → IsLive d (slice_index_or ns i 0)

-- the functions of the nodes
abbrev pub functions_of : Diagram → List ℕ → List Function
functions_of d ns = map (function_of d) ns

-- the functions of the nodes with the variable v fixed to b
abbrev pub cofactors_of : ℕ → Bool → Diagram → List ℕ → List Function
cofactors_of v b d ns = map (λ n. fix v b (function_of d n)) ns

-- a function that arises from one of the cofactors by fixing a prefix of the order
abbrev pub InCofactors : ℕ → Bool → Diagram → List ℕ → Property
InCofactors v b d ns = IsPrefixOfSome d.order (cofactors_of v b d ns)

-- the nodes ms are live in new, and are the cofactors of the nodes ns of old
pub record AreCofactors (v : ℕ) (b : Bool) (old new : Diagram) (ns ms : List ℕ) : Type 0 where
  pub count : length ms ≡ length ns
  pub live : AreAllLive new ms
  pub denote : (i : ℕ) → i < length ms → function_of new (slice_index_or ms i 0) ≡ fix v b (function_of old (slice_index_or ns i 0))
