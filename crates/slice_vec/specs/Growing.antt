-- Diagrams that a call leaves.
use Rattle.std.specs.Prelude.{◌≡◌, ℕ, ◌≤◌, length}
use Rattle.diagram_model.specs.Functions.{Function}
use Rattle.diagram_model.specs.Stores.{Diagram, IsLive, Extends, KeepsFunctions, function_of}
use Rattle.diagram_ops.specs.Diagrams.{StoreAndCache, IsConsistent}
use Rattle.diagram_ops.specs.Made.{Property, MakesOnly}

-- Each node made denotes a function of this kind. All nodes stay with their functions, each entry of the
-- cache is right, and there are no fewer entries than before.
pub record Grows (old : StoreAndCache) (Is : Property) (new : StoreAndCache) : Type 0 where
  pub sound : IsConsistent new
  pub extends : Extends old.store new.store
  pub functions : KeepsFunctions old.store new.store
  pub capacity : new.cache.capacity ≡ old.cache.capacity
  pub cached : length old.cache.entries ≤ length new.cache.entries
  pub made : MakesOnly old.store new.store Is

-- n is live, and denotes f
pub record Denotes (d : Diagram) (n : ℕ) (f : Function) : Type 0 where
  pub live : IsLive d n
  pub is : function_of d n ≡ f
