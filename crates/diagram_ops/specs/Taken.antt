-- The steps of a recursion: one for each triple of nodes that it meets.
use Rattle.std.specs.Prelude.{◌≡◌, ◌⊎◌, ℕ, ◌+◌, ◌≤◌, List, [], ◌∷◌, length, Some, None}
use Rattle.diagram_model.specs.Functions.{Function}
use Rattle.diagram_model.specs.Joint.{Trio, IsTrioFrom}
use Rattle.diagram_model.specs.Stores.{Diagram, function_of}
use Rattle.diagram_ops.specs.declared.operands.Operands.{Operands}
use Rattle.diagram_ops.specs.Operands.{AreLive}
use Rattle.diagram_ops.specs.Operations.{Results}

-- how the second of three functions is read
abbrev pub Reading : Type 0
Reading = Function → Function

-- as it is
abbrev pub plain : Reading
plain f = f

-- the functions of three nodes, the second one read so
abbrev pub trio_by : Reading → Diagram → Operands → Trio
trio_by r d at = record { f = function_of d at.f; g = r (function_of d at.g); h = function_of d at.h }

-- the functions in e of the nodes `to` arise from those in d of the nodes `at` by fixing the variables of
-- a prefix of the order, and one of them depends on the next variable
pub record IsMet (r : Reading) (d : Diagram) (at : Operands) (e : Diagram) (to : Operands) : Type 0 where
  pub live : AreLive e to
  pub arises : IsTrioFrom (length d.order) d.order (trio_by r d at) (trio_by r e to)

-- t is in the list
abbrev pub IsAmong : List Operands → Operands → Type 0
IsAmong [] t = ⊥
IsAmong (u ∷ us) t = (t ≡ u) ⊎ IsAmong us t

-- the list has each of its triples once
abbrev pub AreDistinct : List Operands → Type 0
AreDistinct [] = Unit {0}
AreDistinct (t ∷ ts) = (IsAmong ts t → ⊥) × AreDistinct ts

-- triples of nodes by what they are in a store
abbrev pub Kind : Type 1
Kind = Diagram → Operands → Type 0

-- A step was taken for each of these triples, also by the store's own count: they are of this kind in e,
-- each once, and none was kept before.
pub record Takes (Is : Kind) (d e : Diagram) (before : Results) (old new : ℕ) : Type 0 where
  pub met : List Operands
  pub once : AreDistinct met
  pub fresh : (to : Operands) → IsAmong met to → before to ≡ None
  pub arise : (to : Operands) → IsAmong met to → Is e to
  pub count : new ≡ old + length met
  pub made : e.made ≤ d.made + length met

-- the same, and the result of each is kept
pub record TakesAll (Is : Kind) (d e : Diagram) (before later : Results) (old new : ℕ) : Type 0 where
  pub takes : Takes Is d e before old new
  pub kept : (to : Operands) → IsAmong takes.met to → (n : ℕ) × (later to ≡ Some n)
