-- A store of nodes as contracts see it, and what may change in it.
use Rattle.std.specs.Prelude.{◌≡◌, ◌≢◌, ◌⊎◌, ℕ, ◌+◌, ◌-◌, ◌^◌, ◌<◌, ◌≤◌, min, true, cond, List, ◌∷◌, length, Option, Some, None, is_some, IsSome, count_by}
use Rattle.bit_lists.specs.Orders.{has, after}
use Rattle.diagram_model.specs.declared.parts.Parts.{Parts}
use Rattle.diagram_model.specs.Functions.{Assignment, Function}
use Rattle.diagram_model.specs.Nodes.{parts_of, IsLiveIn, IsDiagram, value, denoted}

-- the order of the variables, top first, the most nodes that may be held, the parts of each number, and
-- how many requests for a node were answered or refused
pub record Diagram : Type 0 where
  pub order : List ℕ
  pub limit : ℕ
  pub slots : List (Option Parts)
  pub made : ℕ

-- a count after one more, which stands still at the largest `u64`
abbrev pub counted : ℕ → ℕ
counted k = min (k + 1) (2 ^ 64 - 1)

-- the store after one more request for a node, which was refused
abbrev pub requested : Diagram → Diagram
requested d = record { order = d.order; limit = d.limit; slots = d.slots; made = counted d.made }

-- how many nodes are held
abbrev pub held : Diagram → ℕ
held d = count_by is_some d.slots

-- FALSE, TRUE or a held node
abbrev pub IsLive : Diagram → ℕ → Type 0
IsLive d n = IsLiveIn d.slots d.order n

-- n is held
abbrev pub IsHeld : Diagram → ℕ → Type 0
IsHeld d n = IsSome (parts_of d.slots n)

-- n is held, with its parts
abbrev pub HasParts : Diagram → ℕ → Type 0
HasParts d n = (p : Parts) × (parts_of d.slots n ≡ Some p)

-- v stands above n: n is FALSE, TRUE, or held with a variable below v
abbrev pub IsAbove : Diagram → ℕ → ℕ → Type 0
IsAbove d v n = IsLiveIn d.slots (after d.order v) n

-- the Boolean function that n denotes
unfoldable pub function_of : Diagram → ℕ → Function
function_of d n = denoted d.slots d.order n

-- what holds of every store
pub record IsSound (d : Diagram) : Type 0 where
  pub diagram : IsDiagram d.slots (length d.order) d.order
  pub all : (v : ℕ) → v < length d.order → has d.order v ≡ true
  pub few : held d ≤ d.limit
  pub most : d.limit ≤ 16777216

abbrev pub depth_of : List ℕ → Option Parts → ℕ
depth_of order None = 0
depth_of order (Some p) = 1 + length (after order p.var)

-- how many nodes there are at most on a way down from n
abbrev pub depth : Diagram → ℕ → ℕ
depth d n = depth_of d.order (parts_of d.slots n)

-- each node of old is in new with its parts, and the order and the limit are the same
pub record Extends (old new : Diagram) : Type 0 where
  pub order : new.order ≡ old.order
  pub limit : new.limit ≡ old.limit
  pub kept : (n : ℕ) (p : Parts) → parts_of old.slots n ≡ Some p → parts_of new.slots n ≡ Some p

-- each live node of old is live in new, and denotes the same function
pub record KeepsFunctions (old new : Diagram) : Type 0 where
  pub live : (n : ℕ) → IsLive old n → IsLive new n
  pub same : (n : ℕ) → IsLive old n → (x : Assignment) → value new.slots new.order x n ≡ value old.slots old.order x n

-- v and the variables below it
abbrev pub from : List ℕ → ℕ → List ℕ
from order v = v ∷ after order v

-- n denotes high where v is true, and low where it is false
abbrev pub IsChoice : Diagram → ℕ → ℕ → ℕ → ℕ → Type 0
IsChoice d v low high n =
    (x : Assignment) → value d.slots d.order x n ≡ value d.slots d.order x (cond (x v) high low)

-- the only node of new that old lacks is n
abbrev pub AddsOnly : Diagram → Diagram → ℕ → Type 0
AddsOnly old new n = (m : ℕ) (p : Parts) → parts_of new.slots m ≡ Some p → (parts_of old.slots m ≡ Some p) ⊎ (m ≡ n)

-- no node has these parts
abbrev pub IsNew : Diagram → Parts → Type 0
IsNew d p = (n : ℕ) → parts_of d.slots n ≢ Some p

-- the children differ, no node of these parts is held, and as many are held as may be
pub record NoRoom (d : Diagram) (v low high : ℕ) : Type 0 where
  pub differ : low ≢ high
  pub new : IsNew d (record { var = v; low = low; high = high })
  pub full : held d ≡ d.limit

-- the slots t are s with the parts p at n, which was free
pub record PutsNode (s t : List (Option Parts)) (n : ℕ) (p : Parts) : Type 0 where
  pub free : parts_of s n ≡ None
  pub here : parts_of t n ≡ Some p
  pub others : (m : ℕ) → m ≢ n → parts_of t m ≡ parts_of s m

-- n has the variable v
abbrev pub HasVariable : Diagram → ℕ → ℕ → Type 0
HasVariable d v n = (p : Parts) × (parts_of d.slots n ≡ Some p) × (p.var ≡ v)

-- v is the topmost of the variables of three nodes
pub record IsTop (d : Diagram) (f g h v : ℕ) : Type 0 where
  pub var : has d.order v ≡ true
  pub from_f : IsLiveIn d.slots (from d.order v) f
  pub from_g : IsLiveIn d.slots (from d.order v) g
  pub from_h : IsLiveIn d.slots (from d.order v) h
  pub some : HasVariable d v f ⊎ (HasVariable d v g ⊎ HasVariable d v h)
