-- What a swap of two adjacent variables asks for, what it makes of their nodes, and why there is none.
use Rattle.std.specs.Prelude.{◌≡◌, ◌≢◌, ◌⊎◌, ℕ, ◌+◌, ◌*◌, ◌<◌, ◌≤◌, Bool, true, false, List, Option, Some, None, slice_index}
use Rattle.diagram_model.specs.declared.parts.Parts.{Parts}
use Rattle.diagram_model.specs.Nodes.{parts_of, child, follow}
use Rattle.diagram_model.specs.Stores.{Diagram, held}
use Rattle.level_swap.specs.declared.needs.Room.{Room}
use Rattle.level_swap.specs.declared.needs.SwapStop.{SwapStop}
use Rattle.level_swap.specs.declared.needs.SwapStop.TheVariants.{NoRoom, OutOfMemory}
use Rattle.node_store.specs.Slots.{parts, nodes_of}

-- the variable at a place of the order
abbrev pub variable_at : Diagram → ℕ → ℕ
variable_at d place = slice_index d.order place

-- how many nodes of the variable at a place are held
abbrev pub level_nodes : Diagram → ℕ → ℕ
level_nodes d place = nodes_of d (variable_at d place)

-- there is room for the swap of a place with the next one and for the swap back: each adds at most two nodes
-- for each node of the upper variable
abbrev pub HasRoom : Diagram → ℕ → Type 0
HasRoom d place = held d + 4 * level_nodes d place ≤ d.limit

-- how many more nodes may be held, how many the swap needs, and that they are too few
pub record LacksRoom (d : Diagram) (place : ℕ) (r : Room) : Type 0 where
  pub free_is : r.free + held d ≡ d.limit
  pub need_is : r.need ≡ 4 * level_nodes d place
  pub short : r.free < r.need

-- NoRoom comes where there is too little room, and want of memory only where there is enough
abbrev pub StopMeans : Diagram → ℕ → SwapStop → Type 0
StopMeans d place (NoRoom r) = LacksRoom d place r
StopMeans d place OutOfMemory = HasRoom d place

-- n has the variable v, or it has not
abbrev pub HasVariable : List (Option Parts) → ℕ → ℕ → Type 0
HasVariable s v n = (p : Parts) × (parts_of s n ≡ Some p) × (p.var ≡ v)

abbrev pub LacksVariable : List (Option Parts) → ℕ → ℕ → Type 0
LacksVariable s v n = (p : Parts) → parts_of s n ≡ Some p → p.var ≢ v

-- a is the node of the variable u with these children, or the child where they are the same
abbrev pub IsNodeOf : List (Option Parts) → ℕ → ℕ → ℕ → ℕ → Type 0
IsNodeOf t u low high a = ((low ≡ high) × (a ≡ low)) ⊎ ((low ≢ high) × (parts_of t a ≡ Some (parts u low high)))

-- the node n of u with these children, one of which has the variable v, was rewritten to a node of v
pub record IsRewritten (s t : List (Option Parts)) (u v n low high : ℕ) : Type 0 where
  pub false_part : ℕ
  pub true_part : ℕ
  pub is : parts_of t n ≡ Some (parts v false_part true_part)
  pub when_false : IsNodeOf t u (follow s v false low) (follow s v false high) false_part
  pub when_true : IsNodeOf t u (follow s v true low) (follow s v true high) true_part
  pub crosses : HasVariable s v low ⊎ HasVariable s v high

-- the node n of t is a child of a node that had the variable u in s
pub record IsUsed (s t : List (Option Parts)) (u n : ℕ) : Type 0 where
  pub parent : ℕ
  pub before : Parts
  pub was : parts_of s parent ≡ Some before
  pub var_is : before.var ≡ u
  pub its : Parts
  pub is : parts_of t parent ≡ Some its
  pub side : Bool
  pub there : child side its ≡ n

-- the node n of u with these children stayed, since none of them has the variable v
pub record IsLeft (s t : List (Option Parts)) (u v n low high : ℕ) : Type 0 where
  pub is : parts_of t n ≡ Some (parts u low high)
  pub low_lacks : LacksVariable s v low
  pub high_lacks : LacksVariable s v high

-- the slots t are s once u and v, where u stood above v, have changed places: the nodes of other variables and
-- of v are left, each node of u is left or rewritten, and the others are of u and all used
pub record AreSwapped (s t : List (Option Parts)) (u v : ℕ) : Type 0 where
  pub others : (n : ℕ) (p : Parts) → parts_of s n ≡ Some p → p.var ≢ u → parts_of t n ≡ Some p
  pub upper : (n low high : ℕ) → parts_of s n ≡ Some (parts u low high) → IsLeft s t u v n low high ⊎ IsRewritten s t u v n low high
  pub added : (n : ℕ) (p : Parts) → parts_of s n ≡ None → parts_of t n ≡ Some p → (p.var ≡ u) × IsUsed s t u n
