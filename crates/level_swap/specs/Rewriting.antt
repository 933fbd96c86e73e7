-- Two adjacent variables change places: u stood above v, and then v stands above u. Only private functions
-- use these words.
use Rattle.std.specs.Prelude.{◌≡◌, ◌≢◌, ◌⊎◌, ℕ, ◌<◌, ◌≤◌, true, List, ◌∷◌, length, Option, Some, None}
use Rattle.bit_lists.specs.Orders.{AreVars}
use Rattle.diagram_model.specs.declared.parts.Parts.{Parts}
use Rattle.diagram_model.specs.Nodes.{parts_of, IsLiveIn, AreProper, AreUnique}
use Rattle.diagram_model.specs.Reach.{is_in}
use Rattle.diagram_model.specs.Stores.{Diagram}
use Rattle.level_swap.specs.Swaps.{HasVariable, LacksVariable, IsRewritten, IsUsed}
use Rattle.node_store.specs.Slots.{parts, nodes_of}

-- the slots t are s, perhaps with one more node, of the parts p with different children
pub record GrowsBy (s t : List (Option Parts)) (p : Parts) : Type 0 where
  pub kept : (n : ℕ) (q : Parts) → parts_of s n ≡ Some q → parts_of t n ≡ Some q
  pub only : (n : ℕ) (q : Parts) → parts_of t n ≡ Some q → (parts_of s n ≡ Some q) ⊎ ((q ≡ p) × (p.low ≢ p.high))

-- t is s once some nodes of u are rewritten, and nodes of u are added
pub record IsPartlySwapped (s t : List (Option Parts)) (u v : ℕ) (post : List ℕ) : Type 0 where
  pub others : (n : ℕ) (p : Parts) → parts_of s n ≡ Some p → p.var ≢ u → parts_of t n ≡ Some p
  pub upper : (n low high : ℕ) → parts_of s n ≡ Some (parts u low high) → (parts_of t n ≡ Some (parts u low high)) ⊎ IsRewritten s t u v n low high
  pub added : (n : ℕ) (p : Parts) → parts_of s n ≡ None → parts_of t n ≡ Some p → (p.var ≡ u) × (IsLiveIn s post p.low × IsLiveIn s post p.high × (p.low ≢ p.high))

-- each node that t has besides those of s is a child of a node that had u
abbrev pub AreUsed : List (Option Parts) → List (Option Parts) → ℕ → Type 0
AreUsed s t u = (n : ℕ) (p : Parts) → parts_of s n ≡ None → parts_of t n ≡ Some p → IsUsed s t u n

-- no node of u in the list has a child of v any more
abbrev pub AreDone : List (Option Parts) → List (Option Parts) → ℕ → ℕ → List ℕ → Type 0
AreDone s t u v ns =
    (n low high : ℕ) → is_in ns n ≡ true → parts_of s n ≡ Some (parts u low high) → parts_of t n ≡ Some (parts u low high) → LacksVariable s v low × LacksVariable s v high

-- u and v stand at the top of an order of proper nodes
pub record IsTopPair (s : List (Option Parts)) (k u v : ℕ) (post : List ℕ) : Type 0 where
  pub ground : (n : ℕ) → n < 2 → parts_of s n ≡ None
  pub vars : AreVars k (u ∷ v ∷ post)
  pub proper : AreProper s (u ∷ v ∷ post)
  pub unique : AreUnique s

-- u and v stand so for some order
pub record AreTopPair (s : List (Option Parts)) (u v : ℕ) : Type 0 where
  pub bound : ℕ
  pub post : List ℕ
  pub top : IsTopPair s bound u v post

-- the node n has the variable u and the parts p, and a child of v
pub record IsCrossing (t : List (Option Parts)) (u v n : ℕ) (p : Parts) : Type 0 where
  pub is : parts_of t n ≡ Some p
  pub var_is : p.var ≡ u
  pub crosses : HasVariable t v p.low ⊎ HasVariable t v p.high

-- the node n has the variable u, and a child of v
abbrev pub Crosses : List (Option Parts) → ℕ → ℕ → ℕ → Type 0
Crosses t u v n = (p : Parts) × IsCrossing t u v n p

-- where n has the variable u, no child has the variable v
abbrev pub CrossesNot : List (Option Parts) → ℕ → ℕ → ℕ → Type 0
CrossesNot t u v n = (p : Parts) → parts_of t n ≡ Some p → p.var ≡ u → LacksVariable t v p.low × LacksVariable t v p.high

-- the list has the nodes of u with a child of v, no others, and no more nodes than u has
pub record AreCrossing (d : Diagram) (u v : ℕ) (ns : List ℕ) : Type 0 where
  pub all : (n : ℕ) (p : Parts) → IsCrossing d.slots u v n p → is_in ns n ≡ true
  pub each : (n : ℕ) → is_in ns n ≡ true → Crosses d.slots u v n
  pub few : length ns ≤ nodes_of d u

-- the slots t are on the way of a swap of u and v
pub record IsUnderway (t : List (Option Parts)) (u v : ℕ) : Type 0 where
  pub from : List (Option Parts)
  pub bound : ℕ
  pub post : List ℕ
  pub top : IsTopPair from bound u v post
  pub partly : IsPartlySwapped from t u v post

-- each swap that the slots s are on the way of, t are on the way of too
abbrev pub StaysUnderway : List (Option Parts) → List (Option Parts) → ℕ → ℕ → Type 0
StaysUnderway t w u v =
    (s : List (Option Parts)) (k : ℕ) (post : List ℕ) → IsTopPair s k u v post → IsPartlySwapped s t u v post → IsPartlySwapped s w u v post

-- where the added nodes of t were all used, those of w are
abbrev pub StaysUsed : List (Option Parts) → List (Option Parts) → ℕ → ℕ → Type 0
StaysUsed t w u v =
    (s : List (Option Parts)) (k : ℕ) (post : List ℕ) → IsTopPair s k u v post → IsPartlySwapped s t u v post → AreUsed s t u → AreUsed s w u

-- the slots t are s once every node of u with a child of v is rewritten
pub record IsRewrittenLevel (s t : List (Option Parts)) (u v : ℕ) : Type 0 where
  pub partly : (k : ℕ) (post : List ℕ) → IsTopPair s k u v post → IsPartlySwapped s t u v post
  pub done : (n low high : ℕ) → parts_of s n ≡ Some (parts u low high) → parts_of t n ≡ Some (parts u low high) → LacksVariable s v low × LacksVariable s v high
  pub used : AreUsed s t u
