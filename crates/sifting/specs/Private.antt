-- What holds on the ways of a sift.
use Rattle.std.specs.Prelude.{◌≡◌, ◌⊎◌, ℕ, zero, suc, ◌+◌, ◌<◌, ◌≤◌, ◌==◌, cond, true, List, [], ◌∷◌, length}
use Rattle.bit_lists.specs.Orders.{has}
use Rattle.diagram_model.specs.Stores.{Diagram}
use Rattle.node_store.specs.declared.node.Node.{Node}
use Rattle.sifting.specs.Places.{Sift, first, order_at, size_at, HasRoom, IsReached, IsNoWorse}
use Rattle.sifting.specs.Sifts.{StopsDown, StopsUp, functions_of}
use Rattle.sifting.specs.declared.least.Least.{Least}
use Rattle.sifting.specs.declared.least.Way.{Way}

-- the order without the variable v
unfoldable pub without : List ℕ → ℕ → List ℕ
without [] v = []
without (w ∷ ws) v = cond (w == v) ws (w ∷ without ws v)

-- the order with v at the place j, and the others kept
unfoldable pub put_at : ℕ → ℕ → List ℕ → List ℕ
put_at v zero ws = v ∷ ws
put_at v (suc j) [] = v ∷ []
put_at v (suc j) (w ∷ ws) = w ∷ put_at v j ws

-- the store has the order of a sift with its variable at the place j, its limit and its functions
pub record Stands (s : Sift) (d : Diagram) (roots : List Node) (j : ℕ) : Type 0 where
  pub var_is : has s.order s.var ≡ true
  pub within : j < length s.order
  pub order_is : d.order ≡ order_at s j
  pub limit_is : d.limit ≡ s.limit
  pub functions_are : functions_of d roots ≡ s.functions

-- the store stands at the first place of a sift
pub record IsBegun (s : Sift) (d : Diagram) (roots : List Node) (p : ℕ) : Type 0 where
  pub stands : Stands s d roots p
  pub at_first : p ≡ first s

-- the first of two places where it is of the least size, else the second
abbrev pub IsFirstLeast : Least → Least → Least → Type 0
IsFirstLeast a b r = ((r ≡ a) × (a.size ≤ b.size)) ⊎ ((r ≡ b) × (b.size < a.size))

-- the places from lo to hi are reached, and b is the best of them
pub record IsLeastOn (s : Sift) (lo hi : ℕ) (b : Least) : Type 0 where
  pub from : lo ≤ b.place
  pub to : b.place ≤ hi
  pub size_is : b.size ≡ size_at s b.place
  pub reached : (j : ℕ) → lo ≤ j → j ≤ hi → IsReached s j
  pub best : (j : ℕ) → lo ≤ j → j ≤ hi → IsNoWorse s b.place j

-- what the way down finds
pub record IsWayDown (s : Sift) (w : Way) : Type 0 where
  pub reached : IsReached s w.least.place
  pub size_is : w.least.size ≡ size_at s w.least.place
  pub from : first s ≤ w.least.place
  pub best : (j : ℕ) → first s ≤ j → IsReached s j → IsNoWorse s w.least.place j
  pub stops : StopsDown s w.stopped

-- what the way up finds
pub record IsWayUp (s : Sift) (w : Way) : Type 0 where
  pub reached : IsReached s w.least.place
  pub size_is : w.least.size ≡ size_at s w.least.place
  pub to : w.least.place ≤ first s
  pub best : (j : ℕ) → j ≤ first s → IsReached s j → IsNoWorse s w.least.place j
  pub stops : StopsUp s w.stopped

-- each exchange between the first place and another one has room
pub record IsPathDown (d : Diagram) (roots : List Node) (p q : ℕ) : Type 0 where
  pub sift : Sift
  pub begun : IsBegun sift d roots p
  pub within : q < length sift.order
  pub room : (j : ℕ) → p ≤ j → j < q → HasRoom sift j j

pub record IsPathUp (d : Diagram) (roots : List Node) (p q : ℕ) : Type 0 where
  pub sift : Sift
  pub begun : IsBegun sift d roots p
  pub room : (j : ℕ) → q ≤ j → j < p → HasRoom sift (j + 1) j

-- the place q is reached from the first place p
pub record IsReachedFrom (d : Diagram) (roots : List Node) (p q : ℕ) : Type 0 where
  pub sift : Sift
  pub begun : IsBegun sift d roots p
  pub reached : IsReached sift q

-- what both ways find
pub record AreWays (s : Sift) (w v : Way) : Type 0 where
  pub below : IsWayDown s w
  pub above : IsWayUp s v
