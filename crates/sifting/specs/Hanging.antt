-- Which nodes hang on the roots or on nodes above a place, and ranks that tell it. Only private functions use
-- these words.
use Rattle.std.specs.Prelude.{◌≡◌, ◌⊎◌, ℕ, ◌<◌, ◌≤◌, Bool, true, List, Option, Some, length, slice_index_or}
use Rattle.diagram_model.specs.declared.parts.Parts.{Parts}
use Rattle.diagram_model.specs.Nodes.{parts_of, child}
use Rattle.diagram_model.specs.Reach.{is_in}
use Rattle.diagram_model.specs.Stores.{Diagram, HasVariable, IsLive}
use Rattle.bit_lists.specs.Orders.{place_in}
use Rattle.node_reclaim.specs.Reclaims.{KeepsOthers}
use Rattle.node_store.specs.declared.node.Node.{Node}
use Rattle.node_store.specs.Marks.{numbers}

-- a held node with the child m, of one of the variables
pub record HasParent (s : List (Option Parts)) (m : ℕ) : Type 0 where
  pub parent : ℕ
  pub its : Parts
  pub side : Bool
  pub is : parts_of s parent ≡ Some its
  pub there : child side its ≡ m

-- each held node is a root or has a parent
abbrev pub AreFound : Diagram → List Node → Type 0
AreFound d roots = (m : ℕ) (p : Parts) → parts_of d.slots m ≡ Some p → (is_in (numbers roots) m ≡ true) ⊎ HasParent d.slots m

-- m is a root or has a parent above the place i
abbrev pub Hangs : Diagram → List Node → ℕ → ℕ → Type 0
Hangs d roots i m = (is_in (numbers roots) m ≡ true) ⊎ ((h : HasParent d.slots m) × (place_in d.order h.its.var < i))

-- the rank of a node by its number, and the greatest where there is none
abbrev pub rank_of : List ℕ → ℕ → ℕ
rank_of ranks m = slice_index_or ranks m 255

-- ranks of at most b tell which nodes hang on what is above the place i
pub record AreRanked (d : Diagram) (roots : List Node) (i : ℕ) (ranks : List ℕ) (b : ℕ) : Type 0 where
  pub right : (m : ℕ) → rank_of ranks m ≤ b → Hangs d roots i m
  pub whole : (m : ℕ) → Hangs d roots i m → rank_of ranks m ≤ b

-- ranks of at most j do so for each place j from the top to i
abbrev pub AreRankedTo : Diagram → List Node → ℕ → List ℕ → Type 0
AreRankedTo d roots i ranks = (j : ℕ) → j ≤ i → AreRanked d roots j ranks j

-- what hangs on nodes above a place that is not below i hangs so in e where it does in d
abbrev pub KeepsHanging : Diagram → Diagram → List Node → ℕ → Type 0
KeepsHanging d e roots i = (j : ℕ) → j ≤ i → (ranks : List ℕ) (b : ℕ) → AreRanked d roots j ranks b → AreRanked e roots j ranks b

-- the nodes of the variable v whose rank is above b
pub record AreLoose (d : Diagram) (v : ℕ) (ranks : List ℕ) (b : ℕ) (ns : List ℕ) : Type 0 where
  pub each : (n : ℕ) → is_in ns n ≡ true → HasVariable d v n × (b < rank_of ranks n)
  pub all : (n : ℕ) → HasVariable d v n → b < rank_of ranks n → is_in ns n ≡ true

-- e is d without the nodes of the variable v whose rank is above b
pub record IsFreed (d e : Diagram) (v : ℕ) (ranks : List ℕ) (b : ℕ) : Type 0 where
  pub listed : List ℕ
  pub loose : AreLoose d v ranks b listed
  pub others : KeepsOthers d e listed

-- there is a rank for each live node
abbrev pub HasRanks : Diagram → List ℕ → Type 0
HasRanks d ranks = (n : ℕ) → IsLive d n → n < length ranks

-- the same ranks
abbrev pub SameRanks : List ℕ → List ℕ → Type 0
SameRanks old new = (m : ℕ) → rank_of new m ≡ rank_of old m

-- new are the ranks old, with that of n lowered to r
pub record Lowers (old new : List ℕ) (n r : ℕ) : Type 0 where
  pub here : rank_of new n ≤ r
  pub either : (rank_of new n ≡ rank_of old n) ⊎ (rank_of new n ≡ r)
  pub less : rank_of new n ≤ rank_of old n
  pub others : (m : ℕ) → (m ≡ n → ⊥) → rank_of new m ≡ rank_of old m

-- new are the ranks old, with those of the children of these parts lowered to r
pub record LowersBoth (old new : List ℕ) (p : Parts) (r : ℕ) : Type 0 where
  pub right : (m : ℕ) → (rank_of new m ≡ rank_of old m) ⊎ ((rank_of new m ≡ r) × ((b : Bool) × (child b p ≡ m)))
  pub less : (m : ℕ) → rank_of new m ≤ rank_of old m
  pub here : (b : Bool) → rank_of new (child b p) ≤ r

-- new are the ranks old, with those of the children of listed nodes lowered to r
pub record LowersListed (d : Diagram) (ns : List ℕ) (old new : List ℕ) (r : ℕ) : Type 0 where
  pub right : (m : ℕ) → (rank_of new m ≡ rank_of old m) ⊎ ((rank_of new m ≡ r) × ((h : HasParent d.slots m) × (is_in ns h.parent ≡ true)))
  pub less : (m : ℕ) → rank_of new m ≤ rank_of old m
  pub here : (q : ℕ) (p : Parts) (b : Bool) → is_in ns q ≡ true → parts_of d.slots q ≡ Some p → rank_of new (child b p) ≤ r

-- new are the ranks old, with those of the children of the nodes of v lowered to r
pub record LowersChildren (d : Diagram) (v : ℕ) (old new : List ℕ) (r : ℕ) : Type 0 where
  pub right : (m : ℕ) → (rank_of new m ≡ rank_of old m) ⊎ ((rank_of new m ≡ r) × ((h : HasParent d.slots m) × (h.its.var ≡ v)))
  pub less : (m : ℕ) → rank_of new m ≤ rank_of old m
  pub here : (q : ℕ) (p : Parts) (b : Bool) → parts_of d.slots q ≡ Some p → p.var ≡ v → rank_of new (child b p) ≤ r

-- new are the ranks old, with those of listed nodes lowered to the least
pub record LowersRoots (roots : List Node) (old new : List ℕ) : Type 0 where
  pub right : (m : ℕ) → (rank_of new m ≡ rank_of old m) ⊎ (is_in (numbers roots) m ≡ true)
  pub here : (m : ℕ) → is_in (numbers roots) m ≡ true → rank_of new m ≤ 0
