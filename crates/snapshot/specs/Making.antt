-- Nodes and integers that are made from numbers. Only private functions use these words.
use Rattle.std.specs.Prelude.{◌≡◌, ℕ, ◌<◌, List, map, flat_map, length, get_or}
use Rattle.std.specs.List.{All}
use Rattle.diagram_model.specs.Stores.{Diagram, IsAbove, IsLive, IsChoice}
use Rattle.node_store.specs.declared.node.Node.{Node}
use Rattle.snapshot.specs.declared.making.MakeStop.{MakeStop}
use Rattle.snapshot.specs.declared.making.MakeStop.TheVariants.{Bad, OutOfMemory}
use Rattle.snapshot.specs.Snapshots.{Snapshot, IsSnapshot, sheet_of}
use Rattle.snapshot.specs.Reading.{node_numbers}

-- the node of this number
abbrev pub node_at : List Node → ℕ → ℕ
node_at ns i = (get_or ns i (record { 0 = 0 })).0

-- the nodes of these numbers
abbrev pub nodes_at : List Node → List ℕ → List ℕ
nodes_at ns is = map (node_at ns) is

-- each number is that of a node
abbrev pub AreThere : List Node → List ℕ → Type 0
AreThere ns is = All (λ i. i < length ns) is

-- what is known where the numbers were bad
abbrev pub OnBad : Type 0 → MakeStop → Type 0
OnBad P Bad = P
OnBad P OutOfMemory = Unit {0}

-- the variable is one of the store's, and stands above the two nodes, which are there
pub record IsLine (d : Diagram) (ns : List Node) (v low high : ℕ) : Type 0 where
  pub var : v < length d.order
  pub low_there : low < length ns
  pub high_there : high < length ns
  pub low_below : IsAbove d v (node_at ns low)
  pub high_below : IsAbove d v (node_at ns high)

-- n is live, and is the second node where the variable is true, and the first where it is false
pub record IsMade (d : Diagram) (ns : List Node) (v low high n : ℕ) : Type 0 where
  pub var : v < length d.order
  pub low_there : low < length ns
  pub high_there : high < length ns
  pub live : IsLive d n
  pub choice : IsChoice d v (node_at ns low) (node_at ns high) n

-- these are the numbers of the snapshot's lines, in this order of the variables
pub record AreLinesOf (os ls : List ℕ) (s : Snapshot) : Type 0 where
  pub snapshot : IsSnapshot s
  pub order : os ≡ s.order
  pub lines : ls ≡ flat_map node_numbers (sheet_of s).nodes
