-- Words that only the clauses of private functions cite.
use Rattle.std.specs.Prelude.{◌≡◌, ◌⊎◌, ℕ, ◌+◌, ◌<◌, ◌≤◌, Bool, true, false, cond, List, [], ◌∷◌, ◌++◌, length, map, flat_map, slice_index_or, Option, Some, None}
use Rattle.bit_lists.specs.Orders.{has, place_in}
use Rattle.diagram_model.specs.declared.parts.Parts.{Parts}
use Rattle.diagram_model.specs.Functions.{Function}
use Rattle.diagram_model.specs.Nodes.{parts_of, child}
use Rattle.diagram_model.specs.Stores.{Diagram, IsLive, IsSound, HasParts, depth, function_of}
use Rattle.snapshot.specs.Numbers.{NodeLine}
use Rattle.snapshot.specs.Sheets.{node_text}
use Rattle.snapshot.specs.declared.text.SaveStop.{SaveStop}
use Rattle.snapshot.specs.declared.text.SaveStop.TheVariants.{TooLong, OutOfMemory}

-- ---- numbering
-- nodes in the order of their numbers, FALSE and TRUE first; and a number above that of each node that may follow
pub record Numbered : Type 0 where
  pub nodes : List ℕ
  pub past : ℕ

-- the place of n among the nodes, or 0
abbrev pub number_or_none : List ℕ → ℕ → ℕ
number_or_none ns n = cond (has ns n) (place_in ns n) 0

-- ks has the number of each node
abbrev pub AreNumbers : List ℕ → List ℕ → Type 0
AreNumbers ns ks = (n : ℕ) → 2 ≤ n → slice_index_or ks n 0 ≡ number_or_none (0 ∷ 1 ∷ ns) n

-- the functions that nodes denote
abbrev pub functions : Diagram → List ℕ → List Function
functions d ns = map (function_of d) ns

-- each number stands once
unfoldable pub AreOnce : List ℕ → Type 0
AreOnce [] = Unit {0}
AreOnce (n ∷ ns) = (has ns n ≡ false) × AreOnce ns

-- the store is sound, the constants are there, each number stands once, the nodes are live, with a node its children are among them, and there is a place for the number of each held node
pub record IsNumbering (d : Diagram) (s : Numbered) : Type 0 where
  pub sound : IsSound d
  pub constants : (n : ℕ) → n < 2 → has s.nodes n ≡ true
  pub once : AreOnce s.nodes
  pub live : (n : ℕ) → has s.nodes n ≡ true → IsLive d n
  pub closed : (n : ℕ) (p : Parts) (b : Bool) → has s.nodes n ≡ true → parts_of d.slots n ≡ Some p → has s.nodes (child b p) ≡ true
  pub places : (n : ℕ) → HasParts d n → n < s.past

-- each node of old is in new
abbrev pub Keeps : List ℕ → List ℕ → Type 0
Keeps old new = (n : ℕ) → has old n ≡ true → has new n ≡ true

-- what new has besides old is at most so deep
abbrev pub AddsLower : Diagram → ℕ → List ℕ → List ℕ → Type 0
AddsLower d most old new = (m : ℕ) → has new m ≡ true → (has old m ≡ true) ⊎ (depth d m ≤ most)

-- the places of nodes
abbrev pub places_in : List ℕ → List ℕ → List ℕ
places_in ns ms = map (place_in ns) ms

-- a node as a line: its variable, and the places of its children
unfoldable pub parts_line : List ℕ → Option Parts → NodeLine
parts_line ns None = record { var = 0; low = 0; high = 0 }
parts_line ns (Some p) = record { var = p.var; low = place_in ns p.low; high = place_in ns p.high }

abbrev pub line_in : Diagram → List ℕ → ℕ → NodeLine
line_in d ns n = parts_line ns (parts_of d.slots n)

-- the lines of nodes
abbrev pub lines_text : Diagram → List ℕ → List ℕ → List ℕ
lines_text d ns ms = flat_map (λ n. node_text (line_in d ns n)) ms

-- ---- texts
-- bytes, and how many there may be at most
pub record Bounded : Type 0 where
  pub bytes : List ℕ
  pub most : ℕ

-- new is old with a piece at its end
abbrev pub Adds : Bounded → Bounded → List ℕ → Type 0
Adds old new piece = new ≡ record { bytes = old.bytes ++ piece; most = old.most }

-- there is no room for the piece
abbrev pub IsOver : Bounded → List ℕ → Type 0
IsOver old piece = old.most < length old.bytes + length piece

-- a refusal for want of room comes where there is no room for the piece
abbrev pub Refuses : Bounded → List ℕ → SaveStop → Type 0
Refuses old piece TooLong = IsOver old piece
Refuses old piece OutOfMemory = Unit {0}
