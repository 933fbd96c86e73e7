-- What contracts see of the held nodes of one variable, by their children.
use Rattle.std.specs.Prelude.{◌≡◌, ◌≢◌, ◌⊎◌, ℕ, ◌<◌, ◌&&◌, ◌==◌, List, length, slice_index, Option, Some}
use Rattle.std.specs.Map.{lookup}
use Rattle.tables.specs.Probing.{Slot}

-- the low and the high child
abbrev pub Children : Type 0
Children = ℕ × ℕ

-- the nodes by their children, how many more there is room for, and the places among which a search
-- goes (only `Seeking` speaks of these)
pub record TableValue : Type 0 where
  pub entries : List (Children × ℕ)
  pub spare : ℕ
  pub places : List (Slot Children)

-- the node with these children
abbrev pub found_in : List (Children × ℕ) → ℕ → ℕ → Option ℕ
found_in es low high = lookup (λ k. low == k.0 && high == k.1) es

-- the table's node with these children
abbrev pub found : TableValue → ℕ → ℕ → Option ℕ
found t low high = found_in t.entries low high

-- both tables have the same nodes
abbrev pub SameFound : TableValue → TableValue → Type 0
SameFound old new = (low high : ℕ) → found new low high ≡ found old low high

-- the new table has this node at these children, and is else as before
pub record Puts (old new : TableValue) (low high : ℕ) (node : Option ℕ) : Type 0 where
  pub here : found new low high ≡ node
  pub others : (l h : ℕ) → (l ≢ low) ⊎ (h ≢ high) → found new l h ≡ found old l h

-- the nodes of a table, one for each entry
pub record AreNodes (t : TableValue) (ns : List ℕ) : Type 0 where
  pub each : (i : ℕ) → i < length ns → (low : ℕ) × (high : ℕ) × (found t low high ≡ Some (slice_index ns i))
  pub all : (low high n : ℕ) → found t low high ≡ Some n → (i : ℕ) × (i < length ns) × (slice_index ns i ≡ n)
  pub count : length ns ≡ length t.entries
