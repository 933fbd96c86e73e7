-- The places of a table of nodes. Contracts see `home` through `Seeking`; else only private functions and
-- proofs use these words.
use Rattle.std.specs.Prelude.{ℕ, ◌+◌, ◌*◌, ◌/◌, ◌%◌, ◌^◌, List, map}
use Rattle.tables.specs.declared.node_table.Place.{Place}
use Rattle.tables.specs.declared.node_table.Place.TheVariants.{Free, Removed, Held}
use Rattle.tables.specs.NodeTable.{Children}
use Rattle.tables.specs.Probing.{Slot, free, gone, holds}

-- what a place holds
abbrev pub slot_of : Place → Slot Children
slot_of Free = free
slot_of Removed = gone
slot_of (Held low high node) = holds (low, high) node

-- what the places hold
abbrev pub slots_of : List Place → List (Slot Children)
slots_of ps = map slot_of ps

-- where the search for a key begins among n places
unfoldable pub home : ℕ → Children → ℕ
home n k = (k.0 * 2654435769 % 2 ^ 32 + k.1 * 2246822519 % 2 ^ 32) % 2 ^ 32 * n / 2 ^ 32
