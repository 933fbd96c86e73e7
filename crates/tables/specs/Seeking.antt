-- Where the search for a node in a table ends.
use Rattle.std.specs.Prelude.{◌≡◌, ℕ, Some, None, length}
use Rattle.tables.specs.declared.probe.Probe.{Probe}
use Rattle.tables.specs.declared.probe.Probe.TheVariants.{Found, Vacant, Full}
use Rattle.tables.specs.NodePlaces.{home}
use Rattle.tables.specs.NodeTable.{TableValue, found}
use Rattle.tables.specs.Probing.{IsFirstFree}

-- a node with these children goes to the place i
abbrev pub IsSeat : TableValue → ℕ → ℕ → ℕ → Type 0
IsSeat t low high i = IsFirstFree t.places (low, high) (home (length t.places) (low, high)) i

-- the search ends at the node with these children; else there is none, and it ends where one goes, or
-- there is no room
abbrev pub Sought : TableValue → ℕ → ℕ → Probe → Type 0
Sought t low high (Found i n) = found t low high ≡ Some n
Sought t low high (Vacant i) = (found t low high ≡ None) × IsSeat t low high i
Sought t low high Full = (found t low high ≡ None) × (t.spare ≡ 0)
