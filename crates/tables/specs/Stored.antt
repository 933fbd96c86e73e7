-- How a table keeps its entries.
use Rattle.std.specs.Prelude.{◌≡◌, ◌+◌, ◌<◌, ◌≤◌, ◌^◌, length}
use Rattle.tables.specs.declared.node_table.NodeTable.TheInside.{Inside}
use Rattle.tables.specs.NodePlaces.{slots_of, home}
use Rattle.tables.specs.NodeTable.{TableValue}
use Rattle.tables.specs.Probing.{IsProbed, used_of, entries_of}

abbrev pub view_of : Inside → TableValue
view_of a = record { entries = entries_of (slots_of a.places.items); spare = a.room; places = slots_of a.places.items }

pub record IsStored (a : Inside) : Type 0 where
  pub probed : IsProbed (home (length a.places.items)) (slots_of a.places.items)
  pub few : used_of (slots_of a.places.items) + a.room ≤ length a.places.items
  pub size : length a.places.items < 2 ^ 32
  pub count : a.len ≡ length (entries_of (slots_of a.places.items))
