-- How a memo keeps its results.
use Rattle.std.specs.Prelude.{◌+◌, ◌<◌, ◌≤◌, ◌/◌, ◌^◌, length, All}
use Rattle.memos.specs.declared.memo.Places.TheInside.{Inside}
use Rattle.memos.specs.declared.memo.Place.{Place}
use Rattle.memos.specs.MemoPlaces.{MemoValue, slots_of, home}
use Rattle.tables.specs.Probing.{IsProbed, used_of, entries_of}

abbrev pub view_of : Inside → MemoValue
view_of a = record { entries = entries_of (slots_of a.stamp a.places.items); spare = a.room }

pub record IsStored (a : Inside) : Type 0 where
  pub probed : IsProbed (home (length a.places.items)) (slots_of a.stamp a.places.items)
  pub few : used_of (slots_of a.stamp a.places.items) + a.room + length a.places.items / 4 ≤ length a.places.items
  pub size : length a.places.items < 2 ^ 32
  pub past : All (λ (p : Place). p.stamp ≤ a.stamp) a.places.items
