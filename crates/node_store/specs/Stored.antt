-- How slots are kept: a slab, and a table for each variable.
use Rattle.std.specs.Prelude.{◌≡◌, ℕ, ◌-◌, ◌<◌, cond, nat_le, min, List, [], ◌∷◌, map, length, Option, Some, None, slice_index_or, count_by}
use Rattle.slab.specs.Slab.{Slab, slab_len}
use Rattle.diagram_model.specs.declared.parts.Parts.{Parts}
use Rattle.diagram_model.specs.Nodes.{parts_of}
use Rattle.diagram_model.specs.Stores.{Diagram}
use Rattle.tables.specs.NodeTable.{TableValue, found}
use Rattle.node_store.specs.declared.slots.Slots.TheInside.{Inside}
use Rattle.node_store.specs.Slots.{Slotted, IsSlotted, parts, is_of}

-- room for a node of a variable is room in the slab and in the variable's table; a slab that grew
-- past the numbers of nodes has none
abbrev pub spare_in : Slab Parts → TableValue → ℕ
spare_in nodes table = cond (nat_le nodes.capacity 4000000000) (min table.spare (nodes.capacity - slab_len nodes)) 0

abbrev pub view_of : Inside → Slotted
view_of a = record {
  diagram = record { order = a.order; limit = a.limit; slots = None ∷ None ∷ a.nodes.slots; made = a.made };
  spares = map (spare_in a.nodes) a.tables.items;
}

-- the table of a variable
abbrev pub table_at : List TableValue → ℕ → TableValue
table_at ts v = slice_index_or ts v (record { entries = []; spare = 0; places = [] })

-- a table finds the node of these parts, and no other
pub record Finds (slots : List (Option Parts)) (ts : List TableValue) (v low high n : ℕ) : Type 0 where
  pub right : found (table_at ts v) low high ≡ Some n → parts_of slots n ≡ Some (parts v low high)
  pub whole : parts_of slots n ≡ Some (parts v low high) → found (table_at ts v) low high ≡ Some n

abbrev pub AreIndexed : List (Option Parts) → List TableValue → Type 0
AreIndexed slots ts = (v low high n : ℕ) → Finds slots ts v low high n

-- each table has as many entries as nodes of its variable are held
abbrev pub AreCounted : List (Option Parts) → List TableValue → Type 0
AreCounted slots ts = (v : ℕ) → length (table_at ts v).entries ≡ count_by (is_of v) slots

-- each held node has a number below `past`
abbrev pub AreBelow : List (Option Parts) → ℕ → Type 0
AreBelow slots past = (n : ℕ) (p : Parts) → parts_of slots n ≡ Some p → n < past

-- slots and their tables fit together
pub record AreTied (d : Diagram) (ts : List TableValue) (past : ℕ) : Type 0 where
  pub slotted : IsSlotted d
  pub tables : length ts ≡ length d.order
  pub indexed : AreIndexed d.slots ts
  pub counted : AreCounted d.slots ts
  pub numbered : AreBelow d.slots past

pub record IsStored (a : Inside) : Type 0 where
  pub slotted : IsSlotted (view_of a).diagram
  pub tables : length a.tables.items ≡ length a.order
  pub indexed : AreIndexed (None ∷ None ∷ a.nodes.slots) a.tables.items
  pub counted : AreCounted (None ∷ None ∷ a.nodes.slots) a.tables.items
  pub numbered : AreBelow (None ∷ None ∷ a.nodes.slots) a.past
