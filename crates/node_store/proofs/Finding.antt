-- A node that is found, or added where there is none.
use Rattle.std.proofs.Common.{◌≡◌, ◌≢◌, ℕ, ◌+◌, ◌<◌, ◌≤◌, true, length, ◌∷◌, Option, Some, None, get_or, set, arith}
use Rattle.slab.specs.Slab.{Slab, get, Updates}
use Rattle.bit_lists.specs.Orders.{has}
use Rattle.diagram_model.specs.declared.parts.Parts.{Parts}
use Rattle.diagram_model.specs.Nodes.{parts_of}
use Rattle.diagram_model.specs.Stores.{Diagram, IsNew, held}
use Rattle.tables.specs.NodeTable.{TableValue, found, Puts}
use Rattle.node_store.specs.declared.slots.Slots.TheInside.{Inside}
use Rattle.node_store.specs.Makes.{PutsNew}
use Rattle.node_store.specs.Slots.{IsSlotted, parts}
use Rattle.node_store.specs.Stored.{view_of, IsStored}
use Rattle.node_store.proofs.Tables.{slab_puts}
use Rattle.node_store.proofs.Kept.{found_some, found_none, of_some, of_none_is, added, puts_at}

-- the node that the table found has the parts
pub found_old : (a : Inside) (v l h n : ℕ) (t : TableValue) (r : Option ℕ) → IsStored a → has a.order v ≡ true → t ≡ get_or a.tables.items v t → r ≡ found t l h → r ≡ Some n → parts_of (view_of a).diagram.slots n ≡ Some (parts v l h)
found_old a v l h n t r s below e f is =
    of_some r n (λ m. parts_of (view_of a).diagram.slots m ≡ Some (parts v l h)) is (found_some a v l h t r s below e f)

-- the table found none: no node has the parts
pub found_new : (a : Inside) (v l h : ℕ) (t : TableValue) (r : Option ℕ) → IsStored a → has a.order v ≡ true → t ≡ get_or a.tables.items v t → r ≡ found t l h → r ≡ None → IsNew (view_of a).diagram (parts v l h)
found_new a v l h t r s below e f is = of_none_is r (IsNew (view_of a).diagram (parts v l h)) is (found_none a v l h t r s below e f)

-- there is room where not as many are held as may be
pub room_left : (d : Diagram) (n : ℕ) → IsSlotted d → n ≡ held d → n ≢ d.limit → held d < d.limit
room_left d n s all ne = omega (arith, s.few, all, ne)

-- a slab with the same values has the same free keys
pub vacant_same : (m l : Slab Parts) (k : ℕ) → l.slots ≡ m.slots → get l k ≡ None → get m k ≡ None
vacant_same m l k same vacant = rw same at vacant

pub updates_same : (m l n : Slab Parts) (k : ℕ) (p : Parts) → l.slots ≡ m.slots → Updates l n k (Some p) → Updates m n k (Some p)
updates_same m l n k p same updates = record { changed = updates.changed; others = λ j ne. rw same at updates.others j ne }

-- slots and their tables once the node of the key k is put
module _ (a b : Inside) (t u : TableValue) (j k v l h : ℕ) (s : IsStored a) (eo : b.order ≡ a.order) (el : b.limit ≡ a.limit) (ep : a.past ≤ b.past) (num : k + 2 < b.past) (key : j ≡ k) (vacant : get a.nodes j ≡ None) (updates : Updates a.nodes b.nodes j (Some (parts v l h))) (len : length u.entries ≡ length t.entries + 1) (et : b.tables.items ≡ set a.tables.items v u) (below : has a.order v ≡ true) (new : IsNew (view_of a).diagram (parts v l h)) (room : held (view_of a).diagram < a.limit) (e : t ≡ get_or a.tables.items v t) (put : Puts t u l h (Some (k + 2))) where
  at_key : Puts t u l h (Some (j + 2))
  at_key = puts_at t u l h (k + 2) (j + 2) (omega arith) put

  pub put_stored : IsStored b
  put_stored = (added a b t u j (parts v l h) s eo el ep (omega arith) vacant updates len et below new room e at_key).stored

-- a node of new parts is put at the key k
pub puts_new : (d e : Diagram) (m l : Slab Parts) (j k : ℕ) (p : Parts) → d.slots ≡ None ∷ None ∷ m.slots → e.slots ≡ None ∷ None ∷ l.slots → j ≡ k → get m j ≡ None → Updates m l j (Some p) → IsNew d p → held d < d.limit → PutsNew d e p (k + 2)
puts_new d e m l j k p ed ee key vacant updates new room = record {
  new = new;
  room = room;
  puts = rw (ed, ee, ← key) (slab_puts m l j p vacant updates);
  number = omega arith;
}
