-- The numbers of the nodes of a variable.
use Rattle.std.proofs.Common.{◌≡◌, ℕ, zero, suc, ◌<◌, true, eqb, List, [], ◌∷◌, length, Some, get_or, inl, inr, refl, sym, ◌∙◌, ap, arith, eq-eqb}
use Rattle.std.proofs.lemmas.Bool.{or_cases, or_left, or_right, eqb-true, false≢true}
use Rattle.bit_lists.specs.Orders.{has}
use Rattle.diagram_model.specs.declared.parts.Parts.{Parts}
use Rattle.diagram_model.specs.Nodes.{parts_of}
use Rattle.diagram_model.specs.Reach.{is_in}
use Rattle.tables.specs.NodeTable.{AreNodes, TableValue, found}
use Rattle.node_store.specs.declared.slots.Slots.TheInside.{Inside}
use Rattle.node_store.specs.Slots.{AreNodesOf, parts}
use Rattle.node_store.specs.Stored.{view_of, IsStored}
use Rattle.node_store.proofs.Kept.{table_is}

-- what stands in a list is in it
in_at : (ns : List ℕ) (i : ℕ) → i < length ns → is_in ns (get_or ns i 0) ≡ true
in_at [] i lt = absurd (omega arith)
in_at (m ∷ ns) zero lt = or_left (eqb m m) (is_in ns m) (eq-eqb m m refl)
in_at (m ∷ ns) (suc i) lt = or_right (eqb (get_or ns i 0) m) (is_in ns (get_or ns i 0)) (in_at ns i (omega arith))

-- where a member of a list stands
record StandsAt (ns : List ℕ) (n : ℕ) : Type 0 where
  index : ℕ
  within : index < length ns
  is : get_or ns index 0 ≡ n

later : (m n : ℕ) (ns : List ℕ) → StandsAt ns n → StandsAt (m ∷ ns) n
later m n ns h = record { index = suc h.index; within = let lt = h.within in omega (arith, lt); is = h.is }

of_in : (ns : List ℕ) (n : ℕ) → is_in ns n ≡ true → StandsAt ns n
of_in [] n h = absurd (false≢true h)
of_in (m ∷ ns) n h =
    elim (or_cases (eqb n m) (is_in ns n) h) [
      | inl at ↦ record { index = 0; within = omega arith; is = sym (eqb-true n m at) }
      | inr more ↦ later m n ns (of_in ns n more)
    ]

-- the nodes of a variable's table are the held nodes of the variable
pub numbers_are : (a : Inside) (v : ℕ) (t : TableValue) (ns : List ℕ) → IsStored a → has a.order v ≡ true → t ≡ get_or a.tables.items v t → AreNodes t ns → AreNodesOf (view_of a).diagram v ns
numbers_are a v t ns s below e nodes =
    let at = table_is a v t s below e in
    record {
      each = λ n h.
          let i = of_in ns n h in
          let k = nodes.each i.index i.within in
          let there : found t k.0 k.1 ≡ Some n = k.2 ∙ ap (λ m. Some m) i.is in
          (parts v k.0 k.1, (s.indexed v k.0 k.1 n).right (ap (λ u. found u k.0 k.1) (sym at) ∙ there), refl);
      all = λ n h.
          let p : Parts = h.0 in
          let is : parts_of (view_of a).diagram.slots n ≡ Some (parts v p.low p.high) = h.1 ∙ ap (λ w. Some (parts w p.low p.high)) h.2 in
          let i = nodes.all p.low p.high n (ap (λ u. found u p.low p.high) at ∙ (s.indexed v p.low p.high n).whole is) in
          ap (is_in ns) (sym i.2) ∙ in_at ns i.0 i.1;
      count = nodes.count ∙ ap (λ (u : TableValue). length u.entries) at ∙ s.counted v;
    }
