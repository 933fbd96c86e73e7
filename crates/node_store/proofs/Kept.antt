-- What the fields of slots keep.
use Rattle.std.proofs.Common.{◌≡◌, Ok, Err, Result, OnErr, ◌⊎◌, ℕ, zero, suc, ◌+◌, ◌-◌, ◌<◌, ◌≤◌, min, true, false, eqb, nat_le, List, [], ◌∷◌, ◌++◌, map, length, Option, Some, None, get_or, set, inl, inr, refl, sym, ◌∙◌, ap, arith, get_or-set_other, get_or-set_same, IfSome, IfNone, is_some, count_by, ◌&&◌}
use Rattle.std.specs.Map.{lookup}
use Rattle.std.proofs.lemmas.Bool.{cases_eq, cases_lt, cases_Bool, cond-true, cond-false, leb-true, le-leb, false≢true}
use Rattle.std.proofs.lemmas.List.{length-set, get_or-map, length-map, get_or_default}
use Rattle.slab.specs.Slab.{Slab, get, Updates, slab_len}
use Rattle.bit_lists.specs.Orders.{has, IsOrder, exchanged}
use Rattle.diagram_model.specs.declared.parts.Parts.{Parts}
use Rattle.diagram_model.specs.Nodes.{parts_of}
use Rattle.diagram_model.specs.Stores.{Diagram, PutsNode, IsNew, IsHeld, held}
use Rattle.std.specs.Prelude.{IsSome}
use Rattle.diagram_model.proofs.Values.{below-order}
use Rattle.diagram_model.proofs.Extend.{here}
use Rattle.tables.specs.NodeTable.{TableValue, found, Puts, SameFound}
use Rattle.node_store.specs.declared.slots.Slots.TheInside.{Inside}
use Rattle.node_store.specs.Slots.{IsSlotted, Takes, Rewrites, parts, spare_of, is_of}
use Rattle.node_store.specs.Stored.{view_of, spare_in, table_at, AreIndexed, AreBelow, AreTied, IsStored}
use Rattle.node_store.proofs.Tables.{within_list, indexed_put, indexed_take, counted_set, slab_puts, slab_takes, slab_rewrites, get_past_two, indexed_same, table_at-same, table_at-other}
use Rattle.node_store.proofs.Freed.{held_put, nodes_put, nodes_other, slotted_take, taken_put, left_was, count_cons, one_held}
use Rattle.std.proofs.Math.ListN.{get_or-eq_default}

pub within_tables : (a : Inside) (v : ℕ) → IsStored a → has a.order v ≡ true → v < length a.tables.items
within_tables a v s h = omega (arith, below-order (length a.order) a.order v s.slotted.order.once h, s.tables)

pub has_var : (a : Inside) (v : ℕ) → IsStored a → v < length a.order → has a.order v ≡ true
has_var a v s lt = s.slotted.order.all v lt

pub table_is : (a : Inside) (v : ℕ) (t : TableValue) → IsStored a → has a.order v ≡ true → t ≡ get_or a.tables.items v t → t ≡ table_at a.tables.items v
table_is a v t s h e = e ∙ get_or_default a.tables.items v t (record { entries = []; spare = 0; places = [] }) (within_tables a v s h)

if_some : {A : Type 0} (o : Option A) (P : A → Type 0) → ((x : A) → o ≡ Some x → P x) → IfSome o P
if_some None P f = tt
if_some (Some x) P f = f x refl

if_none : {A : Type 0} (o : Option A) (P : Type 0) → (o ≡ None → P) → IfNone o P
if_none None P f = f refl
if_none (Some x) P f = tt

pub of_some : {A : Type 0} (o : Option A) (x : A) (P : A → Type 0) → o ≡ Some x → IfSome o P → P x
of_some o x P e h = rw e at h

pub of_none_is : {A : Type 0} (o : Option A) (P : Type 0) → o ≡ None → IfNone o P → P
of_none_is o P e h = rw e at h

some_none : (n : ℕ) → Some n ≡ None → ⊥
some_none n e = cc

-- what a table finds
pub found_some : (a : Inside) (v l h : ℕ) (t : TableValue) (r : Option ℕ) → IsStored a → has a.order v ≡ true → t ≡ get_or a.tables.items v t → r ≡ found t l h → IfSome r (λ n. parts_of (view_of a).diagram.slots n ≡ Some (parts v l h))
found_some a v l h t r s below e f =
    if_some r (λ n. parts_of (view_of a).diagram.slots n ≡ Some (parts v l h)) (λ n is.
    (s.indexed v l h n).right (ap (λ u. found u l h) (sym (table_is a v t s below e)) ∙ sym f ∙ is))

pub found_none : (a : Inside) (v l h : ℕ) (t : TableValue) (r : Option ℕ) → IsStored a → has a.order v ≡ true → t ≡ get_or a.tables.items v t → r ≡ found t l h → IfNone r (IsNew (view_of a).diagram (parts v l h))
found_none a v l h t r s below e f =
    if_none r (IsNew (view_of a).diagram (parts v l h)) (λ is n at.
    some_none n (sym ((s.indexed v l h n).whole at) ∙ ap (λ u. found u l h) (sym (table_is a v t s below e)) ∙ sym f ∙ is))

none_if : (o : Option ℕ) → ((n : ℕ) → o ≡ Some n → ⊥) → o ≡ None
none_if None f = refl
none_if (Some n) f = absurd (f n refl)

-- the table of its variable doesn't find a new node
pub new_none : (a : Inside) (v l h : ℕ) (t : TableValue) → IsStored a → has a.order v ≡ true → t ≡ get_or a.tables.items v t → IsNew (view_of a).diagram (parts v l h) → found t l h ≡ None
new_none a v l h t s below e new =
    none_if (found t l h) (λ n is. new n ((s.indexed v l h n).right (ap (λ u. found u l h) (sym (table_is a v t s below e)) ∙ is)))

-- the room for nodes of a variable
abbrev pub room_at : Slab Parts → List TableValue → ℕ → ℕ
room_at m ts v = get_or (map (spare_in m) ts) v 0

pub room_is : (m : Slab Parts) (ts : List TableValue) (v : ℕ) → v < length ts → room_at m ts v ≡ spare_in m (table_at ts v)
room_is m ts v within = get_or-map (spare_in m) ts v (record { entries = []; spare = 0; places = [] }) 0 within

pub spare_is : (a : Inside) (v : ℕ) → v < length a.tables.items → spare_of (view_of a) v ≡ spare_in a.nodes (table_at a.tables.items v)
spare_is a v within = room_is a.nodes a.tables.items v within

-- what the room for nodes of a variable says of the slab and of the table
pub spare_parts : (m : Slab Parts) (t : TableValue) → 1 ≤ spare_in m t → (m.capacity ≤ 4000000000) × (1 ≤ t.spare) × (slab_len m + 1 ≤ m.capacity)
spare_parts m t h =
    elim (cases_Bool (nat_le m.capacity 4000000000)) [
      | inl e ↦
          let is : spare_in m t ≡ min t.spare (m.capacity - slab_len m) = cond-true (nat_le m.capacity 4000000000) (min t.spare (m.capacity - slab_len m)) 0 e in
          let small : m.capacity ≤ 4000000000 = leb-true m.capacity 4000000000 e in
          (small, omega arith, omega arith)
      | inr e ↦
          let is : spare_in m t ≡ 0 = cond-false (nat_le m.capacity 4000000000) (min t.spare (m.capacity - slab_len m)) 0 e in
          absurd (omega arith)
    ]

-- room in the slab and in the table is room
pub spare_at_least : (m : Slab Parts) (t : TableValue) (n : ℕ) → m.capacity ≤ 4000000000 → n ≤ t.spare → slab_len m + n ≤ m.capacity → n ≤ spare_in m t
spare_at_least m t n small table slab =
    let is : spare_in m t ≡ min t.spare (m.capacity - slab_len m) = cond-true (nat_le m.capacity 4000000000) (min t.spare (m.capacity - slab_len m)) 0 (le-leb m.capacity 4000000000 small) in
    omega arith

-- the room of one slab and table against that of others
pub spare_le : (m l : Slab Parts) (t u : TableValue) (j : ℕ) → l.capacity ≤ 4000000000 → m.capacity ≤ l.capacity → slab_len l ≤ slab_len m + j → t.spare ≤ u.spare + j → spare_in m t ≤ spare_in l u + j
spare_le m l t u j small more len table =
    let new : spare_in l u ≡ min u.spare (l.capacity - slab_len l) = cond-true (nat_le l.capacity 4000000000) (min u.spare (l.capacity - slab_len l)) 0 (le-leb l.capacity 4000000000 small) in
    let old : spare_in m t ≡ min t.spare (m.capacity - slab_len m) = cond-true (nat_le m.capacity 4000000000) (min t.spare (m.capacity - slab_len m)) 0 (le-leb m.capacity 4000000000 (let h : m.capacity ≤ 4000000000 = omega arith in h)) in
    omega arith

-- the rooms once the table of one variable is another one
pub spares_le : (a : Inside) (l : Slab Parts) (v : ℕ) (t u : TableValue) (j : ℕ) → IsStored a → has a.order v ≡ true → t ≡ get_or a.tables.items v t → l.capacity ≤ 4000000000 → a.nodes.capacity ≤ l.capacity → slab_len l ≤ slab_len a.nodes + j → t.spare ≤ u.spare + j → (w : ℕ) → spare_of (view_of a) w ≤ room_at l (set a.tables.items v u) w + j
spares_le a l v t u j s below e small more len table w =
    let ts = a.tables.items in
    let us = set ts v u in
    let within = within_tables a v s below in
    let same_len : length us ≡ length ts = length-set ts v u in
    elim (cases_lt w (length ts)) [
      | inl lt ↦
          let lt' : w < length us = omega arith in
          let old = spare_is a w lt in
          let new = room_is l us w lt' in
          elim (cases_eq w v) [
            | inl at ↦
                let told : table_at ts w ≡ t = ap (table_at ts) at ∙ sym (table_is a v t s below e) in
                let tnew : table_at us w ≡ u = ap (table_at us) at ∙ table_at-same ts v u within in
                let le = spare_le a.nodes l (table_at ts w) (table_at us w) j small more len (rw (told, tnew) table) in
                omega arith
            | inr ne ↦
                let tsame : table_at us w ≡ table_at ts w = table_at-other ts v w u ne in
                let le = spare_le a.nodes l (table_at ts w) (table_at us w) j small more len (rw tsame (omega arith)) in
                omega arith
          ]
      | inr past ↦
          let none : spare_of (view_of a) w ≡ 0 = get_or-eq_default (map (spare_in a.nodes) ts) 0 (omega (arith, length-map ts (spare_in a.nodes))) in
          omega arith
    ]

-- slots with one more node of new parts
pub slotted_put : (d e : Diagram) (n : ℕ) (p : Parts) → IsSlotted d → e.order ≡ d.order → e.limit ≡ d.limit → PutsNode d.slots e.slots n p → 2 ≤ n → has d.order p.var ≡ true → IsNew d p → held d < d.limit → held e ≡ held d + 1 → IsSlotted e
slotted_put d e n p s eo el puts big below new room count = record {
  order = rw eo s.order;
  ground = λ m small. puts.others m (omega arith) ∙ s.ground m small;
  within = λ m q is. rw eo (elim (cases_eq m n) [
    | inl at ↦ rw (sym (here d.slots e.slots n p puts m q at is)) below
    | inr ne ↦ s.within m q (sym (puts.others m ne) ∙ is)
  ]);
  unique = λ m l q im il. elim (cases_eq m n) [
    | inl at ↦ elim (cases_eq l n) [
      | inl f ↦ at ∙ sym f
      | inr nf ↦ absurd (new l (sym (puts.others l nf) ∙ il ∙ ap (λ r. Some r) (sym (here d.slots e.slots n p puts m q at im))))
    ]
    | inr ne ↦ elim (cases_eq l n) [
      | inl f ↦ absurd (new m (sym (puts.others m ne) ∙ im ∙ ap (λ r. Some r) (sym (here d.slots e.slots n p puts l q f il))))
      | inr nf ↦ s.unique m l q (sym (puts.others m ne) ∙ im) (sym (puts.others l nf) ∙ il)
    ]
  ];
  few = omega arith;
  most = omega (arith, s.most);
}

-- slots of the same nodes, order and limit
pub slotted_kept : (d e : Diagram) → e.order ≡ d.order → e.limit ≡ d.limit → e.slots ≡ d.slots → IsSlotted d → IsSlotted e
slotted_kept d e eo el es s = record {
  order = rw eo s.order;
  ground = rw es s.ground;
  within = rw (es, eo) s.within;
  unique = rw es s.unique;
  few = rw (es, el) s.few;
  most = rw el s.most;
}

-- slots whose table of one variable got room
pub stored_same : (a b : Inside) (v : ℕ) (t u : TableValue) → IsStored a → b.order ≡ a.order → b.limit ≡ a.limit → b.past ≡ a.past → length u.entries ≡ length t.entries → b.nodes.slots ≡ a.nodes.slots → b.tables.items ≡ set a.tables.items v u → has a.order v ≡ true → t ≡ get_or a.tables.items v t → SameFound t u → IsStored b
stored_same a b v t u s eo el ep len es et below e same =
    let within = within_tables a v s below in
    let found_as : SameFound (table_at a.tables.items v) u = λ l g. same l g ∙ ap (λ r. found r l g) (table_is a v t s below e) in
    let indexed : AreIndexed (None ∷ None ∷ a.nodes.slots) (set a.tables.items v u) = indexed_same (None ∷ None ∷ a.nodes.slots) a.tables.items v u within found_as s.indexed in
    record {
      slotted = slotted_kept (view_of a).diagram (view_of b).diagram eo el (ap (λ m. None ∷ None ∷ m) es) s.slotted;
      tables = ap length et ∙ length-set a.tables.items v u ∙ s.tables ∙ ap length (sym eo);
      indexed = rw (es, et) indexed;
      counted = rw (es, et) (counted_set (None ∷ None ∷ a.nodes.slots) (None ∷ None ∷ a.nodes.slots) a.tables.items v u within s.counted (λ w ne. refl)
          (len ∙ ap (λ (q : TableValue). length q.entries) (table_is a v t s below e) ∙ s.counted v));
      numbered = rw (es, ep) s.numbered;
    }

below_put : (s t : List (Option Parts)) (n : ℕ) (p : Parts) (k l : ℕ) → PutsNode s t n p → AreBelow s k → k ≤ l → n < l → AreBelow t l
below_put s t n p k l puts below le lt m q is =
    elim (cases_eq m n) [
      | inl e ↦ omega arith
      | inr ne ↦ let h = below m q (sym (puts.others m ne) ∙ is) in omega arith
    ]

-- slots and tables once a node is added
pub tied_put : (d e : Diagram) (ts : List TableValue) (r : TableValue) (n : ℕ) (p : Parts) (k l : ℕ) → AreTied d ts k → e.order ≡ d.order → e.limit ≡ d.limit → PutsNode d.slots e.slots n p → 2 ≤ n → has d.order p.var ≡ true → IsNew d p → held d < d.limit → Puts (table_at ts p.var) r p.low p.high (Some n) → length r.entries ≡ length (table_at ts p.var).entries + 1 → k ≤ l → n < l → AreTied e (set ts p.var r) l
tied_put d e ts r n p k l s eo el puts big below new room table len le lt =
    let within : p.var < length ts = omega (arith, below-order (length d.order) d.order p.var s.slotted.order.once below, s.tables) in
    let count = held_put d.slots e.slots n p puts in
    record {
      slotted = slotted_put d e n p s.slotted eo el puts big below new room count;
      tables = length-set ts p.var r ∙ s.tables ∙ ap length (sym eo);
      indexed = indexed_put d.slots e.slots ts n p r within puts new table s.indexed;
      counted = counted_set d.slots e.slots ts p.var r within s.counted (λ w ne. nodes_other w d.slots e.slots n p puts ne)
          (omega (arith, len, s.counted p.var, nodes_put p.var d.slots e.slots n p puts refl));
      numbered = below_put d.slots e.slots n p k l puts s.numbered le lt;
    }

-- slots and tables once a node is taken away
pub tied_take : (d e : Diagram) (ts : List TableValue) (r : TableValue) (n : ℕ) (p : Parts) (k : ℕ) → AreTied d ts k → e.order ≡ d.order → e.limit ≡ d.limit → Takes d.slots e.slots n → parts_of d.slots n ≡ Some p → Puts (table_at ts p.var) r p.low p.high None → length r.entries + 1 ≡ length (table_at ts p.var).entries → AreTied e (set ts p.var r) k
tied_take d e ts r n p k s eo el takes is table len =
    let below = s.slotted.within n p is in
    let within : p.var < length ts = omega (arith, below-order (length d.order) d.order p.var s.slotted.order.once below, s.tables) in
    let back = taken_put d.slots e.slots n p takes is in
    record {
      slotted = slotted_take d e n p s.slotted eo el takes is;
      tables = length-set ts p.var r ∙ s.tables ∙ ap length (sym eo);
      indexed = indexed_take d.slots e.slots ts n p r within takes is s.slotted.unique table s.indexed;
      counted = counted_set d.slots e.slots ts p.var r within s.counted (λ w ne. sym (nodes_other w e.slots d.slots n p back ne))
          (omega (arith, len, s.counted p.var, nodes_put p.var e.slots d.slots n p back refl));
      numbered = λ m q im. s.numbered m q (left_was d.slots e.slots n m q takes im);
    }

-- slots without one node
abbrev pub without : Diagram → ℕ → Diagram
without d n = record { order = d.order; limit = d.limit; slots = set d.slots n None; made = d.made }

pub without_takes : (d : Diagram) (n : ℕ) (p : Parts) → parts_of d.slots n ≡ Some p → Takes d.slots (without d n).slots n
without_takes d n p is = record {
  gone = get_or-set_same d.slots n None None (within_list d.slots n p is);
  others = λ m ne. get_or-set_other d.slots n m None None ne;
}

pub without_put : (d : Diagram) (t : List (Option Parts)) (n : ℕ) (p q : Parts) → parts_of d.slots n ≡ Some p → Rewrites d.slots t n q → PutsNode (without d n).slots t n q
without_put d t n p q is rewrites =
    let takes = without_takes d n p is in
    record { free = takes.gone; here = rewrites.here; others = λ m ne. rewrites.others m ne ∙ sym (takes.others m ne) }

-- slots and tables once a node has other parts
no_parts_here : (p : Parts) → None ≡ Some p → ⊥
no_parts_here p e = cc

pub tied_rewrite : (d e : Diagram) (ts : List TableValue) (r u : TableValue) (n : ℕ) (p q : Parts) (k : ℕ) → AreTied d ts k → e.order ≡ d.order → e.limit ≡ d.limit → parts_of d.slots n ≡ Some p → Rewrites d.slots e.slots n q → has d.order q.var ≡ true → IsNew d q → Puts (table_at ts p.var) r p.low p.high None → length r.entries + 1 ≡ length (table_at ts p.var).entries → Puts (table_at (set ts p.var r) q.var) u q.low q.high (Some n) → length u.entries ≡ length (table_at (set ts p.var r) q.var).entries + 1 → AreTied e (set (set ts p.var r) q.var u) k
tied_rewrite d e ts r u n p q k s eo el is rewrites below new out out_len in_ in_len =
    let m = without d n in
    let takes = without_takes d n p is in
    let gap = tied_take d m ts r n p k s refl refl takes is out out_len in
    let puts = without_put d e.slots n p q is rewrites in
    let big : 2 ≤ n = elim (cases_lt n 2) [ inl small ↦ absurd (no_parts_here p (sym (s.slotted.ground n small) ∙ is)) | inr more ↦ more ] in
    let count = held_put m.slots d.slots n p (taken_put d.slots m.slots n p takes is) in
    tied_put m e (set ts p.var r) u n q k k gap eo el puts big below
    (λ i at. new i (left_was d.slots m.slots n i q takes at)) (omega (arith, count, s.slotted.few)) in_ in_len (omega arith) (s.numbered n p is)

pub tied_of : (a : Inside) → IsStored a → AreTied (view_of a).diagram a.tables.items a.past
tied_of a s = record { slotted = s.slotted; tables = s.tables; indexed = s.indexed; counted = s.counted; numbered = s.numbered }

pub stored_of : (a : Inside) → AreTied (view_of a).diagram a.tables.items a.past → IsStored a
stored_of a s = record { slotted = s.slotted; tables = s.tables; indexed = s.indexed; counted = s.counted; numbered = s.numbered }

-- what slots are once the node k + 2 is added
pub record Added (a b : Inside) (p : Parts) (n : ℕ) : Type 0 where
  pub stored : IsStored b
  pub puts : PutsNode (view_of a).diagram.slots (view_of b).diagram.slots n p

pub added : (a b : Inside) (t u : TableValue) (k : ℕ) (p : Parts) → IsStored a → b.order ≡ a.order → b.limit ≡ a.limit → a.past ≤ b.past → k + 2 < b.past → get a.nodes k ≡ None → Updates a.nodes b.nodes k (Some p) → length u.entries ≡ length t.entries + 1 → b.tables.items ≡ set a.tables.items p.var u → has a.order p.var ≡ true → IsNew (view_of a).diagram p → held (view_of a).diagram < a.limit → t ≡ get_or a.tables.items p.var t → Puts t u p.low p.high (Some (k + 2)) → Added a b p (k + 2)
added a b t u k p s eo el ep num vacant updates len et below new room e put =
    let puts : PutsNode (view_of a).diagram.slots (view_of b).diagram.slots (k + 2) p = slab_puts a.nodes b.nodes k p vacant updates in
    let big : 2 ≤ k + 2 = omega arith in
    let is = table_is a p.var t s below e in
    let puts_in : Puts (table_at a.tables.items p.var) u p.low p.high (Some (k + 2)) = record {
      here = put.here;
      others = λ l g other. put.others l g other ∙ ap (λ q. found q l g) is;
    } in
    let tied = tied_put (view_of a).diagram (view_of b).diagram a.tables.items u (k + 2) p a.past b.past (tied_of a s) eo el puts big below new room puts_in
    (len ∙ ap (λ (q : TableValue). length q.entries + 1) is) ep num in
    record { stored = stored_of b (rw et tied); puts = puts }

pub empty_push : (ts : List TableValue) (t : TableValue) → t.entries ≡ [] → ((v : ℕ) → (table_at ts v).entries ≡ []) → (v : ℕ) → (table_at (ts ++ t ∷ []) v).entries ≡ []
empty_push [] t e h zero = e
empty_push [] t e h (suc v) = refl
empty_push (u ∷ ts) t e h zero = h 0
empty_push (u ∷ ts) t e h (suc v) = empty_push ts t e (λ w. h (suc w)) v

no_parts : (n : ℕ) → parts_of (None ∷ None ∷ []) n ≡ None
no_parts zero = refl
no_parts (suc zero) = refl
no_parts (suc (suc n)) = refl

pub no_node : (n : ℕ) (p : Parts) → parts_of (None ∷ None ∷ []) n ≡ Some p → ⊥
no_node n p e = let h = no_parts n in cc

nothing : (n : ℕ) → None ≡ Some n → ⊥
nothing n e = cc

-- slots that hold no node
pub empty_slotted : (d : Diagram) → d.slots ≡ None ∷ None ∷ [] → IsOrder d.order → d.limit ≤ 16777216 → IsSlotted d
empty_slotted d es order most =
    let none : (n : ℕ) (p : Parts) → parts_of d.slots n ≡ Some p → ⊥ = λ n p e. no_node n p (sym (ap (λ l. parts_of l n) es) ∙ e) in
    let count : held d ≡ 0 = ap (λ l. count_by is_some l) es in
    record {
      order = order;
      ground = λ n lt. ap (λ l. parts_of l n) es ∙ no_parts n;
      within = λ n p e. absurd (none n p e);
      unique = λ n m p e f. absurd (none n p e);
      few = omega arith;
      most = most;
    }

none_of : (v : ℕ) → count_by (is_of v) (None ∷ None ∷ []) ≡ 0
unfolding is_of
none_of v = refl

pub empty_stored : (a : Inside) → a.nodes.slots ≡ [] → IsOrder a.order → a.limit ≤ 16777216 → length a.tables.items ≡ length a.order → ((v : ℕ) → (table_at a.tables.items v).entries ≡ []) → IsStored a
empty_stored a es order most et empty =
    record {
      slotted = empty_slotted (view_of a).diagram (ap (λ l. None ∷ None ∷ l) es) order most;
      tables = et;
      indexed = rw es (λ v low high n. record {
        right = λ h. absurd (nothing n (sym (ap (λ l. lookup (λ k. eqb low k.0 && eqb high k.1) l) (empty v)) ∙ h));
        whole = λ h. absurd (no_node n (parts v low high) h);
      });
      counted = rw es (λ v. ap length (empty v) ∙ sym (none_of v));
      numbered = rw es (λ n p is. absurd (no_node n p is));
    }

-- room was made for nodes of a variable
pub room_made : (a : Inside) (l : Slab Parts) (v : ℕ) (u : TableValue) (n : ℕ) → IsStored a → has a.order v ≡ true → l.capacity ≤ 4000000000 → slab_len l + n ≤ l.capacity → n ≤ u.spare → n ≤ room_at l (set a.tables.items v u) v
room_made a l v u n s below small slab table =
    let us = set a.tables.items v u in
    let within = within_tables a v s below in
    let tnew : table_at us v ≡ u = table_at-same a.tables.items v u within in
    let is = room_is l us v (omega (arith, length-set a.tables.items v u)) in
    let le = spare_at_least l (table_at us v) n small (rw tnew table) slab in
    omega arith

pub same_count : (m l : Slab Parts) → l.slots ≡ m.slots → slab_len l ≤ slab_len m + 0
same_count m l e = let h : slab_len l ≡ slab_len m = ap (λ s. count_by is_some s) e in omega arith

-- what room for a node of a variable says
pub spare_here : (a : Inside) (v : ℕ) → IsStored a → has a.order v ≡ true → 1 ≤ spare_of (view_of a) v → (a.nodes.capacity ≤ 4000000000) × (1 ≤ (table_at a.tables.items v).spare) × (slab_len a.nodes + 1 ≤ a.nodes.capacity)
spare_here a v s below h = spare_parts a.nodes (table_at a.tables.items v) (let is = spare_is a v (within_tables a v s below) in omega arith)

pub table_room : (a : Inside) (v : ℕ) (t : TableValue) → IsStored a → has a.order v ≡ true → t ≡ get_or a.tables.items v t → 1 ≤ spare_of (view_of a) v → 0 < t.spare
table_room a v t s below e h =
    let r = spare_here a v s below h in
    omega (arith, r.1, ap (λ (u : TableValue). u.spare) (table_is a v t s below e))

-- what holds anyway holds of a refusal
pub on_err : {T E : Type 0} (r : Result T E) (A : Type 0) → A → OnErr r A
on_err (Ok x) A a = tt
on_err (Err e) A a = a

-- a slab past the numbers of nodes has no room
pub room_none : (m : Slab Parts) (ts : List TableValue) → nat_le m.capacity 4000000000 ≡ false → (w : ℕ) → room_at m ts w ≡ 0
room_none m ts big w =
    elim (cases_lt w (length ts)) [
      | inl lt ↦ room_is m ts w lt ∙ cond-false (nat_le m.capacity 4000000000) (min (table_at ts w).spare (m.capacity - slab_len m)) 0 big
      | inr past ↦ get_or-eq_default (map (spare_in m) ts) 0 (omega (arith, length-map ts (spare_in m)))
    ]

-- a slab that grew lowers no room, or it grew past the numbers of nodes
pub grown_rooms : (m l : Slab Parts) (ts : List TableValue) → m.capacity ≤ l.capacity → l.slots ≡ m.slots → ((w : ℕ) → room_at m ts w ≤ room_at l ts w) ⊎ ((w : ℕ) → room_at l ts w ≡ 0)
grown_rooms m l ts more same =
    elim (cases_Bool (nat_le l.capacity 4000000000)) [
      | inl e ↦ inl (λ w. elim (cases_lt w (length ts)) [
        | inl lt ↦
            let small : l.capacity ≤ 4000000000 = leb-true l.capacity 4000000000 e in
            let le = spare_le m l (table_at ts w) (table_at ts w) 0 small more (same_count m l same) (omega arith) in
            omega (arith, le, room_is m ts w lt, room_is l ts w lt)
        | inr past ↦
            let none : room_at m ts w ≡ 0 = get_or-eq_default (map (spare_in m) ts) 0 (omega (arith, length-map ts (spare_in m))) in
            omega arith
      ])
      | inr e ↦ inr (room_none l ts e)
    ]

-- the rooms of one slab and its tables against those of others
pub rooms_le : (m l : Slab Parts) (ts us : List TableValue) (j : ℕ) → l.capacity ≡ m.capacity → slab_len l ≤ slab_len m + j → length us ≡ length ts → ((w : ℕ) → (table_at ts w).spare ≤ (table_at us w).spare + j) → (w : ℕ) → room_at m ts w ≤ room_at l us w + j
rooms_le m l ts us j cap len same table w =
    elim (cases_lt w (length ts)) [
      | inl lt ↦
          let old = room_is m ts w lt in
          let new = room_is l us w (omega arith) in
          elim (cases_Bool (nat_le m.capacity 4000000000)) [
            | inl e ↦
                let small : m.capacity ≤ 4000000000 = leb-true m.capacity 4000000000 e in
                let le = spare_le m l (table_at ts w) (table_at us w) j (omega arith) (omega arith) len (table w) in
                omega arith
            | inr e ↦
                let none : spare_in m (table_at ts w) ≡ 0 = cond-false (nat_le m.capacity 4000000000) (min (table_at ts w).spare (m.capacity - slab_len m)) 0 e in
                omega arith
          ]
      | inr past ↦
          let none : room_at m ts w ≡ 0 = get_or-eq_default (map (spare_in m) ts) 0 (omega (arith, length-map ts (spare_in m))) in
          omega arith
    ]

-- the spares of tables once one of them is another one
pub spare_set : (ts : List TableValue) (v : ℕ) (t u : TableValue) (j : ℕ) → v < length ts → t ≡ get_or ts v t → t.spare ≤ u.spare + j → (w : ℕ) → (table_at ts w).spare ≤ (table_at (set ts v u) w).spare + j
spare_set ts v t u j within e le w =
    elim (cases_eq w v) [
      | inl at ↦
          let old : table_at ts w ≡ t = ap (table_at ts) at ∙ sym (e ∙ get_or_default ts v t (record { entries = []; spare = 0; places = [] }) within) in
          let new : table_at (set ts v u) w ≡ u = ap (table_at (set ts v u)) at ∙ table_at-same ts v u within in
          rw (old, new) le
      | inr ne ↦
          let same : table_at (set ts v u) w ≡ table_at ts w = table_at-other ts v w u ne in
          rw same (omega arith)
    ]

-- the variable of a held node
pub held_var : (a : Inside) (k : ℕ) (p : Parts) → IsStored a → get a.nodes k ≡ Some p → has a.order p.var ≡ true
held_var a k p s there = s.slotted.within (k + 2) p (get_past_two a.nodes.slots k ∙ there)

-- slots once the node k + 2 was taken away
pub freed : (a b : Inside) (t u : TableValue) (k : ℕ) (p : Parts) → IsStored a → b.order ≡ a.order → b.limit ≡ a.limit → b.past ≡ a.past → get a.nodes k ≡ Some p → Updates a.nodes b.nodes k None → ((n : ℕ) → found t p.low p.high ≡ Some n → length u.entries + 1 ≡ length t.entries) → b.tables.items ≡ set a.tables.items p.var u → t ≡ get_or a.tables.items p.var t → Puts t u p.low p.high None → IsStored b
freed a b t u k p s eo el ep there updates len et e put =
    let d = (view_of a).diagram in
    let is : parts_of d.slots (k + 2) ≡ Some p = get_past_two a.nodes.slots k ∙ there in
    let below = s.slotted.within (k + 2) p is in
    let at = table_is a p.var t s below e in
    let takes = slab_takes a.nodes b.nodes k updates in
    let was : found t p.low p.high ≡ Some (k + 2) = ap (λ q. found q p.low p.high) at ∙ (s.indexed p.var p.low p.high (k + 2)).whole is in
    let out : Puts (table_at a.tables.items p.var) u p.low p.high None = record {
      here = put.here;
      others = λ l g other. put.others l g other ∙ ap (λ q. found q l g) at;
    } in
    stored_of b (rw (et, ep) (tied_take d (view_of b).diagram a.tables.items u (k + 2) p a.past (tied_of a s) eo el takes is out
    (len (k + 2) was ∙ ap (λ (q : TableValue). length q.entries) at)))

-- slots whose node k + 2 has other parts: the table of its old parts lost it, and the table of its
-- new parts got it
module _ (a : Inside) (t u w : TableValue) (k : ℕ) (old new : Parts) (s : IsStored a) (there : get a.nodes k ≡ Some old) (e : t ≡ get_or a.tables.items old.var t) (out : Puts t u old.low old.high None) (out_len : (n : ℕ) → found t old.low old.high ≡ Some n → length u.entries + 1 ≡ length t.entries) (below : has a.order new.var ≡ true) (fresh : IsNew (view_of a).diagram new) (f : w ≡ get_or (set a.tables.items old.var u) new.var w) where
  held_is : parts_of (view_of a).diagram.slots (k + 2) ≡ Some old
  held_is = get_past_two a.nodes.slots k ∙ there

  at_old : t ≡ table_at a.tables.items old.var
  at_old = table_is a old.var t s (held_var a k old s there) e

  at_new : w ≡ table_at (set a.tables.items old.var u) new.var
  at_new = f ∙ get_or_default (set a.tables.items old.var u) new.var w (record { entries = []; spare = 0; places = [] }) (omega (arith, within_tables a new.var s below, length-set a.tables.items old.var u))

  out_puts : Puts (table_at a.tables.items old.var) u old.low old.high None
  out_puts = record { here = out.here; others = λ l g other. out.others l g other ∙ ap (λ q. found q l g) at_old }

  out_count : length u.entries + 1 ≡ length (table_at a.tables.items old.var).entries
  out_count = out_len (k + 2) (ap (λ q. found q old.low old.high) at_old ∙ (s.indexed old.var old.low old.high (k + 2)).whole held_is) ∙ ap (λ (q : TableValue). length q.entries) at_old

  gap : AreTied (without (view_of a).diagram (k + 2)) (set a.tables.items old.var u) a.past
  gap = tied_take (view_of a).diagram (without (view_of a).diagram (k + 2)) a.tables.items u (k + 2) old a.past (tied_of a s) refl refl (without_takes (view_of a).diagram (k + 2) old held_is) held_is out_puts out_count

  -- the table of the new parts does not find them
  pub gap_none : found w new.low new.high ≡ None
  gap_none = none_if (found w new.low new.high) (λ n is.
      fresh n (left_was (view_of a).diagram.slots (without (view_of a).diagram (k + 2)).slots (k + 2) n new (without_takes (view_of a).diagram (k + 2) old held_is)
      ((gap.indexed new.var new.low new.high n).right (ap (λ q. found q new.low new.high) (sym at_new) ∙ is))))

  pub rewritten : (b : Inside) (x : TableValue) → b.order ≡ a.order → b.limit ≡ a.limit → b.past ≡ a.past → b.nodes.slots ≡ set a.nodes.slots k (Some new) → Puts w x new.low new.high (Some (k + 2)) → length x.entries ≡ length w.entries + 1 → b.tables.items ≡ set (set a.tables.items old.var u) new.var x → IsStored b
  rewritten b x eo el ep es put len et =
      let rewrites : Rewrites (view_of a).diagram.slots (view_of b).diagram.slots (k + 2) new = rw es (slab_rewrites a.nodes.slots k old new there) in
      let put_in : Puts (table_at (set a.tables.items old.var u) new.var) x new.low new.high (Some (k + 2)) = record { here = put.here; others = λ l g other. put.others l g other ∙ ap (λ q. found q l g) at_new } in
      stored_of b (rw (et, ep) (tied_rewrite (view_of a).diagram (view_of b).diagram a.tables.items u x (k + 2) old new a.past (tied_of a s) eo el held_is rewrites below fresh
      out_puts out_count put_in (len ∙ ap (λ (q : TableValue). length q.entries + 1) at_new)))

-- a node keeps its place in the count
pub same_held : (l : List (Option Parts)) (k : ℕ) (old new : Parts) → parts_of l k ≡ Some old → count_by is_some (set l k (Some new)) ≡ count_by is_some l
same_held [] k old new is = cc
same_held (o ∷ l) zero old new is = rw is (omega (arith, count_cons is_some (Some old) l, count_cons is_some (Some new) l, one_held old, one_held new))
same_held (o ∷ l) (suc k) old new is = omega (arith, same_held l k old new is, count_cons is_some o l, count_cons is_some o (set l k (Some new)))

slotted_order : (d e : Diagram) → IsSlotted d → IsOrder e.order → length e.order ≡ length d.order → e.limit ≡ d.limit → e.slots ≡ d.slots → IsSlotted e
slotted_order d e s order len el es = record {
  order = order;
  ground = rw es s.ground;
  within = λ n p is. order.all p.var (let h = below-order (length d.order) d.order p.var s.order.once (s.within n p (rw es at is)) in omega arith);
  unique = rw es s.unique;
  few = rw (es, el) s.few;
  most = rw el s.most;
}

-- slots in another order
pub exchanged_stored : (a b : Inside) → IsStored a → IsOrder b.order → length b.order ≡ length a.order → b.limit ≡ a.limit → b.nodes.slots ≡ a.nodes.slots → b.tables.items ≡ a.tables.items → b.past ≡ a.past → IsStored b
exchanged_stored a b s order len el es et ep = record {
  slotted = slotted_order (view_of a).diagram (view_of b).diagram s.slotted order len el (ap (λ l. None ∷ None ∷ l) es);
  tables = ap length et ∙ s.tables ∙ sym len;
  indexed = rw (es, et) s.indexed;
  counted = rw (es, et) s.counted;
  numbered = rw (es, ep) s.numbered;
}

none_held : (o : Option Parts) → o ≡ None → IsSome o → ⊥
none_held o e h = false≢true (rw e at h)

pub held_big : (d : Diagram) (n : ℕ) → IsSlotted d → IsHeld d n → 2 ≤ n
held_big d n s h = elim (cases_lt n 2) [ inl small ↦ absurd (none_held (parts_of d.slots n) (s.ground n small) h) | inr more ↦ more ]

pub puts_at : (w x : TableValue) (l h m n : ℕ) → m ≡ n → Puts w x l h (Some m) → Puts w x l h (Some n)
puts_at w x l h m n e p = rw (← e) p

pub rewrites_at : (s t : List (Option Parts)) (m n : ℕ) (p q : Parts) → m ≡ n → p ≡ q → Rewrites s t m p → Rewrites s t n q
rewrites_at s t m n p q e f r = rw (← e, ← f) r

pub length-exchanged : (vs : List ℕ) (i : ℕ) → length (exchanged vs i) ≡ length vs
length-exchanged [] zero = refl
length-exchanged [] (suc i) = refl
length-exchanged (u ∷ []) zero = refl
length-exchanged (u ∷ []) (suc i) = ap suc (length-exchanged [] i)
length-exchanged (u ∷ v ∷ vs) zero = refl
length-exchanged (u ∷ v ∷ vs) (suc i) = ap suc (length-exchanged (v ∷ vs) i)
