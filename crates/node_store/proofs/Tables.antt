-- The tables find the nodes, before and after a node is added.
use Rattle.std.proofs.Common.{◌≡◌, ◌≢◌, ◌⊎◌, ℕ, ◌+◌, ◌<◌, List, [], ◌∷◌, length, Option, Some, None, get_or, set, inl, inr, refl, sym, ◌∙◌, ap, arith, count_by, get_or-set_other, get_or-set_same, zero, suc}
use Rattle.std.proofs.lemmas.Bool.{cases_eq}
use Rattle.slab.specs.Slab.{Slab, get, Updates}
use Rattle.diagram_model.specs.declared.parts.Parts.{Parts}
use Rattle.diagram_model.specs.Nodes.{parts_of}
use Rattle.diagram_model.specs.Stores.{PutsNode}
use Rattle.diagram_model.proofs.Extend.{keeps_put, here}
use Rattle.tables.specs.NodeTable.{TableValue, found, Puts, SameFound}
use Rattle.diagram_model.specs.Nodes.{AreUnique}
use Rattle.node_store.specs.Slots.{parts, Takes, Rewrites, is_of}
use Rattle.node_store.specs.Stored.{table_at, AreIndexed, AreCounted}
use Rattle.node_store.proofs.Freed.{left_was, not_gone}

some_parts : (p q : Parts) → Some p ≡ Some q → p ≡ q
some_parts p q e = cc

some_number : (m n : ℕ) → Some m ≡ Some n → m ≡ n
some_number m n e = cc

-- the tables with one of them replaced
pub table_at-same : (ts : List TableValue) (v : ℕ) (t : TableValue) → v < length ts → table_at (set ts v t) v ≡ t
table_at-same ts v t h = get_or-set_same ts v t (record { entries = []; spare = 0; places = [] }) h

pub table_at-other : (ts : List TableValue) (v u : ℕ) (t : TableValue) → u ≢ v → table_at (set ts v t) u ≡ table_at ts u
table_at-other ts v u t ne = get_or-set_other ts v u t (record { entries = []; spare = 0; places = [] }) ne

-- the tables find as before where one of them is replaced by one that does
pub indexed_same : (s : List (Option Parts)) (ts : List TableValue) (v : ℕ) (t : TableValue) → v < length ts → SameFound (table_at ts v) t → AreIndexed s ts → AreIndexed s (set ts v t)
indexed_same s ts v t within same indexed u low high n =
    let e : found (table_at (set ts v t) u) low high ≡ found (table_at ts u) low high =
    elim (cases_eq u v) [
      | inl at ↦ ap (λ w. found (table_at (set ts v t) w) low high) at ∙ ap (λ r. found r low high) (table_at-same ts v t within) ∙ same low high ∙ ap (λ w. found (table_at ts w) low high) (sym at)
      | inr ne ↦ ap (λ r. found r low high) (table_at-other ts v u t ne)
    ] in
    record { right = λ h. (indexed u low high n).right (sym e ∙ h); whole = λ h. e ∙ (indexed u low high n).whole h }

parts_parts : (u l h : ℕ) (p : Parts) → p ≡ record { var = u; low = l; high = h } → (u ≡ p.var) × (l ≡ p.low) × (h ≡ p.high)
parts_parts u l h p e = (sym (ap (λ (r : Parts). r.var) e), sym (ap (λ (r : Parts). r.low) e), sym (ap (λ (r : Parts). r.high) e))

same_parts : (u l h : ℕ) (p : Parts) → u ≡ p.var → l ≡ p.low → h ≡ p.high → p ≡ parts u l h
same_parts u l h p e f g =
    ap (λ v. parts v p.low p.high) (sym e) ∙ ap (λ v. parts u v p.high) (sym f) ∙ ap (λ v. parts u l v) (sym g)

cases_parts : (u l h : ℕ) (p : Parts) → (p ≡ parts u l h) ⊎ ((u ≢ p.var) ⊎ ((l ≢ p.low) ⊎ (h ≢ p.high)))
cases_parts u l h p =
    elim (cases_eq u p.var) [
      | inl e ↦ elim (cases_eq l p.low) [
        | inl f ↦ elim (cases_eq h p.high) [
          | inl g ↦ inl (same_parts u l h p e f g)
          | inr g ↦ inr (inr (inr g))
        ]
        | inr f ↦ inr (inr (inl f))
      ]
      | inr e ↦ inr (inl e)
    ]

put_at : (s t : List (Option Parts)) (n : ℕ) (p : Parts) → PutsNode s t n p → ((m : ℕ) → parts_of s m ≢ Some p) → (m : ℕ) → parts_of t m ≡ Some p → m ≡ n
put_at s t n p puts new m g =
    elim (cases_eq m n) [ inl e ↦ e | inr ne ↦ absurd (new m (sym (puts.others m ne) ∙ g)) ]

elsewhere : (ts : List TableValue) (p : Parts) (r : TableValue) → p.var < length ts → {n : Option ℕ} → Puts (table_at ts p.var) r p.low p.high n → (u l h : ℕ) → (u ≢ p.var) ⊎ ((l ≢ p.low) ⊎ (h ≢ p.high)) → found (table_at (set ts p.var r) u) l h ≡ found (table_at ts u) l h
elsewhere ts p r within table u l h (inl ne) = ap (λ q. found q l h) (table_at-other ts p.var u r ne)
elsewhere ts p r within table u l h (inr ne) =
    elim (cases_eq u p.var) [
      | inl e ↦ ap (λ w. found (table_at (set ts p.var r) w) l h) e ∙ ap (λ q. found q l h) (table_at-same ts p.var r within) ∙ table.others l h ne ∙ ap (λ w. found (table_at ts w) l h) (sym e)
      | inr other ↦ ap (λ q. found q l h) (table_at-other ts p.var u r other)
    ]

not_put : (s t : List (Option Parts)) (n : ℕ) (p : Parts) → PutsNode s t n p → (u l h m : ℕ) → (u ≢ p.var) ⊎ ((l ≢ p.low) ⊎ (h ≢ p.high)) → parts_of t m ≡ Some (parts u l h) → parts_of s m ≡ Some (parts u l h)
not_put s t n p puts u l h m ne g =
    elim (cases_eq m n) [
      | inl e ↦ absurd (
          let q = parts_parts u l h p (here s t n p puts m (parts u l h) e g) in
          elim ne [ inl a ↦ a q.0 | inr a ↦ elim a [ inl b ↦ b q.1 | inr b ↦ b q.2 ] ])
      | inr other ↦ sym (puts.others m other) ∙ g
    ]

-- the tables once the node n with the parts p is put into its table
pub indexed_put : (s t : List (Option Parts)) (ts : List TableValue) (n : ℕ) (p : Parts) (r : TableValue) → p.var < length ts → PutsNode s t n p → ((m : ℕ) → parts_of s m ≢ Some p) → Puts (table_at ts p.var) r p.low p.high (Some n) → AreIndexed s ts → AreIndexed t (set ts p.var r)
indexed_put s t ts n p r within puts new table indexed u l h m =
    let at_here : found (table_at (set ts p.var r) p.var) p.low p.high ≡ Some n = ap (λ q. found q p.low p.high) (table_at-same ts p.var r within) ∙ table.here in
    elim (cases_parts u l h p) [
      | inl e ↦
          let f : found (table_at (set ts p.var r) u) l h ≡ Some n = ap (λ (q : Parts). found (table_at (set ts p.var r) q.var) q.low q.high) (sym e) ∙ at_here in
          record {
            right = λ g. ap (λ k. parts_of t k) (some_number m n (sym g ∙ f)) ∙ puts.here ∙ ap (λ q. Some q) e;
            whole = λ g. f ∙ ap (λ k. Some k) (sym (put_at s t n p puts new m (g ∙ ap (λ q. Some q) (sym e))));
          }
      | inr ne ↦
          let same : found (table_at (set ts p.var r) u) l h ≡ found (table_at ts u) l h = elsewhere ts p r within table u l h ne in
          record {
            right = λ g. keeps_put s t n p puts m (parts u l h) ((indexed u l h m).right (sym same ∙ g));
            whole = λ g. same ∙ (indexed u l h m).whole (not_put s t n p puts u l h m ne g);
          }
    ]

number_none : (n : ℕ) → None ≡ Some n → ⊥
number_none n e = cc

differs : (u l h : ℕ) (p : Parts) → (u ≢ p.var) ⊎ ((l ≢ p.low) ⊎ (h ≢ p.high)) → p ≢ parts u l h
differs u l h p ne e =
    let q = parts_parts u l h p e in
    elim ne [ inl a ↦ a q.0 | inr a ↦ elim a [ inl b ↦ b q.1 | inr b ↦ b q.2 ] ]

-- the tables once the node n with the parts p is taken out of its table
pub indexed_take : (s t : List (Option Parts)) (ts : List TableValue) (n : ℕ) (p : Parts) (r : TableValue) → p.var < length ts → Takes s t n → parts_of s n ≡ Some p → AreUnique s → Puts (table_at ts p.var) r p.low p.high None → AreIndexed s ts → AreIndexed t (set ts p.var r)
indexed_take s t ts n p r within takes is unique table indexed u l h m =
    let at_here : found (table_at (set ts p.var r) p.var) p.low p.high ≡ None = ap (λ q. found q p.low p.high) (table_at-same ts p.var r within) ∙ table.here in
    elim (cases_parts u l h p) [
      | inl e ↦
          let f : found (table_at (set ts p.var r) u) l h ≡ None = ap (λ (q : Parts). found (table_at (set ts p.var r) q.var) q.low q.high) (sym e) ∙ at_here in
          record {
            right = λ g. absurd (number_none m (sym f ∙ g));
            whole = λ g. absurd (not_gone s t n m (parts u l h) takes g (unique m n p (left_was s t n m (parts u l h) takes g ∙ ap (λ q. Some q) (sym e)) is));
          }
      | inr ne ↦
          let same : found (table_at (set ts p.var r) u) l h ≡ found (table_at ts u) l h = elsewhere ts p r within table u l h ne in
          record {
            right = λ g.
                let old = (indexed u l h m).right (sym same ∙ g) in
                takes.others m (λ at. differs u l h p ne (some_parts p (parts u l h) (sym is ∙ ap (parts_of s) (sym at) ∙ old))) ∙ old;
            whole = λ g. same ∙ (indexed u l h m).whole (left_was s t n m (parts u l h) takes g);
          }
    ]

-- the counts once one table is another one
pub counted_set : (s t : List (Option Parts)) (ts : List TableValue) (v : ℕ) (r : TableValue) → v < length ts → AreCounted s ts → ((w : ℕ) → v ≢ w → count_by (is_of w) t ≡ count_by (is_of w) s) → length r.entries ≡ count_by (is_of v) t → AreCounted t (set ts v r)
counted_set s t ts v r within counted others here w =
    elim (cases_eq v w) [
      | inl e ↦
          ap (λ k. length (table_at (set ts v r) k).entries) (sym e) ∙ ap (λ (q : TableValue). length q.entries) (table_at-same ts v r within) ∙ here ∙ ap (λ k. count_by (is_of k) t) e
      | inr ne ↦
          ap (λ (q : TableValue). length q.entries) (table_at-other ts v w r (λ e. ne (sym e))) ∙ counted w ∙ sym (others w ne)
    ]

-- the slots of a slab, two places on
pub get_past_two : (l : List (Option Parts)) (k : ℕ) → parts_of (None ∷ None ∷ l) (k + 2) ≡ get_or l k None
get_past_two l k = let e : k + 2 ≡ suc (suc k) = omega arith in rw e refl

-- a slab with another value at one key is the same at all others
slab_rest : (old new : Slab Parts) (key : ℕ) (o : Option Parts) → Updates old new key o → (m : ℕ) → m ≢ key + 2 → parts_of (None ∷ None ∷ new.slots) m ≡ parts_of (None ∷ None ∷ old.slots) m
slab_rest old new key o updates zero ne = refl
slab_rest old new key o updates (suc zero) ne = refl
slab_rest old new key o updates (suc (suc m)) ne = updates.others m (λ e. ne (omega arith))

-- a slab that got a value at a key
pub slab_puts : (old new : Slab Parts) (key : ℕ) (p : Parts) → get old key ≡ None → Updates old new key (Some p) → PutsNode (None ∷ None ∷ old.slots) (None ∷ None ∷ new.slots) (key + 2) p
slab_puts old new key p vacant updates = record {
  free = get_past_two old.slots key ∙ vacant;
  here = get_past_two new.slots key ∙ updates.changed;
  others = slab_rest old new key (Some p) updates;
}

-- a slab that lost the value at a key
pub slab_takes : (old new : Slab Parts) (key : ℕ) → Updates old new key None → Takes (None ∷ None ∷ old.slots) (None ∷ None ∷ new.slots) (key + 2)
slab_takes old new key updates = record {
  gone = get_past_two new.slots key ∙ updates.changed;
  others = slab_rest old new key None updates;
}

set_rest : (l : List (Option Parts)) (key : ℕ) (o : Option Parts) (m : ℕ) → m ≢ key + 2 → parts_of (None ∷ None ∷ set l key o) m ≡ parts_of (None ∷ None ∷ l) m
set_rest l key o zero ne = refl
set_rest l key o (suc zero) ne = refl
set_rest l key o (suc (suc m)) ne = get_or-set_other l key m o None (λ e. ne (omega arith))

-- a place that has a node is within the list
pub within_list : (s : List (Option Parts)) (n : ℕ) (p : Parts) → parts_of s n ≡ Some p → n < length s
within_list [] n p is = cc
within_list (o ∷ s) zero p is = omega arith
within_list (o ∷ s) (suc n) p is = let h = within_list s n p is in omega arith

-- the slots of a slab with another value at a key
pub slab_rewrites : (l : List (Option Parts)) (key : ℕ) (old new : Parts) → parts_of l key ≡ Some old → Rewrites (None ∷ None ∷ l) (None ∷ None ∷ set l key (Some new)) (key + 2) new
slab_rewrites l key old new is = record {
  here = get_past_two (set l key (Some new)) key ∙ get_or-set_same l key (Some new) None (within_list l key old is);
  others = set_rest l key (Some new);
}
