-- A copy of slots.
use Rattle.std.proofs.Common.{◌≡◌, ℕ, zero, suc, ◌+◌, ◌<◌, ◌≤◌, List, [], ◌∷◌, ◌++◌, length, Option, Some, None, inl, inr, refl, sym, ◌∙◌, ap, arith}
use Rattle.std.proofs.lemmas.Bool.{cases_eq, cases_lt}
use Rattle.std.specs.List.{AllZip}
use Rattle.tables.specs.NodeTable.{TableValue, SameFound}
use Rattle.slab.specs.Slab.{IsSlotClone}
use Rattle.diagram_model.specs.declared.parts.Parts.{Parts}
use Rattle.node_store.specs.declared.slots.Slots.TheInside.{Inside}
use Rattle.node_store.specs.Stored.{view_of, table_at, IsStored}
use Rattle.node_store.proofs.Kept.{slotted_kept}

-- clones of slots are the slots
pub slots_same : (C : Parts → Parts → Type 0) → ((p q : Parts) → C p q → q ≡ p) → (s t : List (Option Parts)) → AllZip (IsSlotClone C) s t → t ≡ s
slots_same C same [] [] all = refl
slots_same C same [] (o ∷ t) all = absurd all
slots_same C same (o ∷ s) [] all = absurd all
slots_same C same (None ∷ s) (o ∷ t) all = rw all.0 (ap (λ l. None ∷ l) (slots_same C same s t all.1))
slots_same C same (Some p ∷ s) (None ∷ t) all = absurd all.0
slots_same C same (Some p ∷ s) (Some q ∷ t) all = ap (λ r. Some r ∷ t) (same p q all.0) ∙ ap (λ l. Some p ∷ l) (slots_same C same s t all.1)

-- tables of the same nodes
pub record SameTable (t u : TableValue) : Type 0 where
  pub found : SameFound t u
  pub count : length u.entries ≡ length t.entries

pub table_same : (t : TableValue) → SameTable t t
table_same t = record { found = λ low high. refl; count = refl }

-- a table with one more behind the others
pub at_push : (ts : List TableValue) (t : TableValue) (v : ℕ) → v < length ts → table_at (ts ++ t ∷ []) v ≡ table_at ts v
at_push [] t v lt = absurd (omega arith)
at_push (u ∷ ts) t zero lt = refl
at_push (u ∷ ts) t (suc v) lt = at_push ts t v (omega arith)

pub at_last : (ts : List TableValue) (t : TableValue) → table_at (ts ++ t ∷ []) (length ts) ≡ t
at_last [] t = refl
at_last (u ∷ ts) t = at_last ts t

-- the first i tables are copied
abbrev pub AreCopied : List TableValue → List TableValue → ℕ → Type 0
AreCopied ts us i = (v : ℕ) → v < i → SameTable (table_at ts v) (table_at us v)

-- one more table is copied
pub copied_more : (ts us : List TableValue) (i : ℕ) (t : TableValue) → length us ≡ i → AreCopied ts us i → SameTable (table_at ts i) t → AreCopied ts (us ++ t ∷ []) (i + 1)
copied_more ts us i t len all here v lt =
    elim (cases_eq v i) [
      | inl e ↦
          let at : v ≡ length us = omega arith in
          rw (ap (table_at (us ++ t ∷ [])) at ∙ at_last us t) (rw e here)
      | inr ne ↦ rw (at_push us t v (omega arith)) (all v (omega arith))
    ]

past_tables : (ts : List TableValue) (v : ℕ) → length ts ≤ v → table_at ts v ≡ record { entries = []; spare = 0; places = [] }
past_tables [] v le = refl
past_tables (t ∷ ts) zero le = absurd (omega arith)
past_tables (t ∷ ts) (suc v) le = past_tables ts v (omega arith)

-- fields with the same slots, order and limit, and tables of the same nodes, keep the same
pub copy_stored : (a b : Inside) → IsStored a → b.order ≡ a.order → b.limit ≡ a.limit → b.past ≡ a.past → b.nodes.slots ≡ a.nodes.slots → length b.tables.items ≡ length a.tables.items → AreCopied a.tables.items b.tables.items (length a.tables.items) → IsStored b
copy_stored a b s eo el ep es len same =
    let all : (v : ℕ) → SameTable (table_at a.tables.items v) (table_at b.tables.items v) = λ v.
    elim (cases_lt v (length a.tables.items)) [
      | inl lt ↦ same v lt
      | inr ge ↦ rw (past_tables a.tables.items v ge, past_tables b.tables.items v (omega (arith, ge, len))) (table_same (record { entries = []; spare = 0; places = [] }))
    ] in
    record {
      slotted = slotted_kept (view_of a).diagram (view_of b).diagram eo el (ap (λ m. None ∷ None ∷ m) es) s.slotted;
      tables = len ∙ s.tables ∙ ap length (sym eo);
      indexed = rw es (λ v low high n. record {
        right = λ h. (s.indexed v low high n).right (sym ((all v).found low high) ∙ h);
        whole = λ h. (all v).found low high ∙ (s.indexed v low high n).whole h;
      });
      counted = rw es (λ v. (all v).count ∙ s.counted v);
      numbered = rw (es, ep) s.numbered;
    }

-- a count of requests is no part of what slots keep
pub counted_stored : (a b : Inside) → IsStored a → b.order ≡ a.order → b.limit ≡ a.limit → b.past ≡ a.past → b.nodes.slots ≡ a.nodes.slots → b.tables.items ≡ a.tables.items → IsStored b
counted_stored a b s eo el ep es et =
    copy_stored a b s eo el ep es (ap length et) (λ v lt. rw et (table_same (table_at a.tables.items v)))
