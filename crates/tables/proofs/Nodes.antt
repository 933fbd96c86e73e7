-- The places of a table of nodes.
use Rattle.std.proofs.Common.{◌≡◌, ◌≢◌, ◌⊎◌, ℕ, ◌+◌, ◌<◌, ◌≤◌, Bool, true, false, eqb, ◌&&◌, List, map, length, arith, set, take, Some, None, inl, inr, refl, sym, ◌∙◌, ap, get_or}
use Rattle.std.proofs.lemmas.Bool.{cases_eq, cases_lt, and_parts, and_from, eqb-true, eq-eqb, ne_eqb, and_left, and_right}
use Rattle.std.proofs.lemmas.List.{length-map}
use Rattle.tables.specs.declared.node_table.Place.{Place}
use Rattle.tables.specs.declared.node_table.Place.TheVariants.{Free, Removed, Held}
use Rattle.tables.specs.declared.node_table.NodeTable.TheInside.{Inside}
use Rattle.tables.specs.declared.probe.Probe.{Probe}
use Rattle.tables.specs.declared.probe.Probe.TheVariants.{Found, Vacant, Full}
use Rattle.tables.specs.Searching.{LocateMeans, node_of}
use Rattle.tables.specs.Seeking.{Sought, IsSeat}
use Rattle.tables.specs.Stored.{IsStored}
use Rattle.tables.specs.Probing.{free, gone, holds, entries_of, used_of, at, IsAbsent, IsProbed, IsFirstFree}
use Rattle.tables.specs.NodeTable.{AreNodes, Children, TableValue, found_in, found, Puts}
use Rattle.tables.specs.NodePlaces.{slot_of, slots_of, home}
use Rattle.tables.proofs.Probing.{held, absent_vacant}
use Rattle.tables.proofs.Listing.{value_of as value_at, entry_place, found_listed}
use Rattle.tables.proofs.Searching.{IsTestOf, find_absent, find_found, at_slots, absent_full, no_place}
use Rattle.tables.proofs.Writing.{add_here, add_others, remove_here, remove_others}
use Rattle.tables.proofs.Copying.{SameEntries, PutsEntry}
use Rattle.tables.proofs.Copying as copying

abbrev pub is_key : ℕ → ℕ → Children → Bool
is_key low high k = eqb low k.0 && eqb high k.1

pair_of : (low high : ℕ) (k : Children) → is_key low high k ≡ true → k ≡ (low, high)
pair_of low high k e =
    let parts = and_parts (eqb low k.0) (eqb high k.1) e in
    let a = eqb-true low k.0 parts.0 in
    let b = eqb-true high k.1 parts.1 in
    sym (ap (λ x. (x, high)) a ∙ ap (λ y. (k.0, y)) b)

pub key_test : (low high : ℕ) → IsTestOf (is_key low high) (low, high)
key_test low high = record { its = and_from (eqb low low) (eqb high high) (eq-eqb low low refl) (eq-eqb high high refl); only = λ j e. pair_of low high j e }

not_key : (low high l h : ℕ) → (l ≢ low) ⊎ (h ≢ high) → is_key l h (low, high) ≡ false
not_key low high l h (inl ne) = and_left (eqb l low) (eqb h high) (ne_eqb l low ne)
not_key low high l h (inr ne) = and_right (eqb l low) (eqb h high) (ne_eqb h high ne)

-- other children differ in one of the two
unequal : (low high : ℕ) (j : Children) → j ≢ (low, high) → (j.0 ≢ low) ⊎ (j.1 ≢ high)
unequal low high j ne =
    elim (cases_eq j.0 low) [
      | inl a ↦ elim (cases_eq j.1 high) [
        | inl b ↦ absurd (ne (ap (λ x. (x, j.1)) a ∙ ap (λ y. (low, y)) b))
        | inr b ↦ inr b
      ]
      | inr a ↦ inl a
    ]

pub passes_removed : (ps : List Place) (low high i : ℕ) → get_or ps i Free ≡ Removed → (at (slots_of ps) i ≢ free) × ((v : ℕ) → at (slots_of ps) i ≢ holds (low, high) v)
passes_removed ps low high i is =
    let e : at (slots_of ps) i ≡ gone = at_slots slot_of Free refl ps i ∙ ap slot_of is in
    ((λ x. absurd (cc)), (λ v x. absurd (cc)))

pub passes_held : (ps : List Place) (low high i l h n : ℕ) → get_or ps i Free ≡ Held l h n → (l ≢ low) ⊎ (h ≢ high) → (at (slots_of ps) i ≢ free) × ((v : ℕ) → at (slots_of ps) i ≢ holds (low, high) v)
passes_held ps low high i l h n is ne =
    let e : at (slots_of ps) i ≡ holds (l, h) n = at_slots slot_of Free refl ps i ∙ ap slot_of is in (
      (λ x. absurd (cc)),
      (λ v x.
          let k : (l, h) ≡ (low, high) = cc in
          elim ne [ inl a ↦ a (ap (λ (q : Children). q.0) k) | inr b ↦ b (ap (λ (q : Children). q.1) k) ]),
    )

-- a table of places, and one place of it written
abbrev pub value_of : List Place → ℕ → TableValue
value_of ps room = record { entries = entries_of (slots_of ps); spare = room; places = slots_of ps }

-- where a node goes, by the places themselves
pub seat_first : (ps : List Place) (room low high i : ℕ) → IsSeat (value_of ps room) low high i → IsFirstFree (slots_of ps) (low, high) (home (length ps) (low, high)) i
seat_first ps room low high i seat = rw (length-map ps slot_of) at seat

-- what a search over all places says of the table
pub sought : (ps : List Place) (room low high : ℕ) (r : Probe) → IsProbed (home (length ps)) (slots_of ps) → used_of (slots_of ps) + room ≤ length ps → LocateMeans slot_of ps (home (length ps) (low, high)) (low, high) r → Sought (value_of ps room) low high r
sought ps room low high (Found i n) p few h = find_found (is_key low high) (low, high) (key_test low high) (home (length ps)) (slots_of ps) i n p h.1
sought ps room low high (Vacant i) p few h = (
  find_absent (is_key low high) (low, high) (key_test low high) (slots_of ps) (absent_vacant (home (length ps)) (slots_of ps) (low, high) i p h),
  rw (length-map ps slot_of) h,
)
sought ps room low high Full p few h = (
  find_absent (is_key low high) (low, high) (key_test low high) (slots_of ps) (absent_full slot_of Free refl ps (low, high) h),
  elim (cases_lt 0 room) [ inl some ↦ absurd (no_place slot_of Free refl ps (low, high) room h few some) | inr none ↦ omega (arith, none) ],
)

pub node_sought : (t : TableValue) (low high : ℕ) (r : Probe) → Sought t low high r → node_of r ≡ found t low high
node_sought t low high (Found i n) h = sym h
node_sought t low high (Vacant i) h = sym h.0
node_sought t low high Full h = sym h.0

pub add_puts : (ps : List Place) (low high node i r t : ℕ) → IsProbed (home (length ps)) (slots_of ps) → IsFirstFree (slots_of ps) (low, high) (home (length ps) (low, high)) i → Puts (value_of ps r) (value_of (set ps i (Held low high node)) t) low high (Some node)
add_puts ps low high node i r t p first = record {
  here = add_here home slot_of ps (Held low high node) (low, high) node i refl p first (is_key low high) (key_test low high);
  others = λ l h ne. add_others home slot_of ps (Held low high node) (low, high) node i refl p first (is_key l h) (not_key low high l h ne);
}

pub remove_puts : (ps : List Place) (low high node i r t : ℕ) → IsProbed (home (length ps)) (slots_of ps) → at (slots_of ps) i ≡ holds (low, high) node → Puts (value_of ps r) (value_of (set ps i Removed) t) low high None
remove_puts ps low high node i r t p here = record {
  here = remove_here home slot_of ps Removed (low, high) node i refl p here (is_key low high) (key_test low high);
  others = λ l h ne. remove_others home slot_of ps Removed (low, high) node i refl p here (is_key l h) (not_key low high l h ne);
}

pub absent_puts : (ps : List Place) (low high r : ℕ) → IsAbsent (slots_of ps) (low, high) → Puts (value_of ps r) (value_of ps r) low high None
absent_puts ps low high r absent = record { here = find_absent (is_key low high) (low, high) (key_test low high) (slots_of ps) absent; others = λ l h ne. refl }

-- the table finds what stands at the places
abbrev pub Copies : TableValue → List Place → Type 0
Copies t ps = (low high : ℕ) → found t low high ≡ found_in (entries_of (slots_of ps)) low high

abbrev key_at : Children → Children → Bool
key_at a = is_key a.0 a.1

key_tests : (a : Children) → IsTestOf (key_at a) a
key_tests a = key_test a.0 a.1

-- how many entries one more place makes
pub one_more : (ps : List Place) (i : ℕ) (p : Place) → i < length ps → get_or ps i Free ≡ p → length (entries_of (slots_of (take (i + 1) ps))) ≡ length (entries_of (slots_of (take i ps))) + held (slot_of p)
one_more ps i p lt is = copying.count_more slot_of Free refl ps i lt ∙ ap (λ q. length (entries_of (slots_of (take i ps))) + held (slot_of q)) is

pub copies_held : (t u : TableValue) (ps : List Place) (i low high node : ℕ) → i < length ps → get_or ps i Free ≡ Held low high node → Copies t (take i ps) → found t low high ≡ None → Puts t u low high (Some node) → Copies u (take (i + 1) ps)
copies_held t u ps i low high node lt is same none puts l h =
    let put : PutsEntry key_at t.entries u.entries (low, high) node = record { here = puts.here; others = λ j ne. puts.others j.0 j.1 (unequal low high j ne) } in
    copying.copies_held slot_of Free refl key_at key_tests t.entries u.entries ps i (low, high) node lt (ap slot_of is) (λ k. same k.0 k.1) none put (l, h)

pub copies_none : (t : TableValue) (ps : List Place) (i : ℕ) → i < length ps → held (slot_of (get_or ps i Free)) ≡ 0 → Copies t (take i ps) → Copies t (take (i + 1) ps)
copies_none t ps i lt none same l h = copying.copies_none slot_of Free refl key_at t.entries ps i lt none (λ k. same k.0 k.1) (l, h)

-- the values of the places are the nodes of the table
pub nodes_listed : (ps : List Place) (room : ℕ) (ns : List ℕ) → IsProbed (home (length ps)) (slots_of ps) → ns ≡ map value_at (entries_of (slots_of ps)) → AreNodes (value_of ps room) ns
nodes_listed ps room ns p is = rw is (record {
  each = λ i lt.
      let h = entry_place (slots_of ps) i (omega (arith, lt, length-map (entries_of (slots_of ps)) value_at)) in
      (h.key.0, h.key.1, find_found (is_key h.key.0 h.key.1) (h.key.0, h.key.1) (key_test h.key.0 h.key.1) (home (length ps)) (slots_of ps) h.place (get_or (map value_at (entries_of (slots_of ps))) i 0) p h.is);
  all = λ low high n found. let h = found_listed (is_key low high) (entries_of (slots_of ps)) n found in (h.index, h.within, h.is);
  count = length-map (entries_of (slots_of ps)) value_at;
})

-- a table whose removed places were freed in part
pub refreshed : (a b : Inside) (new : List Place) (freed : ℕ) → IsStored a → b.places.items ≡ new → b.room ≡ a.room + freed → b.len ≡ a.len → length new ≡ length a.places.items → entries_of (slots_of new) ≡ entries_of (slots_of a.places.items) → used_of (slots_of new) + freed ≡ used_of (slots_of a.places.items) → ((start : Children → ℕ) → IsProbed start (slots_of a.places.items) → IsProbed start (slots_of new)) → IsStored b
refreshed a b new freed s is room count len entries used probed = record {
  probed = rw is (rw len (probed (home (length a.places.items)) s.probed));
  few = rw is (omega (arith, room, used, len, s.few));
  size = rw is (omega (arith, len, s.size));
  count = rw is (count ∙ s.count ∙ ap length (sym entries));
}
