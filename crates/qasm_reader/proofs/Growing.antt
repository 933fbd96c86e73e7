-- The circuit of the statements so far, with one statement more.
use Rattle.std.proofs.Common.{◌≡◌, ◌≢◌, ◌∙◌, sym, ap, refl, subst, ◌≤◌, ◌<◌, ◌⊎◌, inl, inr, ℕ, zero, suc, ◌+◌, ◌*◌, Bool, true, false, ◌||◌, nat_eq, List, [], ◌∷◌, ◌++◌, length, map, replicate, set, get_or, All, append_assoc, arith, length-append}
use Rattle.std.specs.List.{flat_map, AllByRecursion}
use Rattle.std.proofs.Math.Nat.{mul-suc}
use Rattle.std.proofs.lemmas.Bool.{cases_lt, cases_order, eq-eqb, ne_eqb, or_right}
use Rattle.std.proofs.lemmas.List.{length-map, length-replicate, length-set, map-append, get_or-map, get_or_past, get_or_append_left, get_or_at, set_past, set_at, set-append_left, append-nil}
use Rattle.std.proofs.lemmas.List.Elements.{All-append, All-nil, All-map, All-push, All-weaker, All-head, All-tail}
use Rattle.std.proofs.lemmas.List.Folds.{list_any-append, list_any_none}
use Rattle.std.proofs.lemmas.List.Sums.{sum_by-append}
use Rattle.std.proofs.lemmas.Grind.{flat_map-append}
use Rattle.gate_set.specs.declared.gate.Gate.{Gate}
use Rattle.gate_set.specs.Shape.{IsOn}
use Rattle.qasm_gates.specs.Gates.{Item, up_to, placed}
use Rattle.qasm_reader.specs.Acts.{Act, nothing, declares, measures, applies, Register, Target, qubits_in, qubit_count, registers_in, registers_from, registers, place_count, qubit_at, qubits_at, product, gates_in, gates, items_in, item_count, defined_in, definitions, qubits_of, measured_in, measured, is_among}
use Rattle.qasm_reader.specs.Private.Scope.{flagged}
use Rattle.qasm_reader.specs.Private.Drafts.{Draft, EndsWithin, IsDraft, draft_of, AreSound, Follows, with_qubits, with_bits, raised, with_measured, with_gates}
use Rattle.qasm_gates.proofs.Placed.{replicate_next}
use Rattle.std.proofs.Math.Bool.{or-false}

length-up_to : (n : ℕ) → length (up_to n) ≡ n
length-up_to zero = refl
length-up_to (suc n) = let h = length-up_to n in omega (arith, length-append (up_to n) (n ∷ []))

get_or-up_to : (n i d : ℕ) → i < n → get_or (up_to n) i d ≡ i
get_or-up_to zero i d h = absurd (omega arith)
get_or-up_to (suc n) i d h = elim (cases_lt i n) [
  | inl l ↦ get_or_append_left (up_to n) (n ∷ []) d i (let e = length-up_to n in omega arith) ∙ get_or-up_to n i d l
  | inr g ↦ (let e : i ≡ n = omega arith in get_or_at (up_to n) n [] d i (length-up_to n ∙ sym e) ∙ sym e)
]

All-up_to : (P : ℕ → Type 0) (n : ℕ) → ((x : ℕ) → x < n → P x) → All P (up_to n)
All-up_to P zero h = All-nil P
All-up_to P (suc n) h = All-push P (up_to n) n (All-up_to P n (λ x l. h x (omega arith))) (h n (omega arith))

length-each : {X A : Type 0} (f : X → List A) (times : ℕ) → ((x : X) → length (f x) ≡ times) → (xs : List X) → length (flat_map f xs) ≡ times * length xs
length-each f times same [] = omega arith
length-each f times same (x ∷ xs) = let h = length-each f times same xs in omega (arith, length-append (f x) (flat_map f xs), mul-suc times (length xs), same x)

pub length_product : (items : List Item) (ts : List Target) → length (product items ts) ≡ length items * place_count ts
length_product items ts =
    length-each (λ place. map (placed (qubits_at ts place)) items) (length items) (λ place. length-map items (placed (qubits_at ts place))) (up_to (place_count ts))
    ∙ ap (λ n. length items * n) (length-up_to (place_count ts))

pub qubit_count_more : (before : List Act) (a : Act) → qubit_count (before ++ a ∷ []) ≡ qubit_count before + qubits_in a
qubit_count_more [] a = omega arith
qubit_count_more (b ∷ before) a = let h = qubit_count_more before a in omega arith

-- what one act more adds
registers_from_more : (before acts : List Act) (a : Act) → registers_from before (acts ++ a ∷ []) ≡ registers_from before acts ++ registers_in (before ++ acts) a
registers_from_more before [] a = append-nil (registers_in before a) ∙ ap (λ b. registers_in b a) (sym (append-nil before))
registers_from_more before (x ∷ acts) a =
    ap (λ r. registers_in before x ++ r) (registers_from_more (before ++ x ∷ []) acts a)
    ∙ sym (append_assoc (registers_in before x) (registers_from (before ++ x ∷ []) acts) (registers_in ((before ++ x ∷ []) ++ acts) a))
    ∙ ap (λ b. (registers_in before x ++ registers_from (before ++ x ∷ []) acts) ++ registers_in b a) (append_assoc before (x ∷ []) acts)

pub registers_more : (before : List Act) (a : Act) → registers (before ++ a ∷ []) ≡ registers before ++ registers_in before a
registers_more before a = registers_from_more [] before a

pub gates_more : (before : List Act) (a : Act) → gates (before ++ a ∷ []) ≡ gates before ++ gates_in a
gates_more before a = flat_map-append gates_in before (a ∷ []) ∙ ap (λ r. gates before ++ r) (append-nil (gates_in a))

pub item_count_more : (before : List Act) (a : Act) → item_count (before ++ a ∷ []) ≡ item_count before + items_in a
item_count_more before a = let e = sum_by-append items_in before (a ∷ []) in omega arith

pub definitions_more : (before : List Act) (a : Act) → definitions (before ++ a ∷ []) ≡ definitions before ++ defined_in a
definitions_more before a = flat_map-append defined_in before (a ∷ []) ∙ ap (λ r. definitions before ++ r) (append-nil (defined_in a))

pub measured_more : (before : List Act) (a : Act) → measured (before ++ a ∷ []) ≡ measured before ++ measured_in a
measured_more before a = flat_map-append measured_in before (a ∷ []) ∙ ap (λ r. measured before ++ r) (append-nil (measured_in a))

-- a number that isn't below the bound of all of them isn't among them
not_among : (n : ℕ) (gone : List ℕ) (q : ℕ) → All (λ p. p < n) gone → n ≤ q → is_among gone q ≡ false
not_among n gone q a h = list_any_none (nat_eq q) gone (All-weaker (λ p. p < n) (λ p. nat_eq q p ≡ false) (λ p l. ne_eqb q p (λ e. omega arith)) gone a)

pub flagged_is : (n : ℕ) (gone : List ℕ) (q : ℕ) → All (λ p. p < n) gone → flagged (map (is_among gone) (up_to n)) q ≡ is_among gone q
flagged_is n gone q a = elim (cases_lt q n) [
  | inl l ↦ get_or-map (is_among gone) (up_to n) q q false (let e = length-up_to n in omega arith) ∙ ap (is_among gone) (get_or-up_to n q q l)
  | inr g ↦ get_or_past (map (is_among gone) (up_to n)) q false (let e = length-up_to n in let m = length-map (up_to n) (is_among gone) in omega arith) ∙ sym (not_among n gone q a g)
]

pub raised_next : (flags : List Bool) (qs : List ℕ) (q : ℕ) → raised flags (qs ++ q ∷ []) ≡ set (raised flags qs) q true
raised_next flags [] q = refl
raised_next flags (p ∷ qs) q = raised_next (set flags p true) qs q

-- the flags of one more place of an argument
pub raised_place : (start flags : List Bool) (t : Target) (place next : ℕ) → next ≡ place + 1 → flags ≡ raised start (map (λ p. qubit_at p t) (up_to place))
    → set flags (qubit_at place t) true ≡ raised start (map (λ p. qubit_at p t) (up_to next))
raised_place start flags t place next n h =
    let f : ℕ → ℕ = λ p. qubit_at p t in
    let s : suc place ≡ next = omega arith in
    ap (λ x. set x (f place) true) h ∙ sym (raised_next start (map f (up_to place)) (f place)) ∙ ap (raised start) (sym (map-append f (up_to place) (place ∷ [])))
    ∙ ap (λ m. raised start (map f (up_to m))) s

pub length_raised : (flags : List Bool) (qs : List ℕ) → length (raised flags qs) ≡ length flags
length_raised flags [] = refl
length_raised flags (q ∷ qs) = length_raised (set flags q true) qs ∙ length-set flags q true

-- the flags of one number more
module _ (f g : ℕ → Bool) (q : ℕ) (here : g q ≡ true) (others : (x : ℕ) → x ≢ q → f x ≡ g x) where
  set_last : (n : ℕ) → set (map f (up_to n)) q true ≡ map g (up_to n) → set (map f (up_to n) ++ f n ∷ []) q true ≡ map g (up_to n) ++ g n ∷ []
  set_last n before = by (cases_order q n)
    where
      long : length (map f (up_to n)) ≡ n
      long = length-map (up_to n) f ∙ length-up_to n

      by : (q ≡ n) ⊎ ((q < n) ⊎ (n < q)) → set (map f (up_to n) ++ f n ∷ []) q true ≡ map g (up_to n) ++ g n ∷ []
      by (inl e) =
          set_at (map f (up_to n)) (f n) [] true q (long ∙ sym e) ∙ ap (λ l. l ++ true ∷ []) (sym (set_past (map f (up_to n)) q true (let m = long in omega arith)) ∙ before)
          ∙ ap (λ b. map g (up_to n) ++ b ∷ []) (sym here ∙ ap g e)
      by (inr (inl l)) =
          set-append_left (map f (up_to n)) (f n ∷ []) q true (let m = long in omega arith) ∙ ap (λ l. l ++ f n ∷ []) before ∙ ap (λ b. map g (up_to n) ++ b ∷ []) (others n (λ e. omega arith))
      by (inr (inr l)) =
          set_past (map f (up_to n) ++ f n ∷ []) q true (let m = long in omega (arith, length-append (map f (up_to n)) (f n ∷ [])))
          ∙ ap (λ l. l ++ f n ∷ []) (sym (set_past (map f (up_to n)) q true (let m = long in omega arith)) ∙ before) ∙ ap (λ b. map g (up_to n) ++ b ∷ []) (others n (λ e. omega arith))

  set_flag : (n : ℕ) → set (map f (up_to n)) q true ≡ map g (up_to n)
  set_flag zero = refl
  set_flag (suc n) = ap (λ l. set l q true) (map-append f (up_to n) (n ∷ [])) ∙ set_last n (set_flag n) ∙ sym (map-append g (up_to n) (n ∷ []))

among_last : (gone : List ℕ) (q : ℕ) → is_among (gone ++ q ∷ []) q ≡ true
among_last gone q = list_any-append (nat_eq q) gone (q ∷ []) ∙ or_right (is_among gone q) _ (ap (λ b. b || false) (eq-eqb q q refl))

among_others : (gone : List ℕ) (q x : ℕ) → x ≢ q → is_among gone x ≡ is_among (gone ++ q ∷ []) x
among_others gone q x h = sym (list_any-append (nat_eq x) gone (q ∷ []) ∙ ap (λ b. is_among gone x || (b || false)) (ne_eqb x q h) ∙ or-false (is_among gone x))

-- raising flags marks more numbers
pub raised_is : (n : ℕ) (gone qs : List ℕ) → raised (map (is_among gone) (up_to n)) qs ≡ map (is_among (gone ++ qs)) (up_to n)
raised_is n gone [] = ap (λ g. map (is_among g) (up_to n)) (sym (append-nil gone))
raised_is n gone (q ∷ qs) =
    ap (λ flags. raised flags qs) (set_flag (is_among gone) (is_among (gone ++ q ∷ [])) q (among_last gone q) (among_others gone q) n)
    ∙ raised_is n (gone ++ q ∷ []) qs ∙ ap (λ g. map (is_among g) (up_to n)) (append_assoc gone (q ∷ []) qs)

-- the numbers from n on have no flag
flags_past : (g : ℕ → Bool) (n : ℕ) → ((x : ℕ) → n ≤ x → g x ≡ false) → (size : ℕ) → map g (up_to (n + size)) ≡ map g (up_to n) ++ replicate size false
flags_past g n h zero = let e : n + 0 ≡ n = omega arith in ap (λ m. map g (up_to m)) e ∙ sym (append-nil (map g (up_to n)))
flags_past g n h (suc size) =
    let e : n + suc size ≡ suc (n + size) = omega arith in
    let s : suc size ≡ size + 1 = omega arith in
    ap (λ m. map g (up_to m)) e ∙ map-append g (up_to (n + size)) ((n + size) ∷ []) ∙ ap (λ b. map g (up_to (n + size)) ++ b ∷ []) (h (n + size) (omega arith))
    ∙ ap (λ l. l ++ false ∷ []) (flags_past g n h size) ∙ append_assoc (map g (up_to n)) (replicate size false) (false ∷ [])
    ∙ ap (λ l. map g (up_to n) ++ l) (sym (replicate_next size (suc size) false s))

all_flat_map : {X A : Type 0} (P : A → Type 0) (f : X → List A) (xs : List X) → All (λ x. All P (f x)) xs → All P (flat_map f xs)
all_flat_map P f [] h = All-nil P
all_flat_map P f (x ∷ xs) h =
    All-append P (f x) (flat_map f xs) (All-head (λ x. All P (f x)) x xs h) (all_flat_map P f xs (All-tail (λ x. All P (f x)) x xs h))

all_product : (P : Gate → Type 0) (items : List Item) (ts : List Target) → ((place : ℕ) → place < place_count ts → All P (map (placed (qubits_at ts place)) items)) → All P (product items ts)
all_product P items ts h =
    all_flat_map P (λ place. map (placed (qubits_at ts place)) items) (up_to (place_count ts))
    (All-up_to (λ place. All P (map (placed (qubits_at ts place)) items)) (place_count ts) h)

ends_more : (n m : ℕ) → n ≤ m → (rs : List (List ℕ × Register)) → AllByRecursion (EndsWithin n) rs → AllByRecursion (EndsWithin m) rs
ends_more n m h [] a = tt
ends_more n m h (r ∷ rs) a = (λ e. (let l = (a.0 e).1 in ((a.0 e).0, omega arith)), ends_more n m h rs a.1)

ends_push : (n : ℕ) (rs : List (List ℕ × Register)) (r : List ℕ × Register) → AllByRecursion (EndsWithin n) rs → EndsWithin n r → AllByRecursion (EndsWithin n) (rs ++ r ∷ [])
ends_push n [] r a h = (h, tt)
ends_push n (x ∷ rs) r a h = (a.0, ends_push n rs r a.1 h)

on_more : (n m : ℕ) → n ≤ m → (g : Gate) → IsOn n g → IsOn m g
on_more n m h g p = record { placed = p.placed; below = All-weaker (λ q. q < n) (λ q. q < m) (λ q l. omega arith) (g.extra ++ g.on) p.below }

abbrev draft : List (List ℕ × Register) → ℕ → List Gate → List Bool → ℕ → Draft
draft r q g m n = record { registers = r; qubits = q; gates = g; measured = m; items = n }

draft_is : (d : Draft) (acts : List Act) → d.registers ≡ registers acts → d.qubits ≡ qubit_count acts → d.gates ≡ gates acts → d.measured ≡ map (is_among (measured acts)) (up_to (qubit_count acts)) → d.items ≡ item_count acts
    → d ≡ draft_of acts
draft_is d acts r q g m n =
    ap (λ x. draft x d.qubits d.gates d.measured d.items) r ∙ ap (λ x. draft (registers acts) x d.gates d.measured d.items) q
    ∙ ap (λ x. draft (registers acts) (qubit_count acts) x d.measured d.items) g ∙ ap (λ x. draft (registers acts) (qubit_count acts) (gates acts) x d.items) m
    ∙ ap (λ x. draft (registers acts) (qubit_count acts) (gates acts) (map (is_among (measured acts)) (up_to (qubit_count acts))) x) n

flags_are : (gone more : List ℕ) (n m : ℕ) → gone ≡ more → n ≡ m → map (is_among gone) (up_to n) ≡ map (is_among more) (up_to m)
flags_are gone more n m e f = ap (λ g. map (is_among g) (up_to n)) e ∙ ap (λ k. map (is_among more) (up_to k)) f

module _ (limit : ℕ) (before : List Act) (d : Draft) (f : Follows limit before d) where
  their_registers : d.registers ≡ registers before
  their_registers = ap (λ (d : Draft). d.registers) f.is

  their_qubits : d.qubits ≡ qubit_count before
  their_qubits = ap (λ (d : Draft). d.qubits) f.is

  their_gates : d.gates ≡ gates before
  their_gates = ap (λ (d : Draft). d.gates) f.is

  their_flags : d.measured ≡ map (is_among (measured before)) (up_to (qubit_count before))
  their_flags = ap (λ (d : Draft). d.measured) f.is

  their_items : d.items ≡ item_count before
  their_items = ap (λ (d : Draft). d.items) f.is

  -- what an act leaves as it is
  same_registers : (a : Act) → registers_in before a ≡ [] → d.registers ≡ registers (before ++ a ∷ [])
  same_registers a e = their_registers ∙ sym (registers_more before a ∙ ap (λ r. registers before ++ r) e ∙ append-nil (registers before))

  same_qubits : (a : Act) → qubits_in a ≡ 0 → d.qubits ≡ qubit_count (before ++ a ∷ [])
  same_qubits a e = let q = their_qubits in let m = qubit_count_more before a in omega arith

  same_gates : (a : Act) → gates_in a ≡ [] → d.gates ≡ gates (before ++ a ∷ [])
  same_gates a e = their_gates ∙ sym (gates_more before a ∙ ap (λ r. gates before ++ r) e ∙ append-nil (gates before))

  same_items : (a : Act) → items_in a ≡ 0 → d.items ≡ item_count (before ++ a ∷ [])
  same_items a e = let i = their_items in let m = item_count_more before a in omega arith

  same_sound : (a : Act) → defined_in a ≡ [] → AreSound (definitions (before ++ a ∷ []))
  same_sound a e = subst AreSound (sym (definitions_more before a ∙ ap (λ r. definitions before ++ r) e ∙ append-nil (definitions before))) f.sound

  same_measured : (a : Act) → measured_in a ≡ [] → measured before ≡ measured (before ++ a ∷ [])
  same_measured a e = sym (measured_more before a ∙ ap (λ r. measured before ++ r) e ∙ append-nil (measured before))

  same_flags : (a : Act) → measured_in a ≡ [] → qubits_in a ≡ 0 → d.measured ≡ map (is_among (measured (before ++ a ∷ []))) (up_to (qubit_count (before ++ a ∷ [])))
  same_flags a e z = their_flags ∙ flags_are (measured before) (measured (before ++ a ∷ [])) (qubit_count before) (qubit_count (before ++ a ∷ [])) (same_measured a e) (sym their_qubits ∙ same_qubits a z)

  same_marked : (a : Act) → measured_in a ≡ [] → All (λ q. q < d.qubits) (measured (before ++ a ∷ []))
  same_marked a e = subst (All (λ q. q < d.qubits)) (same_measured a e) f.marked

  pub follows_nothing : Follows limit (before ++ nothing ∷ []) d
  follows_nothing = record {
    is = draft_is d (before ++ nothing ∷ []) (same_registers nothing refl) (same_qubits nothing refl) (same_gates nothing refl) (same_flags nothing refl refl) (same_items nothing refl);
    fits = f.fits;
    few = f.few;
    marked = same_marked nothing refl;
    sound = same_sound nothing refl;
  }

  pub follows_qubits : (name : List ℕ) (size : ℕ) → 0 < size → limit ≤ 64 → d.qubits + size ≤ limit → Follows limit (before ++ declares true name size ∷ []) (with_qubits d name size)
  follows_qubits name size some small fit = record {
    is = is;
    fits = fits;
    few = fit;
    marked = All-weaker (λ q. q < d.qubits) (λ q. q < d.qubits + size) (λ q l. omega arith) (measured (before ++ a ∷ [])) (same_marked a refl);
    sound = same_sound a refl;
  }
    where
      a : Act
      a = declares true name size

      new : List (List ℕ × Register)
      new = (name, record { quantum = true; first = d.qubits; size = size }) ∷ []

      count : d.qubits + size ≡ qubit_count (before ++ a ∷ [])
      count = let q = their_qubits in let m = qubit_count_more before a in omega arith

      is_registers : d.registers ++ new ≡ registers (before ++ a ∷ [])
      is_registers =
          ap (λ r. r ++ new) their_registers ∙ ap (λ n. registers before ++ (name, record { quantum = true; first = n; size = size }) ∷ []) their_qubits ∙ sym (registers_more before a)

      flags : d.measured ++ replicate size false ≡ map (is_among (measured (before ++ a ∷ []))) (up_to (qubit_count (before ++ a ∷ [])))
      flags =
          ap (λ l. l ++ replicate size false) (their_flags ∙ ap (λ n. map (is_among (measured before)) (up_to n)) (sym their_qubits))
          ∙ sym (flags_past (is_among (measured before)) d.qubits (λ x h. not_among d.qubits (measured before) x f.marked h) size)
          ∙ flags_are (measured before) (measured (before ++ a ∷ [])) (d.qubits + size) (qubit_count (before ++ a ∷ [])) (same_measured a refl) count

      is : with_qubits d name size ≡ draft_of (before ++ a ∷ [])
      is = draft_is (with_qubits d name size) (before ++ a ∷ []) is_registers count (same_gates a refl) flags (same_items a refl)

      fits : IsDraft (with_qubits d name size)
      fits = record {
        few_qubits = omega arith;
        few_gates = f.fits.few_gates;
        few_items = f.fits.few_items;
        within = All-weaker (IsOn d.qubits) (IsOn (d.qubits + size)) (on_more d.qubits (d.qubits + size) (omega arith)) d.gates f.fits.within;
        flags = length-append d.measured (replicate size false) ∙ ap (λ n. n + length (replicate size false)) f.fits.flags ∙ ap (λ n. d.qubits + n) (length-replicate size false);
        registers_end = ends_push (d.qubits + size) d.registers (name, record { quantum = true; first = d.qubits; size = size }) (ends_more d.qubits (d.qubits + size) (omega arith) d.registers f.fits.registers_end) (λ e. (some, omega arith));
      }

  pub follows_bits : (name : List ℕ) (size : ℕ) → Follows limit (before ++ declares false name size ∷ []) (with_bits d name size)
  follows_bits name size = record { is = is; fits = fits; few = f.few; marked = same_marked a refl; sound = same_sound a refl }
    where
      a : Act
      a = declares false name size

      is : with_bits d name size ≡ draft_of (before ++ a ∷ [])
      is = draft_is (with_bits d name size) (before ++ a ∷ [])
          (ap (λ r. r ++ (name, record { quantum = false; first = 0; size = size }) ∷ []) their_registers ∙ sym (registers_more before a)) (same_qubits a refl) (same_gates a refl) (same_flags a refl refl) (same_items a refl)

      fits : IsDraft (with_bits d name size)
      fits = record {
        few_qubits = f.fits.few_qubits;
        few_gates = f.fits.few_gates;
        few_items = f.fits.few_items;
        within = f.fits.within;
        flags = f.fits.flags;
        registers_end = ends_push d.qubits d.registers (name, record { quantum = false; first = 0; size = size }) f.fits.registers_end (λ e. absurd cc);
      }

  pub follows_measures : (t : Target) → ((place : ℕ) → place < place_count (t ∷ []) → qubit_at place t < d.qubits) → Follows limit (before ++ measures t ∷ []) (with_measured d (qubits_of t))
  follows_measures t below = record { is = is; fits = fits; few = f.few; marked = marked; sound = same_sound (measures t) refl }
    where
      more : measured before ++ qubits_of t ≡ measured (before ++ measures t ∷ [])
      more = sym (measured_more before (measures t))

      flags : raised d.measured (qubits_of t) ≡ map (is_among (measured (before ++ measures t ∷ []))) (up_to (qubit_count (before ++ measures t ∷ [])))
      flags =
          ap (λ l. raised l (qubits_of t)) their_flags ∙ raised_is (qubit_count before) (measured before) (qubits_of t)
          ∙ flags_are (measured before ++ qubits_of t) (measured (before ++ measures t ∷ [])) (qubit_count before) (qubit_count (before ++ measures t ∷ [])) more (sym their_qubits ∙ same_qubits (measures t) refl)

      is : with_measured d (qubits_of t) ≡ draft_of (before ++ measures t ∷ [])
      is = draft_is (with_measured d (qubits_of t)) (before ++ measures t ∷ []) (same_registers (measures t) refl) (same_qubits (measures t) refl) (same_gates (measures t) refl) flags (same_items (measures t) refl)

      fits : IsDraft (with_measured d (qubits_of t))
      fits = record {
        few_qubits = f.fits.few_qubits;
        few_gates = f.fits.few_gates;
        few_items = f.fits.few_items;
        within = f.fits.within;
        flags = length_raised d.measured (qubits_of t) ∙ f.fits.flags;
        registers_end = f.fits.registers_end;
      }

      marked : All (λ q. q < d.qubits) (measured (before ++ measures t ∷ []))
      marked = subst (All (λ q. q < d.qubits)) more (All-append (λ q. q < d.qubits) (measured before) (qubits_of t) f.marked
          (All-map (λ q. q < d.qubits) (λ place. qubit_at place t) (up_to (place_count (t ∷ []))) (All-up_to (λ place. qubit_at place t < d.qubits) (place_count (t ∷ [])) below)))

  pub follows_applies : (count : ℕ) (items : List Item) (ts : List Target)
      → ((place : ℕ) → place < place_count ts → All (IsOn d.qubits) (map (placed (qubits_at ts place)) items))
      → length d.gates + length items * place_count ts ≤ 1000000 → d.items + count * place_count ts ≤ 4000000
      → Follows limit (before ++ applies count items ts ∷ []) (with_gates d (count * place_count ts) (product items ts))
  follows_applies count items ts on fit few = record { is = is; fits = fits; few = f.few; marked = same_marked a refl; sound = same_sound a refl }
    where
      a : Act
      a = applies count items ts

      more : d.items + count * place_count ts ≡ item_count (before ++ a ∷ [])
      more = let i = their_items in let m = item_count_more before a in omega arith

      is : with_gates d (count * place_count ts) (product items ts) ≡ draft_of (before ++ a ∷ [])
      is = draft_is (with_gates d (count * place_count ts) (product items ts)) (before ++ a ∷ []) (same_registers a refl) (same_qubits a refl)
          (ap (λ g. g ++ product items ts) their_gates ∙ sym (gates_more before a)) (same_flags a refl refl) more

      fits : IsDraft (with_gates d (count * place_count ts) (product items ts))
      fits = record {
        few_qubits = f.fits.few_qubits;
        few_gates = (let n = length_product items ts in let m = length-append d.gates (product items ts) in omega arith);
        few_items = few;
        within = All-append (IsOn d.qubits) d.gates (product items ts) f.fits.within (all_product (IsOn d.qubits) items ts on);
        flags = f.fits.flags;
        registers_end = f.fits.registers_end;
      }

-- the draft of no statement
pub follows_none : (limit : ℕ) → Follows limit [] (draft_of [])
follows_none limit = record {
  is = refl;
  fits = record { few_qubits = omega arith; few_gates = omega arith; few_items = omega arith; within = All-nil _; flags = refl; registers_end = tt };
  few = omega arith;
  marked = All-nil _;
  sound = tt;
}
