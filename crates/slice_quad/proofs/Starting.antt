-- One node more for the next variable up.
use Rattle.std.proofs.Common.{◌≡◌, ◌≢◌, ◌⊎◌, ℕ, zero, suc, ◌+◌, ◌-◌, ◌<◌, ◌≤◌, Bool, true, false, cond, not, eqb, List, [], ◌∷◌, length, drop, Option, Some, None, get_or, is_some, count_by, inl, inr, refl, sym, ◌∙◌, ap, arith, subst, eq-eqb}
use Rattle.std.proofs.lemmas.Bool.{cases_Bool, cases_eq, cond-true, cond-false, ne_eqb}
use Rattle.bit_lists.specs.Orders.{has, after, AreVars}
use Rattle.diagram_model.specs.declared.parts.Parts.{Parts}
use Rattle.diagram_model.specs.Functions.{Assignment, Function, bit, put}
use Rattle.diagram_model.specs.Nodes.{parts_of, value, IsLiveIn}
use Rattle.diagram_model.specs.Stores.{Diagram, held, IsSound, IsLive, IsAbove, Extends, KeepsFunctions, AddsOnly, IsChoice, function_of, from}
use Rattle.diagram_model.proofs.Canonical.{after-tail, after-head, some_same}
use Rattle.diagram_model.proofs.Values.{value-small}
use Rattle.diagram_model.proofs.Fixing.{ignores_above, above_live, put_at}
use Rattle.slice_quad.specs.Started.{IsBuilt, StartStopIs}
use Rattle.node_store.proofs.Freed.{count_cons, held_put, one_held}
use Rattle.node_store.specs.Makes.{StopMeans}
use Rattle.node_store.specs.declared.node.StoreStop.{StoreStop}
use Rattle.node_store.specs.declared.node.StoreStop.TheVariants.{Full, OutOfMemory}

-- counting

-- one node more is held
pub held_one : (d e : Diagram) (n : ℕ) (p : Parts) → Extends d e → AddsOnly d e n → parts_of d.slots n ≡ None → parts_of e.slots n ≡ Some p → held e ≡ suc (held d)
held_one d e n p ext only free here =
    let count : held e ≡ held d + 1 = held_put d.slots e.slots n p (record { free = free; here = here; others = λ m ne. either m ne (parts_of e.slots m) (parts_of d.slots m) refl refl }) in
    omega (arith, count)
  where
    either : (m : ℕ) → m ≢ n → (o u : Option Parts) → parts_of e.slots m ≡ o → parts_of d.slots m ≡ u → parts_of e.slots m ≡ parts_of d.slots m
    either m ne (Some q) u eo eu = elim (only m q eo) [ inl old ↦ eo ∙ sym old | inr same ↦ absurd (ne same) ]
    either m ne None None eo eu = eo ∙ sym eu
    either m ne None (Some q) eo eu = let k = ext.kept m q eu in cc

-- the order from a place on

-- the list from a place on
drop_at : (vs : List ℕ) (j : ℕ) → j < length vs → drop j vs ≡ get_or vs j 0 ∷ drop (suc j) vs
drop_at [] j lt = absurd (omega arith)
drop_at (w ∷ ws) zero lt = refl
drop_at (w ∷ ws) (suc j) lt = drop_at ws j (omega (arith, lt))

-- what stands at a place is in the list
has_place : (vs : List ℕ) (j : ℕ) → j < length vs → has vs (get_or vs j 0) ≡ true
unfolding has
has_place [] j lt = absurd (omega arith)
has_place (w ∷ ws) zero lt = cond-true (eqb w w) true (has ws w) (eq-eqb w w refl)
has_place (w ∷ ws) (suc j) lt = elim (cases_Bool (eqb w (get_or ws j 0))) [
  | inl t ↦ cond-true (eqb w (get_or ws j 0)) true (has ws (get_or ws j 0)) t
  | inr f ↦ cond-false (eqb w (get_or ws j 0)) true (has ws (get_or ws j 0)) f ∙ has_place ws j (omega (arith, lt))
]

-- what stands behind it
after_place : (k : ℕ) (vs : List ℕ) (j : ℕ) → AreVars k vs → j < length vs → after vs (get_or vs j 0) ≡ drop (suc j) vs
after_place k [] j vars lt = absurd (omega arith)
after_place k (w ∷ ws) zero vars lt = after-head w w ws refl
after_place k (w ∷ ws) (suc j) vars lt =
    after-tail w (get_or ws j 0) ws (λ e. let t = has_place ws j (omega (arith, lt)) in let f : has ws (get_or ws j 0) ≡ false = ap (has ws) (sym e) ∙ vars.1 in cc)
    ∙ after_place k ws j vars.2 (omega (arith, lt))

-- the head is in the list
has_head : (v : ℕ) (vs : List ℕ) → has (v ∷ vs) v ≡ true
unfolding has
has_head v vs = cond-true (eqb v v) true (has vs v) (eq-eqb v v refl)

-- and what is in the tail
has_tail : (v w : ℕ) (vs : List ℕ) → has vs w ≡ true → has (v ∷ vs) w ≡ true
unfolding has
has_tail v w vs h = elim (cases_Bool (eqb v w)) [
  | inl t ↦ cond-true (eqb v w) true (has vs w) t
  | inr f ↦ cond-false (eqb v w) true (has vs w) f ∙ h
]

-- all else is in the tail
pub has_other : (v w : ℕ) (vs : List ℕ) → v ≢ w → has (v ∷ vs) w ≡ true → has vs w ≡ true
unfolding has
has_other v w vs ne h = sym (cond-false (eqb v w) true (has vs w) (ne_eqb v w ne)) ∙ h

-- the chosen child

-- the child on the side of the bit
chosen_same : (a b : Bool) (n : ℕ) → a ≡ b → cond a (cond b n 0) (cond b 0 n) ≡ n
chosen_same true true n e = refl
chosen_same false false n e = refl
chosen_same true false n e = cc
chosen_same false true n e = cc

-- the other child
chosen_other : (a b : Bool) (n : ℕ) → a ≢ b → cond a (cond b n 0) (cond b 0 n) ≡ 0
chosen_other true true n e = absurd (e refl)
chosen_other false false n e = absurd (e refl)
chosen_other true false n e = refl
chosen_other false true n e = refl

-- two truth values are the same or not
cases_bit : (a b : Bool) → (a ≡ b) ⊎ (a ≢ b)
cases_bit true true = inl refl
cases_bit false false = inl refl
cases_bit true false = inr (λ e. cc)
cases_bit false true = inr (λ e. cc)

-- a value isn't its negation
not_same : (a b : Bool) → a ≡ not b → a ≢ b
not_same true true e = cc
not_same true false e = λ h. cc
not_same false true e = λ h. cc
not_same false false e = cc

-- one node more, for the variable v at place j
module _ (d0 d e : Diagram) (x : List Bool) (k j n m v : ℕ) (b : Bool) (h : IsBuilt d0 d x k n) (at : k ≡ suc j) (is : v ≡ get_or d0.order j 0) (bit_is : b ≡ bit x v) (within : j < length d0.order) (sound : IsSound e) (ext : Extends d e) (keeps : KeepsFunctions d e) (only : AddsOnly d e m) (low high : ℕ) (low_is : low ≡ cond b 0 n) (high_is : high ≡ cond b n 0) (live : IsLiveIn e.slots (from d.order v) m) (denotes : IsChoice e v low high m) where
  rest : List ℕ
  rest = drop k d0.order

  whole : drop j d0.order ≡ v ∷ rest
  unfolding rest
  whole = drop_at d0.order j within ∙ ap (λ w. w ∷ drop (suc j) d0.order) (sym is) ∙ ap (λ l. v ∷ drop l d0.order) (sym at)

  after_is : after d.order v ≡ rest
  unfolding rest
  after_is =
      let vars : AreVars (length d.order) d.order = h.sound.diagram.order in
      ap (λ (o : List ℕ). after o v) h.order
      ∙ ap (after d0.order) is
      ∙ after_place (length d.order) d0.order j (subst (AreVars (length d.order)) h.order vars) within
      ∙ ap (λ l. drop l d0.order) (sym at)

  value_at_choice : (y : Assignment) → value e.slots e.order y m ≡ value e.slots e.order y (cond (y v) (cond b n 0) (cond b 0 n))
  value_at_choice y = denotes y ∙ ap (λ c. value e.slots e.order y (cond (y v) c low)) high_is ∙ ap (λ c. value e.slots e.order y (cond (y v) (cond b n 0) c)) low_is

  old_live : IsLive d n
  unfolding rest
  old_live = above_live d v n (subst (λ l. IsLiveIn d.slots l n) (sym after_is) h.live)

  here : (y : Assignment) → y v ≡ b → value e.slots e.order y m ≡ value d.slots d.order y n
  here y same = value_at_choice y ∙ ap (λ c. value e.slots e.order y c) (chosen_same (y v) b n same) ∙ keeps.same n old_live y

  there : (y : Assignment) → y v ≢ b → value e.slots e.order y m ≡ false
  there y other = value_at_choice y ∙ ap (λ c. value e.slots e.order y c) (chosen_other (y v) b n other) ∙ value-small e.slots (length e.order) e.order 0 sound.diagram (omega arith) y

  on_more : (y : Assignment) → ((w : ℕ) → has (v ∷ rest) w ≡ true → y w ≡ bit x w) → value e.slots e.order y m ≡ true
  unfolding rest
  on_more y same = here y (same v (has_head v rest) ∙ sym bit_is) ∙ h.on y (λ w inside. same w (has_tail v w rest inside))

  off_more : (y : Assignment) (w : ℕ) → has (v ∷ rest) w ≡ true → y w ≢ bit x w → value e.slots e.order y m ≡ false
  unfolding rest
  off_more y w inside ne = elim (cases_bit (y v) b) [
    | inr other ↦ there y other
    | inl same ↦ elim (cases_eq v w) [
      | inl e ↦ absurd (ne (ap y (sym e) ∙ same ∙ bit_is ∙ ap (bit x) e))
      | inr apart ↦ here y same ∙ h.off y w (has_other v w rest apart inside) ne
    ]
  ]

  flipped : Assignment
  flipped = put (bit x) v (not b)

  is_on : value e.slots e.order (bit x) m ≡ true
  is_on = on_more (bit x) (λ w inside. refl)

  is_off : value e.slots e.order flipped m ≡ false
  unfolding flipped
  is_off = there flipped (not_same (flipped v) b (put_at (bit x) v (not b)))

  has_parts : (p : Parts) × (parts_of e.slots m ≡ Some p) × (has (v ∷ rest) p.var ≡ true)
  unfolding rest
  has_parts = elim live [
    | inl small ↦
        let t = value-small e.slots (length e.order) e.order m sound.diagram small (bit x) in
        let f = value-small e.slots (length e.order) e.order m sound.diagram small flipped in
        let clash : true ≡ false = sym is_on ∙ t ∙ sym f ∙ is_off in cc
    | inr held ↦ (held.parts, held.is, subst (λ l. has (v ∷ l) held.parts.var ≡ true) after_is held.below)
  ]

  ignored : IsAbove d v m → value d.slots d.order flipped m ≡ value d.slots d.order (bit x) m
  unfolding flipped function_of
  ignored above = ap (λ (f : Function). f (bit x)) (ignores_above d v m h.sound above (not b))

  is_new : (o : Option Parts) → parts_of d.slots m ≡ o → parts_of d.slots m ≡ None
  unfolding rest
  is_new None eq = eq
  is_new (Some p) eq =
      let above : IsAbove d v m = inr (record { parts = p; is = eq; below = subst (λ l. has l p.var ≡ true) (sym after_is) (h.below m p eq) }) in
      let same : (y : Assignment) → value e.slots e.order y m ≡ value d.slots d.order y m = keeps.same m (above_live d v m above) in
      let alike : value d.slots d.order flipped m ≡ value d.slots d.order (bit x) m = ignored above in
      let clash : true ≡ false = sym is_on ∙ same (bit x) ∙ sym alike ∙ sym (same flipped) ∙ is_off in cc

  count_more : held e ≡ suc (held d)
  count_more = held_one d e m has_parts.0 ext only (is_new (parts_of d.slots m) refl) has_parts.1

  below_more : (q : ℕ) (p : Parts) → parts_of e.slots q ≡ Some p → has (v ∷ rest) p.var ≡ true
  unfolding rest
  below_more q p eq = elim (only q p eq) [
    | inl old ↦ has_tail v p.var rest (h.below q p old)
    | inr same ↦
        let e : has_parts.0 ≡ p = some_same has_parts.0 p (sym has_parts.1 ∙ ap (parts_of e.slots) (sym same) ∙ eq) in
        subst (λ (r : Parts). has (v ∷ rest) r.var ≡ true) e has_parts.2
  ]

  pub built_more : IsBuilt d0 e x j m
  unfolding rest
  built_more = record {
    sound = sound;
    order = ext.order ∙ h.order;
    limit = ext.limit ∙ h.limit;
    below = λ q p eq. subst (λ l. has l p.var ≡ true) (sym whole) (below_more q p eq);
    live = subst (λ l. IsLiveIn e.slots l m) (sym whole) (subst (λ l. IsLiveIn e.slots (v ∷ l) m) after_is live);
    on = λ y same. on_more y (λ w inside. same w (subst (λ l. has l w ≡ true) (sym whole) inside));
    off = λ y w inside ne. off_more y w (subst (λ l. has l w ≡ true) whole inside) ne;
    count = let c = h.count in let more = count_more in omega (arith, c, more, at);
  }

-- some node is held
some_counted : (s : List (Option Parts)) (m : ℕ) (p : Parts) → parts_of s m ≡ Some p → 0 < count_by is_some s
some_counted [] m p eq = cc
some_counted (Some q ∷ s) m p eq = omega (arith, count_cons is_some (Some q) s, one_held q)
some_counted (None ∷ s) zero p eq = cc
some_counted (None ∷ s) (suc m) p eq = let h = some_counted s m p eq in omega (arith, h, count_cons is_some None s)

pub held_some : (d : Diagram) (m : ℕ) (p : Parts) → parts_of d.slots m ≡ Some p → 0 < held d
held_some d m p eq = some_counted d.slots m p eq

-- nothing stands behind the end
drop_all : (vs : List ℕ) (v : ℕ) → has (drop (length vs) vs) v ≡ true → ⊥
unfolding has
drop_all [] v h = cc
drop_all (w ∷ vs) v h = drop_all vs v h

-- before the first node
pub built_none : (d : Diagram) (x : List Bool) (k : ℕ) → IsSound d → held d ≡ 0 → k ≡ length d.order → IsBuilt d d x k 1
built_none d x k sound empty at = record {
  sound = sound;
  order = refl;
  limit = refl;
  below = λ m p eq. let some = held_some d m p eq in absurd (omega (arith, some, empty));
  live = inl (omega arith);
  on = λ y same. value-small d.slots (length d.order) d.order 1 sound.diagram (omega arith) y;
  off = λ y v inside ne. absurd (drop_all d.order v (subst (λ j. has (drop j d.order) v ≡ true) at inside));
  count = omega (arith, empty, at);
}

-- by another place
pub built_as : (d e : Diagram) (x : List Bool) (k j n : ℕ) → k ≡ j → IsBuilt d e x k n → IsBuilt d e x j n
built_as d e x k j n eq h = rw (sym eq) h

-- too few nodes may be held
pub built_full : (d e f : Diagram) (x : List Bool) (k n v low high len : ℕ) → IsBuilt d e x k n → 0 < k → len ≡ length d.order → (r : StoreStop) → StopMeans e v low high r → StartStopIs d len r
built_full d e f x k n v low high len h some eq (Full t) stop =
    let c = h.count in let limit = h.limit in let full = stop.1.full in
    (stop.0 ∙ h.limit, omega (arith, c, limit, full, some, eq))
built_full d e f x k n v low high len h some eq OutOfMemory stop = tt

-- there was room for all
pub built_room : (d e : Diagram) (x : List Bool) (n len : ℕ) → IsBuilt d e x 0 n → len ≡ length d.order → len ≤ d.limit
built_room d e x n len h eq = let c = h.count in let limit = h.limit in let few = h.sound.few in omega (arith, c, limit, few, eq)

-- the variable v stands i places before the last one
pub record IsPlace (d : Diagram) (i v : ℕ) : Type 0 where
  pub within : i < length d.order
  pub is : v ≡ get_or d.order (length d.order - suc i) 0

-- the variable of a round of the loop
pub place_of_loop : (d : Diagram) (o : List ℕ) (i v a b : ℕ) → o ≡ d.order → a ≡ length o → b ≡ length o → i < b → v ≡ get_or o (a - 1 - i) 0 → IsPlace d i v
place_of_loop d o i v a b e ea eb lt is =
    let long : length o ≡ length d.order = ap (λ (l : List ℕ). length l) e in
    record {
      within = omega (arith, long, eb, lt);
      is = is ∙ ap (λ (l : List ℕ). get_or l (a - 1 - i) 0) e ∙ ap (λ j. get_or d.order j 0) (let h : a - 1 - i ≡ length d.order - suc i = omega (arith, long, ea, eb, lt) in h);
    }

-- it is in the order
pub var_has : (d : Diagram) (i v : ℕ) → IsPlace d i v → has d.order v ≡ true
var_has d i v p = let lt = p.within in ap (has d.order) p.is ∙ has_place d.order (length d.order - suc i) (omega (arith, lt))

-- after a round
pub built_next : (d0 d e : Diagram) (x : List Bool) (i n m v : ℕ) (b : Bool) → IsPlace d0 i v → IsBuilt d0 d x (length d0.order - i) n → b ≡ bit x v → IsSound e → Extends d e → KeepsFunctions d e → AddsOnly d e m → (low high : ℕ) → low ≡ cond b 0 n → high ≡ cond b n 0 → IsLiveIn e.slots (from d.order v) m → IsChoice e v low high m → IsBuilt d0 e x (length d0.order - (i + 1)) m
built_next d0 d e x i n m v b p h bit_is sound ext keeps only low high low_is high_is live denotes =
    let lt = p.within in
    built_as d0 e x (length d0.order - suc i) (length d0.order - (i + 1)) m (ap (λ j. length d0.order - j) (let g : suc i ≡ i + 1 = omega arith in g))
    (built_more d0 d e x (length d0.order - i) (length d0.order - suc i) n m v b h (omega (arith, lt)) p.is bit_is (omega (arith, lt)) sound ext keeps only low high low_is high_is live denotes)

-- the node so far stands below
child_above : (d0 d : Diagram) (x : List Bool) (i n v : ℕ) → IsPlace d0 i v → IsBuilt d0 d x (length d0.order - i) n → IsAbove d v n
child_above d0 d x i n v p h =
    let lt = p.within in
    let j = length d0.order - suc i in
    let vars : AreVars (length d.order) d.order = h.sound.diagram.order in
    let is : after d.order v ≡ drop (length d0.order - i) d0.order =
    ap (λ (o : List ℕ). after o v) h.order ∙ ap (after d0.order) p.is
    ∙ after_place (length d.order) d0.order j (subst (AreVars (length d.order)) h.order vars) (omega (arith, lt))
    ∙ ap (λ l. drop l d0.order) (let g : suc j ≡ length d0.order - i = omega (arith, lt) in g) in
    subst (λ l. IsLiveIn d.slots l n) (sym is) h.live

-- so do both children
either_above : (d : Diagram) (v n : ℕ) (b : Bool) → IsAbove d v n → IsAbove d v (cond b 0 n) × IsAbove d v (cond b n 0)
either_above d v n true h = (inl (omega arith), h)
either_above d v n false h = (h, inl (omega arith))

-- the child for 0
pub low_child : (d0 d : Diagram) (x : List Bool) (i n v : ℕ) (b : Bool) (low : ℕ) → IsPlace d0 i v → IsBuilt d0 d x (length d0.order - i) n → low ≡ cond b 0 n → IsAbove d v low
low_child d0 d x i n v b low p h e = subst (λ c. IsAbove d v c) (sym e) (either_above d v n b (child_above d0 d x i n v p h)).0

-- the child for 1
pub high_child : (d0 d : Diagram) (x : List Bool) (i n v : ℕ) (b : Bool) (high : ℕ) → IsPlace d0 i v → IsBuilt d0 d x (length d0.order - i) n → high ≡ cond b n 0 → IsAbove d v high
high_child d0 d x i n v b high p h e = subst (λ c. IsAbove d v c) (sym e) (either_above d v n b (child_above d0 d x i n v p h)).1
