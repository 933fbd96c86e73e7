-- The step that a gate is, from what the calls answered.
use Rattle.std.proofs.Common.{◌≡◌, ◌≢◌, ℕ, ◌+◌, ◌-◌, ◌^◌, suc, ◌<◌, ◌≤◌, Bool, true, false, List, [], ◌∷◌, ◌++◌, length-append, All, map, length, get_or, take, refl, sym, ◌∙◌, ap, subst, arith}
use Rattle.std.proofs.lemmas.Bool.{false≢true, cond-true, cond-false}
use Rattle.std.proofs.Math.Path.{ap₂}
use Rattle.std.specs.Prelude.{◌==◌}
use Rattle.std.proofs.lemmas.List.{length-map, get_or-map, map-append, get_or-append-add}
use Rattle.std.proofs.lemmas.List.Elements.{All-get_or, All-map}
use Rattle.gate_set.specs.declared.entry.Entry.{Entry}
use Rattle.gate_set.specs.declared.gate.Gate.{Gate}
use Rattle.gate_set.specs.declared.kind.Kind.{Kind}
use Rattle.gate_set.specs.declared.kind.Kind.TheVariants.{Id, X, Y, Z, H, S, Sdg, T, Tdg, RxP, RxM, RyP, RyM, Cx, Cz, Swap, Ccx, Cswap, Phase}
use Rattle.gate_set.specs.Matrix.{arity_of, half_power_of, IsPower}
use Rattle.gate_set.specs.Shape.{IsPlaced, qubits_of, arity_with}
use Rattle.slice_gates.specs.declared.side.Side.{Side}
use Rattle.slice_gates.specs.declared.side.Side.TheVariants.{State, Rows, Columns}
use Rattle.slice_gates.specs.Sides.{place_on, entry_on}
use Rattle.slice_quad.specs.declared.gate.Target.{Target}
use Rattle.slice_quad.specs.Mix.{all_true}
use Rattle.slice_quad.specs.Exchange.{Exchange}
use Rattle.slice_quad.specs.declared.kind.Step.TheVariants as steps
use Rattle.slice_quad.specs.Stepping.{exchange_with, AreReducedRows, target_with}
use Rattle.slice_gates.specs.Stepped.{exchanges, controls_for, target_for, pair_for, HaveControls, IsTargetOf, IsStepOf, rows_of, mix_for}
use Rattle.slice_gates.proofs.Controls.{all_left, all_right}
use Rattle.slice_gates.proofs.Further.{HasFurther, HasFurtherPair, further-applied, further-exchanged}

-- what a call said of the entry in this row and column
pub record IsEntryAt (side : Side) (k : Kind) (row col : ℕ) (e : Entry) : Type 0 where
  pub value : e ≡ entry_on side k row col
  pub power : IsPower e

pub record HasEntries (side : Side) (k : Kind) (r : ℕ) (ll lh hl hh : Entry) : Type 0 where
  pub low_low : IsEntryAt side k r r ll
  pub low_high : IsEntryAt side k r (r + 1) lh
  pub high_low : IsEntryAt side k (r + 1) r hl
  pub high_high : IsEntryAt side k (r + 1) (r + 1) hh

same_target : (t u : Target) → t.controls ≡ u.controls → t.target ≡ u.target → t.low_low ≡ u.low_low → t.low_high ≡ u.low_high → t.high_low ≡ u.high_low → t.high_high ≡ u.high_high → t.rooted ≡ u.rooted → t ≡ u
same_target t u ec et ea eb ed ee er = λ i. record { controls = ec i; target = et i; low_low = ea i; low_high = eb i; high_low = ed i; high_high = ee i; rooted = er i }

-- ---- the first ones of all qubits are the further controls and the first of the kind's
take_past : (xs ys : List ℕ) (n : ℕ) → take (length xs + n) (xs ++ ys) ≡ xs ++ take n ys
take_past [] ys n = let e : 0 + n ≡ n = omega arith in ap (λ k. take k ys) e
take_past (x ∷ xs) ys n = let e : length (x ∷ xs) + n ≡ suc (length xs + n) = omega arith in ap (λ k. take k (x ∷ (xs ++ ys))) e ∙ ap (λ l. x ∷ l) (take_past xs ys n)

module _ (side : Side) (g : Gate) where
  abbrev all_places : List ℕ
  all_places = map (place_on side) (qubits_of g)

  abbrev own_places : List ℕ
  own_places = map (place_on side) g.on

  abbrev further_places : List ℕ
  further_places = map (place_on side) g.extra

  places_split : all_places ≡ further_places ++ own_places
  places_split = map-append (place_on side) g.extra g.on

  first_places : (n : ℕ) → take (length g.extra + n) all_places ≡ further_places ++ take n own_places
  first_places n =
      ap (take (length g.extra + n)) places_split
      ∙ ap (λ k. take (k + n) (further_places ++ own_places)) (sym (length-map g.extra (place_on side)))
      ∙ take_past further_places own_places n

  place_past : (n : ℕ) → get_or all_places (length g.extra + n) 0 ≡ get_or own_places n 0
  place_past n =
      ap (λ l. get_or l (length g.extra + n) 0) places_split
      ∙ ap (λ k. get_or (further_places ++ own_places) (k + n) 0) (sym (length-map g.extra (place_on side)))
      ∙ get_or-append-add further_places own_places n 0

pub target_made : (n : ℕ) (side : Side) (g : Gate) (extra on : List ℕ) (a r half : ℕ) (cs : List Bool) (ll lh hl hh : Entry)
    → IsPlaced g.kind g.extra g.on → All (λ q. place_on side q < n) (qubits_of g) → exchanges g.kind ≡ false → extra ≡ g.extra → on ≡ g.on → a ≡ arity_of g.kind → 1 ≤ a → r + 2 ≡ 2 ^ a → half ≡ half_power_of g.kind
    → HaveControls n (map (place_on side) (extra ++ on)) (length extra + (a - 1)) cs → HasEntries side g.kind r ll lh hl hh
    → IsTargetOf n side g (record { controls = cs; target = place_on side (get_or on (a - 1) 0); low_low = ll; low_high = lh; high_low = hl; high_high = hh; rooted = half == 1 })
target_made n side g extra on a r half cs ll lh hl hh placed below_all one is_extra is arity some start root controls entries = record {
  value = value;
  long = controls.long;
  reduced = record { low_low = entries.low_low.power; low_high = entries.low_high.power; high_low = entries.high_low.power; high_high = entries.high_high.power };
  below = below;
  applied_is = λ v x len. further-applied side g r t v x placed.count one has (subst (λ k. t.target < k) (sym len) below) (All-map (λ q. q < length x) (place_on side) g.on (λ k d lt. subst (λ m. place_on side (get_or g.on k d) < m) (sym len) (own_below k d lt)));
}
  where
    t : Target
    t = record { controls = cs; target = place_on side (get_or on (a - 1) 0); low_low = ll; low_high = lh; high_low = hl; high_high = hh; rooted = half == 1 }

    l : List ℕ
    l = map (place_on side) g.on

    own_below : All (λ q. place_on side q < n) g.on
    own_below = all_right (λ q. place_on side q < n) g.extra g.on below_all

    inside : arity_of g.kind - 1 < length g.on
    inside = omega (arith, arity, some, placed.count)

    target : t.target ≡ get_or l (arity_of g.kind - 1) 0
    target =
        ap (λ k. place_on side (get_or k (a - 1) 0)) is ∙ ap (λ i. place_on side (get_or g.on (i - 1) 0)) arity
        ∙ sym (get_or-map (place_on side) g.on (arity_of g.kind - 1) 0 0 inside)

    below : t.target < n
    below =
        subst (λ q. q < n) (sym (target ∙ get_or-map (place_on side) g.on (arity_of g.kind - 1) 0 0 inside)) (All-get_or (λ q. place_on side q < n) g.on (arity_of g.kind - 1) 0 inside own_below)

    low : r ≡ 2 ^ arity_of g.kind - 2
    low = omega (arith, start, ap (λ i. 2 ^ i) arity)

    high : r + 1 ≡ 2 ^ arity_of g.kind - 1
    high = omega (arith, start, ap (λ i. 2 ^ i) arity)

    entry_as : (e : Entry) (i j k l : ℕ) → IsEntryAt side g.kind i j e → i ≡ k → j ≡ l → e ≡ entry_on side g.kind k l
    entry_as e i j k l h ik jl = h.value ∙ ap₂ (entry_on side g.kind) ik jl

    count_as : length extra + (a - 1) ≡ length g.extra + (arity_of g.kind - 1)
    count_as = ap (λ (k : List ℕ). length k + (a - 1)) is_extra ∙ ap (λ i. length g.extra + (i - 1)) arity

    whole_count : length g.extra + (arity_of g.kind - 1) ≡ arity_with g - 1
    whole_count = omega (arith, arity, some)

    firsts : take (length extra + (a - 1)) (map (place_on side) (extra ++ on)) ≡ take (length g.extra + (arity_of g.kind - 1)) (map (place_on side) (qubits_of g))
    firsts = ap (λ k. take k (map (place_on side) (extra ++ on))) count_as ∙ ap₂ (λ e o. take (length g.extra + (arity_of g.kind - 1)) (map (place_on side) (e ++ o))) is_extra is

    first_controls : cs ≡ controls_for n (take (arity_with g - 1) (map (place_on side) (qubits_of g)))
    first_controls = controls.value ∙ ap (controls_for n) (firsts ∙ ap (λ k. take k (map (place_on side) (qubits_of g))) whole_count)

    last_target : t.target ≡ get_or (map (place_on side) (qubits_of g)) (arity_with g - 1) 0
    last_target = target ∙ sym (place_past side g (arity_of g.kind - 1)) ∙ ap (λ k. get_or (map (place_on side) (qubits_of g)) k 0) whole_count

    value : t ≡ target_for n side g
    value = same_target t (target_for n side g) first_controls last_target
        (entry_as ll r r _ _ entries.low_low low low) (entry_as lh r (r + 1) _ _ entries.low_high low high)
        (entry_as hl (r + 1) r _ _ entries.high_low high low) (entry_as hh (r + 1) (r + 1) _ _ entries.high_high high high)
        (ap (λ h. h == 1) root)

    has : HasFurther side g r t
    has = record {
      start = start ∙ ap (λ i. 2 ^ i) arity;
      rows = record { low_low = entries.low_low.value; low_high = entries.low_high.value; high_low = entries.high_low.value; high_high = entries.high_high.value };
      target = target;
      controls = λ x. controls.same x ∙ ap (λ k. all_true k x) (firsts ∙ first_places side g (arity_of g.kind - 1));
      rooted = ap (λ h. h == 1) root;
    }

no_half : (k : Kind) → exchanges k ≡ true → 0 ≡ half_power_of k
no_half Swap two = refl
no_half Cswap two = refl
no_half Id two = absurd (false≢true two)
no_half X two = absurd (false≢true two)
no_half Y two = absurd (false≢true two)
no_half Z two = absurd (false≢true two)
no_half H two = absurd (false≢true two)
no_half S two = absurd (false≢true two)
no_half Sdg two = absurd (false≢true two)
no_half T two = absurd (false≢true two)
no_half Tdg two = absurd (false≢true two)
no_half RxP two = absurd (false≢true two)
no_half RxM two = absurd (false≢true two)
no_half RyP two = absurd (false≢true two)
no_half RyM two = absurd (false≢true two)
no_half Cx two = absurd (false≢true two)
no_half Cz two = absurd (false≢true two)
no_half Ccx two = absurd (false≢true two)
no_half (Phase j) two = absurd (false≢true two)

two_qubits : (k : Kind) → exchanges k ≡ true → 2 ≤ arity_of k
two_qubits Swap two = omega arith
two_qubits Cswap two = omega arith
two_qubits Id two = absurd (false≢true two)
two_qubits X two = absurd (false≢true two)
two_qubits Y two = absurd (false≢true two)
two_qubits Z two = absurd (false≢true two)
two_qubits H two = absurd (false≢true two)
two_qubits S two = absurd (false≢true two)
two_qubits Sdg two = absurd (false≢true two)
two_qubits T two = absurd (false≢true two)
two_qubits Tdg two = absurd (false≢true two)
two_qubits RxP two = absurd (false≢true two)
two_qubits RxM two = absurd (false≢true two)
two_qubits RyP two = absurd (false≢true two)
two_qubits RyM two = absurd (false≢true two)
two_qubits Cx two = absurd (false≢true two)
two_qubits Cz two = absurd (false≢true two)
two_qubits Ccx two = absurd (false≢true two)
two_qubits (Phase j) two = absurd (false≢true two)

-- ---- what the calls ask for
pub small_own : (g : Gate) (on : List ℕ) → IsPlaced g.kind g.extra g.on → on ≡ g.on → All (λ q. q < 64) on
small_own g on placed is = subst (All (λ q. q < 64)) (sym is) (all_right (λ q. q < 64) g.extra g.on placed.small)

pub below_own : (n : ℕ) (side : Side) (g : Gate) (on : List ℕ) → All (λ q. place_on side q < n) (qubits_of g) → on ≡ g.on → All (λ q. place_on side q < n) on
below_own n side g on below is = subst (All (λ q. place_on side q < n)) (sym is) (all_right (λ q. place_on side q < n) g.extra g.on below)

pub below_extra : (n : ℕ) (side : Side) (g : Gate) (extra : List ℕ) → All (λ q. place_on side q < n) (qubits_of g) → extra ≡ g.extra → All (λ q. place_on side q < n) extra
below_extra n side g extra below is = subst (All (λ q. place_on side q < n)) (sym is) (all_left (λ q. place_on side q < n) g.extra g.on below)

pub inside_one : (g : Gate) (on : List ℕ) (a : ℕ) → IsPlaced g.kind g.extra g.on → on ≡ g.on → a ≡ arity_of g.kind → 1 ≤ a → a - 1 < length on
inside_one g on a placed is arity some = let long : length on ≡ length g.on = ap (λ (l : List ℕ). length l) is in omega (arith, long, placed.count, arity, some)

pub inside_pair : (g : Gate) (on : List ℕ) (a : ℕ) → IsPlaced g.kind g.extra g.on → exchanges g.kind ≡ true → on ≡ g.on → a ≡ arity_of g.kind → a - 2 + 1 < length on
inside_pair g on a placed two is arity = let long : length on ≡ length g.on = ap (λ (l : List ℕ). length l) is in omega (arith, long, placed.count, arity, two_qubits g.kind two)

-- different qubits have different variables
place_same : (side : Side) (p q : ℕ) → place_on side p ≡ place_on side q → p ≡ q
place_same State p q e = e
place_same Rows p q e = omega arith
place_same Columns p q e = omega arith

pub exchange_made : (n : ℕ) (side : Side) (g : Gate) (extra on : List ℕ) (a : ℕ) (cs : List Bool)
    → IsPlaced g.kind g.extra g.on → All (λ q. place_on side q < n) (qubits_of g) → exchanges g.kind ≡ true → extra ≡ g.extra → on ≡ g.on → a ≡ arity_of g.kind → HaveControls n (map (place_on side) (extra ++ on)) (length extra + (a - 2)) cs
    → IsStepOf n side g (steps.Exchange cs (place_on side (get_or on (a - 2) 0)) (place_on side (get_or on (a - 2 + 1) 0)))
exchange_made n side g extra on a cs placed below_all two is_extra is arity controls = record {
  value = value ∙ sym (cond-true (exchanges g.kind) (pair_for n side g) (mix_for n side g) two);
  within = (let long = controls.long in omega (arith, long), first_below, second_below);
  half = no_half g.kind two;
  applied_is = λ v x len. further-exchanged side g e v x placed.count two has differ (subst (λ k. e.first < k) (sym len) first_below) (subst (λ k. e.second < k) (sym len) second_below);
}
  where
    e : Exchange
    e = exchange_with cs (place_on side (get_or on (a - 2) 0)) (place_on side (get_or on (a - 2 + 1) 0))

    i : ℕ
    i = arity_of g.kind - 2

    l : List ℕ
    l = map (place_on side) g.on

    own_below : All (λ q. place_on side q < n) g.on
    own_below = all_right (λ q. place_on side q < n) g.extra g.on below_all

    inside : i + 1 < length g.on
    inside = omega (arith, two_qubits g.kind two, placed.count)

    first_own : e.first ≡ place_on side (get_or g.on i 0)
    first_own = ap (λ k. place_on side (get_or k (a - 2) 0)) is ∙ ap (λ j. place_on side (get_or g.on (j - 2) 0)) arity

    second_own : e.second ≡ place_on side (get_or g.on (i + 1) 0)
    second_own = ap (λ k. place_on side (get_or k (a - 2 + 1) 0)) is ∙ ap (λ j. place_on side (get_or g.on (j - 2 + 1) 0)) arity

    first : e.first ≡ get_or l i 0
    first = first_own ∙ sym (get_or-map (place_on side) g.on i 0 0 (omega (arith, inside)))

    second : e.second ≡ get_or l (i + 1) 0
    second = second_own ∙ sym (get_or-map (place_on side) g.on (i + 1) 0 0 inside)

    count_as : length extra + (a - 2) ≡ length g.extra + i
    count_as = ap (λ (k : List ℕ). length k + (a - 2)) is_extra ∙ ap (λ j. length g.extra + (j - 2)) arity

    whole_count : length g.extra + i ≡ arity_with g - 2
    whole_count = omega (arith, two_qubits g.kind two)

    whole_last : length g.extra + (i + 1) ≡ arity_with g - 1
    whole_last = omega (arith, two_qubits g.kind two)

    firsts : take (length extra + (a - 2)) (map (place_on side) (extra ++ on)) ≡ take (length g.extra + i) (map (place_on side) (qubits_of g))
    firsts = ap (λ k. take k (map (place_on side) (extra ++ on))) count_as ∙ ap₂ (λ p o. take (length g.extra + i) (map (place_on side) (p ++ o))) is_extra is

    first_controls : cs ≡ controls_for n (take (arity_with g - 2) (map (place_on side) (qubits_of g)))
    first_controls = controls.value ∙ ap (controls_for n) (firsts ∙ ap (λ k. take k (map (place_on side) (qubits_of g))) whole_count)

    first_whole : e.first ≡ get_or (map (place_on side) (qubits_of g)) (arity_with g - 2) 0
    first_whole = first ∙ sym (place_past side g i) ∙ ap (λ k. get_or (map (place_on side) (qubits_of g)) k 0) whole_count

    second_whole : e.second ≡ get_or (map (place_on side) (qubits_of g)) (arity_with g - 1) 0
    second_whole = second ∙ sym (place_past side g (i + 1)) ∙ ap (λ k. get_or (map (place_on side) (qubits_of g)) k 0) whole_last

    value : steps.Exchange cs e.first e.second ≡ pair_for n side g
    value =
        ap (λ k. steps.Exchange k e.first e.second) first_controls
        ∙ ap (λ q. steps.Exchange (controls_for n (take (arity_with g - 2) (map (place_on side) (qubits_of g)))) q e.second) first_whole
        ∙ ap (λ q. steps.Exchange (controls_for n (take (arity_with g - 2) (map (place_on side) (qubits_of g)))) (get_or (map (place_on side) (qubits_of g)) (arity_with g - 2) 0) q) second_whole

    first_below : e.first < n
    first_below = subst (λ q. q < n) (sym first_own) (All-get_or (λ q. place_on side q < n) g.on i 0 (omega (arith, inside)) own_below)

    second_below : e.second < n
    second_below = subst (λ q. q < n) (sym second_own) (All-get_or (λ q. place_on side q < n) g.on (i + 1) 0 inside own_below)

    own_different : get_or g.on i 0 ≢ get_or g.on (i + 1) 0
    own_different same =
        placed.different (length g.extra + i) (length g.extra + (i + 1)) 0 (omega arith) (omega (arith, inside, length-append g.extra g.on))
        (get_or-append-add g.extra g.on i 0 ∙ same ∙ sym (get_or-append-add g.extra g.on (i + 1) 0))

    differ : e.first ≢ e.second
    differ same = own_different (place_same side (get_or g.on i 0) (get_or g.on (i + 1) 0) (sym first_own ∙ same ∙ second_own))

    has : HasFurtherPair side g e
    has = record {
      first = first;
      second = second;
      controls = λ x. controls.same x ∙ ap (λ k. all_true k x) (firsts ∙ first_places side g i);
    }

pub step_made : (n : ℕ) (side : Side) (g : Gate) (cs : List Bool) (t : ℕ) (rows : List (List Entry)) (half : ℕ) → exchanges g.kind ≡ false → rows_of (target_with cs t rows half) ≡ rows → IsTargetOf n side g (target_with cs t rows half) → half ≡ half_power_of g.kind
    → IsStepOf n side g (steps.Mix cs t rows half)
step_made n side g cs t rows half one whole is e = record {
  value =
      ap (λ k. steps.Mix cs t k half) (sym whole)
      ∙ ap₂ (λ (u : Target) h. steps.Mix u.controls u.target (rows_of u) h) is.value e
      ∙ sym (cond-false (exchanges g.kind) (pair_for n side g) (mix_for n side g) one);
  within = (record { low_low = is.reduced.low_low; low_high = is.reduced.low_high; high_low = is.reduced.high_low; high_high = is.reduced.high_high }, let long = is.long in omega (arith, long), is.below);
  half = e;
  applied_is = is.applied_is;
}

-- the variables as the calls answered them
pub target_as : (n : ℕ) (side : Side) (g : Gate) (on : List ℕ) (a : ℕ) (cs : List Bool) (ll lh hl hh : Entry) (h : Bool) (p : ℕ) → p ≡ place_on side (get_or on (a - 1) 0)
    → IsTargetOf n side g (record { controls = cs; target = place_on side (get_or on (a - 1) 0); low_low = ll; low_high = lh; high_low = hl; high_high = hh; rooted = h })
    → IsTargetOf n side g (record { controls = cs; target = p; low_low = ll; low_high = lh; high_low = hl; high_high = hh; rooted = h })
target_as n side g on a cs ll lh hl hh h p e is =
    subst (λ q. IsTargetOf n side g (record { controls = cs; target = q; low_low = ll; low_high = lh; high_low = hl; high_high = hh; rooted = h })) (sym e) is

pub exchange_as : (n : ℕ) (side : Side) (g : Gate) (on : List ℕ) (a : ℕ) (cs : List Bool) (p q : ℕ) → p ≡ place_on side (get_or on (a - 2) 0) → q ≡ place_on side (get_or on (a - 2 + 1) 0)
    → IsStepOf n side g (steps.Exchange cs (place_on side (get_or on (a - 2) 0)) (place_on side (get_or on (a - 2 + 1) 0)))
    → IsStepOf n side g (steps.Exchange cs p q)
exchange_as n side g on a cs p q ep eq h =
    subst (λ i. IsStepOf n side g (steps.Exchange cs i q)) (sym ep) (subst (λ j. IsStepOf n side g (steps.Exchange cs (place_on side (get_or on (a - 2) 0)) j)) (sym eq) h)
