-- The size of the functions of nodes is the number of held nodes that are reached from them.
use Rattle.std.proofs.Common.{◌≡◌, ℕ, ◌+◌, ◌<◌, Bool, true, false, eqb, List, [], ◌∷◌, ◌++◌, map, filter, length, Option, Some, None, inl, inr, refl, sym, ◌∙◌, ap, arith, eq-eqb}
use Rattle.std.specs.Prelude.{◌||◌}
use Rattle.std.specs.Set.{distinct_count, unique_keys}
use Rattle.std.proofs.lemmas.Bool.{cases_eq, eqb-true, cond-true, cond-false, ne_eqb, false≢true, cases_Bool, or_cases, or_left, or_right}
use Rattle.bit_lists.specs.Orders.{has, after, AreVars}
use Rattle.diagram_model.specs.Nodes.{parts_of, child, follow, IsLiveIn, IsDiagram, denoted}
use Rattle.diagram_model.specs.Size.{size}
use Rattle.diagram_model.specs.declared.parts.Parts.{Parts}
use Rattle.diagram_model.specs.Reach.{is_in, Reaches}
use Rattle.diagram_model.specs.Reach.Reaches.{root, step}
use Rattle.diagram_model.proofs.Canonical.{cases_var, some_same, follow-at, follow-other, live-child}
use Rattle.diagram_model.proofs.Values.{none_some}
use Rattle.diagram_model.proofs.Sizes.{has_var, has_var_of, follow_both, node_count, Each, size_is}
use Rattle.std.specs.List.{IsDistinct}
use Rattle.std.specs.Cmp.{nat_eq_equiv}
use Rattle.std.proofs.lemmas.Map.Made.{length-from_keys}

-- every node that comes up, level by level
unfoldable pub met : List (Option Parts) → List ℕ → List ℕ → List ℕ
met s [] ns = []
met s (v ∷ vs) ns = filter (has_var s v) ns ++ met s vs (follow_both s v ns)

or_left_true : (a b : Bool) → a ≡ true → (a || b) ≡ true
or_left_true a b e = or_left a b e

or_left_false : (a b : Bool) → a ≡ false → (a || b) ≡ b
or_left_false true b e = absurd (false≢true (sym e))
or_left_false false b e = refl

-- what is in an append
pub in_append : (xs ys : List ℕ) (q : ℕ) → is_in (xs ++ ys) q ≡ (is_in xs q || is_in ys q)
in_append [] ys q = refl
in_append (x ∷ xs) ys q = elim (cases_Bool (eqb q x)) [
  | inl e ↦ or_left_true (eqb q x) (is_in (xs ++ ys) q) e ∙ sym (ap (λ b. b || is_in ys q) (or_left_true (eqb q x) (is_in xs q) e))
  | inr e ↦ or_left_false (eqb q x) (is_in (xs ++ ys) q) e ∙ in_append xs ys q ∙ sym (ap (λ b. b || is_in ys q) (or_left_false (eqb q x) (is_in xs q) e))
]

or_right_false : (a b : Bool) → b ≡ false → (a || b) ≡ a
or_right_false true b e = refl
or_right_false false b e = e

-- lists with nothing in common
abbrev AreApart : List ℕ → List ℕ → Type 0
AreApart xs ys = (q : ℕ) → is_in xs q ≡ true → is_in ys q ≡ false

pub count_append : (xs ys : List ℕ) → AreApart xs ys → distinct_count eqb (xs ++ ys) ≡ distinct_count eqb xs + distinct_count eqb ys
count_append [] ys h = omega arith
count_append (x ∷ xs) ys h =
    let rest = count_append xs ys (λ q e. h q (or_right (eqb q x) (is_in xs q) e)) in
    let gone : is_in ys x ≡ false = h x (or_left (eqb x x) (is_in xs x) (eq-eqb x x refl)) in
    let same : is_in (xs ++ ys) x ≡ is_in xs x = in_append xs ys x ∙ or_right_false (is_in xs x) (is_in ys x) gone in
    elim (cases_Bool (is_in xs x)) [
      | inl e ↦
          ap length (cond-true (is_in (xs ++ ys) x) (unique_keys eqb (xs ++ ys)) (x ∷ unique_keys eqb (xs ++ ys)) (same ∙ e)) ∙ rest
          ∙ ap (λ n. n + distinct_count eqb ys) (ap length (sym (cond-true (is_in xs x) (unique_keys eqb xs) (x ∷ unique_keys eqb xs) e)))
      | inr e ↦
          let a = ap length (cond-false (is_in (xs ++ ys) x) (unique_keys eqb (xs ++ ys)) (x ∷ unique_keys eqb (xs ++ ys)) (same ∙ e)) in
          let b = ap length (cond-false (is_in xs x) (unique_keys eqb xs) (x ∷ unique_keys eqb xs) e) in
          omega (arith, a, b, rest)
    ]

-- what is in a filter
in_filter : (test : ℕ → Bool) (ns : List ℕ) (q : ℕ) → is_in (filter test ns) q ≡ true → (is_in ns q ≡ true) × (test q ≡ true)
in_filter test [] q h = absurd (false≢true h)
in_filter test (n ∷ ns) q h =
    elim (cases_Bool (test n)) [
      | inl e ↦
          let g : (eqb q n || is_in (filter test ns) q) ≡ true = ap (λ l. is_in l q) (sym (cond-true (test n) (n ∷ filter test ns) (filter test ns) e)) ∙ h in
          elim (or_cases (eqb q n) (is_in (filter test ns) q) g) [
            | inl at ↦ (or_left (eqb q n) (is_in ns q) at, ap test (eqb-true q n at) ∙ e)
            | inr more ↦ let r = in_filter test ns q more in (or_right (eqb q n) (is_in ns q) r.0, r.1)
          ]
      | inr e ↦
          let g : is_in (filter test ns) q ≡ true = ap (λ l. is_in l q) (sym (cond-false (test n) (n ∷ filter test ns) (filter test ns) e)) ∙ h in
          let r = in_filter test ns q g in (or_right (eqb q n) (is_in ns q) r.0, r.1)
    ]

to_filter : (test : ℕ → Bool) (ns : List ℕ) (q : ℕ) → is_in ns q ≡ true → test q ≡ true → is_in (filter test ns) q ≡ true
to_filter test [] q h t = absurd (false≢true h)
to_filter test (n ∷ ns) q h t =
    elim (or_cases (eqb q n) (is_in ns q) h) [
      | inl at ↦
          let e : test n ≡ true = ap test (sym (eqb-true q n at)) ∙ t in
          ap (λ l. is_in l q) (cond-true (test n) (n ∷ filter test ns) (filter test ns) e) ∙ or_left (eqb q n) (is_in (filter test ns) q) at
      | inr more ↦
          let rest = to_filter test ns q more t in
          elim (cases_Bool (test n)) [
            | inl e ↦ ap (λ l. is_in l q) (cond-true (test n) (n ∷ filter test ns) (filter test ns) e) ∙ or_right (eqb q n) (is_in (filter test ns) q) rest
            | inr e ↦ ap (λ l. is_in l q) (cond-false (test n) (n ∷ filter test ns) (filter test ns) e) ∙ rest
          ]
    ]

here_either : (s : List (Option Parts)) (v n : ℕ) (ns : List ℕ) (q : ℕ) (b : Bool) → q ≡ n → is_in (follow s v false n ∷ follow s v true n ∷ follow_both s v ns) (follow s v b q) ≡ true
here_either s v n ns q false e = or_left (eqb (follow s v false q) (follow s v false n)) (is_in (follow s v true n ∷ follow_both s v ns) (follow s v false q)) (eq-eqb (follow s v false q) (follow s v false n) (ap (follow s v false) e))
here_either s v n ns q true e = or_right (eqb (follow s v true q) (follow s v false n)) (is_in (follow s v true n ∷ follow_both s v ns) (follow s v true q)) (or_left (eqb (follow s v true q) (follow s v true n)) (is_in (follow_both s v ns) (follow s v true q)) (eq-eqb (follow s v true q) (follow s v true n) (ap (follow s v true) e)))

-- what a list leads to, and where that comes from
to_follow : (s : List (Option Parts)) (v : ℕ) (ns : List ℕ) (q : ℕ) (b : Bool) → is_in ns q ≡ true → is_in (follow_both s v ns) (follow s v b q) ≡ true
unfolding follow_both
to_follow s v [] q b h = absurd (false≢true h)
to_follow s v (n ∷ ns) q b h =
    elim (or_cases (eqb q n) (is_in ns q) h) [
      | inl at ↦ here_either s v n ns q b (eqb-true q n at)
      | inr more ↦ or_right (eqb (follow s v b q) (follow s v false n)) (is_in (follow s v true n ∷ follow_both s v ns) (follow s v b q)) (or_right (eqb (follow s v b q) (follow s v true n)) (is_in (follow_both s v ns) (follow s v b q)) (to_follow s v ns q b more))
    ]

of_has_var : (o : Option Parts) (v : ℕ) → has_var_of v o ≡ true → (p : Parts) × (o ≡ Some p) × (p.var ≡ v)
of_has_var None v h = absurd (false≢true h)
of_has_var (Some p) v h = (p, refl, eqb-true p.var v h)

-- each node that comes up has a variable of the list
met_var : (s : List (Option Parts)) (vs ns : List ℕ) (q : ℕ) → is_in (met s vs ns) q ≡ true → (p : Parts) × (parts_of s q ≡ Some p) × (has vs p.var ≡ true)
unfolding met has
met_var s [] ns q h = absurd (false≢true h)
met_var s (v ∷ vs) ns q h =
    elim (or_cases (is_in (filter (has_var s v) ns) q) (is_in (met s vs (follow_both s v ns)) q) (sym (in_append (filter (has_var s v) ns) (met s vs (follow_both s v ns)) q) ∙ h)) [
      | inl at ↦
          let r = of_has_var (parts_of s q) v (in_filter (has_var s v) ns q at).1 in
          (r.0, r.1, cond-true (eqb v r.0.var) true (has vs r.0.var) (eq-eqb v r.0.var (sym r.2)))
      | inr more ↦
          let r = met_var s vs (follow_both s v ns) q more in
          (r.0, r.1, elim (cases_Bool (eqb v r.0.var)) [ inl e ↦ cond-true (eqb v r.0.var) true (has vs r.0.var) e | inr e ↦ cond-false (eqb v r.0.var) true (has vs r.0.var) e ∙ r.2 ])
    ]

not_in : (b : Bool) → (b ≡ true → ⊥) → b ≡ false
not_in true h = absurd (h refl)
not_in false h = refl

-- The levels have nothing in common, so their numbers add up.
pub met_count : (s : List (Option Parts)) (k : ℕ) (vs ns : List ℕ) → AreVars k vs → node_count s vs ns ≡ distinct_count eqb (met s vs ns)
unfolding met node_count
met_count s k [] ns vars = refl
met_count s k (v ∷ vs) ns vars =
    let apart : AreApart (filter (has_var s v) ns) (met s vs (follow_both s v ns)) = λ q h. not_in (is_in (met s vs (follow_both s v ns)) q) (λ more.
    let a = of_has_var (parts_of s q) v (in_filter (has_var s v) ns q h).1 in
    let b = met_var s vs (follow_both s v ns) q more in
    false≢true (sym vars.1 ∙ (ap (has vs) (sym a.2 ∙ ap (λ (r : Parts). r.var) (some_same a.0 b.0 (sym a.1 ∙ b.1))) ∙ b.2))) in
    ap (λ n. distinct_count eqb (filter (has_var s v) ns) + n) (met_count s k vs (follow_both s v ns) vars.2) ∙ sym (count_append (filter (has_var s v) ns) (met s vs (follow_both s v ns)) apart)

-- where what is left of a list comes from
from_follow : (s : List (Option Parts)) (v : ℕ) (ns : List ℕ) (q : ℕ) → is_in (follow_both s v ns) q ≡ true → (n : ℕ) × (is_in ns n ≡ true) × ((b : Bool) × (q ≡ follow s v b n))
unfolding follow_both
from_follow s v [] q h = absurd (false≢true h)
from_follow s v (n ∷ ns) q h =
    elim (or_cases (eqb q (follow s v false n)) (is_in (follow s v true n ∷ follow_both s v ns) q) h) [
      | inl at ↦ (n, or_left (eqb n n) (is_in ns n) (eq-eqb n n refl), (false, eqb-true q (follow s v false n) at))
      | inr more ↦ elim (or_cases (eqb q (follow s v true n)) (is_in (follow_both s v ns) q) more) [
        | inl at ↦ (n, or_left (eqb n n) (is_in ns n) (eq-eqb n n refl), (true, eqb-true q (follow s v true n) at))
        | inr rest ↦ let r = from_follow s v ns q rest in (r.0, or_right (eqb r.0 n) (is_in ns r.0) r.1, r.2)
      ]
    ]

reaches_follow : (s : List (Option Parts)) (roots : List ℕ) (v n : ℕ) (b : Bool) → Reaches s roots n → Reaches s roots (follow s v b n)
reaches_follow s roots v n b h =
    elim (cases_var s v n) [
      | inl at ↦ let g : Reaches s roots (child b at.0) = step n at.0 b h at.1 in rw (follow-at s v n at.0 at.1 at.2 b) g
      | inr lacks ↦ rw (follow-other s v n lacks b) h
    ]

-- what comes up is reached
pub met_reached : (s : List (Option Parts)) (roots vs ns : List ℕ) → ((n : ℕ) → is_in ns n ≡ true → Reaches s roots n) → (q : ℕ) → is_in (met s vs ns) q ≡ true → Reaches s roots q
unfolding met
met_reached s roots [] ns all q h = absurd (false≢true h)
met_reached s roots (v ∷ vs) ns all q h =
    elim (or_cases (is_in (filter (has_var s v) ns) q) (is_in (met s vs (follow_both s v ns)) q) (sym (in_append (filter (has_var s v) ns) (met s vs (follow_both s v ns)) q) ∙ h)) [
      | inl at ↦ all q (in_filter (has_var s v) ns q at).0
      | inr more ↦ met_reached s roots vs (follow_both s v ns) (λ m is. let r = from_follow s v ns m is in rw r.2.1 (reaches_follow s roots v r.0 r.2.0 (all r.0 r.1))) q more
    ]

met_left : (s : List (Option Parts)) (v : ℕ) (vs ns : List ℕ) (q : ℕ) → is_in (filter (has_var s v) ns) q ≡ true → is_in (met s (v ∷ vs) ns) q ≡ true
unfolding met
met_left s v vs ns q h = in_append (filter (has_var s v) ns) (met s vs (follow_both s v ns)) q ∙ or_left (is_in (filter (has_var s v) ns) q) (is_in (met s vs (follow_both s v ns)) q) h

met_right : (s : List (Option Parts)) (v : ℕ) (vs ns : List ℕ) (q : ℕ) → is_in (met s vs (follow_both s v ns)) q ≡ true → is_in (met s (v ∷ vs) ns) q ≡ true
unfolding met
met_right s v vs ns q h = in_append (filter (has_var s v) ns) (met s vs (follow_both s v ns)) q ∙ or_right (is_in (filter (has_var s v) ns) q) (is_in (met s vs (follow_both s v ns)) q) h

-- a held node of the list comes up
pub first_met : (s : List (Option Parts)) (vs ns : List ℕ) (q : ℕ) (p : Parts) → is_in ns q ≡ true → parts_of s q ≡ Some p → has vs p.var ≡ true → is_in (met s vs ns) q ≡ true
unfolding has
first_met s [] ns q p h is live = absurd (false≢true live)
first_met s (v ∷ vs) ns q p h is live =
    elim (cases_eq p.var v) [
      | inl e ↦ met_left s v vs ns q (to_filter (has_var s v) ns q h (ap (has_var_of v) is ∙ eq-eqb p.var v e))
      | inr ne ↦
          let stays : follow s v false q ≡ q = follow-other s v q (λ r rs at. ne (ap (λ (t : Parts). t.var) (some_same p r (sym is ∙ rs)) ∙ at)) false in
          let in_next : is_in (follow_both s v ns) q ≡ true = ap (is_in (follow_both s v ns)) (sym stays) ∙ to_follow s v ns q false h in
          met_right s v vs ns q (first_met s vs (follow_both s v ns) q p in_next is (sym (cond-false (eqb v p.var) true (has vs p.var) (ne_eqb v p.var (λ e. ne (sym e)))) ∙ live))
    ]

-- the held children of what comes up come up
pub met_closed : (s : List (Option Parts)) (vs ns : List ℕ) → ((v : ℕ) → has vs v ≡ true → (q : ℕ) (p : Parts) → parts_of s q ≡ Some p → p.var ≡ v → (b : Bool) (r : Parts) → parts_of s (child b p) ≡ Some r → has (after vs v) r.var ≡ true) → (k : ℕ) → AreVars k vs → (q : ℕ) (p : Parts) (b : Bool) (r : Parts) → is_in (met s vs ns) q ≡ true → parts_of s q ≡ Some p → parts_of s (child b p) ≡ Some r → is_in (met s vs ns) (child b p) ≡ true
unfolding met has after
met_closed s [] ns down k vars q p b r h is held = absurd (false≢true h)
met_closed s (v ∷ vs) ns down k vars q p b r h is held =
    elim (or_cases (is_in (filter (has_var s v) ns) q) (is_in (met s vs (follow_both s v ns)) q) (sym (in_append (filter (has_var s v) ns) (met s vs (follow_both s v ns)) q) ∙ h)) [
      | inl at ↦
          let a = of_has_var (parts_of s q) v (in_filter (has_var s v) ns q at).1 in
          let at_v : p.var ≡ v = ap (λ (t : Parts). t.var) (some_same p a.0 (sym is ∙ a.1)) ∙ a.2 in
          let next : is_in (follow_both s v ns) (child b p) ≡ true = ap (is_in (follow_both s v ns)) (sym (follow-at s v q p is at_v b)) ∙ to_follow s v ns q b (in_filter (has_var s v) ns q at).0 in
          let below = down v (cond-true (eqb v v) true (has vs v) (eq-eqb v v refl)) q p is at_v b r held in
          let live : has vs r.var ≡ true = ap (λ l. has l r.var) (sym (cond-true (eqb v v) vs (after vs v) (eq-eqb v v refl))) ∙ below in
          met_right s v vs ns (child b p) (first_met s vs (follow_both s v ns) (child b p) r next held live)
      | inr more ↦
          let deeper : (w : ℕ) → has vs w ≡ true → (q : ℕ) (p : Parts) → parts_of s q ≡ Some p → p.var ≡ w → (b : Bool) (r : Parts) → parts_of s (child b p) ≡ Some r → has (after vs w) r.var ≡ true = λ w in_w i j ij at c t ct.
          let ne : eqb v w ≡ false = ne_eqb v w (λ e. false≢true (sym vars.1 ∙ (ap (has vs) e ∙ in_w))) in
          ap (λ l. has l t.var) (sym (cond-false (eqb v w) vs (after vs w) ne)) ∙ down w (cond-false (eqb v w) true (has vs w) ne ∙ in_w) i j ij at c t ct in
          met_right s v vs ns (child b p) (met_closed s vs (follow_both s v ns) deeper k vars.2 q p b r more is held)
    ]

ap_live : (s : List (Option Parts)) (vs : List ℕ) (n u v : ℕ) → u ≡ v → IsLiveIn s (after vs u) n → IsLiveIn s (after vs v) n
ap_live s vs n u v e h = rw (← e) h

below_of : (s : List (Option Parts)) (ws : List ℕ) (n : ℕ) (t : Parts) → ((m : ℕ) → m < 2 → parts_of s m ≡ None) → parts_of s n ≡ Some t → IsLiveIn s ws n → has ws t.var ≡ true
below_of s ws n t ground is (inl h) = absurd (none_some t (sym (ground n h) ∙ is))
below_of s ws n t ground is (inr h) = ap (λ (r : Parts). has ws r.var) (some_same t h.parts (sym is ∙ h.is)) ∙ h.below

child_below : (s : List (Option Parts)) (k : ℕ) (vs : List ℕ) (i : ℕ) (j : Parts) (c : Bool) (t : Parts) → IsDiagram s k vs → parts_of s i ≡ Some j → parts_of s (child c j) ≡ Some t → (v : ℕ) → j.var ≡ v → has (after vs v) t.var ≡ true
child_below s k vs i j c t d ij ct v e =
    below_of s (after vs v) (child c j) t d.ground ct (ap_live s vs (child c j) j.var v e (live-child s vs j (d.proper i j ij (d.within i j ij)) c))

-- each held node that is reached comes up
pub reached_met : (s : List (Option Parts)) (k : ℕ) (vs ns : List ℕ) → IsDiagram s k vs → (q : ℕ) → Reaches s ns q → (p : Parts) → parts_of s q ≡ Some p → is_in (met s vs ns) q ≡ true
reached_met s k vs ns d q (root _ h) p is = first_met s vs ns q p h is (d.within q p is)
reached_met s k vs ns d q (step n r b h at) p is =
    met_closed s vs ns (λ v in_v i j ij e c t ct. child_below s k vs i j c t d ij ct v e) k d.order n r b p (reached_met s k vs ns d n h r at) at is

both_ways : (a b : Bool) → (a ≡ true → b ≡ true) → (b ≡ true → a ≡ true) → a ≡ b
both_ways true b f g = sym (f refl)
both_ways false true f g = g refl
both_ways false false f g = refl

-- A list of the held nodes that are reached, each once, is as long as the size of the functions.
pub size_of_reached : (s : List (Option Parts)) (k : ℕ) (vs ns xs : List ℕ) → IsDiagram s k vs → Each (IsLiveIn s vs) ns → IsDistinct eqb xs → ((q : ℕ) → is_in xs q ≡ true → Reaches s ns q × ((p : Parts) × (parts_of s q ≡ Some p))) → ((q : ℕ) (p : Parts) → Reaches s ns q → parts_of s q ≡ Some p → is_in xs q ≡ true) → length xs ≡ size k vs (map (denoted s vs) ns)
size_of_reached s k vs ns xs d live distinct sound whole =
    let same : (q : ℕ) → is_in xs q ≡ is_in (met s vs ns) q = λ q. both_ways (is_in xs q) (is_in (met s vs ns) q)
    (λ h. let a = sound q h in reached_met s k vs ns d q a.0 a.1.0 a.1.1)
    (λ h. let b = met_var s vs ns q h in whole q b.0 (met_reached s ns vs ns (λ n is. root n is) q h) b.1) in
    length-from_keys nat_eq_equiv xs (met s vs ns) distinct same ∙ sym (met_count s k vs ns d.order) ∙ sym (size_is s k vs ns d.order d.proper d.unique live)
