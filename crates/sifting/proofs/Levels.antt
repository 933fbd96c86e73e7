-- The size of a level is the number of reached nodes of its variable.
use Rattle.std.proofs.Common.{◌≡◌, ℕ, zero, suc, ◌+◌, ◌<◌, Bool, true, false, eqb, List, [], ◌∷◌, map, filter, length, Option, Some, None, count_by, inl, inr, refl, sym, ◌∙◌, ap, arith, eq-eqb, cond, slice_index}
use Rattle.std.specs.Prelude.{◌||◌}
use Rattle.std.specs.Set.{distinct_count}
use Rattle.std.specs.List.{IsDistinct, AllByRecursion}
use Rattle.std.specs.Cmp.{nat_eq_equiv}
use Rattle.std.proofs.lemmas.Bool.{cond-true, cond-false, ne_eqb, cases_Bool, eqb-true, or_cases, or_left, or_right, false≢true}
use Rattle.std.proofs.lemmas.Map.Made.{length-from_keys}
use Rattle.std.proofs.lemmas.Map.Keys.{IsDistinct-cons}
use Rattle.std.proofs.lemmas.List.Sums.{sum_by-cons}
use mathlib.Core.Path.{fun_ext}
use Rattle.bit_lists.proofs.Variables.{has-head}
use Rattle.bit_lists.specs.Orders.{has, AreVars}
use Rattle.diagram_model.specs.Functions.{Function, fix}
use Rattle.diagram_model.specs.Nodes.{parts_of, follow, IsLiveIn, AreProper, AreUnique, IsDiagram, denoted}
use Rattle.diagram_model.specs.Reach.{is_in, Reaches}
use Rattle.diagram_model.specs.Reach.Reaches.{root}
use Rattle.diagram_model.specs.Size.{fix_both, level_size, size}
use Rattle.diagram_model.specs.declared.parts.Parts.{Parts}
use Rattle.diagram_model.proofs.Canonical.{proper-tail, live-follow, value-fixed, some_same}
use Rattle.diagram_model.proofs.Sizes.{has_var, has_var_of, follow_both, Each, size_is, node_count}
use Rattle.diagram_model.proofs.Reached.{met, in_append, met_reached, reached_met}
use Rattle.node_store.specs.Slots.{is_of}
use Rattle.sifting.specs.Places.{fixed, level}

-- what is left of a list of nodes once the first i variables are fixed both ways
unfoldable pub followed : List (Option Parts) → ℕ → List ℕ → List ℕ → List ℕ
followed s zero vs ns = ns
followed s (suc i) [] ns = ns
followed s (suc i) (v ∷ vs) ns = followed s i vs (follow_both s v ns)

fixed_function : (s : List (Option Parts)) (v : ℕ) (vs : List ℕ) (n : ℕ) → has vs v ≡ false → (b : Bool) → fix v b (denoted s (v ∷ vs) n) ≡ denoted s vs (follow s v b n)
fixed_function s v vs n once b = fun_ext (λ x. value-fixed s v vs n once b x)

fixed_functions : (s : List (Option Parts)) (v : ℕ) (vs ns : List ℕ) → has vs v ≡ false → fix_both v (map (denoted s (v ∷ vs)) ns) ≡ map (denoted s vs) (follow_both s v ns)
unfolding fix_both follow_both
fixed_functions s v vs [] once = refl
fixed_functions s v vs (n ∷ ns) once =
    let build = λ (f : Function) (g : Function) (fs : List Function). let r : List Function = f ∷ g ∷ fs in r in
    ap (λ f. build f (fix v true (denoted s (v ∷ vs) n)) (fix_both v (map (denoted s (v ∷ vs)) ns))) (fixed_function s v vs n once false)
    ∙ ap (λ g. build (denoted s vs (follow s v false n)) g (fix_both v (map (denoted s (v ∷ vs)) ns))) (fixed_function s v vs n once true)
    ∙ ap (λ fs. build (denoted s vs (follow s v false n)) (denoted s vs (follow s v true n)) fs) (fixed_functions s v vs ns once)

follow_each : (s : List (Option Parts)) (v : ℕ) (vs ns : List ℕ) → AreProper s (v ∷ vs) → Each (IsLiveIn s (v ∷ vs)) ns → Each (IsLiveIn s vs) (follow_both s v ns)
unfolding follow_both
follow_each s v vs [] proper h = tt
follow_each s v vs (n ∷ ns) proper h = (live-follow s v vs n proper h.0 false, (live-follow s v vs n proper h.0 true, follow_each s v vs ns proper h.1))

plus_right : (a b c : ℕ) → a + c ≡ b + c → a ≡ b
plus_right a b c e = omega (arith, e)

-- the first level, from the size and the size of the rest
level_first : (s : List (Option Parts)) (k v : ℕ) (vs ns : List ℕ) → AreVars k (v ∷ vs) → AreProper s (v ∷ vs) → AreUnique s → Each (IsLiveIn s (v ∷ vs)) ns → level_size k v (map (denoted s (v ∷ vs)) ns) ≡ distinct_count eqb (filter (has_var s v) ns)
unfolding size node_count
level_first s k v vs ns vars proper unique h =
    let whole : level_size k v (map (denoted s (v ∷ vs)) ns) + size k vs (fix_both v (map (denoted s (v ∷ vs)) ns)) ≡ distinct_count eqb (filter (has_var s v) ns) + node_count s vs (follow_both s v ns) = size_is s k (v ∷ vs) ns vars proper unique h in
    let rest : size k vs (fix_both v (map (denoted s (v ∷ vs)) ns)) ≡ node_count s vs (follow_both s v ns) =
    ap (size k vs) (fixed_functions s v vs ns vars.1) ∙ size_is s k vs (follow_both s v ns) vars.2 (proper-tail s v vs vars.1 proper) unique (follow_each s v vs ns proper h) in
    plus_right (level_size k v (map (denoted s (v ∷ vs)) ns)) (distinct_count eqb (filter (has_var s v) ns)) (node_count s vs (follow_both s v ns))
    (ap (λ n. level_size k v (map (denoted s (v ∷ vs)) ns) + n) (sym rest) ∙ whole)

-- the level at a place counts the different nodes of its variable that are left there
pub level_nodes_met : (s : List (Option Parts)) (k : ℕ) (vs ns : List ℕ) (i : ℕ) → i < length vs → AreVars k vs → AreProper s vs → AreUnique s → Each (IsLiveIn s vs) ns → level k vs (map (denoted s vs) ns) i ≡ distinct_count eqb (filter (has_var s (slice_index vs i)) (followed s i vs ns))
unfolding fixed followed
level_nodes_met s k [] ns i lt vars proper unique h = absurd (omega arith)
level_nodes_met s k (v ∷ vs) ns zero lt vars proper unique h = level_first s k v vs ns vars proper unique h
level_nodes_met s k (v ∷ vs) ns (suc i) lt vars proper unique h =
    ap (λ fs. level k vs fs i) (fixed_functions s v vs ns vars.1)
    ∙ level_nodes_met s k vs (follow_both s v ns) i (omega arith) vars.2 (proper-tail s v vs vars.1 proper) unique (follow_each s v vs ns proper h)

in_filter : (test : ℕ → Bool) (ns : List ℕ) (q : ℕ) → is_in (filter test ns) q ≡ true → (is_in ns q ≡ true) × (test q ≡ true)
in_filter test [] q h = absurd (false≢true h)
in_filter test (n ∷ ns) q h =
    elim (cases_Bool (test n)) [
      | inl e ↦
          let g : (eqb q n || is_in (filter test ns) q) ≡ true = ap (λ l. is_in l q) (sym (cond-true (test n) (n ∷ filter test ns) (filter test ns) e)) ∙ h in
          elim (or_cases (eqb q n) (is_in (filter test ns) q) g) [
            | inl at ↦ (or_left (eqb q n) (is_in ns q) at, ap test (eqb-true q n at) ∙ e)
            | inr more ↦ let r = in_filter test ns q more in (or_right (eqb q n) (is_in ns q) r.0, r.1)
          ]
      | inr e ↦
          let g : is_in (filter test ns) q ≡ true = ap (λ l. is_in l q) (sym (cond-false (test n) (n ∷ filter test ns) (filter test ns) e)) ∙ h in
          let r = in_filter test ns q g in (or_right (eqb q n) (is_in ns q) r.0, r.1)
    ]

of_has_var : (o : Option Parts) (v : ℕ) → has_var_of v o ≡ true → (p : Parts) × (o ≡ Some p) × (p.var ≡ v)
of_has_var None v h = absurd (false≢true h)
of_has_var (Some p) v h = (p, refl, eqb-true p.var v h)

pub has_at : (vs : List ℕ) (i : ℕ) → i < length vs → has vs (slice_index vs i) ≡ true
unfolding has
has_at [] i lt = absurd (omega arith)
has_at (v ∷ vs) zero lt = cond-true (eqb v v) true (has vs v) (eq-eqb v v refl)
has_at (v ∷ vs) (suc i) lt = has-head v (slice_index vs i) vs (has_at vs i (omega arith))

-- what is left at a place comes up, and what comes up with the variable of the place is left there
at_met : (s : List (Option Parts)) (vs ns : List ℕ) (i q : ℕ) → i < length vs → is_in (filter (has_var s (slice_index vs i)) (followed s i vs ns)) q ≡ true → is_in (met s vs ns) q ≡ true
unfolding met followed
at_met s [] ns i q lt h = absurd (omega arith)
at_met s (v ∷ vs) ns zero q lt h = in_append (filter (has_var s v) ns) (met s vs (follow_both s v ns)) q ∙ or_left (is_in (filter (has_var s v) ns) q) (is_in (met s vs (follow_both s v ns)) q) h
at_met s (v ∷ vs) ns (suc i) q lt h = in_append (filter (has_var s v) ns) (met s vs (follow_both s v ns)) q ∙ or_right (is_in (filter (has_var s v) ns) q) (is_in (met s vs (follow_both s v ns)) q) (at_met s vs (follow_both s v ns) i q (omega arith) h)

-- a node of the rest has a variable of the rest
met_var : (s : List (Option Parts)) (vs ns : List ℕ) (q : ℕ) → is_in (met s vs ns) q ≡ true → (p : Parts) × (parts_of s q ≡ Some p) × (has vs p.var ≡ true)
unfolding met has
met_var s [] ns q h = absurd (false≢true h)
met_var s (v ∷ vs) ns q h =
    elim (or_cases (is_in (filter (has_var s v) ns) q) (is_in (met s vs (follow_both s v ns)) q) (sym (in_append (filter (has_var s v) ns) (met s vs (follow_both s v ns)) q) ∙ h)) [
      | inl at ↦
          let r = of_has_var (parts_of s q) v (in_filter (has_var s v) ns q at).1 in
          (r.0, r.1, cond-true (eqb v r.0.var) true (has vs r.0.var) (eq-eqb v r.0.var (sym r.2)))
      | inr more ↦
          let r = met_var s vs (follow_both s v ns) q more in
          (r.0, r.1, elim (cases_Bool (eqb v r.0.var)) [ inl e ↦ cond-true (eqb v r.0.var) true (has vs r.0.var) e | inr e ↦ cond-false (eqb v r.0.var) true (has vs r.0.var) e ∙ r.2 ])
    ]

met_at : (s : List (Option Parts)) (k : ℕ) (vs ns : List ℕ) (i q : ℕ) (p : Parts) → i < length vs → AreVars k vs → is_in (met s vs ns) q ≡ true → parts_of s q ≡ Some p → p.var ≡ slice_index vs i → is_in (filter (has_var s (slice_index vs i)) (followed s i vs ns)) q ≡ true
unfolding met followed
met_at s k [] ns i q p lt vars h is at = absurd (omega arith)
met_at s k (v ∷ vs) ns zero q p lt vars h is at =
    elim (or_cases (is_in (filter (has_var s v) ns) q) (is_in (met s vs (follow_both s v ns)) q) (sym (in_append (filter (has_var s v) ns) (met s vs (follow_both s v ns)) q) ∙ h)) [
      | inl here ↦ here
      | inr more ↦
          let b = met_var s vs (follow_both s v ns) q more in
          absurd (false≢true (sym vars.1 ∙ (ap (has vs) (sym at ∙ ap (λ (r : Parts). r.var) (some_same p b.0 (sym is ∙ b.1))) ∙ b.2)))
    ]
met_at s k (v ∷ vs) ns (suc i) q p lt vars h is at =
    elim (or_cases (is_in (filter (has_var s v) ns) q) (is_in (met s vs (follow_both s v ns)) q) (sym (in_append (filter (has_var s v) ns) (met s vs (follow_both s v ns)) q) ∙ h)) [
      | inl here ↦
          let a = of_has_var (parts_of s q) v (in_filter (has_var s v) ns q here).1 in
          let e : v ≡ slice_index vs i = sym a.2 ∙ ap (λ (r : Parts). r.var) (some_same a.0 p (sym a.1 ∙ is)) ∙ at in
          absurd (false≢true (sym vars.1 ∙ (ap (has vs) e ∙ has_at vs i (omega arith))))
      | inr more ↦ met_at s k vs (follow_both s v ns) i q p (omega arith) vars.2 more is at
    ]

both_ways : (a b : Bool) → (a ≡ true → b ≡ true) → (b ≡ true → a ≡ true) → a ≡ b
both_ways true b f g = sym (f refl)
both_ways false true f g = g refl
both_ways false false f g = refl

-- A list of the reached nodes of the variable at a place, each once, is as long as the level there.
pub level_of_reached : (s : List (Option Parts)) (k : ℕ) (vs ns xs : List ℕ) (i : ℕ) → i < length vs → IsDiagram s k vs → Each (IsLiveIn s vs) ns → IsDistinct eqb xs → ((q : ℕ) → is_in xs q ≡ true → Reaches s ns q × ((p : Parts) × (parts_of s q ≡ Some p) × (p.var ≡ slice_index vs i))) → ((q : ℕ) (p : Parts) → Reaches s ns q → parts_of s q ≡ Some p → p.var ≡ slice_index vs i → is_in xs q ≡ true) → length xs ≡ level k vs (map (denoted s vs) ns) i
level_of_reached s k vs ns xs i lt d live distinct sound whole =
    let ys = filter (has_var s (slice_index vs i)) (followed s i vs ns) in
    let same : (q : ℕ) → is_in xs q ≡ is_in ys q = λ q. both_ways (is_in xs q) (is_in ys q)
    (λ h. let a = sound q h in met_at s k vs ns i q a.1.0 lt d.order (reached_met s k vs ns d q a.0 a.1.0 a.1.1) a.1.1 a.1.2)
    (λ h. let b = of_has_var (parts_of s q) (slice_index vs i) (in_filter (has_var s (slice_index vs i)) (followed s i vs ns) q h).1 in
    whole q b.0 (met_reached s ns vs ns (λ n is. root n is) q (at_met s vs ns i q lt h)) b.1 b.2) in
    length-from_keys nat_eq_equiv xs ys distinct same ∙ sym (level_nodes_met s k vs ns i lt d.order d.proper d.unique live)

-- the numbers of the nodes of a variable, the first slot of which is k
unfoldable pub nodes_from : ℕ → ℕ → List (Option Parts) → List ℕ
nodes_from v k [] = []
nodes_from v k (o ∷ s) = cond (is_of v o) (k ∷ nodes_from v (suc k) s) (nodes_from v (suc k) s)

one : ℕ → Option Parts → ℕ
one v o = cond (is_of v o) 1 0

pub length_nodes : (v k : ℕ) (s : List (Option Parts)) → length (nodes_from v k s) ≡ count_by (is_of v) s
unfolding nodes_from one
length_nodes v k [] = refl
length_nodes v k (o ∷ s) =
    let rest = length_nodes v (suc k) s in
    let sum = sum_by-cons (one v) o s in
    elim (cases_Bool (is_of v o)) [
      | inl e ↦
          let a = ap length (cond-true (is_of v o) (k ∷ nodes_from v (suc k) s) (nodes_from v (suc k) s) e) in
          let b : one v o ≡ 1 = cond-true (is_of v o) 1 0 e in
          omega (arith, a, b, rest, sum)
      | inr e ↦
          let a = ap length (cond-false (is_of v o) (k ∷ nodes_from v (suc k) s) (nodes_from v (suc k) s) e) in
          let b : one v o ≡ 0 = cond-false (is_of v o) 1 0 e in
          omega (arith, a, b, rest, sum)
    ]

later : (v k j : ℕ) (s : List (Option Parts)) → j < k → AllByRecursion (λ y. eqb j y ≡ false) (nodes_from v k s)
unfolding nodes_from
later v k j [] lt = tt
later v k j (o ∷ s) lt =
    elim (cases_Bool (is_of v o)) [
      | inl e ↦ rw (cond-true (is_of v o) (k ∷ nodes_from v (suc k) s) (nodes_from v (suc k) s) e) (ne_eqb j k (λ e. absurd (omega arith)), later v (suc k) j s (omega arith))
      | inr e ↦ rw (cond-false (is_of v o) (k ∷ nodes_from v (suc k) s) (nodes_from v (suc k) s) e) (later v (suc k) j s (omega arith))
    ]

ap_distinct : (xs ys : List ℕ) → xs ≡ ys → IsDistinct eqb xs → IsDistinct eqb ys
ap_distinct xs ys e h = rw (← e) h

pub distinct_nodes : (v k : ℕ) (s : List (Option Parts)) → IsDistinct eqb (nodes_from v k s)
unfolding nodes_from IsDistinct
distinct_nodes v k [] = tt
distinct_nodes v k (o ∷ s) =
    elim (cases_Bool (is_of v o)) [
      | inl e ↦ ap_distinct (k ∷ nodes_from v (suc k) s) (cond (is_of v o) (k ∷ nodes_from v (suc k) s) (nodes_from v (suc k) s)) (sym (cond-true (is_of v o) (k ∷ nodes_from v (suc k) s) (nodes_from v (suc k) s) e)) (IsDistinct-cons eqb k (nodes_from v (suc k) s) (later v (suc k) k s (omega arith)) (distinct_nodes v (suc k) s))
      | inr e ↦ ap_distinct (nodes_from v (suc k) s) (cond (is_of v o) (k ∷ nodes_from v (suc k) s) (nodes_from v (suc k) s)) (sym (cond-false (is_of v o) (k ∷ nodes_from v (suc k) s) (nodes_from v (suc k) s) e)) (distinct_nodes v (suc k) s)
    ]
