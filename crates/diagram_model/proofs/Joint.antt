-- The joint size counts the triples that arise by fixing a prefix and have one that depends on the next
-- variable.
use Rattle.std.proofs.Common.{◌≡◌, ◌≢◌, ◌⊎◌, ℕ, ◌+◌, ◌<◌, Bool, true, false, eqb, List, [], ◌∷◌, ◌++◌, map, filter, length, inl, inr, refl, sym, ◌∙◌, ap, subst, arith, eq-eqb, length-append}
use Rattle.std.specs.Prelude.{◌||◌}
use Rattle.std.specs.Set.{distinct_count, unique_keys}
use Rattle.std.proofs.lemmas.Bool.{cases_eq, cases_Bool, cond-true, cond-false, false≢true, or_cases}
use Rattle.std.proofs.lemmas.List.{length-map}
use Rattle.bit_lists.proofs.Variables.{has-tail}
use Rattle.bit_lists.specs.Lists.{all_lists}
use Rattle.bit_lists.specs.Orders.{has, after, AreVars}
use Rattle.diagram_model.specs.Bryant.{IsCountedFrom, IsIn, AreDifferent, IsNumberOf}
use Rattle.diagram_model.specs.Functions.{Function, bit, fix}
use Rattle.diagram_model.specs.Joint.{Trio, trio_truths, one_depends, fix_trio, fix_trios, joint_size, IsTrioFrom, IsCountedTrio}
use Rattle.diagram_model.specs.Size.{truths, same_truths, depends}
use Rattle.diagram_model.proofs.Canonical.{has_not-parts}
use Rattle.diagram_model.proofs.Counting.{in_same, of_unique, to_unique, unique_different, in_append, in_left, in_right, append_different, ignores_depends, depends_same}
use Rattle.diagram_model.proofs.Prefixes.{Ignores, fix_twice, ignores_fix}

pub trio_same : (a b c x y z : Function) → a ≡ x → b ≡ y → c ≡ z → (let t : Trio = record { f = a; g = b; h = c } in t) ≡ record { f = x; g = y; h = z }
trio_same a b c x y z p q r =
    let build = λ (f : Function) (g : Function) (h : Function). let t : Trio = record { f = f; g = g; h = h } in t in
    ap (λ f. build f b c) p ∙ ap (λ g. build x g c) q ∙ ap (λ h. build x y h) r

-- none of the three reads u
abbrev pub TrioIgnores : Trio → ℕ → Type 0
TrioIgnores t u = (b : Bool) → fix_trio u b t ≡ t

pub trio_ignores : (t : Trio) (u : ℕ) → Ignores t.f u → Ignores t.g u → Ignores t.h u → TrioIgnores t u
trio_ignores t u a b c = λ e. trio_same (fix u e t.f) (fix u e t.g) (fix u e t.h) t.f t.g t.h (a e) (b e) (c e)

of_f : (t : Trio) (u : ℕ) → TrioIgnores t u → Ignores t.f u
of_f t u h = λ b. ap (λ (s : Trio). s.f) (h b)

of_g : (t : Trio) (u : ℕ) → TrioIgnores t u → Ignores t.g u
of_g t u h = λ b. ap (λ (s : Trio). s.g) (h b)

of_h : (t : Trio) (u : ℕ) → TrioIgnores t u → Ignores t.h u
of_h t u h = λ b. ap (λ (s : Trio). s.h) (h b)

trio_twice : (v : ℕ) (b c : Bool) (t : Trio) → fix_trio v c (fix_trio v b t) ≡ fix_trio v b t
trio_twice v b c t =
    trio_same (fix v c (fix v b t.f)) (fix v c (fix v b t.g)) (fix v c (fix v b t.h)) (fix v b t.f) (fix v b t.g) (fix v b t.h) (fix_twice v b c t.f) (fix_twice v b c t.g) (fix_twice v b c t.h)

trio_ignores_fix : (u v : ℕ) (b : Bool) (t : Trio) → u ≢ v → TrioIgnores t u → TrioIgnores (fix_trio v b t) u
trio_ignores_fix u v b t ne h =
    trio_ignores (fix_trio v b t) u (ignores_fix u v b t.f ne (of_f t u h)) (ignores_fix u v b t.g ne (of_g t u h)) (ignores_fix u v b t.h ne (of_h t u h))

none_of : (a b c : Bool) → a ≡ false → b ≡ false → c ≡ false → (a || (b || c)) ≡ false
none_of a b c p q r = ap (λ x. x || (b || c)) p ∙ ap (λ x. x || c) q ∙ r

-- what none of the three reads, none depends on
none_depends : (k v : ℕ) (t : Trio) → TrioIgnores t v → one_depends k v t ≡ false
none_depends k v t h =
    none_of (depends k v t.f) (depends k v t.g) (depends k v t.h) (ignores_depends k v t.f (of_f t v h)) (ignores_depends k v t.g (of_g t v h)) (ignores_depends k v t.h (of_h t v h))

ignores_same : (t u : Trio) (v : ℕ) → u ≡ t → TrioIgnores t v → TrioIgnores u v
ignores_same t u v e h = rw e h

-- a triple that ignores v doesn't count where v is next
not_counted : (k v : ℕ) (t u : Trio) → TrioIgnores t v → u ≡ t → one_depends k v u ≡ true → ⊥
not_counted k v t u h e reads = false≢true (sym (none_depends k v u (ignores_same t u v e h)) ∙ reads)

cons_head : (x y : Bool) (xs ys : List Bool) → x ∷ xs ≡ y ∷ ys → x ≡ y
cons_head x y xs ys e = cc

cons_tail : (x y : Bool) (xs ys : List Bool) → x ∷ xs ≡ y ∷ ys → xs ≡ ys
cons_tail x y xs ys e = cc

append_same : (xs ys zs ws : List Bool) → length xs ≡ length zs → xs ++ ys ≡ zs ++ ws → (xs ≡ zs) × (ys ≡ ws)
append_same [] ys [] ws len e = (refl, e)
append_same [] ys (c ∷ zs) ws len e = absurd (omega arith)
append_same (a ∷ xs) ys [] ws len e = absurd (omega arith)
append_same (a ∷ xs) ys (c ∷ zs) ws len e =
    let r = append_same xs ys zs ws (omega arith) (cons_tail a c (xs ++ ys) (zs ++ ws) e) in
    (ap (λ b. b ∷ xs) (cons_head a c (xs ++ ys) (zs ++ ws) e) ∙ ap (λ l. c ∷ l) r.0, r.1)

same_length : (k : ℕ) (f g : Function) → length (truths k f) ≡ length (truths k g)
unfolding truths
same_length k f g = length-map (all_lists k) (λ x. f (bit x)) ∙ sym (length-map (all_lists k) (λ x. g (bit x)))

-- triples of the same truth values have the same three truth lists
pub trio_parts : (k : ℕ) (t u : Trio) → trio_truths k t ≡ trio_truths k u → (truths k t.f ≡ truths k u.f) × (truths k t.g ≡ truths k u.g) × (truths k t.h ≡ truths k u.h)
unfolding trio_truths
trio_parts k t u e =
    let first = append_same (truths k t.f) (truths k t.g ++ truths k t.h) (truths k u.f) (truths k u.g ++ truths k u.h) (same_length k t.f u.f) e in
    let second = append_same (truths k t.g) (truths k t.h) (truths k u.g) (truths k u.h) (same_length k t.g u.g) first.1 in
    (first.0, second.0, second.1)

one_depends_same : (k v : ℕ) (t u : Trio) → v < k → trio_truths k t ≡ trio_truths k u → one_depends k v t ≡ one_depends k v u
one_depends_same k v t u lt e =
    let parts = trio_parts k t u e in
    ap (λ a. a || (depends k v t.g || depends k v t.h)) (depends_same k v t.f u.f lt parts.0)
    ∙ ap (λ a. depends k v u.f || (a || depends k v t.h)) (depends_same k v t.g u.g lt parts.1)
    ∙ ap (λ a. depends k v u.f || (depends k v u.g || a)) (depends_same k v t.h u.h lt parts.2)

-- t is one of the triples
abbrev IsOneTrio : List Trio → Trio → Type 0
IsOneTrio [] t = ⊥
IsOneTrio (u ∷ us) t = (t ≡ u) ⊎ IsOneTrio us t

-- the truth values of the triples that have one which depends on the variable
record IsAtLevel (k v : ℕ) (ts : List Trio) (l : List Bool) : Type 0 where
  trio : Trio
  one : IsOneTrio ts trio
  reads : one_depends k v trio ≡ true
  is : l ≡ trio_truths k trio

level_wider : (k v : ℕ) (t : Trio) (ts : List Trio) (l : List Bool) → IsAtLevel k v ts l → IsAtLevel k v (t ∷ ts) l
level_wider k v t ts l h = record { trio = h.trio; one = inr h.one; reads = h.reads; is = h.is }

first_level : (k v : ℕ) (t : Trio) (ts : List Trio) (l : List Bool) → one_depends k v t ≡ true → (IsIn l (map (trio_truths k) (filter (one_depends k v) ts)) → IsAtLevel k v ts l) → IsIn l (trio_truths k t ∷ map (trio_truths k) (filter (one_depends k v) ts)) → IsAtLevel k v (t ∷ ts) l
first_level k v t ts l reads rest (inl at) = record { trio = t; one = inl refl; reads = reads; is = at }
first_level k v t ts l reads rest (inr more) = level_wider k v t ts l (rest more)

of_level : (k v : ℕ) (ts : List Trio) (l : List Bool) → IsIn l (map (trio_truths k) (filter (one_depends k v) ts)) → IsAtLevel k v ts l
of_level k v [] l h = absurd h
of_level k v (t ∷ ts) l h =
    let kept = filter (one_depends k v) ts in
    elim (cases_Bool (one_depends k v t)) [
      | inl e ↦ first_level k v t ts l e (of_level k v ts l) (subst (λ us. IsIn l (map (trio_truths k) us)) (cond-true (one_depends k v t) (t ∷ kept) kept e) h)
      | inr e ↦ level_wider k v t ts l (of_level k v ts l (subst (λ us. IsIn l (map (trio_truths k) us)) (cond-false (one_depends k v t) (t ∷ kept) kept e) h))
    ]

to_level : (k v : ℕ) (ts : List Trio) (u : Trio) → IsOneTrio ts u → one_depends k v u ≡ true → IsIn (trio_truths k u) (map (trio_truths k) (filter (one_depends k v) ts))
to_level k v [] u h reads = absurd h
to_level k v (t ∷ ts) u h reads =
    let kept = filter (one_depends k v) ts in
    elim (cases_Bool (one_depends k v t)) [
      | inl e ↦ rw (ap (map (trio_truths k)) (cond-true (one_depends k v t) (t ∷ kept) kept e))
          (elim h [ inl at ↦ inl (ap (trio_truths k) at) | inr more ↦ inr (to_level k v ts u more reads) ])
      | inr e ↦ rw (ap (map (trio_truths k)) (cond-false (one_depends k v t) (t ∷ kept) kept e))
          (elim h [ inl at ↦ absurd (false≢true (sym e ∙ ap (one_depends k v) (sym at) ∙ reads)) | inr more ↦ to_level k v ts u more reads ])
    ]

-- where a triple of the next level comes from
of_fixed : (v : ℕ) (ts : List Trio) (u : Trio) → IsOneTrio (fix_trios v ts) u → (t : Trio) × IsOneTrio ts t × ((b : Bool) × (u ≡ fix_trio v b t))
unfolding fix_trios
of_fixed v [] u h = absurd h
of_fixed v (t ∷ ts) u h =
    elim h [
      | inl at ↦ (t, inl refl, (false, at))
      | inr more ↦ elim more [
        | inl at ↦ (t, inl refl, (true, at))
        | inr rest ↦ let r = of_fixed v ts u rest in (r.0, inr r.1, r.2)
      ]
    ]

to_fixed_here : (v : ℕ) (t : Trio) (ts : List Trio) (b : Bool) → IsOneTrio (fix_trios v (t ∷ ts)) (fix_trio v b t)
unfolding fix_trios
to_fixed_here v t ts false = inl refl
to_fixed_here v t ts true = inr (inl refl)

to_fixed_more : (v : ℕ) (t : Trio) (ts : List Trio) (u : Trio) → IsOneTrio (fix_trios v ts) u → IsOneTrio (fix_trios v (t ∷ ts)) u
unfolding fix_trios
to_fixed_more v t ts u h = inr (inr h)

one_same : (ts : List Trio) (t u : Trio) → t ≡ u → IsOneTrio ts t → IsOneTrio ts u
one_same ts t u e h = rw (sym e) h

to_fixed : (v : ℕ) (ts : List Trio) (t : Trio) (b : Bool) → IsOneTrio ts t → IsOneTrio (fix_trios v ts) (fix_trio v b t)
to_fixed v [] t b h = absurd h
to_fixed v (u ∷ ts) t b (inl at) = one_same (fix_trios v (u ∷ ts)) (fix_trio v b u) (fix_trio v b t) (ap (fix_trio v b) (sym at)) (to_fixed_here v u ts b)
to_fixed v (u ∷ ts) t b (inr more) = to_fixed_more v u ts (fix_trio v b t) (to_fixed v ts t b more)

-- what arises from a triple that ignores u ignores u
counted_ignores : (k : ℕ) (vs : List ℕ) (u : ℕ) (t w : Trio) → has vs u ≡ false → TrioIgnores t u → IsTrioFrom k vs t w → TrioIgnores w u
counted_ignores k [] u t w out ign h = absurd h
counted_ignores k (v ∷ vs) u t w out ign (inl at) = ignores_same t w u at.0 ign
counted_ignores k (v ∷ vs) u t w out ign (inr more) =
    let parts = has_not-parts v u vs out in
    counted_ignores k vs u (fix_trio v more.0 t) w parts.1 (trio_ignores_fix u v more.0 t (λ e. parts.0 (sym e)) ign) more.1

-- the truth values that are counted
pub trio_lists : ℕ → List ℕ → List Trio → List (List Bool)
trio_lists k [] ts = []
trio_lists k (v ∷ vs) ts = unique_keys same_truths (map (trio_truths k) (filter (one_depends k v) ts)) ++ trio_lists k vs (fix_trios v ts)

-- l has the truth values of a triple that arises from one of the triples
record IsCountedOf (k : ℕ) (vs : List ℕ) (ts : List Trio) (l : List Bool) : Type 0 where
  from : Trio
  one : IsOneTrio ts from
  trio : Trio
  counted : IsTrioFrom k vs from trio
  is : l ≡ trio_truths k trio

pub from_same : (k : ℕ) (vs : List ℕ) (t u w : Trio) → t ≡ u → IsTrioFrom k vs t w → IsTrioFrom k vs u w
from_same k vs t u w e c = rw (sym e) c

counted_right : (k : ℕ) (vs : List ℕ) (ts : List Trio) (l : List Bool) → IsIn l (trio_lists k vs ts) → IsCountedOf k vs ts l
unfolding trio_lists
counted_right k [] ts l h = absurd h
counted_right k (v ∷ vs) ts l h =
    elim (in_append l (unique_keys same_truths (map (trio_truths k) (filter (one_depends k v) ts))) (trio_lists k vs (fix_trios v ts)) h) [
      | inl here ↦
          let r = of_level k v ts l (of_unique l (map (trio_truths k) (filter (one_depends k v) ts)) here) in
          record { from = r.trio; one = r.one; trio = r.trio; counted = inl (refl, r.reads); is = r.is }
      | inr more ↦
          let r = counted_right k vs (fix_trios v ts) l more in
          let s = of_fixed v ts r.from r.one in
          record { from = s.0; one = s.1; trio = r.trio; counted = inr (s.2.0, from_same k vs r.from (fix_trio v s.2.0 s.0) r.trio s.2.1 r.counted); is = r.is }
    ]

counted_whole : (k : ℕ) (vs : List ℕ) (ts : List Trio) (t u : Trio) → IsOneTrio ts t → IsTrioFrom k vs t u → IsIn (trio_truths k u) (trio_lists k vs ts)
unfolding trio_lists
counted_whole k [] ts t u one h = absurd h
counted_whole k (v ∷ vs) ts t u one (inl at) =
    in_left (trio_truths k u) (unique_keys same_truths (map (trio_truths k) (filter (one_depends k v) ts))) (trio_lists k vs (fix_trios v ts))
    (to_unique (trio_truths k u) (map (trio_truths k) (filter (one_depends k v) ts)) (to_level k v ts u (one_same ts t u (sym at.0) one) at.1))
counted_whole k (v ∷ vs) ts t u one (inr more) =
    in_right (trio_truths k u) (unique_keys same_truths (map (trio_truths k) (filter (one_depends k v) ts))) (trio_lists k vs (fix_trios v ts))
    (counted_whole k vs (fix_trios v ts) (fix_trio v more.0 t) u (to_fixed v ts t more.0 one) more.1)

counted_once : (k : ℕ) (vs : List ℕ) (ts : List Trio) → AreVars k vs → AreDifferent (trio_lists k vs ts)
unfolding trio_lists
counted_once k [] ts vars = tt
counted_once k (v ∷ vs) ts vars =
    append_different (unique_keys same_truths (map (trio_truths k) (filter (one_depends k v) ts))) (trio_lists k vs (fix_trios v ts))
    (unique_different (map (trio_truths k) (filter (one_depends k v) ts))) (counted_once k vs (fix_trios v ts) vars.2)
    (λ l here more.
    let a = of_level k v ts l (of_unique l (map (trio_truths k) (filter (one_depends k v) ts)) here) in
    let b = counted_right k vs (fix_trios v ts) l more in
    let s = of_fixed v ts b.from b.one in
    let fixed : TrioIgnores b.from v = ignores_same (fix_trio v s.2.0 s.0) b.from v s.2.1 (λ c. trio_twice v s.2.0 c s.0) in
    let none : one_depends k v b.trio ≡ false = none_depends k v b.trio (counted_ignores k vs v b.from b.trio vars.1 fixed b.counted) in
    let same : one_depends k v a.trio ≡ one_depends k v b.trio = one_depends_same k v a.trio b.trio vars.0 (sym a.is ∙ b.is) in
    false≢true (sym none ∙ (sym same ∙ a.reads)))

pub trio_lists_length : (k : ℕ) (vs : List ℕ) (ts : List Trio) → length (trio_lists k vs ts) ≡ joint_size k vs ts
unfolding trio_lists joint_size
trio_lists_length k [] ts = refl
trio_lists_length k (v ∷ vs) ts =
    length-append (unique_keys same_truths (map (trio_truths k) (filter (one_depends k v) ts))) (trio_lists k vs (fix_trios v ts))
    ∙ ap (λ n. distinct_count same_truths (map (trio_truths k) (filter (one_depends k v) ts)) + n) (trio_lists_length k vs (fix_trios v ts))

one_of_one : (t u : Trio) → IsOneTrio (t ∷ []) u → u ≡ t
one_of_one t u (inl e) = e
one_of_one t u (inr h) = absurd h

-- a triple that arises is counted
pub trio_in : (k : ℕ) (vs : List ℕ) (t u : Trio) → IsTrioFrom k vs t u → IsIn (trio_truths k u) (trio_lists k vs (t ∷ []))
trio_in k vs t u h = counted_whole k vs (t ∷ []) t u (inl refl) h

-- The joint size is the number of triples that arise by fixing a prefix and have one that depends on
-- the next variable.
pub joint_size_counts : (k : ℕ) (vs : List ℕ) (t : Trio) → AreVars k vs → IsNumberOf (IsCountedTrio k vs t) (joint_size k vs (t ∷ []))
joint_size_counts k vs t vars = record {
  all = trio_lists k vs (t ∷ []);
  once = counted_once k vs (t ∷ []) vars;
  right = λ l h.
      let r = counted_right k vs (t ∷ []) l h in
      record { trio = r.trio; counted = from_same k vs r.from t r.trio (one_of_one t r.from r.one) r.counted; is = r.is };
  whole = λ l h. in_same l (trio_truths k h.trio) (trio_lists k vs (t ∷ [])) h.is (trio_in k vs t h.trio h.counted);
  count = trio_lists_length k vs (t ∷ []);
}

from_below : (u : ℕ) (us : List ℕ) (v : ℕ) (t : Trio) → has us v ≡ true → ((w : ℕ) → has (after (u ∷ us) w) v ≡ true → TrioIgnores t w) → (w : ℕ) → has (after us w) v ≡ true → TrioIgnores t w
unfolding after
from_below u us v t tail above w there =
    elim (cases_Bool (eqb u w)) [
      | inl e ↦ above w (ap (λ l. has l v) (cond-true (eqb u w) us (after us w) e) ∙ tail)
      | inr e ↦ above w (ap (λ l. has l v) (cond-false (eqb u w) us (after us w) e) ∙ there)
    ]

first_above : (u : ℕ) (us : List ℕ) (v : ℕ) (t : Trio) → has us v ≡ true → ((w : ℕ) → has (after (u ∷ us) w) v ≡ true → TrioIgnores t w) → TrioIgnores t u
unfolding after
first_above u us v t tail above = above u (ap (λ l. has l v) (cond-true (eqb u u) us (after us u) (eq-eqb u u refl)) ∙ tail)

-- a triple counts where v is the first variable that it reads, and one of the three depends on v
pub trio_here : (k : ℕ) (vs : List ℕ) (v : ℕ) (t u : Trio) → has vs v ≡ true → ((w : ℕ) → has (after vs w) v ≡ true → TrioIgnores t w) → u ≡ t → one_depends k v u ≡ true → IsTrioFrom k vs t u
unfolding has
trio_here k [] v t u is above same reads = absurd (false≢true is)
trio_here k (w ∷ ws) v t u is above same reads =
    elim (cases_eq w v) [
      | inl e ↦ inl (same, ap (λ i. one_depends k i u) e ∙ reads)
      | inr ne ↦
          let tail : has ws v ≡ true = has-tail w v ws is ne in
          let ign : TrioIgnores t w = first_above w ws v t tail above in
          inr (false, from_same k ws t (fix_trio w false t) u (sym (ign false)) (trio_here k ws v t u tail (from_below w ws v t tail above) same reads))
    ]

-- What arises from t with v fixed arises from t, where t ignores the variables above v.
pub trio_fix : (k : ℕ) (vs : List ℕ) (v : ℕ) (b : Bool) (t u : Trio) → has vs v ≡ true → ((w : ℕ) → has (after vs w) v ≡ true → TrioIgnores t w) → IsTrioFrom k vs (fix_trio v b t) u → IsTrioFrom k vs t u
unfolding has
trio_fix k [] v b t u is above h = absurd (false≢true is)
trio_fix k (w ∷ ws) v b t u is above h =
    elim (cases_eq w v) [
      | inl e ↦ elim h [
        | inl here ↦ absurd (not_counted k w (fix_trio v b t) u (λ c. ap (λ i. fix_trio i c (fix_trio v b t)) e ∙ trio_twice v b c t) here.0 here.1)
        | inr more ↦ inr (b, from_same k ws (fix_trio w more.0 (fix_trio v b t)) (fix_trio w b t) u (ap (λ i. fix_trio w more.0 (fix_trio i b t)) (sym e) ∙ trio_twice w b more.0 t) more.1)
      ]
      | inr ne ↦
          let tail : has ws v ≡ true = has-tail w v ws is ne in
          let ign : TrioIgnores t w = first_above w ws v t tail above in
          let fixed : TrioIgnores (fix_trio v b t) w = trio_ignores_fix w v b t ne ign in
          elim h [
            | inl here ↦ absurd (not_counted k w (fix_trio v b t) u fixed here.0 here.1)
            | inr more ↦
                let rest = from_same k ws (fix_trio w more.0 (fix_trio v b t)) (fix_trio v b t) u (fixed more.0) more.1 in
                inr (false, from_same k ws t (fix_trio w false t) u (sym (ign false)) (trio_fix k ws v b t u tail (from_below w ws v t tail above) rest))
          ]
    ]

ignores_all : (f g : Function) → f ≡ g → ((u : ℕ) → Ignores f u) → (u : ℕ) → Ignores g u
ignores_all f g e h = rw (sym e) h

only_first : (k v : ℕ) (t : Trio) → Ignores t.g v → Ignores t.h v → one_depends k v t ≡ true → depends k v t.f ≡ true
only_first k v t ig ih reads =
    elim (or_cases (depends k v t.f) (depends k v t.g || depends k v t.h) reads) [
      | inl e ↦ e
      | inr more ↦ absurd (false≢true (sym (ap (λ a. a || depends k v t.h) (ignores_depends k v t.g ig) ∙ ignores_depends k v t.h ih) ∙ more))
    ]

-- where the second and third function read nothing, the triples that arise are the functions that arise
-- from the first one, with those two
pub alone_counted : (k : ℕ) (vs : List ℕ) (t u : Trio) → ((w : ℕ) → Ignores t.g w) → ((w : ℕ) → Ignores t.h w) → IsTrioFrom k vs t u → IsCountedFrom k vs t.f u.f × (u.g ≡ t.g) × (u.h ≡ t.h)
alone_counted k [] t u ig ih h = absurd h
alone_counted k (v ∷ vs) t u ig ih (inl at) =
    let kept : u ≡ t = at.0 in
    let reads : one_depends k v t ≡ true = ap (one_depends k v) (sym kept) ∙ at.1 in
    (inl (ap (λ (s : Trio). s.f) kept, ap (λ (s : Trio). depends k v s.f) kept ∙ only_first k v t (ig v) (ih v) reads), ap (λ (s : Trio). s.g) kept, ap (λ (s : Trio). s.h) kept)
alone_counted k (v ∷ vs) t u ig ih (inr more) =
    let r = alone_counted k vs (fix_trio v more.0 t) u (ignores_all t.g (fix v more.0 t.g) (sym (ig v more.0)) ig) (ignores_all t.h (fix v more.0 t.h) (sym (ih v more.0)) ih) more.1 in
    (inr (more.0, r.0), r.1 ∙ ig v more.0, r.2 ∙ ih v more.0)
