-- The size counts the functions that arise by fixing a prefix and depend on the next variable.
use Rattle.std.proofs.Common.{◌≡◌, ◌⊎◌, ℕ, zero, suc, ◌+◌, ◌-◌, ◌*◌, ◌^◌, ◌<◌, ◌≤◌, Bool, true, false, not, eqb, List, [], ◌∷◌, ◌++◌, map, filter, length, set, inl, inr, refl, sym, ◌∙◌, ap, subst, arith, eq-eqb, length-append}
use Rattle.std.specs.Set.{distinct_count, unique_keys, is_member}
use Rattle.std.proofs.Math.Nat.{pow-suc}
use Rattle.std.proofs.Math.Pow.{pow_mono}
use Rattle.std.proofs.lemmas.Bool.{cases_eq, cases_Bool, cond-true, cond-false, ne_eqb, false≢true, or_cases, or_left, or_right, and_parts}
use Rattle.std.proofs.lemmas.List.{length-map, get_or-set_same, get_or-set_other, length-set}
use Rattle.std.proofs.lemmas.Map.Made.{distinct_count-le}
use mathlib.Core.Path.{fun_ext}
use Rattle.bit_lists.specs.Lists.{all_lists}
use Rattle.bit_lists.specs.Orders.{has, AreVars}
use Rattle.diagram_model.specs.Bryant.{IsCountedFrom, IsOneOf, IsCounted, IsIn, AreDifferent, IsNumberOf}
use Rattle.diagram_model.specs.Functions.{Assignment, Function, bit, put, fix}
use Rattle.diagram_model.specs.Size.{truths, same_bool, same_truths, depends, fix_both, level_size, size}
use Rattle.diagram_model.proofs.Canonical.{has_not-parts}
use Rattle.diagram_model.proofs.Prefixes.{Ignores, fix_twice, ignores_fix}
use Rattle.diagram_model.proofs.Sizes.{Among, among_either, same_bool-true, same_truths-at, same_truths-refl}

-- lists that pass for the same are
pub same_is : (ts us : List Bool) → same_truths ts us ≡ true → ts ≡ us
unfolding same_truths
same_is [] [] h = refl
same_is [] (u ∷ us) h = absurd (false≢true h)
same_is (t ∷ ts) [] h = absurd (false≢true h)
same_is (t ∷ ts) (u ∷ us) h =
    let both = and_parts (same_bool t u) (same_truths ts us) h in
    ap (λ b. b ∷ ts) (same_bool-true t u both.0) ∙ ap (λ l. u ∷ l) (same_is ts us both.1)

pub is_same : (ts us : List Bool) → ts ≡ us → same_truths ts us ≡ true
is_same ts us e = ap (λ l. same_truths ts l) (sym e) ∙ same_truths-refl ts

member_in : (t : List Bool) (ts : List (List Bool)) → is_member same_truths ts t ≡ true → IsIn t ts
member_in t [] h = absurd (false≢true h)
member_in t (u ∷ us) h =
    elim (or_cases (same_truths t u) (is_member same_truths us t) h) [ inl e ↦ inl (same_is t u e) | inr more ↦ inr (member_in t us more) ]

in_member : (t : List Bool) (ts : List (List Bool)) → IsIn t ts → is_member same_truths ts t ≡ true
in_member t [] h = absurd h
in_member t (u ∷ us) (inl e) = or_left (same_truths t u) (is_member same_truths us t) (is_same t u e)
in_member t (u ∷ us) (inr more) = or_right (same_truths t u) (is_member same_truths us t) (in_member t us more)

pub in_same : (t u : List Bool) (ts : List (List Bool)) → t ≡ u → IsIn u ts → IsIn t ts
in_same t u ts e h = rw e h

-- each list once
head_or : (t u : List Bool) (us : List (List Bool)) → (IsIn t (unique_keys same_truths us) → IsIn t us) → IsIn t (u ∷ unique_keys same_truths us) → IsIn t (u ∷ us)
head_or t u us rest (inl at) = inl at
head_or t u us rest (inr more) = inr (rest more)

pub of_unique : (t : List Bool) (ts : List (List Bool)) → IsIn t (unique_keys same_truths ts) → IsIn t ts
of_unique t [] h = h
of_unique t (u ∷ us) h =
    elim (cases_Bool (is_member same_truths us u)) [
      | inl e ↦ inr (of_unique t us (subst (λ l. IsIn t l) (cond-true (is_member same_truths us u) (unique_keys same_truths us) (u ∷ unique_keys same_truths us) e) h))
      | inr e ↦ head_or t u us (of_unique t us) (subst (λ l. IsIn t l) (cond-false (is_member same_truths us u) (unique_keys same_truths us) (u ∷ unique_keys same_truths us) e) h)
    ]

pub to_unique : (t : List Bool) (ts : List (List Bool)) → IsIn t ts → IsIn t (unique_keys same_truths ts)
to_unique t [] h = h
to_unique t (u ∷ us) h =
    elim (cases_Bool (is_member same_truths us u)) [
      | inl e ↦ rw (cond-true (is_member same_truths us u) (unique_keys same_truths us) (u ∷ unique_keys same_truths us) e)
          (to_unique t us (elim h [ inl at ↦ in_same t u us at (member_in u us e) | inr more ↦ more ]))
      | inr e ↦ rw (cond-false (is_member same_truths us u) (unique_keys same_truths us) (u ∷ unique_keys same_truths us) e)
          (elim h [ inl at ↦ inl at | inr more ↦ inr (to_unique t us more) ])
    ]

pub unique_different : (ts : List (List Bool)) → AreDifferent (unique_keys same_truths ts)
unique_different [] = tt
unique_different (u ∷ us) =
    elim (cases_Bool (is_member same_truths us u)) [
      | inl e ↦ rw (cond-true (is_member same_truths us u) (unique_keys same_truths us) (u ∷ unique_keys same_truths us) e) (unique_different us)
      | inr e ↦ rw (cond-false (is_member same_truths us u) (unique_keys same_truths us) (u ∷ unique_keys same_truths us) e)
          (λ h. false≢true (sym e ∙ in_member u us (of_unique u us h)), unique_different us)
    ]

pub in_append : (t : List Bool) (ts us : List (List Bool)) → IsIn t (ts ++ us) → IsIn t ts ⊎ IsIn t us
in_append t [] us h = inr h
in_append t (s ∷ ts) us (inl e) = inl (inl e)
in_append t (s ∷ ts) us (inr h) = elim (in_append t ts us h) [ inl a ↦ inl (inr a) | inr b ↦ inr b ]

pub in_left : (t : List Bool) (ts us : List (List Bool)) → IsIn t ts → IsIn t (ts ++ us)
in_left t [] us h = absurd h
in_left t (s ∷ ts) us (inl e) = inl e
in_left t (s ∷ ts) us (inr h) = inr (in_left t ts us h)

pub in_right : (t : List Bool) (ts us : List (List Bool)) → IsIn t us → IsIn t (ts ++ us)
in_right t [] us h = h
in_right t (s ∷ ts) us h = inr (in_right t ts us h)

pub append_different : (ts us : List (List Bool)) → AreDifferent ts → AreDifferent us → ((t : List Bool) → IsIn t ts → IsIn t us → ⊥) → AreDifferent (ts ++ us)
append_different [] us dt du apart = du
append_different (t ∷ ts) us dt du apart = (
  λ h. elim (in_append t ts us h) [ inl a ↦ dt.0 a | inr b ↦ apart t (inl refl) b ],
  append_different ts us dt.1 du (λ s a b. apart s (inr a) b),
)

-- the truth lists of the functions that depend on the variable
pub record IsAtLevel (k v : ℕ) (fs : List Function) (t : List Bool) : Type 0 where
  pub function : Function
  pub one : IsOneOf fs function
  pub reads : depends k v function ≡ true
  pub is : t ≡ truths k function

level_wider : (k v : ℕ) (f : Function) (fs : List Function) (t : List Bool) → IsAtLevel k v fs t → IsAtLevel k v (f ∷ fs) t
level_wider k v f fs t h = record { function = h.function; one = inr h.one; reads = h.reads; is = h.is }

first_level : (k v : ℕ) (f : Function) (fs : List Function) (t : List Bool) → depends k v f ≡ true → (IsIn t (map (truths k) (filter (depends k v) fs)) → IsAtLevel k v fs t) → IsIn t (truths k f ∷ map (truths k) (filter (depends k v) fs)) → IsAtLevel k v (f ∷ fs) t
first_level k v f fs t reads rest (inl at) = record { function = f; one = inl refl; reads = reads; is = at }
first_level k v f fs t reads rest (inr more) = level_wider k v f fs t (rest more)

of_level : (k v : ℕ) (fs : List Function) (t : List Bool) → IsIn t (map (truths k) (filter (depends k v) fs)) → IsAtLevel k v fs t
of_level k v [] t h = absurd h
of_level k v (f ∷ fs) t h =
    elim (cases_Bool (depends k v f)) [
      | inl e ↦ first_level k v f fs t e (of_level k v fs t) (subst (λ gs. IsIn t (map (truths k) gs)) (cond-true (depends k v f) (f ∷ filter (depends k v) fs) (filter (depends k v) fs) e) h)
      | inr e ↦ level_wider k v f fs t (of_level k v fs t (subst (λ gs. IsIn t (map (truths k) gs)) (cond-false (depends k v f) (f ∷ filter (depends k v) fs) (filter (depends k v) fs) e) h))
    ]

to_level : (k v : ℕ) (fs : List Function) (g : Function) → IsOneOf fs g → depends k v g ≡ true → IsIn (truths k g) (map (truths k) (filter (depends k v) fs))
to_level k v [] g h reads = absurd h
to_level k v (f ∷ fs) g h reads =
    elim (cases_Bool (depends k v f)) [
      | inl e ↦ rw (ap (map (truths k)) (cond-true (depends k v f) (f ∷ filter (depends k v) fs) (filter (depends k v) fs) e))
          (elim h [ inl at ↦ inl (ap (truths k) at) | inr more ↦ inr (to_level k v fs g more reads) ])
      | inr e ↦ rw (ap (map (truths k)) (cond-false (depends k v f) (f ∷ filter (depends k v) fs) (filter (depends k v) fs) e))
          (elim h [ inl at ↦ absurd (false≢true (sym e ∙ ap (depends k v) (sym at) ∙ reads)) | inr more ↦ to_level k v fs g more reads ])
    ]

-- where a function of the next level comes from
of_fixed : (v : ℕ) (fs : List Function) (g : Function) → IsOneOf (fix_both v fs) g → (f : Function) × IsOneOf fs f × ((b : Bool) × (g ≡ fix v b f))
unfolding fix_both
of_fixed v [] g h = absurd h
of_fixed v (f ∷ fs) g h =
    elim h [
      | inl at ↦ (f, inl refl, (false, at))
      | inr more ↦ elim more [
        | inl at ↦ (f, inl refl, (true, at))
        | inr rest ↦ let r = of_fixed v fs g rest in (r.0, inr r.1, r.2)
      ]
    ]

to_fixed_here : (v : ℕ) (f : Function) (fs : List Function) (b : Bool) → IsOneOf (fix_both v (f ∷ fs)) (fix v b f)
unfolding fix_both
to_fixed_here v f fs false = inl refl
to_fixed_here v f fs true = inr (inl refl)

to_fixed_more : (v : ℕ) (f : Function) (fs : List Function) (g : Function) → IsOneOf (fix_both v fs) g → IsOneOf (fix_both v (f ∷ fs)) g
unfolding fix_both
to_fixed_more v f fs g h = inr (inr h)

one_same : (fs : List Function) (f g : Function) → f ≡ g → IsOneOf fs f → IsOneOf fs g
one_same fs f g e h = rw (sym e) h

to_fixed : (v : ℕ) (fs : List Function) (f : Function) (b : Bool) → IsOneOf fs f → IsOneOf (fix_both v fs) (fix v b f)
to_fixed v [] f b h = absurd h
to_fixed v (g ∷ fs) f b (inl at) = one_same (fix_both v (g ∷ fs)) (fix v b g) (fix v b f) (ap (fix v b) (sym at)) (to_fixed_here v g fs b)
to_fixed v (g ∷ fs) f b (inr more) = to_fixed_more v g fs (fix v b f) (to_fixed v fs f b more)

ignores_same : (f g : Function) (u : ℕ) → g ≡ f → Ignores f u → Ignores g u
ignores_same f g u e h = rw e h

-- what arises from a function that doesn't read u doesn't read u
counted_ignores : (k : ℕ) (vs : List ℕ) (u : ℕ) (f g : Function) → has vs u ≡ false → Ignores f u → IsCountedFrom k vs f g → Ignores g u
counted_ignores k [] u f g out ign h = absurd h
counted_ignores k (v ∷ vs) u f g out ign (inl at) = ignores_same f g u at.0 ign
counted_ignores k (v ∷ vs) u f g out ign (inr more) =
    let parts = has_not-parts v u vs out in
    counted_ignores k vs u (fix v more.0 f) g parts.1 (ignores_fix u v more.0 f (λ e. parts.0 (sym e)) ign) more.1

-- a function that doesn't read v doesn't depend on it
pub ignores_depends : (k v : ℕ) (g : Function) → Ignores g v → depends k v g ≡ false
ignores_depends k v g h =
    ap (λ (f : Function). not (same_truths (truths k f) (truths k (fix v true g)))) (h false)
    ∙ ap (λ (f : Function). not (same_truths (truths k g) (truths k f))) (h true) ∙ ap not (same_truths-refl (truths k g))

among_list : (k : ℕ) (ys : List Bool) → length ys ≡ k → Among (all_lists k) ys
among_list zero [] e = inl refl
among_list zero (y ∷ ys) e = absurd (omega arith)
among_list (suc k) [] e = absurd (omega arith)
among_list (suc k) (y ∷ ys) e = among_either y (all_lists k) ys (among_list k ys (omega arith))

-- a bit list with a value put is a bit list
put_bit_at : (ys : List Bool) (v : ℕ) (b : Bool) → v < length ys → (w : ℕ) → put (bit ys) v b w ≡ bit (set ys v b) w
put_bit_at ys v b lt w =
    elim (cases_eq w v) [
      | inl e ↦ cond-true (eqb w v) b (bit ys w) (eq-eqb w v e) ∙ sym (ap (bit (set ys v b)) e ∙ get_or-set_same ys v b false lt)
      | inr ne ↦ cond-false (eqb w v) b (bit ys w) (ne_eqb w v ne) ∙ sym (get_or-set_other ys v w b false ne)
    ]

put_bit : (ys : List Bool) (v : ℕ) (b : Bool) → v < length ys → put (bit ys) v b ≡ bit (set ys v b)
put_bit ys v b lt = fun_ext (λ w. put_bit_at ys v b lt w)

-- functions with the same truth lists have the same values
same_at : (k : ℕ) (f g : Function) (ys : List Bool) → truths k f ≡ truths k g → length ys ≡ k → f (bit ys) ≡ g (bit ys)
unfolding truths
same_at k f g ys e len =
    same_truths-at (λ zs. f (bit zs)) (λ zs. g (bit zs)) (all_lists k) ys (is_same (map (λ zs. f (bit zs)) (all_lists k)) (map (λ zs. g (bit zs)) (all_lists k)) e) (among_list k ys len)

fixed_at : (k v : ℕ) (b : Bool) (f g : Function) (ys : List Bool) → v < k → truths k f ≡ truths k g → length ys ≡ k → fix v b f (bit ys) ≡ fix v b g (bit ys)
fixed_at k v b f g ys lt e len =
    let there = put_bit ys v b (omega arith) in
    ap f there ∙ same_at k f g (set ys v b) e (length-set ys v b ∙ len) ∙ ap g (sym there)

-- each list has k values
AreLong : ℕ → List (List Bool) → Type 0
AreLong k [] = Unit {0}
AreLong k (l ∷ ls) = (length l ≡ k) × AreLong k ls

long_append : (k : ℕ) (ls ms : List (List Bool)) → AreLong k ls → AreLong k ms → AreLong k (ls ++ ms)
unfolding AreLong
long_append k [] ms a b = b
long_append k (l ∷ ls) ms a b = (a.0, long_append k ls ms a.1 b)

long_map : (k : ℕ) (c : Bool) (ls : List (List Bool)) → AreLong k ls → AreLong (suc k) (map (λ x. c ∷ x) ls)
unfolding AreLong
long_map k c [] a = tt
long_map k c (l ∷ ls) a = (ap suc a.0, long_map k c ls a.1)

all_long : (k : ℕ) → AreLong k (all_lists k)
unfolding AreLong
all_long zero = (refl, tt)
all_long (suc k) = long_append (suc k) (map (λ x. false ∷ x) (all_lists k)) (map (λ x. true ∷ x) (all_lists k)) (long_map k false (all_lists k) (all_long k)) (long_map k true (all_lists k) (all_long k))

mapped_same : (F G : List Bool → Bool) (k : ℕ) (ls : List (List Bool)) → ((l : List Bool) → length l ≡ k → F l ≡ G l) → AreLong k ls → map F ls ≡ map G ls
unfolding AreLong
mapped_same F G k [] same long = refl
mapped_same F G k (l ∷ ls) same long = ap (λ b. b ∷ map F ls) (same l long.0) ∙ ap (λ bs. G l ∷ bs) (mapped_same F G k ls same long.1)

-- functions with the same truth list have the same with a variable fixed
pub fixed_truths : (k v : ℕ) (b : Bool) (f g : Function) → v < k → truths k f ≡ truths k g → truths k (fix v b f) ≡ truths k (fix v b g)
unfolding truths
fixed_truths k v b f g lt e =
    mapped_same (λ ys. fix v b f (bit ys)) (λ ys. fix v b g (bit ys)) k (all_lists k) (λ ys len. fixed_at k v b f g ys lt e len) (all_long k)

put_own : (x : Assignment) (v : ℕ) → put x v (x v) ≡ x
put_own x v =
    fun_ext (λ w. elim (cases_eq w v) [
      | inl e ↦ cond-true (eqb w v) (x v) (x w) (eq-eqb w v e) ∙ ap x (sym e)
      | inr ne ↦ cond-false (eqb w v) (x v) (x w) (ne_eqb w v ne)
    ])

-- and functions that have the same truth lists with a variable fixed each way have the same truth list
pub truths_back : (k v : ℕ) (f g : Function) → ((b : Bool) → truths k (fix v b f) ≡ truths k (fix v b g)) → truths k f ≡ truths k g
unfolding truths
truths_back k v f g same =
    mapped_same (λ ys. f (bit ys)) (λ ys. g (bit ys)) k (all_lists k) (λ ys len.
    let b = bit ys v in
    let own = put_own (bit ys) v in
    ap f (sym own) ∙ same_at k (fix v b f) (fix v b g) ys (same b) len ∙ ap g own) (all_long k)

-- whether a function depends on a variable is seen from its truth list
pub depends_same : (k v : ℕ) (f g : Function) → v < k → truths k f ≡ truths k g → depends k v f ≡ depends k v g
depends_same k v f g lt e =
    ap (λ ts. not (same_truths ts (truths k (fix v true f)))) (fixed_truths k v false f g lt e)
    ∙ ap (λ ts. not (same_truths (truths k (fix v false g)) ts)) (fixed_truths k v true f g lt e)

-- the truth lists that are counted
pub counted_lists : ℕ → List ℕ → List Function → List (List Bool)
counted_lists k [] fs = []
counted_lists k (v ∷ vs) fs = unique_keys same_truths (map (truths k) (filter (depends k v) fs)) ++ counted_lists k vs (fix_both v fs)

counted_same : (k : ℕ) (vs : List ℕ) (f h g : Function) → f ≡ h → IsCountedFrom k vs f g → IsCountedFrom k vs h g
counted_same k vs f h g e c = rw (sym e) c

counted_right : (k : ℕ) (vs : List ℕ) (fs : List Function) (t : List Bool) → IsIn t (counted_lists k vs fs) → IsCounted k vs fs t
unfolding counted_lists
counted_right k [] fs t h = absurd h
counted_right k (v ∷ vs) fs t h =
    elim (in_append t (unique_keys same_truths (map (truths k) (filter (depends k v) fs))) (counted_lists k vs (fix_both v fs)) h) [
      | inl here ↦
          let r = of_level k v fs t (of_unique t (map (truths k) (filter (depends k v) fs)) here) in
          record { from = r.function; one = r.one; function = r.function; counted = inl (refl, r.reads); is = r.is }
      | inr more ↦
          let r = counted_right k vs (fix_both v fs) t more in
          let s = of_fixed v fs r.from r.one in
          record { from = s.0; one = s.1; function = r.function; counted = inr (s.2.0, counted_same k vs r.from (fix v s.2.0 s.0) r.function s.2.1 r.counted); is = r.is }
    ]

pub counted_whole : (k : ℕ) (vs : List ℕ) (fs : List Function) (f g : Function) → IsOneOf fs f → IsCountedFrom k vs f g → IsIn (truths k g) (counted_lists k vs fs)
unfolding counted_lists
counted_whole k [] fs f g one h = absurd h
counted_whole k (v ∷ vs) fs f g one (inl at) =
    in_left (truths k g) (unique_keys same_truths (map (truths k) (filter (depends k v) fs))) (counted_lists k vs (fix_both v fs))
    (to_unique (truths k g) (map (truths k) (filter (depends k v) fs)) (to_level k v fs g (one_same fs f g (sym at.0) one) at.1))
counted_whole k (v ∷ vs) fs f g one (inr more) =
    in_right (truths k g) (unique_keys same_truths (map (truths k) (filter (depends k v) fs))) (counted_lists k vs (fix_both v fs))
    (counted_whole k vs (fix_both v fs) (fix v more.0 f) g (to_fixed v fs f more.0 one) more.1)

counted_once : (k : ℕ) (vs : List ℕ) (fs : List Function) → AreVars k vs → AreDifferent (counted_lists k vs fs)
unfolding counted_lists
counted_once k [] fs vars = tt
counted_once k (v ∷ vs) fs vars =
    append_different (unique_keys same_truths (map (truths k) (filter (depends k v) fs))) (counted_lists k vs (fix_both v fs))
    (unique_different (map (truths k) (filter (depends k v) fs))) (counted_once k vs (fix_both v fs) vars.2)
    (λ t here more.
    let a = of_level k v fs t (of_unique t (map (truths k) (filter (depends k v) fs)) here) in
    let b = counted_right k vs (fix_both v fs) t more in
    let s = of_fixed v fs b.from b.one in
    let fixed : Ignores b.from v = ignores_same (fix v s.2.0 s.0) b.from v s.2.1 (λ c. fix_twice v s.2.0 c s.0) in
    let none : depends k v b.function ≡ false = ignores_depends k v b.function (counted_ignores k vs v b.from b.function vars.1 fixed b.counted) in
    let same : depends k v a.function ≡ depends k v b.function = depends_same k v a.function b.function vars.0 (sym a.is ∙ b.is) in
    false≢true (sym none ∙ (sym same ∙ a.reads)))

pub counted_length : (k : ℕ) (vs : List ℕ) (fs : List Function) → length (counted_lists k vs fs) ≡ size k vs fs
unfolding counted_lists size
counted_length k [] fs = refl
counted_length k (v ∷ vs) fs =
    length-append (unique_keys same_truths (map (truths k) (filter (depends k v) fs))) (counted_lists k vs (fix_both v fs))
    ∙ ap (λ n. distinct_count same_truths (map (truths k) (filter (depends k v) fs)) + n) (counted_length k vs (fix_both v fs))

-- The size of functions is the number of functions that arise by fixing a prefix and depend on the next variable.
pub size_counts : (k : ℕ) (vs : List ℕ) (fs : List Function) → AreVars k vs → IsNumberOf (IsCounted k vs fs) (size k vs fs)
size_counts k vs fs vars = record {
  all = counted_lists k vs fs;
  once = counted_once k vs fs vars;
  right = counted_right k vs fs;
  whole = λ t h. in_same t (truths k h.function) (counted_lists k vs fs) h.is (counted_whole k vs fs h.from h.function h.one h.counted);
  count = counted_length k vs fs;
}

length-fix_both : (v : ℕ) (fs : List Function) → length (fix_both v fs) ≡ 2 * length fs
unfolding fix_both
length-fix_both v [] = refl
length-fix_both v (f ∷ fs) = omega (arith, length-fix_both v fs)

length-filter : (p : Function → Bool) (fs : List Function) → length (filter p fs) ≤ length fs
length-filter p [] = omega arith
length-filter p (f ∷ fs) =
    elim (cases_Bool (p f)) [
      | inl e ↦ omega (arith, length-filter p fs, ap length (cond-true (p f) (f ∷ filter p fs) (filter p fs) e))
      | inr e ↦ omega (arith, length-filter p fs, ap length (cond-false (p f) (f ∷ filter p fs) (filter p fs) e))
    ]

spread : (n m : ℕ) → n * (1 + 2 * m) ≡ n + (2 * n) * m
spread n m = grind arith

product : (n m p : ℕ) → p ≡ m + m → 1 ≤ m → n * (p - 1) ≡ n + (2 * n) * (m - 1)
product n zero p double some = absurd (omega arith)
product n (suc m) p double some =
    let at : p - 1 ≡ 1 + 2 * m = omega arith in
    let less : suc m - 1 ≡ m = omega arith in
    ap (λ q. n * q) at ∙ spread n m ∙ ap (λ q. n + (2 * n) * q) (sym less)

-- two to a number, less one, each so many times
grows : (n m p a s : ℕ) → p ≡ m + m → 1 ≤ m → a ≤ n → s ≤ (2 * n) * (m - 1) → a + s ≤ n * (p - 1)
grows n m p a s double some first rest =
    let spread : n * (p - 1) ≡ n + (2 * n) * (m - 1) = product n m p double some in
    omega arith

pub size-bound : (k : ℕ) (vs : List ℕ) (fs : List Function) → size k vs fs ≤ length fs * (2 ^ length vs - 1)
unfolding size
size-bound k [] fs = omega arith
size-bound k (v ∷ vs) fs =
    let level : level_size k v fs ≤ length fs =
    omega (arith, distinct_count-le same_truths (map (truths k) (filter (depends k v) fs)), length-map (filter (depends k v) fs) (truths k), length-filter (depends k v) fs) in
    let rest : size k vs (fix_both v fs) ≤ (2 * length fs) * (2 ^ length vs - 1) = rw (← length-fix_both v fs) (size-bound k vs (fix_both v fs)) in
    let none : 0 ≤ length vs = omega arith in
    let some : 2 ^ 0 ≤ 2 ^ length vs = pow_mono none in
    grows (length fs) (2 ^ length vs) (2 ^ suc (length vs)) (level_size k v fs) (size k vs (fix_both v fs)) (pow-suc 2 (length vs) ∙ omega arith) (omega arith) level rest
