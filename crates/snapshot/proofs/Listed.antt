-- What stands in the list of a walk over functions: each function behind the two that are left once its first variable is fixed.
use Rattle.std.proofs.Common.{◌≡◌, ℕ, zero, suc, ◌<◌, ◌≤◌, Bool, true, false, cond, eqb, ltb, List, [], ◌∷◌, ◌++◌, map, length, inl, inr, refl, sym, ◌∙◌, ap, subst, eq-eqb, arith, append_assoc, append-nil}
use Rattle.std.proofs.lemmas.Bool.{cases_eq, cond-true, cond-false, ne_eqb, false≢true, cases_Bool, cases_lt, not-false, lt-ltb, le-ltb}
use Rattle.std.specs.List.{range_with_len}
use Rattle.std.proofs.lemmas.List.FromFn.{get_or-map-range_with_len, length-map-range_with_len}
use mathlib.Core.Path.{fun_ext}
use Rattle.bit_lists.specs.Orders.{has, after, AreVars, IsOrder}
use Rattle.bit_lists.proofs.Variables.{has-here}
use Rattle.bit_lists.specs.Lists.{all_lists}
use Rattle.diagram_model.specs.Functions.{Assignment, Function, put, fix, bit}
use Rattle.diagram_model.specs.Size.{truths, depends}
use Rattle.diagram_model.proofs.Counting.{is_same}
use Rattle.diagram_model.proofs.Prefixes.{Ignores, fix_twice, ignores_fix}
use Rattle.diagram_model.proofs.Values.{after-after, has-after}
use Rattle.diagram_model.proofs.Sizes.{Among, among_either, same_truths-at}
use Rattle.snapshot.specs.Numbers.{same, knows, visited, visited_all, never, always}
use Rattle.snapshot.proofs.Skipping.{visited_known, visited_here, visited_free, after_here}

-- ---- functions of the first k variables
-- the same for the first k variables
abbrev pub AgreeBelow : ℕ → Assignment → Assignment → Type 0
AgreeBelow k x y = (i : ℕ) → i < k → x i ≡ y i

-- the values of the first k variables
first_values : ℕ → Assignment → List Bool
first_values k x = map x (range_with_len 0 k)

values_agree : (k : ℕ) (x : Assignment) → AgreeBelow k x (bit (first_values k x))
unfolding first_values
values_agree k x i lt = sym (get_or-map-range_with_len x 0 k i i false lt (omega arith))

values_long : (k : ℕ) (x : Assignment) → length (first_values k x) ≡ k
unfolding first_values
values_long k x = length-map-range_with_len x 0 k

-- f reads the first k variables alone
abbrev pub Reads : ℕ → Function → Type 0
Reads k f = (x y : Assignment) → AgreeBelow k x y → f x ≡ f y

-- f reads no variable outside the list
abbrev pub OnlyOn : List ℕ → Function → Type 0
OnlyOn vs f = (u : ℕ) → has vs u ≡ false → Ignores f u

put_agrees : (k : ℕ) (x y : Assignment) (v : ℕ) (b : Bool) → AgreeBelow k x y → AgreeBelow k (put x v b) (put y v b)
put_agrees k x y v b h i lt = ap (cond (eqb i v) b) (h i lt)

pub reads_fix : (k v : ℕ) (b : Bool) (f : Function) → Reads k f → Reads k (fix v b f)
reads_fix k v b f h x y agree = h (put x v b) (put y v b) (put_agrees k x y v b agree)

-- a variable set to a value that it has
put_same_at : (x : Assignment) (v : ℕ) (b : Bool) → x v ≡ b → (w : ℕ) → put x v b w ≡ x w
put_same_at x v b e w =
    elim (cases_eq w v) [
      | inl at ↦ cond-true (eqb w v) b (x w) (eq-eqb w v at) ∙ sym e ∙ ap x (sym at)
      | inr ne ↦ cond-false (eqb w v) b (x w) (ne_eqb w v ne)
    ]

pub fix_own : (f : Function) (v : ℕ) (x : Assignment) → fix v (x v) f x ≡ f x
fix_own f v x = ap f (fun_ext (put_same_at x v (x v) refl))

-- f doesn't read what both of its halves agree on
either_half : (f : Function) (v : ℕ) (x : Assignment) (b c : Bool) → fix v false f ≡ fix v true f → fix v b f x ≡ fix v c f x
either_half f v x false false e = refl
either_half f v x true true e = refl
either_half f v x false true e = ap (λ g. g x) e
either_half f v x true false e = sym (ap (λ g. g x) e)

ignores_halves : (f : Function) (v : ℕ) → fix v false f ≡ fix v true f → Ignores f v
ignores_halves f v e b = fun_ext (λ x. either_half f v x b (x v) e ∙ fix_own f v x)

-- ---- functions by their truth values
among_long : (k : ℕ) (ys : List Bool) → length ys ≡ k → Among (all_lists k) ys
among_long zero [] e = inl refl
among_long zero (y ∷ ys) e = absurd (omega arith)
among_long (suc k) [] e = absurd (omega arith)
among_long (suc k) (y ∷ ys) e = among_either y (all_lists k) ys (among_long k ys (omega arith))

same_at : (k : ℕ) (f g : Function) (ys : List Bool) → same k f g ≡ true → length ys ≡ k → f (bit ys) ≡ g (bit ys)
unfolding truths
same_at k f g ys h e = same_truths-at (λ l. f (bit l)) (λ l. g (bit l)) (all_lists k) ys h (among_long k ys e)

-- functions of the first k variables with the same truth values are one
pub same_function : (k : ℕ) (f g : Function) → Reads k f → Reads k g → same k f g ≡ true → f ≡ g
same_function k f g rf rg h = fun_ext (λ x.
    let l = first_values k x in
    rf x (bit l) (values_agree k x) ∙ same_at k f g l h (values_long k x) ∙ sym (rg x (bit l) (values_agree k x)))

pub same_self : (k : ℕ) (f g : Function) → f ≡ g → same k f g ≡ true
same_self k f g e = is_same (truths k f) (truths k g) (ap (truths k) e)

-- a function that doesn't depend on a variable ignores it
pub free_ignores : (k v : ℕ) (f : Function) → Reads k f → depends k v f ≡ false → Ignores f v
free_ignores k v f r h =
    ignores_halves f v (same_function k (fix v false f) (fix v true f) (reads_fix k v false f r) (reads_fix k v true f r) (not-false (same k (fix v false f) (fix v true f)) h))

-- ---- constants
all_ignored : (f : Function) (j : ℕ) (x y : Assignment) → ((u : ℕ) → Ignores f u) → ((i : ℕ) → j ≤ i → x i ≡ y i) → f x ≡ f y
all_ignored f zero x y none same = ap f (fun_ext (λ i. same i (omega arith)))
all_ignored f (suc j) x y none same =
    sym (ap (λ g. g x) (none j (y j)))
    ∙ all_ignored f j (put x j (y j)) y none (λ i le. elim (cases_eq i j) [
      | inl at ↦ cond-true (eqb i j) (y j) (x i) (eq-eqb i j at) ∙ ap y (sym at)
      | inr ne ↦ cond-false (eqb i j) (y j) (x i) (ne_eqb i j ne) ∙ same i (omega arith)
    ])

-- x below k, and y from there on
joined : ℕ → Assignment → Assignment → Assignment
joined k x y i = cond (ltb i k) (x i) (y i)

constant : (k : ℕ) (f : Function) (x y : Assignment) → Reads k f → ((u : ℕ) → Ignores f u) → f x ≡ f y
unfolding joined
constant k f x y reads none =
    reads x (joined k x y) (λ i lt. sym (cond-true (ltb i k) (x i) (y i) (lt-ltb i k lt)))
    ∙ all_ignored f k (joined k x y) y none (λ i le. cond-false (ltb i k) (x i) (y i) (le-ltb i k le))

all_false : Assignment
all_false i = false

abbrev pub HasBoth : ℕ → List Function → Type 0
HasBoth k fs = (knows k fs never ≡ true) × (knows k fs always ≡ true)

known_as : (k : ℕ) (fs : List Function) (f g : Function) → f ≡ g → knows k fs g ≡ true → knows k fs f ≡ true
known_as k fs f g e h = rw e h

constant_known : (k : ℕ) (fs : List Function) (f : Function) → Reads k f → ((u : ℕ) → Ignores f u) → HasBoth k fs → knows k fs f ≡ true
constant_known k fs f reads none both =
    elim (cases_Bool (f all_false)) [
      | inl is ↦ known_as k fs f always (fun_ext (λ x. constant k f x all_false reads none ∙ is)) both.1
      | inr is ↦ known_as k fs f never (fun_ext (λ x. constant k f x all_false reads none ∙ is)) both.0
    ]

-- ---- lists of functions
pub knows_more : (k : ℕ) (fs gs : List Function) (f : Function) → knows k fs f ≡ true → knows k (fs ++ gs) f ≡ true
unfolding knows
knows_more k [] gs f h = absurd (false≢true h)
knows_more k (g ∷ fs) gs f h =
    elim (cases_Bool (same k g f)) [
      | inl is ↦ cond-true (same k g f) true (knows k (fs ++ gs) f) is
      | inr other ↦
          cond-false (same k g f) true (knows k (fs ++ gs) f) other
          ∙ knows_more k fs gs f (sym (cond-false (same k g f) true (knows k fs f) other) ∙ h)
    ]

knows_last : (k : ℕ) (fs : List Function) (f : Function) → knows k (fs ++ f ∷ []) f ≡ true
unfolding knows
knows_last k [] f = cond-true (same k f f) true false (same_self k f f refl)
knows_last k (g ∷ fs) f =
    elim (cases_Bool (same k g f)) [
      | inl is ↦ cond-true (same k g f) true (knows k (fs ++ f ∷ []) f) is
      | inr other ↦ cond-false (same k g f) true (knows k (fs ++ f ∷ []) f) other ∙ knows_last k fs f
    ]

-- f stands behind what is left of it once its first variable is fixed each way
pub record IsEntry (k : ℕ) (order : List ℕ) (before : List Function) (f : Function) : Type 0 where
  pub var : ℕ
  pub there : has order var ≡ true
  pub reads : Reads k f
  pub only : OnlyOn (var ∷ after order var) f
  pub depends : depends k var f ≡ true
  pub low : knows k before (fix var false f) ≡ true
  pub high : knows k before (fix var true f) ≡ true

-- each function of fs is one, behind those before it
unfoldable pub AreEntries : ℕ → List ℕ → List Function → List Function → Type 0
AreEntries k order before [] = Unit {0}
AreEntries k order before (f ∷ fs) = IsEntry k order before f × AreEntries k order (before ++ f ∷ []) fs

pub record Adds (k : ℕ) (order : List ℕ) (fs gs : List Function) : Type 0 where
  pub more : List Function
  pub is : gs ≡ fs ++ more
  pub entries : AreEntries k order fs more

adds_none : (k : ℕ) (order : List ℕ) (fs gs : List Function) → gs ≡ fs → Adds k order fs gs
unfolding AreEntries
adds_none k order fs gs e = record { more = []; is = e ∙ sym (append-nil fs); entries = tt }

adds_one : (k : ℕ) (order : List ℕ) (fs : List Function) (f : Function) → IsEntry k order fs f → Adds k order fs (fs ++ f ∷ [])
unfolding AreEntries
adds_one k order fs f h = record { more = f ∷ []; is = refl; entries = (h, tt) }

entries_append : (k : ℕ) (order : List ℕ) (before fs gs : List Function) → AreEntries k order before fs → AreEntries k order (before ++ fs) gs → AreEntries k order before (fs ++ gs)
unfolding AreEntries
entries_append k order before [] gs a b = subst (λ l. AreEntries k order l gs) (append-nil before) b
entries_append k order before (f ∷ fs) gs a b =
    (a.0, entries_append k order (before ++ f ∷ []) fs gs a.1 (subst (λ l. AreEntries k order l gs) (sym (append_assoc before (f ∷ []) fs)) b))

pub adds_then : (k : ℕ) (order : List ℕ) (fs gs hs : List Function) → Adds k order fs gs → Adds k order gs hs → Adds k order fs hs
adds_then k order fs gs hs p q = record {
  more = p.more ++ q.more;
  is = q.is ∙ ap (λ l. l ++ q.more) p.is ∙ append_assoc fs p.more q.more;
  entries = entries_append k order fs p.more q.more p.entries (subst (λ l. AreEntries k order l q.more) p.is q.entries);
}

knows_added : (k : ℕ) (order : List ℕ) (fs gs : List Function) (f : Function) → Adds k order fs gs → knows k fs f ≡ true → knows k gs f ≡ true
knows_added k order fs gs f a h = ap (λ l. knows k l f) a.is ∙ knows_more k fs a.more f h

both_added : (k : ℕ) (order : List ℕ) (fs gs : List Function) → Adds k order fs gs → HasBoth k fs → HasBoth k gs
both_added k order fs gs a h = (knows_added k order fs gs never a h.0, knows_added k order fs gs always a h.1)

-- ---- the walk
-- the variables are those of the order from some place on
unfoldable pub IsTail : List ℕ → List ℕ → Type 0
IsTail order [] = Unit {0}
IsTail order (v ∷ vs) = (has order v ≡ true) × (after order v ≡ vs)

tail_whole : (order : List ℕ) → IsTail order order
unfolding IsTail
tail_whole [] = tt
tail_whole (v ∷ vs) = (has-here v vs v refl, after_here v vs)

tail_of : (k : ℕ) (order : List ℕ) (v : ℕ) (vs : List ℕ) → AreVars k order → after order v ≡ vs → IsTail order vs
unfolding IsTail
tail_of k order v [] vars e = tt
tail_of k order v (w ∷ ws) vars e =
    let inside : has (after order v) w ≡ true = ap (λ l. has l w) e ∙ has-here w ws w refl in
    (has-after order v w inside, after-after k order v w vars inside ∙ ap (λ l. after l w) e ∙ after_here w ws)

tail_next : (k : ℕ) (order : List ℕ) (v : ℕ) (vs : List ℕ) → AreVars k order → IsTail order (v ∷ vs) → IsTail order vs
unfolding IsTail
tail_next k order v vs vars h = tail_of k order v vs vars h.1

pub only_fixed : (v : ℕ) (vs : List ℕ) (b : Bool) (f : Function) → OnlyOn (v ∷ vs) f → OnlyOn vs (fix v b f)
unfolding has
only_fixed v vs b f only u out =
    elim (cases_eq u v) [
      | inl at ↦ rw at (λ c. fix_twice v b c f)
      | inr ne ↦ ignores_fix u v b f ne (only u (cond-false (eqb v u) true (has vs u) (ne_eqb v u (λ e. ne (sym e))) ∙ out))
    ]

only_free : (v : ℕ) (vs : List ℕ) (f : Function) → Ignores f v → OnlyOn (v ∷ vs) f → OnlyOn vs f
unfolding has
only_free v vs f free only u out =
    elim (cases_eq u v) [
      | inl at ↦ rw at free
      | inr ne ↦ only u (cond-false (eqb v u) true (has vs u) (ne_eqb v u (λ e. ne (sym e))) ∙ out)
    ]

lacks_nothing : (u : ℕ) → has [] u ≡ false
unfolding has
lacks_nothing u = refl

record Visited (k : ℕ) (order : List ℕ) (fs gs : List Function) (f : Function) : Type 0 where
  adds : Adds k order fs gs
  known : knows k gs f ≡ true

visited_here_entry : (k : ℕ) (order : List ℕ) (v : ℕ) (vs : List ℕ) (f : Function) (fs gs hs : List Function) → IsTail order (v ∷ vs) → Reads k f → OnlyOn (v ∷ vs) f → depends k v f ≡ true
    → Visited k order fs gs (fix v false f) → Visited k order gs hs (fix v true f) → Visited k order fs (hs ++ f ∷ []) f
unfolding IsTail
visited_here_entry k order v vs f fs gs hs tail reads only reading low high = record {
  adds = adds_then k order fs hs (hs ++ f ∷ []) (adds_then k order fs gs hs low.adds high.adds) (adds_one k order hs f (record {
    var = v;
    there = tail.0;
    reads = reads;
    only = subst (λ l. OnlyOn (v ∷ l) f) (sym tail.1) only;
    depends = reading;
    low = knows_added k order gs hs (fix v false f) high.adds low.known;
    high = high.known;
  }));
  known = knows_last k hs f;
}

visited_added : (k : ℕ) (order vs : List ℕ) (f : Function) (fs : List Function) → AreVars k order → IsTail order vs → Reads k f → OnlyOn vs f → HasBoth k fs → Visited k order fs (visited k vs f fs) f
visited_added k order [] f fs vars tail reads only both =
    let known : knows k fs f ≡ true = constant_known k fs f reads (λ u. only u (lacks_nothing u)) both in
    record { adds = adds_none k order fs (visited k [] f fs) (visited_known k [] f fs known); known = ap (λ l. knows k l f) (visited_known k [] f fs known) ∙ known }
visited_added k order (v ∷ vs) f fs vars tail reads only both =
    elim (cases_Bool (knows k fs f)) [
      | inl known ↦ record {
        adds = adds_none k order fs (visited k (v ∷ vs) f fs) (visited_known k (v ∷ vs) f fs known);
        known = ap (λ l. knows k l f) (visited_known k (v ∷ vs) f fs known) ∙ known;
      }
      | inr new ↦ elim (cases_Bool (depends k v f)) [
        | inl reading ↦
            let gs = visited k vs (fix v false f) fs in
            let hs = visited k vs (fix v true f) gs in
            let low = visited_added k order vs (fix v false f) fs vars (tail_next k order v vs vars tail) (reads_fix k v false f reads) (only_fixed v vs false f only) both in
            let high = visited_added k order vs (fix v true f) gs vars (tail_next k order v vs vars tail) (reads_fix k v true f reads) (only_fixed v vs true f only) (both_added k order fs gs low.adds both) in
            subst (λ l. Visited k order fs l f) (sym (visited_here k v vs f fs new reading)) (visited_here_entry k order v vs f fs gs hs tail reads only reading low high)
        | inr free ↦
            subst (λ l. Visited k order fs l f) (sym (visited_free k v vs f fs free))
            (visited_added k order vs f fs vars (tail_next k order v vs vars tail) reads (only_free v vs f (free_ignores k v f reads free) only) both)
      ]
    ]

-- functions of the variables of the order
abbrev pub AllReads : ℕ → List Function → Type 0
AllReads k [] = Unit {0}
AllReads k (g ∷ gs) = Reads k g × AllReads k gs

outside : (k u : ℕ) (f : Function) → Reads k f → k ≤ u → Ignores f u
outside k u f reads le b = fun_ext (λ x. reads (put x u b) x (λ i lt. cond-false (eqb i u) b (x i) (ne_eqb i u (λ e. omega (arith, e, lt, le)))))

only_order : (order : List ℕ) (f : Function) → IsOrder order → Reads (length order) f → OnlyOn order f
only_order order f is reads u out =
    elim (cases_lt u (length order)) [
      | inl lt ↦ absurd (false≢true (sym out ∙ is.all u lt))
      | inr le ↦ outside (length order) u f reads le
    ]

visited_whole : (k : ℕ) (order : List ℕ) (g : Function) (fs : List Function) → IsOrder order → k ≡ length order → Reads k g → HasBoth k fs → Visited k order fs (visited k order g fs) g
visited_whole k order g fs is e reads both =
    visited_added k order order g fs (subst (λ m. AreVars m order) (sym e) is.once) (tail_whole order) reads (only_order order g is (subst (λ m. Reads m g) e reads)) both

pub all_visited : (k : ℕ) (order : List ℕ) (gs fs : List Function) → IsOrder order → k ≡ length order → AllReads k gs → HasBoth k fs → Adds k order fs (visited_all k order gs fs)
unfolding visited_all
all_visited k order [] fs is e reads both = adds_none k order fs fs refl
all_visited k order (g ∷ gs) fs is e reads both =
    let one = visited_whole k order g fs is e reads.0 both in
    adds_then k order fs (visited k order g fs) (visited_all k order gs (visited k order g fs)) one.adds
    (all_visited k order gs (visited k order g fs) is e reads.1 (both_added k order fs (visited k order g fs) one.adds both))

-- each function of gs is among fs
abbrev pub AllKnown : ℕ → List Function → List Function → Type 0
AllKnown k fs [] = Unit {0}
AllKnown k fs (g ∷ gs) = (knows k fs g ≡ true) × AllKnown k fs gs

pub all_known : (k : ℕ) (order : List ℕ) (gs fs : List Function) → IsOrder order → k ≡ length order → AllReads k gs → HasBoth k fs → AllKnown k (visited_all k order gs fs) gs
unfolding visited_all
all_known k order [] fs is e reads both = tt
all_known k order (g ∷ gs) fs is e reads both =
    let next = visited k order g fs in
    let one = visited_whole k order g fs is e reads.0 both in
    let more = both_added k order fs next one.adds both in
    (knows_added k order next (visited_all k order gs next) g (all_visited k order gs next is e reads.1 more) one.known, all_known k order gs next is e reads.1 more)
