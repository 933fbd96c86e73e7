-- Functions that arise from a list by fixing the variables of prefixes need no more nodes than the list.
use Rattle.std.proofs.Common.{◌≡◌, ℕ, suc, ◌≤◌, Bool, true, false, not, eqb, List, [], ◌∷◌, ◌++◌, map, filter, length, inl, inr, refl, sym, ◌∙◌, ap, arith, eq-eqb}
use Rattle.std.specs.Prelude.{◌&&◌, ◌||◌}
use Rattle.std.specs.Set.{distinct_count, unique_keys, is_member}
use Rattle.std.specs.Cmp.{IsEquivalence}
use Rattle.std.proofs.lemmas.Map.Made.{length-le_from_is_member, IsDistinct-from_count}
use Rattle.std.proofs.lemmas.Bool.{cases_eq, cond-true, cond-false, ne_eqb, false≢true, cases_Bool, or_cases, or_left, or_right, and_parts}
use Rattle.bit_lists.specs.Orders.{has, AreVars}
use Rattle.diagram_model.specs.Bryant.{IsOneOf}
use Rattle.diagram_model.specs.Functions.{Function, fix, IsPrefixOf}
use Rattle.diagram_model.specs.Nodes.{denoted, IsLiveIn}
use Rattle.diagram_model.specs.Reach.{is_in}
use Rattle.diagram_model.specs.Reach.Reaches.{root}
use Rattle.diagram_model.specs.Size.{truths, same_bool, same_truths, depends, fix_both, level_size, size}
use Rattle.diagram_model.specs.Stores.{Diagram, IsLive, IsSound, function_of, held}
use Rattle.diagram_model.proofs.Held.{held_list, length-held_list, distinct-held_list, in_held_list, of_held_list}
use Rattle.diagram_model.proofs.Prefixes.{Ignores, prefix_self, ignores_fix, fix_twice}
use Rattle.diagram_model.proofs.Reached.{in_append, size_of_reached}
use Rattle.diagram_model.proofs.Sizes.{Each}
use Rattle.diagram_ops.specs.Made.{IsPrefixOfSome}
use Rattle.node_reclaim.specs.Reclaims.{HoldsOnly}

-- how many different keys a list has, and one that has them too
module _ {K : Type 0} (eq : K → K → Bool) (laws : IsEquivalence eq) where
  member_congr : (xs : List K) (q x : K) → eq q x ≡ true → is_member eq xs q ≡ is_member eq xs x
  member_congr [] q x e = refl
  member_congr (y ∷ xs) q x e = ap (λ b. b || is_member eq xs q) (laws.congr q x y e) ∙ ap (λ b. eq x y || b) (member_congr xs q x e)

  member_from_unique : (xs : List K) (q : K) → is_member eq (unique_keys eq xs) q ≡ true → is_member eq xs q ≡ true
  member_from_unique [] q h = h
  member_from_unique (x ∷ xs) q h =
      elim (cases_Bool (is_member eq xs x)) [
        | inl e ↦ or_right (eq q x) (is_member eq xs q) (member_from_unique xs q (ap (λ l. is_member eq l q) (sym (cond-true (is_member eq xs x) (unique_keys eq xs) (x ∷ unique_keys eq xs) e)) ∙ h))
        | inr e ↦ elim (or_cases (eq q x) (is_member eq (unique_keys eq xs) q) (ap (λ l. is_member eq l q) (sym (cond-false (is_member eq xs x) (unique_keys eq xs) (x ∷ unique_keys eq xs) e)) ∙ h)) [
          | inl at ↦ or_left (eq q x) (is_member eq xs q) at
          | inr more ↦ or_right (eq q x) (is_member eq xs q) (member_from_unique xs q more)
        ]
      ]

  member_to_unique : (xs : List K) (q : K) → is_member eq xs q ≡ true → is_member eq (unique_keys eq xs) q ≡ true
  member_to_unique [] q h = h
  member_to_unique (x ∷ xs) q h =
      elim (cases_Bool (is_member eq xs x)) [
        | inl e ↦ ap (λ l. is_member eq l q) (cond-true (is_member eq xs x) (unique_keys eq xs) (x ∷ unique_keys eq xs) e)
            ∙ member_to_unique xs q (elim (or_cases (eq q x) (is_member eq xs q) h) [ inl at ↦ member_congr xs q x at ∙ e | inr more ↦ more ])
        | inr e ↦ ap (λ l. is_member eq l q) (cond-false (is_member eq xs x) (unique_keys eq xs) (x ∷ unique_keys eq xs) e)
            ∙ elim (or_cases (eq q x) (is_member eq xs q) h) [
              | inl at ↦ or_left (eq q x) (is_member eq (unique_keys eq xs) q) at
              | inr more ↦ or_right (eq q x) (is_member eq (unique_keys eq xs) q) (member_to_unique xs q more)
            ]
      ]

  not_member : (b : Bool) → (b ≡ true → ⊥) → b ≡ false
  not_member true h = absurd (h refl)
  not_member false h = refl

  unique_again : (xs : List K) → distinct_count eq (unique_keys eq xs) ≡ length (unique_keys eq xs)
  unique_again [] = refl
  unique_again (x ∷ xs) =
      elim (cases_Bool (is_member eq xs x)) [
        | inl e ↦ ap (distinct_count eq) (cond-true (is_member eq xs x) (unique_keys eq xs) (x ∷ unique_keys eq xs) e) ∙ unique_again xs ∙ ap length (sym (cond-true (is_member eq xs x) (unique_keys eq xs) (x ∷ unique_keys eq xs) e))
        | inr e ↦
            let us = unique_keys eq xs in
            let out : is_member eq us x ≡ false = not_member (is_member eq us x) (λ h. false≢true (sym e ∙ member_from_unique xs x h)) in
            ap (distinct_count eq) (cond-false (is_member eq xs x) us (x ∷ us) e)
            ∙ ap length (cond-false (is_member eq us x) (unique_keys eq us) (x ∷ unique_keys eq us) out)
            ∙ ap suc (unique_again xs)
            ∙ ap length (sym (cond-false (is_member eq xs x) us (x ∷ us) e))
      ]

  pub distinct-le : (xs ys : List K) → ((q : K) → is_member eq xs q ≡ true → is_member eq ys q ≡ true) → distinct_count eq xs ≤ distinct_count eq ys
  distinct-le xs ys h =
      length-le_from_is_member laws (unique_keys eq xs) (unique_keys eq ys) (IsDistinct-from_count laws (unique_keys eq xs) (unique_again xs))
      (λ q is. member_to_unique ys q (h q (member_from_unique xs q is)))

-- lists of truth values
same_bool-refl : (a : Bool) → same_bool a a ≡ true
same_bool-refl true = refl
same_bool-refl false = refl

same_bool-true : (a b : Bool) → same_bool a b ≡ true → a ≡ b
same_bool-true true b e = sym e
same_bool-true false true e = absurd (false≢true e)
same_bool-true false false e = refl

truths-refl : (ts : List Bool) → same_truths ts ts ≡ true
unfolding same_truths
truths-refl [] = refl
truths-refl (t ∷ ts) = ap (λ b. b && same_truths ts ts) (same_bool-refl t) ∙ truths-refl ts

truths-true : (ts us : List Bool) → same_truths ts us ≡ true → ts ≡ us
unfolding same_truths
truths-true [] [] e = refl
truths-true [] (u ∷ us) e = absurd (false≢true e)
truths-true (t ∷ ts) [] e = absurd (false≢true e)
truths-true (t ∷ ts) (u ∷ us) e =
    let h = and_parts (same_bool t u) (same_truths ts us) e in
    ap (λ b. b ∷ ts) (same_bool-true t u h.0) ∙ ap (λ l. u ∷ l) (truths-true ts us h.1)

both_true : (a b : Bool) → (a ≡ true → b ≡ true) → (b ≡ true → a ≡ true) → a ≡ b
both_true true b f g = sym (f refl)
both_true false true f g = g refl
both_true false false f g = refl

turned : (ts us : List Bool) → same_truths ts us ≡ true → same_truths us ts ≡ true
turned ts us e = ap (same_truths us) (truths-true ts us e) ∙ truths-refl us

truths_laws : IsEquivalence same_truths
truths_laws = record {
  refl = truths-refl;
  symm = λ x y. both_true (same_truths x y) (same_truths y x) (turned x y) (turned y x);
  congr = λ x y z e. ap (λ l. same_truths l z) (truths-true x y e);
}

-- what arises from a function that ignores u ignores u, where u isn't in the list
pub prefix_ignores : (vs : List ℕ) (u : ℕ) (f g : Function) → has vs u ≡ false → Ignores f u → IsPrefixOf vs f g → Ignores g u
unfolding IsPrefixOf has
prefix_ignores [] u f g out ign h = λ b. ap (fix u b) h ∙ ign b ∙ sym h
prefix_ignores (v ∷ vs) u f g out ign (inl h) = λ b. ap (fix u b) h ∙ ign b ∙ sym h
prefix_ignores (v ∷ vs) u f g out ign (inr h) =
    elim (cases_eq v u) [
      | inl e ↦ absurd (false≢true (sym out ∙ cond-true (eqb v u) true (has vs u) (eq-eqb v u e)))
      | inr ne ↦ prefix_ignores vs u (fix v h.0 f) g (sym (cond-false (eqb v u) true (has vs u) (ne_eqb v u ne)) ∙ out) (ignores_fix u v h.0 f (λ e. ne (sym e)) ign) h.1
    ]

pub fixed_ignores : (v : ℕ) (c : Bool) (f : Function) → Ignores (fix v c f) v
fixed_ignores v c f b = fix_twice v c b f

independent : (k v : ℕ) (g : Function) → Ignores g v → depends k v g ≡ false
independent k v g ign = ap (λ f. not (same_truths (truths k f) (truths k (fix v true g)))) (ign false ∙ sym (ign true)) ∙ ap not (truths-refl (truths k (fix v true g)))

-- fixing v in what arises from the list
fix_here : (v : ℕ) (vs : List ℕ) (b c : Bool) (f g : Function) (fs : List Function) → IsPrefixOf vs (fix v c f) g → IsPrefixOfSome vs (fix_both v (f ∷ fs)) g
unfolding IsPrefixOfSome fix_both
fix_here v vs b false f g fs h = inl h
fix_here v vs b true f g fs h = inr (inl h)

fix_later : (v : ℕ) (vs : List ℕ) (f g : Function) (fs : List Function) → IsPrefixOfSome vs (fix_both v fs) g → IsPrefixOfSome vs (fix_both v (f ∷ fs)) g
unfolding IsPrefixOfSome fix_both
fix_later v vs f g fs h = inr (inr h)

prefix_same : (vs : List ℕ) (f g h : Function) → g ≡ h → IsPrefixOf vs f g → IsPrefixOf vs f h
prefix_same vs f g h e p = rw (sym e) p

fix_some : (v : ℕ) (vs : List ℕ) (b : Bool) (fs : List Function) (g : Function) → has vs v ≡ false → IsPrefixOfSome (v ∷ vs) fs g → IsPrefixOfSome vs (fix_both v fs) (fix v b g)
unfolding IsPrefixOfSome IsPrefixOf
fix_some v vs b [] g out h = absurd h
fix_some v vs b (f ∷ fs) g out (inl (inl e)) = fix_here v vs b b f (fix v b g) fs (prefix_self vs (fix v b f) (fix v b g) (ap (fix v b) e))
fix_some v vs b (f ∷ fs) g out (inl (inr h)) =
    let ign : Ignores g v = prefix_ignores vs v (fix v h.0 f) g out (fixed_ignores v h.0 f) h.1 in
    fix_here v vs b h.0 f (fix v b g) fs (prefix_same vs (fix v h.0 f) g (fix v b g) (sym (ign b)) h.1)
fix_some v vs b (f ∷ fs) g out (inr h) = fix_later v vs f (fix v b g) fs (fix_some v vs b fs g out h)

-- each function of the list with v fixed comes from one of the list
from_both : (v : ℕ) (vs : List ℕ) (fs gs : List Function) → has vs v ≡ false → ((g : Function) → IsOneOf gs g → IsPrefixOfSome (v ∷ vs) fs g) → (h : Function) → IsOneOf (fix_both v gs) h → IsPrefixOfSome vs (fix_both v fs) h
unfolding fix_both
from_both v vs fs [] out all h is = absurd is
from_both v vs fs (g ∷ gs) out all h (inl e) = let r = fix_some v vs false fs g out (all g (inl refl)) in rw e r
from_both v vs fs (g ∷ gs) out all h (inr (inl e)) = let r = fix_some v vs true fs g out (all g (inl refl)) in rw e r
from_both v vs fs (g ∷ gs) out all h (inr (inr is)) = from_both v vs fs gs out (λ f i. all f (inr i)) h is

-- a function that depends on v and arises from the list is in the list
abbrev level_keys : ℕ → ℕ → List Function → List (List Bool)
level_keys k v fs = map (truths k) (filter (depends k v) fs)

level_skip : (k v : ℕ) (f : Function) (fs : List Function) (q : List Bool) → is_member same_truths (level_keys k v fs) q ≡ true → is_member same_truths (level_keys k v (f ∷ fs)) q ≡ true
level_skip k v f fs q h =
    elim (cases_Bool (depends k v f)) [
      | inl e ↦ ap (λ l. is_member same_truths (map (truths k) l) q) (cond-true (depends k v f) (f ∷ filter (depends k v) fs) (filter (depends k v) fs) e) ∙ or_right (same_truths q (truths k f)) (is_member same_truths (level_keys k v fs) q) h
      | inr e ↦ ap (λ l. is_member same_truths (map (truths k) l) q) (cond-false (depends k v f) (f ∷ filter (depends k v) fs) (filter (depends k v) fs) e) ∙ h
    ]

level_has : (k v : ℕ) (vs : List ℕ) (fs : List Function) (g : Function) (q : List Bool) → has vs v ≡ false → IsPrefixOfSome (v ∷ vs) fs g → depends k v g ≡ true → same_truths q (truths k g) ≡ true → is_member same_truths (level_keys k v fs) q ≡ true
unfolding IsPrefixOfSome IsPrefixOf
level_has k v vs [] g q out h dep same = absurd h
level_has k v vs (f ∷ fs) g q out (inl (inl e)) dep same =
    let d : depends k v f ≡ true = ap (depends k v) (sym e) ∙ dep in
    ap (λ l. is_member same_truths (map (truths k) l) q) (cond-true (depends k v f) (f ∷ filter (depends k v) fs) (filter (depends k v) fs) d)
    ∙ or_left (same_truths q (truths k f)) (is_member same_truths (level_keys k v fs) q) (ap (λ w. same_truths q (truths k w)) (sym e) ∙ same)
level_has k v vs (f ∷ fs) g q out (inl (inr h)) dep same =
    absurd (false≢true (sym (independent k v g (prefix_ignores vs v (fix v h.0 f) g out (fixed_ignores v h.0 f) h.1)) ∙ dep))
level_has k v vs (f ∷ fs) g q out (inr h) dep same = level_skip k v f fs q (level_has k v vs fs g q out h dep same)

level_member : (k v : ℕ) (vs : List ℕ) (fs gs : List Function) (q : List Bool) → has vs v ≡ false → ((g : Function) → IsOneOf gs g → IsPrefixOfSome (v ∷ vs) fs g) → is_member same_truths (level_keys k v gs) q ≡ true → is_member same_truths (level_keys k v fs) q ≡ true
level_member k v vs fs [] q out all h = absurd (false≢true h)
level_member k v vs fs (g ∷ gs) q out all h =
    elim (cases_Bool (depends k v g)) [
      | inl e ↦ elim (or_cases (same_truths q (truths k g)) (is_member same_truths (level_keys k v gs) q) (ap (λ l. is_member same_truths (map (truths k) l) q) (sym (cond-true (depends k v g) (g ∷ filter (depends k v) gs) (filter (depends k v) gs) e)) ∙ h)) [
        | inl at ↦ level_has k v vs fs g q out (all g (inl refl)) e at
        | inr more ↦ level_member k v vs fs gs q out (λ f i. all f (inr i)) more
      ]
      | inr e ↦ level_member k v vs fs gs q out (λ f i. all f (inr i)) (ap (λ l. is_member same_truths (map (truths k) l) q) (sym (cond-false (depends k v g) (g ∷ filter (depends k v) gs) (filter (depends k v) gs) e)) ∙ h)
    ]

-- Functions that all arise from a list by fixing prefixes need no more nodes than the list.
pub size-le : (k n : ℕ) (vs : List ℕ) (fs gs : List Function) → AreVars n vs → ((g : Function) → IsOneOf gs g → IsPrefixOfSome vs fs g) → size k vs gs ≤ size k vs fs
unfolding size
size-le k n [] fs gs vars all = omega arith
size-le k n (v ∷ vs) fs gs vars all =
    let level : level_size k v gs ≤ level_size k v fs = distinct-le same_truths truths_laws (level_keys k v gs) (level_keys k v fs) (λ q h. level_member k v vs fs gs q vars.1 all h) in
    let rest = size-le k n vs (fix_both v fs) (fix_both v gs) vars.2 (λ h is. from_both v vs fs gs vars.1 all h is) in
    omega (arith, level, rest)

-- ---- nodes
one_map : (F : ℕ → Function) (P : Function → Type 0) (ns : List ℕ) → ((n : ℕ) → is_in ns n ≡ true → P (F n)) → (g : Function) → IsOneOf (map F ns) g → P g
one_map F P [] h g is = absurd is
one_map F P (n ∷ ns) h g (inl e) = let r = h n (or_left (eqb n n) (is_in ns n) (eq-eqb n n refl)) in rw e r
one_map F P (n ∷ ns) h g (inr is) = one_map F P ns (λ m there. h m (or_right (eqb m n) (is_in ns m) there)) g is

each_of : (P : ℕ → Type 0) (ns : List ℕ) → ((n : ℕ) → is_in ns n ≡ true → P n) → Each P ns
each_of P [] h = tt
each_of P (n ∷ ns) h = (h n (or_left (eqb n n) (is_in ns n) (eq-eqb n n refl)), each_of P ns (λ m is. h m (or_right (eqb m n) (is_in ns m) is)))

-- Where each held node arises from a list of functions, no more nodes are held than the list needs.
pub held-le : (d : Diagram) (fs : List Function) → IsSound d → HoldsOnly d (IsPrefixOfSome d.order fs) → held d ≤ size (length d.order) d.order fs
unfolding function_of
held-le d fs s all =
    let k = length d.order in
    let ns = held_list d in
    let live : Each (IsLiveIn d.slots d.order) ns = each_of (IsLiveIn d.slots d.order) ns (λ n is. let p = of_held_list d n is in inr (record { parts = p.0; is = p.1; below = s.diagram.within n p.0 p.1 })) in
    let same : length ns ≡ size k d.order (map (denoted d.slots d.order) ns) =
    size_of_reached d.slots k d.order ns ns s.diagram live (distinct-held_list d) (λ q is. (root q is, of_held_list d q is)) (λ q p reached is. in_held_list d q (p, is)) in
    let le = size-le k k d.order fs (map (denoted d.slots d.order) ns) s.diagram.order
    (one_map (denoted d.slots d.order) (IsPrefixOfSome d.order fs) ns (λ n is. let p = of_held_list d n is in all n p.0 p.1)) in
    let count = length-held_list d in
    omega (arith, same, le, count)

-- one of the functions arises from them
pub one_some : (vs : List ℕ) (fs : List Function) (g : Function) → IsOneOf fs g → IsPrefixOfSome vs fs g
unfolding IsPrefixOfSome
one_some vs [] g is = absurd is
one_some vs (f ∷ fs) g (inl e) = inl (prefix_self vs f g e)
one_some vs (f ∷ fs) g (inr is) = inr (one_some vs fs g is)

-- and from more functions
some_after : (vs : List ℕ) (F : ℕ → Function) (ms ns : List ℕ) (g : Function) → IsPrefixOfSome vs (map F ns) g → IsPrefixOfSome vs (map F (ms ++ ns)) g
unfolding IsPrefixOfSome
some_after vs F [] ns g h = h
some_after vs F (m ∷ ms) ns g h = inr (some_after vs F ms ns g h)

pub in_before : (ms ns : List ℕ) (q : ℕ) → is_in ms q ≡ true → is_in (ms ++ ns) q ≡ true
in_before ms ns q h = in_append ms ns q ∙ or_left (is_in ms q) (is_in ns q) h

-- what holds of both parts
pub either : (P : ℕ → Type 0) (ms ns : List ℕ) → ((n : ℕ) → is_in ms n ≡ true → P n) → ((n : ℕ) → is_in ns n ≡ true → P n) → (n : ℕ) → is_in (ms ++ ns) n ≡ true → P n
either P ms ns f g n h = elim (or_cases (is_in ms n) (is_in ns n) (sym (in_append ms ns n) ∙ h)) [ inl a ↦ f n a | inr b ↦ g n b ]

-- The functions of live nodes need no more nodes than are held.
pub size-held : (d : Diagram) (ns : List ℕ) → IsSound d → ((n : ℕ) → is_in ns n ≡ true → IsLive d n) → size (length d.order) d.order (map (function_of d) ns) ≤ held d
unfolding function_of
size-held d ns s live =
    let k = length d.order in
    let F = denoted d.slots d.order in
    let ms = held_list d in
    let held_live : (n : ℕ) → is_in ms n ≡ true → IsLive d n = λ n is. let p = of_held_list d n is in inr (record { parts = p.0; is = p.1; below = s.diagram.within n p.0 p.1 }) in
    let all : Each (IsLiveIn d.slots d.order) (ms ++ ns) = each_of (IsLiveIn d.slots d.order) (ms ++ ns) (either (IsLive d) ms ns held_live live) in
    let same : length ms ≡ size k d.order (map F (ms ++ ns)) =
    size_of_reached d.slots k d.order (ms ++ ns) ms s.diagram all (distinct-held_list d) (λ q is. (root q (in_before ms ns q is), of_held_list d q is)) (λ q p reached is. in_held_list d q (p, is)) in
    let le = size-le k k d.order (map F (ms ++ ns)) (map F ns) s.diagram.order (λ g is. some_after d.order F ms ns g (one_some d.order (map F ns) g is)) in
    let count = length-held_list d in
    omega (arith, same, le, count)
