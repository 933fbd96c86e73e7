-- The true places of a list of controls are the controls in rising order.
use Rattle.std.proofs.Common.{◌≡◌, ℕ, suc, ◌+◌, ◌<◌, Bool, true, false, cond, List, [], ◌∷◌, length, get_or, set, replicate, filter, inl, inr, refl, sym, ◌∙◌, ap, arith, eq-eqb}
use Rattle.std.specs.Prelude.{◌||◌, nat_eq}
use Rattle.std.specs.List.{fold, list_any, range_with_len}
use Rattle.std.proofs.Math.Path.{ap₂}
use Rattle.std.proofs.lemmas.Bool.{cases_eq, ne_eqb}
use Rattle.std.proofs.lemmas.Grind.{get_or-set_at}
use Rattle.std.proofs.lemmas.List.{get_or-replicate, get_or-set_other, length-replicate, length-set}
use Rattle.slice_quad.specs.Fours.{true_places}
use Rattle.slice_gates.specs.Stepped.{controls_for}

or_none : (b : Bool) → b || false ≡ b
or_none true = refl
or_none false = refl

or_always : (b : Bool) → b || true ≡ true
or_always true = refl
or_always false = refl

or_three : (a b c : Bool) → (a || b) || c ≡ a || (b || c)
or_three true b c = refl
or_three false b c = refl

-- the places of a list that is true where p is
places_where : (cs : List Bool) (k : ℕ) (p : ℕ → Bool) → ((i : ℕ) → i < length cs → get_or cs i false ≡ p (k + i)) → true_places k cs ≡ filter p (range_with_len k (length cs))
places_where [] k p h = refl
places_where (b ∷ cs) k p h =
    let here : b ≡ p k = h 0 (omega arith) ∙ ap p (let e : k + 0 ≡ k = omega arith in e) in
    let next : 1 + k ≡ k + 1 = omega arith in
    let rest = places_where cs (1 + k) p (λ i less. h (suc i) (omega (arith, less)) ∙ ap p (let e : k + suc i ≡ (1 + k) + i = omega arith in e)) in
    ap₂ (λ (c : Bool) (r : List ℕ). cond c (k ∷ r) r) here (rest ∙ ap (λ (j : ℕ). filter p (range_with_len j (length cs))) next)

-- one more of them is set
set_where : (cs : List Bool) (q i : ℕ) → i < length cs → get_or (set cs q true) i false ≡ get_or cs i false || nat_eq i q
set_where cs q i less =
    elim (cases_eq i q) [
      | inl at ↦ get_or-set_at cs q i true false at (omega (arith, less, at)) ∙ sym (or_always (get_or cs i false)) ∙ ap (λ b. get_or cs i false || b) (sym (eq-eqb i q at))
      | inr ne ↦ get_or-set_other cs q i true false ne ∙ sym (or_none (get_or cs i false)) ∙ ap (λ b. get_or cs i false || b) (sym (ne_eqb i q ne))
    ]

-- or each of a list
abbrev all_set : List Bool → List ℕ → List Bool
all_set cs on = fold (λ ds q. set ds q true) cs on

all_where : (on : List ℕ) (cs : List Bool) (i : ℕ) → i < length cs → get_or (all_set cs on) i false ≡ get_or cs i false || list_any (nat_eq i) on
all_where [] cs i less = sym (or_none (get_or cs i false))
all_where (q ∷ on) cs i less =
    let long = length-set cs q true in
    all_where on (set cs q true) i (omega (arith, less, long))
    ∙ ap (λ b. b || list_any (nat_eq i) on) (set_where cs q i less)
    ∙ or_three (get_or cs i false) (nat_eq i q) (list_any (nat_eq i) on)

all_long : (on : List ℕ) (cs : List Bool) → length (all_set cs on) ≡ length cs
all_long [] cs = refl
all_long (q ∷ on) cs = all_long on (set cs q true) ∙ length-set cs q true

pub rising : (n : ℕ) (on : List ℕ) → filter (λ v. list_any (nat_eq v) on) (range_with_len 0 n) ≡ true_places 0 (controls_for n on)
unfolding controls_for
rising n on =
    let none = replicate n false in
    let p : ℕ → Bool = λ v. list_any (nat_eq v) on in
    let long : length (all_set none on) ≡ n = all_long on none ∙ length-replicate n false in
    let own : (i : ℕ) → i < length (all_set none on) → get_or (all_set none on) i false ≡ p (0 + i) = λ i less.
    all_where on none i (let l = all_long on none in omega (arith, less, l))
    ∙ ap (λ b. b || p i) (get_or-replicate n i false false (omega (arith, less, long)))
    ∙ ap p (let e : i ≡ 0 + i = omega arith in e) in
    sym (places_where (all_set none on) 0 p own ∙ ap (λ (m : ℕ). filter p (range_with_len 0 m)) long)
