-- How a bit list is kept: by its place. (A type cites lemmas of specs alone, so its own stands here with what it rests on.)
use Rattle.std.proofs.Common.{◌≡◌, ℕ, zero, suc, ◌+◌, ◌-◌, ◌^◌, ◌<◌, ◌≤◌, ◌⊎◌, inl, inr, refl, sym, ◌∙◌, ap, subst, Bool, true, false, List, [], ◌∷◌, ◌++◌, map, length, get_or, arith, length-append}
use Rattle.std.proofs.Math.Nat.{pow-suc}
use Rattle.std.proofs.lemmas.List.{length-map, get_or-map, get_or-append-add, get_or_append_left}
use Rattle.bit_lists.specs.Lists.{all_lists, place_of}

-- twice a power of two
pub pow_double : (n : ℕ) → 2 ^ suc n ≡ 2 ^ n + 2 ^ n
pow_double n = pow-suc 2 n ∙ omega arith

-- the lists that begin with b
with_first : Bool → ℕ → List (List Bool)
with_first b n = map (λ x. b ∷ x) (all_lists n)

-- there are 2^n lists of n values
pub length-all_lists : (n : ℕ) → length (all_lists n) ≡ 2 ^ n
length-all_lists zero = refl
length-all_lists (suc n) =
    length-append (map (λ x. false ∷ x) (all_lists n)) (map (λ x. true ∷ x) (all_lists n))
    ∙ omega (arith, length-map (all_lists n) (λ x. false ∷ x), length-map (all_lists n) (λ x. true ∷ x), length-all_lists n, pow_double n)

-- half of them begin with b
length-with_first : (b : Bool) (n : ℕ) → length (with_first b n) ≡ 2 ^ n
unfolding with_first
length-with_first b n = length-map (all_lists n) (λ x. b ∷ x) ∙ length-all_lists n

-- the i-th of them is b and then the i-th list
get_or-with_first : (b : Bool) (n i : ℕ) (d : List Bool) → i < 2 ^ n → get_or (with_first b n) i d ≡ b ∷ get_or (all_lists n) i d
unfolding with_first
get_or-with_first b n i d lt = get_or-map (λ x. b ∷ x) (all_lists n) i d d (omega (arith, length-all_lists n))

-- the first half and the second half
pub get_or-low : (n i : ℕ) (d : List Bool) → i < 2 ^ n → get_or (all_lists (suc n)) i d ≡ false ∷ get_or (all_lists n) i d
unfolding with_first
get_or-low n i d lt = get_or_append_left (with_first false n) (with_first true n) d i (omega (arith, length-with_first false n)) ∙ get_or-with_first false n i d lt

pub get_or-high : (n i : ℕ) (d : List Bool) → i < 2 ^ n → get_or (all_lists (suc n)) (2 ^ n + i) d ≡ true ∷ get_or (all_lists n) i d
unfolding with_first
get_or-high n i d lt =
    ap (λ k. get_or (with_first false n ++ with_first true n) (k + i) d) (sym (length-with_first false n))
    ∙ get_or-append-add (with_first false n) (with_first true n) i d ∙ get_or-with_first true n i d lt

-- x has n values and stands at place i
IsListed : ℕ → ℕ → List Bool → Type 0
IsListed n i x = (length x ≡ n) × (place_of x ≡ i)

-- so in the first half
in_low : (n i : ℕ) (d : List Bool) → i < 2 ^ n → IsListed n i (get_or (all_lists n) i d) → IsListed (suc n) i (get_or (all_lists (suc n)) i d)
unfolding IsListed
in_low n i d lt (len, at) = subst (IsListed (suc n) i) (sym (get_or-low n i d lt)) (omega arith, omega arith)

-- and in the second half
in_high : (n j : ℕ) (d : List Bool) → j < 2 ^ n → IsListed n j (get_or (all_lists n) j d) → IsListed (suc n) (2 ^ n + j) (get_or (all_lists (suc n)) (2 ^ n + j) d)
unfolding IsListed
in_high n j d lt (len, at) =
    let power : 2 ^ length (get_or (all_lists n) j d) ≡ 2 ^ n = ap (λ k. 2 ^ k) len in
    subst (IsListed (suc n) (2 ^ n + j)) (sym (get_or-high n j d lt)) (omega arith, omega arith)

-- a place is in the first half or past it
half_cases : (n i : ℕ) → (i < 2 ^ n) ⊎ (2 ^ n ≤ i)
half_cases n i = grind arith

-- the i-th list has n values and stands at place i
pub listed : (n i : ℕ) (d : List Bool) → i < 2 ^ n → (length (get_or (all_lists n) i d) ≡ n) × (place_of (get_or (all_lists n) i d) ≡ i)
unfolding IsListed
listed zero zero d lt = (refl, refl)
listed zero (suc i) d lt = absurd (omega arith)
listed (suc n) i d lt =
    elim (half_cases n i) [
      | inl below ↦ in_low n i d below (listed n i d below)
      | inr above ↦
          let j = i - 2 ^ n in
          let lt' : j < 2 ^ n = omega (arith, pow_double n) in
          let at : 2 ^ n + j ≡ i = omega arith in
          subst (λ k. IsListed (suc n) k (get_or (all_lists (suc n)) k d)) at (in_high n j d lt' (listed n j d lt'))
    ]

-- the list at place p has n values and p as its place
pub bits_inverse : (n p : ℕ) → p < 2 ^ n → (length (get_or (all_lists n) p []) ≡ n) × (place_of (get_or (all_lists n) p []) ≡ p)
bits_inverse n p lt = listed n p [] lt
