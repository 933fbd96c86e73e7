-- The lexicographic order is the order of the places.
use Rattle.std.proofs.Common.{◌≡◌, ℕ, zero, suc, ◌+◌, ◌*◌, ◌^◌, ◌<◌, ◌≤◌, ◌⊎◌, inl, inr, refl, sym, ◌∙◌, ap, Bool, true, false, List, [], ◌∷◌, ◌++◌, length, length-append, get_or, arith, replicate}
use Rattle.std.proofs.lemmas.List.{length-replicate, map-append}
use Rattle.std.proofs.Math.Pow.{pow_mono}
use Rattle.bit_lists.specs.Lists.{all_lists, place_of, bit_value, bits_text, IsBefore, IsNext}
use Rattle.bit_lists.proofs.Places.{place_of-below, pow_double, get_or-all_lists}

-- with equal lengths a list that stands before another has the lesser place
pub before-place : (x y : List Bool) → length x ≡ length y → IsBefore x y → place_of x < place_of y
before-place [] y e h = absurd h
before-place (false ∷ x) [] e h = absurd h
before-place (true ∷ x) [] e h = absurd h
before-place (false ∷ x) (false ∷ y) e h = let less = before-place x y (omega arith) h in omega arith
before-place (true ∷ x) (false ∷ y) e h = absurd h
before-place (false ∷ x) (true ∷ y) e h =
    let power : 2 ^ length y ≡ 2 ^ length x = ap (λ (n : ℕ). 2 ^ n) (omega arith) in
    omega (arith, place_of-below x)
before-place (true ∷ x) (true ∷ y) e h =
    let less = before-place x y (omega arith) h in
    let power : 2 ^ length y ≡ 2 ^ length x = ap (λ (n : ℕ). 2 ^ n) (omega arith) in
    omega arith

-- and the other way round
pub place-before : (x y : List Bool) → length x ≡ length y → place_of x < place_of y → IsBefore x y
place-before [] [] e h = absurd (omega arith)
place-before [] (b ∷ y) e h = absurd (omega arith)
place-before (b ∷ x) [] e h = absurd (omega arith)
place-before (false ∷ x) (false ∷ y) e h = place-before x y (omega arith) (omega arith)
place-before (true ∷ x) (false ∷ y) e h =
    let power : 2 ^ length y ≡ 2 ^ length x = ap (λ (n : ℕ). 2 ^ n) (omega arith) in
    absurd (omega (arith, place_of-below y))
place-before (false ∷ x) (true ∷ y) e h = tt
place-before (true ∷ x) (true ∷ y) e h =
    let power : 2 ^ length y ≡ 2 ^ length x = ap (λ (n : ℕ). 2 ^ n) (omega arith) in
    place-before x y (omega arith) (omega arith)

-- lists of one length with one place are one list
pub same_place : (x y : List Bool) → length x ≡ length y → place_of x ≡ place_of y → x ≡ y
same_place x y long at =
    sym (get_or-all_lists (length y) x [] long) ∙ ap (λ i. get_or (all_lists (length y)) i []) at ∙ get_or-all_lists (length y) y [] refl

pub less_or_same : (i j : ℕ) → i ≤ j → (j ≡ i) ⊎ (i < j)
less_or_same i j h = grind arith

-- the list at the next place is the next list
pub next-place : (x y : List Bool) → length y ≡ length x → place_of y ≡ place_of x + 1 → IsNext x y
next-place x y long at = record {
  long = long;
  after = place-before x y (sym long) (omega arith);
  nearest = λ z e h.
      let less : place_of x < place_of z = before-place x z (sym e) h in
      elim (less_or_same (place_of y) (place_of z) (omega arith)) [
        | inl same ↦ inl (same_place z y (e ∙ sym long) same)
        | inr more ↦ inr (place-before y z (long ∙ sym e) more)
      ];
}

first_bit : (c : Bool) (p q r s v : ℕ) → q ≡ p + p → s ≡ r * 2 + v → bit_value c * q + s ≡ (bit_value c * p + r) * 2 + v
first_bit false p q r s v e f = omega arith
first_bit true p q r s v e f = omega arith

-- the last list is that of ones alone
pub place_of-ones : (n : ℕ) → place_of (replicate n true) + 1 ≡ 2 ^ n
place_of-ones zero = refl
place_of-ones (suc n) =
    let long : 2 ^ length (replicate n true) ≡ 2 ^ n = ap (λ (k : ℕ). 2 ^ k) (length-replicate n true) in
    let one = place_of-ones n in
    let double = pow_double n in
    omega arith

pub ones : (x : List Bool) → place_of x + 1 ≡ 2 ^ length x → x ≡ replicate (length x) true
ones x e = same_place x (replicate (length x) true) (sym (length-replicate (length x) true)) (omega (arith, place_of-ones (length x)))

pub not_ones : (x : List Bool) → x ≡ replicate (length x) true → place_of x + 1 ≡ 2 ^ length x
not_ones x e = ap (λ y. place_of y + 1) e ∙ place_of-ones (length x)

-- one more bit at the end
pub place_of-last : (x : List Bool) (b : Bool) → place_of (x ++ b ∷ []) ≡ place_of x * 2 + bit_value b
place_of-last [] b = omega arith
place_of-last (c ∷ x) b =
    let long : 2 ^ length (x ++ b ∷ []) ≡ 2 ^ suc (length x) = ap (λ (k : ℕ). 2 ^ k) (length-append x (b ∷ []) ∙ omega arith) in
    let rest = place_of-last x b in
    let double = pow_double (length x) in
    first_bit c (2 ^ length x) (2 ^ length (x ++ b ∷ [])) (place_of x) (place_of (x ++ b ∷ [])) (bit_value b) (long ∙ double) rest

pub last_at : (x y : List Bool) (b : Bool) → length y ≡ length x + 1 → place_of y ≡ place_of x * 2 + bit_value b → y ≡ x ++ b ∷ []
last_at x y b long at = same_place y (x ++ b ∷ []) (long ∙ sym (length-append x (b ∷ []))) (at ∙ sym (place_of-last x b))

pub double_below : (n p : ℕ) → n < 128 → p < 2 ^ n → p * 2 + 1 < 2 ^ 128
double_below n p small below =
    let most : 2 ^ suc n ≤ 2 ^ 128 = pow_mono {j = 128} (omega arith) in
    let double = pow_double n in
    omega arith

pub bits_text-last : (x : List Bool) (b : Bool) → bits_text (x ++ b ∷ []) ≡ bits_text x ++ (48 + bit_value b) ∷ []
bits_text-last x b = map-append (λ c. 48 + bit_value c) x (b ∷ [])

-- no byte of a text of bits is another one
pub bits_text-byte : (x : List Bool) (i d : ℕ) → i < length x → (b : Bool) × (get_or (bits_text x) i d ≡ 48 + bit_value b)
bits_text-byte [] i d h = absurd (omega arith)
bits_text-byte (b ∷ x) zero d h = (b, refl)
bits_text-byte (b ∷ x) (suc i) d h = bits_text-byte x i d (omega arith)
