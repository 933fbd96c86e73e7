-- Places of a row's bits followed by a column's.
use Rattle.std.proofs.Common.{◌≡◌, ℕ, suc, ◌+◌, ◌*◌, ◌/◌, ◌%◌, ◌^◌, ◌<◌, ◌≤◌, ◌∙◌, ap, subst, Bool, true, false, List, [], ◌∷◌, ◌++◌, length, arith, length-append}
use Rattle.std.proofs.lemmas.Nat.{pow-add, mod-mul-add, shr_high, pow_pos}
use Rattle.std.proofs.Math.Path.{ap₂}
use Rattle.std.proofs.Math.Nat.{mul-le-mul_right, div-add-mod, div-lt_iff_lt-mul}
use Rattle.bit_lists.specs.Lists.{place_of, bit_value}
use Rattle.bit_lists.proofs.Places.{place_of-below}

pub place_of-append : (r c : List Bool) → place_of (r ++ c) ≡ place_of r * 2 ^ length c + place_of c
place_of-append [] c = omega arith
place_of-append (b ∷ r) c =
    let rest = place_of-append r c in
    let power : 2 ^ length (r ++ c) ≡ 2 ^ length r * 2 ^ length c = ap (λ k. 2 ^ k) (length-append r c) ∙ pow-add 2 (length r) (length c) in
    by b rest power
  where
    by : (b : Bool) → place_of (r ++ c) ≡ place_of r * 2 ^ length c + place_of c → 2 ^ length (r ++ c) ≡ 2 ^ length r * 2 ^ length c
        → bit_value b * 2 ^ length (r ++ c) + place_of (r ++ c) ≡ (bit_value b * 2 ^ length r + place_of r) * 2 ^ length c + place_of c
    by false rest power = omega arith
    by true rest power = omega arith

pub place_of-joined : (n : ℕ) (r c : List Bool) → length c ≡ n → place_of (r ++ c) ≡ place_of r * 2 ^ n + place_of c
place_of-joined n r c len = place_of-append r c ∙ ap (λ k. place_of r * 2 ^ k + place_of c) len

pub place_in : (n : ℕ) (x : List Bool) → length x ≡ n → place_of x < 2 ^ n
place_in n x len = subst (λ k. place_of x < 2 ^ k) len (place_of-below x)

-- the row and the column again
pub row-of_joined : (n : ℕ) (r c : List Bool) → length c ≡ n → place_of (r ++ c) / 2 ^ n ≡ place_of r
row-of_joined n r c len = ap (λ i. i / 2 ^ n) (place_of-joined n r c len) ∙ shr_high (place_of r) n (place_of c) (place_in n c len)

pub column-of_joined : (n : ℕ) (r c : List Bool) → length c ≡ n → place_of (r ++ c) % 2 ^ n ≡ place_of c
column-of_joined n r c len = ap (λ i. i % 2 ^ n) (place_of-joined n r c len) ∙ mod-mul-add (place_of r) (2 ^ n) (place_of c) (place_in n c len)

-- a row and a column have a place in the matrix
pub joined_below : (n row column : ℕ) → row < 2 ^ n → column < 2 ^ n → row * 2 ^ n + column < 2 ^ (n + n)
joined_below n row column lr lc =
    let k = 2 ^ n in
    let power : 2 ^ (n + n) ≡ k * k = pow-add 2 n n in
    let most : suc row * k ≤ k * k = mul-le-mul_right k lr in
    let next : suc row * k ≡ row * k + k = grind arith in
    omega arith

-- and the place a row
pub row_below : (n place : ℕ) → place < 2 ^ (n + n) → place / 2 ^ n < 2 ^ n
row_below n place lt = (div-lt_iff_lt-mul (pow_pos n)).1 (subst (λ k. place < k) (pow-add 2 n n) lt)

-- the row and the column of a place stand at that place
pub joined_again : (n place : ℕ) (r c : List Bool) → length c ≡ n → place_of r ≡ place / 2 ^ n → place_of c ≡ place % 2 ^ n → place_of (r ++ c) ≡ place
joined_again n place r c len er ec =
    place_of-joined n r c len ∙ ap₂ (λ i j. i * 2 ^ n + j) er ec ∙ omega (arith, div-add-mod place (2 ^ n))
