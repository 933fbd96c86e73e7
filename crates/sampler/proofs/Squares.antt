-- Squares of two numbers, and of the two that Euclid's algorithm goes on with.
use Rattle.std.proofs.Common.{◌≡◌, ◌⊎◌, inl, inr, ℕ, zero, suc, ◌+◌, ◌-◌, ◌*◌, ◌<◌, ◌≤◌, refl, ◌∙◌, ap, arith}
use Rattle.std.proofs.lemmas.Nat.{mul-le}

-- x is no more than y
pub not_above : (x y : ℕ) → x ≤ y → 0 < y → x * x < 2 * (y * y)
not_above x y less some = omega (arith, mul-le x x y y less less, mul-le 1 1 y y (omega arith) (omega arith))

-- x is twice y or more
pub far_above : (x y : ℕ) → 2 * y ≤ x → 0 < y → 2 * (y * y) < x * x
far_above x y more some = omega (arith, mul-le (2 * y) (2 * y) x x more more, mul-le 1 1 y y (omega arith) (omega arith))

-- with a = x - y and b = y - a: x² - 2y² is 2a² - b²
module _ (x y a b : ℕ) (first : x ≡ a + y) (second : y ≡ a + b) where
  square_of_y : y * y ≡ a * a + 2 * (a * b) + b * b
  square_of_y = ap (λ k. k * k) second ∙ (let e : (a + b) * (a + b) ≡ a * a + 2 * (a * b) + b * b = omega arith in e)

  square_of_x : x * x ≡ 4 * (a * a) + 4 * (a * b) + b * b
  square_of_x = ap (λ k. k * k) (first ∙ ap (λ k. a + k) second) ∙ (let e : (a + (a + b)) * (a + (a + b)) ≡ 4 * (a * a) + 4 * (a * b) + b * b = omega arith in e)

  pub turned_below : 2 * (a * a) < b * b → x * x < 2 * (y * y)
  turned_below h = omega (arith, square_of_x, square_of_y)

  pub turned_above : b * b < 2 * (a * a) → 2 * (y * y) < x * x
  turned_above h = omega (arith, square_of_x, square_of_y)

  pub turned_same : x * x ≡ 2 * (y * y) → b * b ≡ 2 * (a * a)
  turned_same h = omega (arith, square_of_x, square_of_y)

less_or_not : (i j : ℕ) → (i ≤ j) ⊎ (j < i)
less_or_not i j = grind arith

-- no square is twice another one, but for 0
pub no_root : (n x y : ℕ) → y < n → x * x ≡ 2 * (y * y) → y ≡ 0
no_root zero x y less e = absurd (omega arith)
no_root (suc n) x zero less e = refl
no_root (suc n) x (suc y) less e = by (less_or_not x (suc y)) (less_or_not (2 * suc y) x) (λ a b few same. no_root n b a few same)
  where
    by : (x ≤ suc y) ⊎ (suc y < x) → (2 * suc y ≤ x) ⊎ (x < 2 * suc y) → ((a b : ℕ) → a < n → b * b ≡ 2 * (a * a) → a ≡ 0) → suc y ≡ 0
    by (inl low) other smaller = absurd (omega (arith, not_above x (suc y) low (omega arith)))
    by (inr high) (inl far) smaller = absurd (omega (arith, far_above x (suc y) far (omega arith)))
    by (inr high) (inr near) smaller =
        let a = x - suc y in
        let b = suc y - a in
        let none = smaller a b (omega arith) (turned_same x (suc y) a b (omega arith) (omega arith) e) in
        absurd (omega arith)
