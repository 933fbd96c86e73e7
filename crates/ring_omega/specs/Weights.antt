-- Squared magnitudes. A weight (A, B) stands for A + B√2, and a pair (w, k) for w over the k-th power of 2.
use Rattle.std.specs.Prelude.{◌≡◌, ◌≤◌, ℕ, zero, suc, ℤ, pos, neg_ℤ, ◌+ℤ◌, ◌-ℤ◌, ◌*ℤ◌, ◌&&◌, cond}
use Rattle.ring_omega.specs.declared.quad.Quad.{Quad}
use Rattle.ring_omega.specs.declared.weight.Weight.{Weight}
use Rattle.ring_omega.specs.Ring.{quad}
use Rattle.ring_omega.specs.Lowest.{is_even, half}

abbrev pub weight : ℤ → ℤ → Weight
weight x y = record { a = x; b = y }

abbrev pub zero_weight : Weight
zero_weight = weight (pos 0) (pos 0)

-- the squared magnitude of q
unfoldable pub weight_of : Quad → Weight
weight_of q = weight (q.a *ℤ q.a +ℤ q.b *ℤ q.b +ℤ q.c *ℤ q.c +ℤ q.d *ℤ q.d) (q.a *ℤ q.b +ℤ q.b *ℤ q.c +ℤ q.c *ℤ q.d -ℤ q.d *ℤ q.a)

-- the weight as a number of the ring, where √2 is ω - ω³
abbrev pub weight_quad : Weight → Quad
weight_quad w = quad (neg_ℤ w.b) (pos 0) w.b w.a

-- z times the n-th power of 2
abbrev pub doubled : ℕ → ℤ → ℤ
doubled zero z = z
doubled (suc n) z = doubled n z +ℤ doubled n z

-- (w, k) and (v, j) have the same value: w 2^j = v 2^k
pub record SameWeight (w : Weight) (k : ℕ) (v : Weight) (j : ℕ) : Type 0 where
  pub same_a : doubled j w.a ≡ doubled k v.a
  pub same_b : doubled j w.b ≡ doubled k v.b

-- (v, j) is the lowest form of (w, k): of all pairs of its value it has the least exponent
pub record IsLowestWeight (w : Weight) (k : ℕ) (v : Weight) (j : ℕ) : Type 0 where
  pub same : SameWeight w k v j
  pub least : (u : Weight) (i : ℕ) → SameWeight w k u i → j ≤ i

-- the lowest form of (w, k), computed: halved as often as the exponent and the parities allow
unfoldable pub lowest_weight_form : Weight → ℕ → Weight × ℕ
lowest_weight_form w zero = (w, zero)
lowest_weight_form w (suc k) = cond (is_even w.a && is_even w.b) (lowest_weight_form (weight (half w.a) (half w.b)) k) (w, suc k)
