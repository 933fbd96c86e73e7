-- Values of pairs (q, k). A pair stands for q over the k-th power of √2.
use Rattle.std.specs.Prelude.{ℕ, ◌≤◌, ◌≡◌}
use Rattle.ring_omega.specs.declared.quad.Quad.{Quad}
use Rattle.ring_omega.specs.Ring.{times_power, root_of_two}

-- (q, k) and (p, j) have the same value: q √2^j = p √2^k
abbrev pub SameValue : Quad → ℕ → Quad → ℕ → Type 0
SameValue q k p j = times_power root_of_two j q ≡ times_power root_of_two k p

-- (p, j) is the lowest form of (q, k): of all pairs of its value it has the least exponent
pub record IsLowestForm (q : Quad) (k : ℕ) (p : Quad) (j : ℕ) : Type 0 where
  pub same : SameValue q k p j
  pub least : (r : Quad) (i : ℕ) → SameValue q k r i → j ≤ i
