-- How many bits are left once a repeated sign is dropped.
use Rattle.std.specs.Prelude.{◌≡◌, ◌≢◌, ℕ, ◌+◌, ◌-◌, ◌<◌, ◌≤◌, List, length}
use Rattle.slice_vec.specs.Slices.{bit_node}

-- the first w bits have the sign at each place from the last of them on, and the two bits at their end
-- differ if there are more than two
pub record IsTrimmed (ns : List ℕ) (w : ℕ) : Type 0 where
  pub within : w ≤ length ns
  pub short : length ns ≤ 2 → w ≡ length ns
  pub two : 2 ≤ length ns → 2 ≤ w
  pub same : (i : ℕ) → w ≤ i + 1 → bit_node ns i ≡ bit_node ns (w - 1)
  pub differ : 2 < w → bit_node ns (w - 1) ≢ bit_node ns (w - 2)
