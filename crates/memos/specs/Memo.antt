-- What contracts see of the results of one call: a list of results by their three arguments.
use Rattle.std.specs.Prelude.{ℕ, ◌&&◌, ◌==◌, List, Option}
use Rattle.std.specs.Map.{lookup}

-- the three arguments
abbrev pub Triple : Type 0
Triple = ℕ × ℕ × ℕ

-- the result for three arguments
abbrev pub found : List (Triple × ℕ) → ℕ → ℕ → ℕ → Option ℕ
found es f g h = lookup (λ k. (f == k.0 && g == k.1) && h == k.2) es
