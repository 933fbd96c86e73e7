-- Connectives that need no recursion.
use Rattle.std.specs.Prelude.{◌≡◌, ◌⊎◌, ℕ, ◌<◌, Bool, true, false, cond, ◌==◌, bit_and}
use Rattle.diagram_ops.specs.Connectives.{connective}

-- truth values of nodes: FALSE is false, and TRUE is true
pub record IsValuation (e : ℕ → Bool) : Type 0 where
  pub at_false : e 0 ≡ false
  pub at_true : e 1 ≡ true

-- the bits that a node leaves of a table, by the bits of its value true
abbrev pub kept_by : ℕ → ℕ → ℕ → ℕ
kept_by n high low = cond (n == 0) low (cond (n == 1) high 255)

-- the bits that two nodes leave of a table, if they are one
abbrev pub kept_same : ℕ → ℕ → ℕ → ℕ
kept_same n m both = cond (n == m) both 255

-- the bits of a table that are met at f, g and h
abbrev pub mask_of : ℕ → ℕ → ℕ → ℕ
mask_of f g h =
    bit_and (bit_and (bit_and (kept_by f 240 15) (kept_by g 204 51)) (kept_by h 170 85))
    (bit_and (bit_and (kept_same f g 195) (kept_same f h 165)) (kept_same g h 153))

-- n is FALSE, TRUE or one of the three, and has the connective's value whatever values they have
pub record IsShort (t f g h n : ℕ) : Type 0 where
  pub one : (n < 2) ⊎ ((n ≡ f) ⊎ ((n ≡ g) ⊎ (n ≡ h)))
  pub right : (e : ℕ → Bool) → IsValuation e → e n ≡ connective t (e f) (e g) (e h)
