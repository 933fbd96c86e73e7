-- Bit lists of which some bits are left open.
use Rattle.std.specs.Prelude.{Bool, true, ◌&&◌, List, ◌∷◌, Option, None, Some}
use mathlib.Core.Bool.{beq}

-- whether the value is free, or fixed to b
abbrev pub fits : Option Bool → Bool → Bool
fits None b = true
fits (Some a) b = beq a b

-- whether each fixed value of p is the bit of x
abbrev pub agrees : List (Option Bool) → List Bool → Bool
agrees (v ∷ p) (b ∷ x) = fits v b && agrees p x
agrees p x = true
