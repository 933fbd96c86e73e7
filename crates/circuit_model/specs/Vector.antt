-- A list with an entry for each basis state, in order, as a vector; and bits of a basis state.
use Rattle.std.specs.Prelude.{ℕ, Bool, true, false, ◌&&◌, List, [], ◌∷◌, get_or}
use Rattle.ring_omega.specs.declared.quad.Quad.{Quad}
use Rattle.ring_omega.specs.Ring.{zero_quad}
use Rattle.bit_lists.specs.Lists.{place_of}

-- the quadruple that the list has for the basis state x
abbrev pub at : List Quad → List Bool → Quad
at state x = get_or state (place_of x) zero_quad

-- whether the bits at these places are all 1
abbrev pub all_set : List Bool → List ℕ → Bool
all_set x [] = true
all_set x (c ∷ cs) = get_or x c false && all_set x cs
