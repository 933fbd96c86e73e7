-- Words that only the clauses of private functions cite.
use Rattle.std.specs.Prelude.{◌≡◌, ℤ, ◌+ℤ◌, Option, Some, None}
use Rattle.ring_omega.specs.declared.quad.Quad.{Quad}
use Rattle.ring_omega.specs.Ring.{quad, product_of, root_of_two}

-- a number from coordinates that may be missing
abbrev pub all_of : Option ℤ → Option ℤ → Option ℤ → Option ℤ → Option Quad
all_of (Some x) (Some y) (Some z) (Some u) = Some (quad x y z u)
all_of _ _ _ _ = None

-- q is a multiple of the root of two
abbrev pub IsDivisible : Quad → Type 0
IsDivisible q = (p : Quad) × (product_of p root_of_two ≡ q)

-- x - y is even
abbrev pub SameParity : ℤ → ℤ → Type 0
SameParity x y = (half : ℤ) × (x ≡ y +ℤ (half +ℤ half))
