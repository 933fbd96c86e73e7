-- The coordinates of a quadruple times a power of ω, and times √2.
use Rattle.std.specs.Prelude.{ℕ, zero, suc, ℤ, neg_ℤ, Bool, true, false, not, cond}
use Rattle.ring_omega.specs.declared.quad.Quad.{Quad}
use Rattle.slice_quad.specs.declared.coord.Coord.{Coord}
use Rattle.slice_quad.specs.declared.coord.Coord.TheVariants.{A, B, C, D}
use Rattle.slice_quad.specs.declared.coord.Turn.{Turn}

-- a coefficient of aω³ + bω² + cω + d
abbrev pub coordinate : Coord → Quad → ℤ
coordinate A q = q.a
coordinate B q = q.b
coordinate C q = q.c
coordinate D q = q.d

-- negated once more
abbrev pub flip : Turn → Turn
flip t = record { from = t.from; negated = not t.negated }

-- ω(a,b,c,d) is (b,c,d,-a)
unfoldable pub turn : ℕ → Coord → Turn
turn zero z = record { from = z; negated = false }
turn (suc j) A = turn j B
turn (suc j) B = turn j C
turn (suc j) C = turn j D
turn (suc j) D = flip (turn j A)

-- the two coordinates that √2 adds up to z, the first and the second: √2(a,b,c,d) is (b-d, a+c, b+d, c-a)
abbrev pub root_turn : Coord → Bool → Turn
root_turn A false = record { from = B; negated = false }
root_turn A true = record { from = D; negated = true }
root_turn B false = record { from = A; negated = false }
root_turn B true = record { from = C; negated = false }
root_turn C false = record { from = B; negated = false }
root_turn C true = record { from = D; negated = false }
root_turn D false = record { from = C; negated = false }
root_turn D true = record { from = A; negated = true }

-- negated, or as it is
abbrev pub signed : Bool → ℤ → ℤ
signed b z = cond b (neg_ℤ z) z
