-- Turns, one power of ω after another.
use Rattle.std.proofs.Common.{◌≡◌, ◌≢◌, ℕ, suc, ◌-◌, false, sym, ◌∙◌, ap, arith}
use Rattle.ring_omega.specs.declared.quad.Quad.{Quad}
use Rattle.ring_omega.specs.Ring.{omega_unit, times_power}
use Rattle.slice_quad.specs.declared.coord.Coord.{Coord}
use Rattle.slice_quad.specs.declared.coord.Coord.TheVariants.{A, B, C, D}
use Rattle.slice_quad.specs.declared.coord.Turn.{Turn}
use Rattle.slice_quad.specs.Turns.{coordinate, signed, turn, flip}
use Rattle.slice_quad.proofs.MixLemmas.{turn-law}

-- by no power
pub turn_none : (j : ℕ) (z : Coord) → j ≡ 0 → turn j z ≡ record { from = z; negated = false }
unfolding turn
turn_none j z e = ap (λ i. turn i z) e

-- one power more
turn_step : (j : ℕ) (z w : Coord) → z ≡ w → j ≢ 0 → turn j z ≡ turn (suc (j - 1)) w
turn_step j z w e ne = ap (turn j) e ∙ ap (λ i. turn i w) (let h : j ≡ suc (j - 1) = omega (arith, ne) in h)

-- coordinate A
pub turn_a : (j : ℕ) (z : Coord) → z ≡ A → j ≢ 0 → turn j z ≡ turn (j - 1) B
unfolding turn
turn_a j z e ne = turn_step j z A e ne

-- coordinate B
pub turn_b : (j : ℕ) (z : Coord) → z ≡ B → j ≢ 0 → turn j z ≡ turn (j - 1) C
unfolding turn
turn_b j z e ne = turn_step j z B e ne

-- coordinate C
pub turn_c : (j : ℕ) (z : Coord) → z ≡ C → j ≢ 0 → turn j z ≡ turn (j - 1) D
unfolding turn
turn_c j z e ne = turn_step j z C e ne

-- coordinate D
pub turn_d : (j : ℕ) (z : Coord) → z ≡ D → j ≢ 0 → turn j z ≡ flip (turn (j - 1) A)
unfolding turn
turn_d j z e ne = turn_step j z D e ne

-- the turn as the ring says it
pub turn_is : (j : ℕ) (z : Coord) (t : Turn) (q : Quad) → t ≡ turn j z → coordinate z (times_power omega_unit j q) ≡ signed t.negated (coordinate t.from q)
turn_is j z t q e = turn-law j z q ∙ ap (λ (s : Turn). signed s.negated (coordinate s.from q)) (sym e)
