use Rattle.std.proofs.Common.{◌≡◌, ℕ, List, Bool, map}
use Rattle.ring_omega.specs.declared.quad.Quad.{Quad}
use Rattle.bit_lists.specs.Lists.{all_lists}
use Rattle.circuit_model.specs.Working.{halved}
use Rattle.quad_lists.proofs.halving.halve_shared.Given as goal

-- the entries so far are those of a vector whose halving is that of the first one
abbrev pub invariant-loop-exponent : goal.invariant-loop-exponent
invariant-loop-exponent l = (n : ℕ) (v : List Bool → Quad) → l.initial.entries ≡ map v (all_lists n)
    → ((u : List Bool → Quad) × (l.entries ≡ map u (all_lists n)) × (halved n u l.exponent ≡ halved n v l.fn.exponent))

abbrev pub decreases-loop-exponent : goal.decreases-loop-exponent
decreases-loop-exponent l = l.exponent
