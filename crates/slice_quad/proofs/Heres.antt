-- Where a diagonal gate takes its power of ω, is where it negates some coordinate.
use Rattle.std.proofs.Common.{subst, ◌≡◌, ℕ, zero, suc, ◌-◌, ◌≤◌, true, List, length, refl, sym, arith}
use Rattle.diagram_model.specs.Functions.{Function, IsPrefixOf}
use Rattle.diagram_model.specs.Stores.{Diagram}
use Rattle.diagram_ops.specs.Diagrams.{StoreAndCache, IsConsistent}
use Rattle.diagram_ops.specs.Made.{Property}
use Rattle.slice_vec.specs.Growing.{Grows, Denotes}
use Rattle.slice_vec.proofs.Growing.{grows_none, denotes_on}
use Rattle.slice_quad.specs.declared.coord.Coord.{Coord}
use Rattle.slice_quad.specs.declared.coord.Coord.TheVariants.{A, D}
use Rattle.slice_quad.specs.declared.four.Four.{Four}
use Rattle.slice_quad.specs.declared.gate.Gate.{Gate}
use Rattle.slice_quad.specs.declared.gate.Target.{Target}
use Rattle.gate_set.specs.declared.entry.Entry.{Entry}
use Rattle.gate_set.specs.declared.entry.Entry.TheVariants.{Omega}
use Rattle.gate_set.specs.Matrix.{IsPower}
use Rattle.slice_quad.specs.Turning.{IsTurning}
use Rattle.slice_quad.specs.Turns.{turn}
use Rattle.slice_quad.specs.Mix.{negates}
use Rattle.slice_quad.specs.Fourfold.{IsRepeatable}
use Rattle.slice_quad.specs.Fours.{digits_in, mix_of, AreIntegers}
use Rattle.slice_quad.specs.Raws.{mix_made, AreZeros, GivesRaw, IsDiagonal, IsMix, IsMixable}
use Rattle.slice_quad.proofs.Diagonals.{IsOnDiagonal, here_of, here_negates}
use Rattle.slice_quad.proofs.DiagonalCalls.{steady_in}
use Rattle.slice_quad.proofs.Raws.{integers_on, mix_repeatable, zero_on}
use Rattle.slice_quad.proofs.Serving.{Serves}
use Rattle.slice_quad.proofs.Wanted.{wanted_in, wanted_term, term_sign}

-- some coordinate is negated by the j-th power of ω
pub record Negates (j : ℕ) : Type 0 where
  pub coord : Coord
  pub is : (turn j coord).negated ≡ true

-- each power but the 0th negates one
pub negates_some : (j : ℕ) → 1 ≤ j → j ≤ 7 → Negates j
unfolding turn
negates_some zero some few = absurd (omega (arith, some))
negates_some (suc zero) some few = record { coord = D; is = refl }
negates_some (suc (suc zero)) some few = record { coord = D; is = refl }
negates_some (suc (suc (suc zero))) some few = record { coord = D; is = refl }
negates_some (suc (suc (suc (suc zero)))) some few = record { coord = D; is = refl }
negates_some (suc (suc (suc (suc (suc zero))))) some few = record { coord = A; is = refl }
negates_some (suc (suc (suc (suc (suc (suc zero)))))) some few = record { coord = A; is = refl }
negates_some (suc (suc (suc (suc (suc (suc (suc zero))))))) some few = record { coord = A; is = refl }
negates_some (suc (suc (suc (suc (suc (suc (suc (suc j)))))))) some few = absurd (omega (arith, few))

-- by another name
sign_as : (vs : List ℕ) (f g : Function) (p : Function) → f ≡ g → IsPrefixOf vs f p → IsPrefixOf vs g p
sign_as vs f g p e h = rw (sym e) h

-- the node is among those of the step
here_wanted : (d : Diagram) (t : Target) (j : ℕ) (q : Four) → IsOnDiagonal t j → 1 ≤ j → j ≤ 7 → AreIntegers d (length q.a) q → (p : Function) → IsPrefixOf d.order (here_of t) p → IsMix d t q p
here_wanted d t j q r some few whole p h =
    let n = negates_some j some few in
    let c = digits_in d q in
    wanted_in d.order (length q.a) (mix_of t) c n.coord p
    (wanted_term d.order (length q.a) (mix_of t) c n.coord p true
    (term_sign d.order (length q.a) (mix_of t) c n.coord true p
    (sign_as d.order (here_of t) (negates (mix_of t) n.coord true) p (here_negates t j r (length q.a - 1) c n.coord (steady_in d (length q.a) q whole) n.is) h)))

-- a diagonal gate for each coordinate
diagonal_on : (u v : StoreAndCache) (Is : Property) (t : Target) (j h : ℕ) (q : Four) (zs : List ℕ) → IsConsistent u → Grows u Is v → IsDiagonal u.store t j h q zs → IsDiagonal v.store t j h q zs
diagonal_on u v Is t j h q zs s k r = record {
  rooted = r.rooted;
  low_low = r.low_low;
  low_high = r.low_high;
  high_low = r.high_low;
  high_high = r.high_high;
  small = r.small;
  here = denotes_on u v Is h (here_of t) s k r.here;
  whole = integers_on u v Is (length q.a) q k r.whole;
  some = r.some;
  few = r.few;
  zero = zero_on u v Is q zs s k r.zero;
}

pub diagonal_repeatable : (t : Target) (j h : ℕ) (q : Four) (zs : List ℕ) → IsRepeatable (λ d. IsDiagonal d t j h q zs) (mix_made t q) (GivesRaw t q)
diagonal_repeatable t j h q zs = mix_repeatable t q (λ d. IsDiagonal d t j h q zs) (λ d r. r.whole) (λ u v s k r. diagonal_on u v (IsMix u.store t q) t j h q zs s k r)

-- the entries, by the test
reduced_small : (e : Entry) (j : ℕ) → e ≡ Omega j → IsPower e → j ≤ 7
reduced_small e j is r = subst (λ (f : Entry). IsPower f) is r

-- the rows of such a gate
rows_of : (t : Target) (j : ℕ) → IsTurning t j → j ≤ 7 → IsOnDiagonal t j
rows_of t j r small = record { rooted = r.rooted; small = small; low_low = r.low_low; low_high = r.low_high; high_low = r.high_low; high_high = r.high_high }

module _ (u : StoreAndCache) (g : Gate) (q : Four) (j : ℕ) (m : IsMixable u.store g q) (r : IsTurning g.target j) where
  small : j ≤ 7
  small = reduced_small g.target.high_high j r.high_high m.reduced.high_high

  pub here_serves : IsConsistent u → Serves u u (IsMix u.store g.target q) (IsPrefixOf u.store.order (here_of g.target))
  here_serves s = record { grows = grows_none u (IsMix u.store g.target q) s; wanted = here_wanted u.store g.target j q (rows_of g.target j r small) r.some small m.whole }

  pub diagonal_ready : (v : StoreAndCache) (h : ℕ) (zs : List ℕ) → Grows u (IsMix u.store g.target q) v → Denotes v.store h (here_of g.target) → AreZeros q zs → IsDiagonal v.store g.target j h q zs
  diagonal_ready v h zs k here zeros = record {
    rooted = r.rooted;
    low_low = r.low_low;
    low_high = r.low_high;
    high_low = r.high_low;
    high_high = r.high_high;
    small = small;
    here = here;
    whole = integers_on u v (IsMix u.store g.target q) (length q.a) q k m.whole;
    some = m.some;
    few = m.few;
    zero = zeros v.store k.sound.store;
  }
