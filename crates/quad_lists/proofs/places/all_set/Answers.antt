use Rattle.std.proofs.Common.{rules, ◌≡◌, ◌<◌, ℕ, suc, Bool, true, false, List, [], ◌∷◌, length, get_or, All, sym, ◌∙◌, ap, subst, arith}
use Rattle.std.specs.Prelude.{◌&&◌}
use Rattle.circuit_model.specs.Vector.{all_set}
use Rattle.quad_lists.proofs.places.all_set.Goals as goal

rest_below : (n q : ℕ) (rest after : List ℕ) → rest ≡ q ∷ after → All (λ p. p < n) rest → All (λ p. p < n) after
rest_below n q rest after e h k d less = let all = subst (All (λ p. p < n)) e h in all (suc k) d (omega (arith, less))

rest_set : (x : List Bool) (q : ℕ) (rest after : List ℕ) → rest ≡ q ∷ after → get_or x q false ≡ true → all_set x rest ≡ all_set x after
rest_set x q rest after e on = ap (all_set x) e ∙ ap (λ b. b && all_set x after) on

pub loop-q-preserved : goal.loop-q-preserved
loop-q-preserved c =
    let parts : c.loop-q.rest.now ≡ c.in-Some.q.now ∷ c.in-Some.after.now = search rules in
    record {
      below = rest_below c.args.qubits c.in-Some.q.now c.loop-q.rest.now c.in-Some.after.now parts c.loop-q.invariant.below;
      same = λ x len at.
          c.loop-q.invariant.same x len at
          ∙ rest_set x c.in-Some.q.now c.loop-q.rest.now c.in-Some.after.now parts (sym (c.bit_of.ensures x len at) ∙ c.if-not-bit_of.false);
    }
