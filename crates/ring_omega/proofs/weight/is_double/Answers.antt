use Rattle.std.proofs.Common.{rules, ◌≡◌, true, pos}
use Rattle.ring_omega.proofs.weight.is_double.Goals as goal
use Rattle.ring_omega.proofs.LowestLemmas.{passed_parity, kept_parity}
use Rattle.ring_omega.proofs.WeightLemmas.{double-from_parities, double_parities}

pub returns-then-same_parity : goal.returns-then-same_parity
returns-then-same_parity c =
    let w = c.args.w in
    let first = kept_parity w.a (pos 0) (search rules) (search rules) (c.same_parity.ensures.0 c.if-same_parity.true) in (
      λ t. double-from_parities w first (kept_parity w.b (pos 0) (search rules) (search rules) (c.same_parity-then-same_parity.ensures.0 t)),
      λ d. c.same_parity-then-same_parity.ensures.1 (passed_parity w.b (pos 0) (search rules) (search rules) (double_parities w d).1),
    )

pub returns-else-same_parity : goal.returns-else-same_parity
returns-else-same_parity c =
    let w = c.args.w in
    let odd : (c.same_parity.result ≡ true) → ⊥ = λ t. cc in (
      λ t. absurd (odd t),
      λ d. c.same_parity.ensures.1 (passed_parity w.a (pos 0) (search rules) (search rules) (double_parities w d).0),
    )
