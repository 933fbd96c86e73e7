use Rattle.std.proofs.Common.{rules, ◌≡◌, true}
use Rattle.ring_omega.proofs.lowest_form.is_divisible.Goals as goal
use Rattle.ring_omega.proofs.LowestLemmas.{divisible_parities, divisible-from_parities, passed_parity, kept_parity}

pub returns-then-same_parity : goal.returns-then-same_parity
returns-then-same_parity c =
    let q = c.args.q in
    let first = kept_parity q.a q.c (search rules) (search rules) (c.same_parity.ensures.0 c.if-same_parity.true) in (
      λ t. divisible-from_parities q first (kept_parity q.b q.d (search rules) (search rules) (c.same_parity-then-same_parity.ensures.0 t)),
      λ d. c.same_parity-then-same_parity.ensures.1 (passed_parity q.b q.d (search rules) (search rules) (divisible_parities q d).0),
    )

pub returns-else-same_parity : goal.returns-else-same_parity
returns-else-same_parity c =
    let q = c.args.q in
    let no : (c.same_parity.result ≡ true) → ⊥ = λ t. cc in (
      λ t. absurd (no t),
      λ d. c.same_parity.ensures.1 (passed_parity q.a q.c (search rules) (search rules) (divisible_parities q d).1),
    )
