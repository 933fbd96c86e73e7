use Rattle.std.proofs.Common.{◌≡◌, ◌⊎◌, inl, inr, ◌≤◌, ◌+◌, ◌*◌, ◌∷◌, ℕ, Bool, false, length, get_or, drop, ap, sym, ◌∙◌, arith, IsTrue}
use Rattle.std.proofs.Math.Path.{ap₂}
use Rattle.gate_set.specs.declared.gate.Gate.{Gate}
use Rattle.gate_set.specs.Circuits.{inverse_gate}
use Rattle.comparison.specs.Products.Step.{left, right}
use Rattle.comparison.specs.Steps.{mixed, IsLeftNext}
use Rattle.comparison.proofs.TurnLemmas.{left_turn, right_turn, right_left}
use Rattle.comparison.proofs.turns.next_turn.Goals as goal

none_more : (n : ℕ) → n ≡ n + 0
none_more n = omega arith

at_end : (p j : ℕ) → j ≡ p → p ≤ j
at_end p j e = omega arith

ends : (m p i j : ℕ) → IsLeftNext m p i j → (p ≤ j) ⊎ (i * p ≤ j * m)
ends m p i j (lt, inl e) = inl (at_end p j e)
ends m p i j (lt, inr le) = inr le

pub returns-then-is_left_next-clause-step : goal.returns-then-is_left_next-clause-step
returns-then-is_left_next-clause-step c =
    let us = c.args.us.now in
    let vs = c.args.vs.now in
    let i = c.args.i in
    let j = c.args.j in
    let turn = c.is_left_next.ensures.0 c.if-is_left_next.true in
    let d : Gate = c.index-us-i.result in
    let same : get_or us i d ≡ c.copied.result =
    sym c.index-us-i.is ∙ sym c.copied.ensures.value in
    left_turn (length us) (length vs) i j us vs d turn.0 (ends (length us) (length vs) i j turn)
    ∙ ap₂ (λ g k. left g ∷ mixed (length us) (length vs) (i + 1) k (drop (i + 1) us) (drop k vs)) same (none_more j)

not_left : (b : Bool) → b ≡ false → IsTrue b → ⊥
not_left b e t = cc

pub returns-else-is_left_next-clause-step : goal.returns-else-is_left_next-clause-step
returns-else-is_left_next-clause-step c =
    let us = c.args.us.now in
    let vs = c.args.vs.now in
    let i = c.args.i in
    let j = c.args.j in
    let turn = right_left (length us) (length vs) i j (λ h. not_left c.is_left_next.result c.if-is_left_next.false (c.is_left_next.ensures.1 h)) c.requires.i c.requires.j c.requires.some in
    let d : Gate = c.index-vs-j.result in
    let same : get_or vs j d ≡ c.copied-else-is_left_next.result =
    sym c.index-vs-j.is ∙ sym c.copied-else-is_left_next.ensures.value in
    right_turn (length us) (length vs) i j us vs d turn.0 turn.1
    ∙ ap₂ (λ g k. right g ∷ mixed (length us) (length vs) k (j + 1) (drop k us) (drop (j + 1) vs)) (ap inverse_gate same ∙ sym c.inverse.ensures.value) (none_more i)
