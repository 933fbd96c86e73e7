use Rattle.std.proofs.Common.{◌≡◌, ◌+◌, ℕ, Bool, List, IfOk, get_or, subst, arith}
use Rattle.amp_dense.specs.Standing.{vector}
use Rattle.sampler.specs.Draws.{drawn}
use Rattle.sampler.specs.Words.{random_word}
use Rattle.outputs.proofs.ShotLemmas.{drawn_by}
use Rattle.outputs.proofs.shots.next_shot.Goals as goal

pub returns-clause-drawn : goal.returns-clause-drawn
returns-clause-drawn g c =
    let ms = c.args.measured.now in
    let v = (vector (g.A.Amplitudes.standing c.args.state.now)).entries in
    let words : ℕ → ℕ = λ i. random_word c.args.words.now.seed (c.args.words.now.number + i) in
    let read : ℕ → ℕ = λ i. get_or c.refill.new.buffer i 0 in
    let same : drawn v read ms ≡ drawn v words ms = drawn_by v read words ms (λ i lt. c.refill.ensures.filled i (omega (arith, lt, c.measured_count.ensures))) in
    subst (λ (d : List Bool). IfOk c.draw.result (λ y. y ≡ d)) same c.draw.ensures
