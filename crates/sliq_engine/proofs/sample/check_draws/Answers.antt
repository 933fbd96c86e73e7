use Rattle.std.proofs.Common.{◌≡◌, ◌^◌, pos, ◌≤ℤ◌, ◌<ℤ◌, None, Err, length, refl, sym, ◌∙◌, ap, subst, arith}
use Rattle.std.proofs.lemmas.Int.{ints}
use Rattle.std.proofs.lemmas.List.{length-replicate}
use Rattle.ring_omega.specs.declared.weight.Weight.{Weight}
use Rattle.amp_dense.specs.Standing.{vector}
use Rattle.probabilities.specs.Weighing.{weight_at, total_weight}
use Rattle.probabilities.proofs.WeighingLemmas.{all_free}
use Rattle.sliq_engine.proofs.WeighedExits.{at_least_from, below_fails}
use Rattle.sliq_engine.proofs.sample.check_draws.Goals as goal

pub weigh-requires : goal.weigh-requires
weigh-requires g c = ap length c.free-all.ensures ∙ length-replicate c.args.qubits None ∙ sym c.requires.size

pub returns-then-w-clause-light : goal.returns-then-w-clause-light
returns-then-w-clause-light g c =
    let v = (vector (g.A.Amplitudes.standing c.args.state.now)).entries in
    let total : weight_at v c.free-all.result ≡ total_weight c.args.qubits v = ap (weight_at v) c.free-all.ensures ∙ all_free v c.args.qubits in
    let less : c.in-Ok.w.a <ℤ pos (2 ^ 60) = omega (arith, ints, c.if-w.true) in
    subst (λ (u : Weight). ¬ (pos (2 ^ 60) ≤ℤ u.a)) (c.in-Ok.ensures.weight ∙ total) (below_fails (2 ^ 60) c.in-Ok.w.a less)

pub returns-else-w-clause-stop : goal.returns-else-w-clause-stop
returns-else-w-clause-stop g c =
    let v = (vector (g.A.Amplitudes.standing c.args.state.now)).entries in
    let total : weight_at v c.free-all.result ≡ total_weight c.args.qubits v = ap (weight_at v) c.free-all.ensures ∙ all_free v c.args.qubits in
    let more : pos (2 ^ 60) ≤ℤ c.in-Ok.w.a = omega (arith, ints, c.if-w.false) in
    (subst (λ (u : Weight). pos (2 ^ 60) ≤ℤ u.a) (c.in-Ok.ensures.weight ∙ total) more, refl)

pub returns-in-Err-TooWide-clause-stop : goal.returns-in-Err-TooWide-clause-stop
returns-in-Err-TooWide-clause-stop g c =
    let v = (vector (g.A.Amplitudes.standing c.args.state.now)).entries in
    let w = weight_at v c.free-all.result in
    let total : w ≡ total_weight c.args.qubits v = ap (weight_at v) c.free-all.ensures ∙ all_free v c.args.qubits in
    let wide : pos (2 ^ 127) ≤ℤ w.a = at_least_from (2 ^ 127) w.a (c.in-Err-TooWide.ensures.too_wide (ap Err c.in-Err-TooWide.field-0-is)) in
    let more : pos (2 ^ 60) ≤ℤ w.a = omega (arith, ints, wide) in
    (subst (λ (u : Weight). pos (2 ^ 60) ≤ℤ u.a) total more, refl)
