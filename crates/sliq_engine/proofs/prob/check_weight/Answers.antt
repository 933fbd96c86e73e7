use Rattle.std.proofs.Common.{rules, ◌≡◌, ◌^◌, pos, ◌≤ℤ◌, Bool, ℕ, List, None, Err, length, refl, sym, ◌∙◌, ap, subst}
use Rattle.std.proofs.lemmas.List.{length-replicate}
use Rattle.ring_omega.specs.declared.quad.Quad.{Quad}
use Rattle.ring_omega.specs.declared.weight.Weight.{Weight}
use Rattle.amp_dense.specs.Standing.{vector}
use Rattle.phases.specs.Phases.{StopsWhere}
use Rattle.probabilities.specs.Weighing.{weight_at, total_weight, IsNarrow}
use Rattle.probabilities.specs.declared.weigh.WeighStop.{WeighStop}
use Rattle.probabilities.specs.declared.weigh.WeighStop.TheVariants as weighs
use Rattle.probabilities.proofs.WeighingLemmas.{all_free}
use Rattle.causes.specs.declared.cause.Cause.TheVariants.{WeightTooWide}
use Rattle.causes.specs.Stops.{cause_of_weighing}
use Rattle.sliq_engine.specs.Prob.{IsHeavy}
use Rattle.sliq_engine.specs.Ending.{MayStopBy}
use Rattle.sliq_engine.proofs.WeighedExits.{at_least_from, below_fails}
use Rattle.sliq_engine.proofs.prob.check_weight.Goals as goal

-- how the weighing of all states ends
light_end : (n : ℕ) (v : List Bool → Quad) (w : Weight) → w ≡ total_weight n v → IsNarrow w → ¬ (IsHeavy n v)
light_end n v w total narrow = subst (λ (u : Weight). ¬ (pos (2 ^ 127) ≤ℤ u.a)) total (below_fails (2 ^ 127) w.a narrow)

heavy_stop : (n : ℕ) (v : List Bool → Quad) (w : Weight) → w ≡ total_weight n v → (stop : WeighStop) → (stop ≡ weighs.TooWide → ¬ (IsNarrow w))
    → MayStopBy (StopsWhere (IsHeavy n v) WeightTooWide) (cause_of_weighing stop)
heavy_stop n v w total weighs.TooWide wide = (subst (λ (u : Weight). pos (2 ^ 127) ≤ℤ u.a) total (at_least_from (2 ^ 127) w.a (wide refl)), refl)
heavy_stop n v w total weighs.OutOfMemory wide = tt

pub weigh-requires : goal.weigh-requires
weigh-requires g c = ap length c.free-all.ensures ∙ length-replicate c.args.qubits None ∙ sym c.requires.size

pub returns-in_err-weigh-clause-stop : goal.returns-in_err-weigh-clause-stop
returns-in_err-weigh-clause-stop g c =
    let w = vector (g.A.Amplitudes.standing c.args.state.now) in
    let total : weight_at w.entries c.free-all.result ≡ total_weight c.args.qubits w.entries = ap (weight_at w.entries) c.free-all.ensures ∙ all_free w.entries c.args.qubits in
    let told : c.from_residual.result ≡ Err (cause_of_weighing c.in_err-weigh.field-0.0) = search rules in
    rw told (heavy_stop c.args.qubits w.entries (weight_at w.entries c.free-all.result) total c.in_err-weigh.field-0.0 (λ e. c.in_err-weigh.ensures.too_wide (ap Err e)))

pub returns-clause-light : goal.returns-clause-light
returns-clause-light g c =
    let w = vector (g.A.Amplitudes.standing c.args.state.now) in
    let total : weight_at w.entries c.free-all.result ≡ total_weight c.args.qubits w.entries = ap (weight_at w.entries) c.free-all.ensures ∙ all_free w.entries c.args.qubits in
    light_end c.args.qubits w.entries (weight_at w.entries c.free-all.result) total c.in_ok-weigh.ensures.narrow
