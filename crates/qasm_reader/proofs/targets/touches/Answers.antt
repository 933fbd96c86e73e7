use Rattle.std.proofs.Common.{rules, ◌≡◌, sym, ℕ, ◌<◌, ◌+◌, true, false, refl}
use Rattle.std.specs.List.{list_any}
use Rattle.qasm_reader.specs.Private.Seen.{seen_targets}
use Rattle.qasm_reader.specs.Acts.{qubits_at, place_count}
use Rattle.qasm_reader.specs.Private.Scope.{flagged}
use Rattle.qasm_reader.proofs.Places.{any_there, any_not}
use Rattle.qasm_reader.proofs.targets.touches.Goals as goal

pub returns-then-touches_at : goal.returns-then-touches_at
returns-then-touches_at c =
    let h : c.loop-place.place < place_count (seen_targets c.args.targets.now) = search rules in
    let e : (λ (place : ℕ). list_any (flagged c.args.flags.now) (qubits_at (seen_targets c.args.targets.now) place)) c.loop-place.place ≡ true = search rules in
    sym (any_there (λ (place : ℕ). list_any (flagged c.args.flags.now) (qubits_at (seen_targets c.args.targets.now) place)) c.loop-place.place (place_count (seen_targets c.args.targets.now)) h e)

pub loop-place-preserved : goal.loop-place-preserved
loop-place-preserved c =
    let e : (λ (place : ℕ). list_any (flagged c.args.flags.now) (qubits_at (seen_targets c.args.targets.now) place)) c.loop-place.place ≡ false = search rules in
    any_not (λ (place : ℕ). list_any (flagged c.args.flags.now) (qubits_at (seen_targets c.args.targets.now) place)) c.loop-place.place (c.loop-place.place + 1) refl c.loop-place.invariant e
