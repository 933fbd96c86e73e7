use Rattle.std.proofs.Common.{ℕ, None, ap, ◌∙◌}
use Rattle.amp_dense.specs.Standing.{vector}
use Rattle.outputs.specs.Listing.{has_no_entry, number_listed}
use Rattle.outputs.proofs.FoundLemmas.{found_state}
use Rattle.outputs.proofs.SummaryLemmas.{first_found, last_listed, last_long}
use Rattle.outputs.proofs.WalkLemmas.{found_shown}
use Rattle.outputs.proofs.summary.survey.Goals as goal

pub returns-clause-states : goal.returns-clause-states
returns-clause-states g c =
    let w = vector (g.A.Amplitudes.standing c.args.state.now) in
    c.in_ok-states.ensures ∙ ap (λ (k : ℕ). number_listed k (has_no_entry w)) c.requires.size

pub returns-clause-first : goal.returns-clause-first
returns-clause-first g c =
    let n = c.args.qubits in
    let w = vector (g.A.Amplitudes.standing c.args.state.now) in
    let next = c.in_ok-first.first in
    first_found n w next (found_state _ n w None next c.requires.size (λ x e. cc) c.in_ok-first.ensures.found c.in_ok-first.ensures.none)

pub returns-clause-first_long : goal.returns-clause-first_long
returns-clause-first_long g c =
    let n = c.args.qubits in
    let w = vector (g.A.Amplitudes.standing c.args.state.now) in
    let next = c.in_ok-first.first in
    λ x e. (found_shown n (has_no_entry w) None next (found_state _ n w None next c.requires.size (λ y f. cc) c.in_ok-first.ensures.found c.in_ok-first.ensures.none) x e).long

pub returns-clause-last : goal.returns-clause-last
returns-clause-last g c =
    last_listed _ c.args.qubits (vector (g.A.Amplitudes.standing c.args.state.now)) c.in_ok-last.last c.requires.size c.in_ok-last.ensures.found c.in_ok-last.ensures.none

pub returns-clause-last_long : goal.returns-clause-last_long
returns-clause-last_long g c =
    last_long _ c.args.qubits (vector (g.A.Amplitudes.standing c.args.state.now)) c.in_ok-last.last c.requires.size c.in_ok-last.ensures.found
