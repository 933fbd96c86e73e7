use Rattle.std.proofs.Common.{◌≡◌, length, sym, ◌∙◌, subst, OnOk}
use Rattle.amp_dense.specs.Standing.{vector}
use Rattle.diagram_ops.specs.Diagrams.{StoreAndCache}
use Rattle.probabilities.specs.Weighing.{IsNarrow}
use Rattle.probabilities.specs.Outcomes.{fixed_to, outcome_weight}
use Rattle.probabilities.specs.Possible.{IsNextOutcome, NoOutcomeAfter}
use Rattle.probabilities.proofs.OutcomeLemmas.{length-fixed_to}
use Rattle.slice_quad.specs.declared.quad.SliceQuad.{SliceQuad}
use Rattle.slice_quad.specs.Walks.{entries_in}
use Rattle.slice_weights.specs.OnTop.{IsOutcomeWalk}
use Rattle.state_update.specs.Kept.{standing_of}
use Rattle.state_update.proofs.StateLemmas.{ok_some, ok_both, ok_none}
use Rattle.state_update.proofs.Shown.{read_stands, read_outcome, read_none, read_weight}
use Rattle.state_update.proofs.weighing.SlicedStateWeigh.next_weighed.Goals as goal

pub next-requires-clause-stands : goal.next-requires-clause-stands
next-requires-clause-stands c =
    let e = c.parts.ensures in
    read_stands c.args.self.now c.parts.result.0.now c.parts.result.1.now e.diagrams e.quad e.variables e.shows e.stands

pub next-requires-clause-walk : goal.next-requires-clause-walk
next-requires-clause-walk c =
    let s = c.args.self.now in
    let m = c.args.measured.now in
    let w = c.args.outcomes.now in
    subst (λ (e : StoreAndCache). IsOutcomeWalk e.store c.parts.result.1.now.four m w) (sym c.parts.ensures.diagrams)
    (subst (λ (q : SliceQuad). IsOutcomeWalk s.diagrams.store q.four m w) (sym c.parts.ensures.quad) c.requires)

pub returns-clause-found : goal.returns-clause-found
returns-clause-found c =
    let e = c.parts.ensures in
    let s = c.args.self.now in
    let m = c.args.measured.now in
    let given = c.args.outcomes.now.last in
    let len : length m ≡ length s.input = c.requires.len ∙ e.variables in
    ok_some c.next.result (λ x. IsNextOutcome m (entries_in c.parts.result.0.now.store c.parts.result.1.now.four) given x.0) (λ x. IsNextOutcome m (vector (standing_of s)).entries given x.0) c.next.ensures.found
    (λ x h. read_outcome s c.parts.result.0.now c.parts.result.1.now e.diagrams e.quad e.variables e.shows m given x.0 len h)

pub returns-clause-weight : goal.returns-clause-weight
returns-clause-weight c =
    let e = c.parts.ensures in
    let s = c.args.self.now in
    let m = c.args.measured.now in
    let given = c.args.outcomes.now.last in
    let v = entries_in c.parts.result.0.now.store c.parts.result.1.now.four in
    let len : length m ≡ length s.input = c.requires.len ∙ e.variables in
    ok_both c.next.result (λ x. IsNextOutcome m v given x.0) (λ x. x.1 ≡ outcome_weight m v x.0) (λ x. x.1 ≡ outcome_weight m (vector (standing_of s)).entries x.0) c.next.ensures.found c.next.ensures.weight
    (λ x next is. is ∙ read_weight s c.parts.result.0.now c.parts.result.1.now e.diagrams e.quad e.variables e.shows (fixed_to m x.0) (length-fixed_to m x.0 next.long ∙ len))

pub returns-clause-narrow : goal.returns-clause-narrow
returns-clause-narrow c =
    let e = c.parts.ensures in
    let s = c.args.self.now in
    let m = c.args.measured.now in
    let given = c.args.outcomes.now.last in
    let v = entries_in c.parts.result.0.now.store c.parts.result.1.now.four in
    let len : length m ≡ length s.input = c.requires.len ∙ e.variables in
    ok_both c.next.result (λ x. IsNextOutcome m v given x.0) (λ x. IsNarrow (outcome_weight m v x.0)) (λ x. IsNarrow (outcome_weight m (vector (standing_of s)).entries x.0)) c.next.ensures.found c.next.ensures.narrow
    (λ x next narrow. subst IsNarrow (read_weight s c.parts.result.0.now c.parts.result.1.now e.diagrams e.quad e.variables e.shows (fixed_to m x.0) (length-fixed_to m x.0 next.long ∙ len)) narrow)

pub returns-clause-none : goal.returns-clause-none
returns-clause-none c =
    let e = c.parts.ensures in
    let s = c.args.self.now in
    let m = c.args.measured.now in
    let given = c.args.outcomes.now.last in
    let len : length m ≡ length s.input = c.requires.len ∙ e.variables in
    ok_none c.next.result (NoOutcomeAfter m (entries_in c.parts.result.0.now.store c.parts.result.1.now.four) given) (NoOutcomeAfter m (vector (standing_of s)).entries given) c.next.ensures.none
    (λ h. read_none s c.parts.result.0.now c.parts.result.1.now e.diagrams e.quad e.variables e.shows m given len h)

pub returns-clause-too_wide : goal.returns-clause-too_wide
returns-clause-too_wide c = λ stop.
    let e = c.parts.ensures in
    let s = c.args.self.now in
    let m = c.args.measured.now in
    let given = c.args.outcomes.now.last in
    let len : length m ≡ length s.input = c.requires.len ∙ e.variables in
    let w = c.next.ensures.too_wide stop in
    let same = read_weight s c.parts.result.0.now c.parts.result.1.now e.diagrams e.quad e.variables e.shows (fixed_to m w.outcome) (length-fixed_to m w.outcome w.next.long ∙ len) in
    record {
      outcome = w.outcome;
      next = read_outcome s c.parts.result.0.now c.parts.result.1.now e.diagrams e.quad e.variables e.shows m given w.outcome len w.next;
      wide = λ narrow. w.wide (subst IsNarrow (sym same) narrow);
    }

pub returns-clause-weighs : goal.returns-clause-weighs
returns-clause-weighs c =
    let s = c.args.self.now in
    let m = c.args.measured.now in
    let w = c.next.new.self in
    subst (λ (e : StoreAndCache). OnOk c.next.result (IsOutcomeWalk e.store s.quad.four m w)) c.parts.ensures.diagrams
    (subst (λ (q : SliceQuad). OnOk c.next.result (IsOutcomeWalk c.parts.result.0.now.store q.four m w)) c.parts.ensures.quad c.next.ensures.walk)
