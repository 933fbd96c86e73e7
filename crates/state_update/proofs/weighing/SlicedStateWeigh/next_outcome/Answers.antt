use Rattle.std.proofs.Common.{sym, ◌∙◌}
use Rattle.std.specs.Option.{option_copied}
use Rattle.amp_dense.specs.Standing.{vector}
use Rattle.probabilities.specs.Possible.{IsNextOutcome, NoOutcomeAfter}
use Rattle.slice_quad.specs.Walks.{entries_in}
use Rattle.state_update.specs.Kept.{standing_of}
use Rattle.state_update.proofs.StateLemmas.{ok_some, ok_none}
use Rattle.state_update.proofs.Shown.{read_size, read_stands, read_outcome, read_none}
use Rattle.state_update.proofs.weighing.SlicedStateWeigh.next_outcome.Goals as goal

pub next_outcome-requires-clause-stands : goal.next_outcome-requires-clause-stands
next_outcome-requires-clause-stands c =
    let e = c.parts.ensures in
    read_stands c.args.self.now c.parts.result.0.now c.parts.result.1.now e.diagrams e.quad e.variables e.shows e.stands

pub next_outcome-requires-clause-len : goal.next_outcome-requires-clause-len
next_outcome-requires-clause-len c =
    let e = c.parts.ensures in
    c.requires.len ∙ sym (read_size c.args.self.now c.parts.result.0.now c.parts.result.1.now e.diagrams e.quad e.variables e.shows)

pub returns-clause-found : goal.returns-clause-found
returns-clause-found c =
    let e = c.parts.ensures in
    let m = c.args.measured.now in
    let given = option_copied c.args.after in
    ok_some c.next_outcome.result (IsNextOutcome m (entries_in c.parts.result.0.now.store c.parts.result.1.now.four) given) (IsNextOutcome m (vector (standing_of c.args.self.now)).entries given) c.next_outcome.ensures.found
    (λ y h. read_outcome c.args.self.now c.parts.result.0.now c.parts.result.1.now e.diagrams e.quad e.variables e.shows m given y c.requires.len h)

pub returns-clause-none : goal.returns-clause-none
returns-clause-none c =
    let e = c.parts.ensures in
    let m = c.args.measured.now in
    let given = option_copied c.args.after in
    ok_none c.next_outcome.result (NoOutcomeAfter m (entries_in c.parts.result.0.now.store c.parts.result.1.now.four) given) (NoOutcomeAfter m (vector (standing_of c.args.self.now)).entries given) c.next_outcome.ensures.none
    (λ h. read_none c.args.self.now c.parts.result.0.now c.parts.result.1.now e.diagrams e.quad e.variables e.shows m given c.requires.len h)
