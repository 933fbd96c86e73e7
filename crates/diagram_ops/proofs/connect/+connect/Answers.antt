use Rattle.std.proofs.Common.{ℕ, ◌<◌, sym, ◌∙◌, ap, arith}
use Rattle.std.proofs.lemmas.Result.{err_from_is_err_and}
use Rattle.diagram_ops.specs.Connectives.{connected}
use Rattle.diagram_ops.specs.Operands.{depths}
use Rattle.diagram_ops.specs.Operations.{kept_under}
use Rattle.diagram_ops.specs.Taken.{plain}
use Rattle.diagram_ops.proofs.Calls.{begins}
use Rattle.diagram_ops.proofs.Connecting.{connected_fixes, short_result}
use Rattle.diagram_ops.proofs.Ending.{Goes, IsMade, answers_at_once, low_ready, low_less, low_stops, high_ready, high_less, high_stops, parts_made, node_stops, node_made, unkept, kept_as}
use Rattle.diagram_ops.proofs.Readings.{plain_read}
use Rattle.diagram_ops.proofs.Results.{step_low, step_high, var_on}
use Rattle.diagram_ops.proofs.Sorting.{puts_keyed}
use Rattle.diagram_ops.proofs.connect.+connect.Given.{Over}
use Rattle.diagram_ops.proofs.connect.+connect.Goals.{After-connect-arg-4-1, After-keep-arg-1}
use Rattle.diagram_ops.proofs.connect.+connect.Goals as goal

-- no short cut answers, and no result is kept
goes : (g : Over) (t : ℕ) (c : After-connect-arg-4-1 g t) → Goes (connected c.args.table) plain c.args.store.now c.args.at c.new-split.result (kept_under c.args.table c.args.memo.now)
goes g t c =
    let d = c.args.store.now in let s = c.new-split.result in
    record {
      begins = begins (connected c.args.table) d c.args.at s c.requires.sound c.requires.live c.new-split.ensures (connected_fixes c.args.table s.var);
      read = plain_read d c.args.at s c.requires.sound c.new-split.ensures;
      none = sym c.look.ensures ∙ c.in_default-look.is;
    }

pub returns-in-Some-clause-answers : goal.returns-in-Some-clause-answers
returns-in-Some-clause-answers g t c =
    answers_at_once (connected c.args.table) plain c.args.store.now c.args.at (kept_under c.args.table c.args.memo.now) c.args.steps.now c.in-Some.short c.requires.sound c.requires.results
    (short_result c.args.table c.args.store.now c.args.at c.in-Some.short c.requires.sound c.requires.live c.in-Some.ensures.short)

pub returns-in-Some-look-clause-answers : goal.returns-in-Some-look-clause-answers
returns-in-Some-look-clause-answers g t c =
    answers_at_once (connected c.args.table) plain c.args.store.now c.args.at (kept_under c.args.table c.args.memo.now) c.args.steps.now c.in-Some-look.node c.requires.sound c.requires.results
    (c.requires.results c.args.at c.in-Some-look.node (sym c.look.ensures ∙ c.in-Some-look.is))

pub connect-requires : goal.connect-requires
connect-requires g t c κs within =
    let up = goes g t c in
    let less : depths c.args.store.now c.new-split.result.low < depths c.args.store.now c.args.at = low_less up in
    let q = c.decreases in
    (omega (arith, less, q), (within, (c.requires.sound, (low_ready up, c.requires.results))))

pub returns-in_err-low-clause-stops : goal.returns-in_err-low-clause-stops
returns-in_err-low-clause-stops g t c =
    let p = err_from_is_err_and c.from_residual.result c.from_residual.ensures.1 in
    rw (p.1, p.2) (low_stops (goes g t (goal.at.returns-in_err-low-clause-stops g t c).After-connect-arg-4-1) c.in_err-low.ensures.stops)

pub connect-requires-2 : goal.connect-requires-2
connect-requires-2 g t c κs within =
    let up = goes g t (goal.at.connect-requires-2 g t c).After-connect-arg-4-1 in
    let first = c.in_ok-low.ensures.answers in
    let less : depths c.connect.new.store c.new-split.result.high < depths c.args.store.now c.args.at = high_less up first in
    let q = c.decreases in
    (omega (arith, less, q), (within, (first.keeps.sound, (high_ready up first, first.keeps.results))))

pub returns-in_err-high-clause-stops : goal.returns-in_err-high-clause-stops
returns-in_err-high-clause-stops g t c =
    let p = err_from_is_err_and c.from_residual-in_err-high.result c.from_residual-in_err-high.ensures.1 in
    rw (p.1, p.2) (high_stops (goes g t (goal.at.returns-in_err-high-clause-stops g t c).After-connect-arg-4-1) c.in_ok-low.ensures.answers c.in_err-high.ensures.stops)

pub make-requires : goal.make-requires
make-requires g t c =
    let step = parts_made (goes g t (goal.at.make-requires g t c).After-connect-arg-4-1) c.in_ok-low.ensures.answers c.in_ok-high.ensures.answers in
    record { var = var_on _ _ _ step.extends step.parted.var; low = step_low _ _ _ _ _ _ _ step; high = step_high _ _ _ _ _ _ _ step }

pub returns-in_err-node-clause-stops : goal.returns-in_err-node-clause-stops
returns-in_err-node-clause-stops g t c =
    let p = err_from_is_err_and c.from_residual-in_err-node.result c.from_residual-in_err-node.ensures.1 in
    let put = c.make.ensures in
    rw (p.1, p.2) (node_stops (goes g t (goal.at.returns-in_err-node-clause-stops g t c).After-connect-arg-4-1) c.in_ok-low.ensures.answers c.in_ok-high.ensures.answers
    put.sound put.extends put.steps put.made c.in_err-node.ensures.refused c.in_err-node.ensures.stop)

-- the node over both parts
made : (g : Over) (t : ℕ) (c : After-keep-arg-1 g t) → IsMade (connected c.args.table) plain c.args.store.now c.args.at c.make.new.self (kept_under c.args.table c.args.memo.now) (kept_under c.args.table c.connect-2.new.memo) c.args.steps.now c.make.new.steps c.in_ok-node.node.0
made g t c =
    let put = c.make.ensures in let node = c.in_ok-node.ensures in
    node_made (goes g t (goal.at.keep-requires g t c).After-connect-arg-4-1) c.in_ok-low.ensures.answers c.in_ok-high.ensures.answers put.sound put.extends put.steps put.made node.live node.denotes node.only

pub keep-requires : goal.keep-requires
keep-requires g t c = record { new = (made g t c).none }

pub returns-in_err-keep-clause-stops : goal.returns-in_err-keep-clause-stops
returns-in_err-keep-clause-stops g t c =
    let p = err_from_is_err_and c.from_residual-in_err-keep.result c.from_residual-in_err-keep.ensures.1 in
    rw (p.1, p.2) (unkept (made g t (goal.at.returns-in_err-keep-clause-stops g t c).After-keep-arg-1) (kept_under c.args.table c.keep.new.memo) (ap (kept_under c.args.table) c.in_err-keep.ensures.err))

pub returns-clause-answers : goal.returns-clause-answers
returns-clause-answers g t c =
    let one = made g t (goal.at.returns-clause-answers g t c).After-keep-arg-1 in
    kept_as one (kept_under c.args.table c.keep.new.memo) c.in_ok-keep.ensures.here
    (puts_keyed c.args.table c.args.store.now c.make.new.self c.args.at c.in_ok-node.node.0 c.connect-2.new.memo c.keep.new.memo one.result one.none c.in_ok-keep.ensures.here c.keep.ensures.others)
