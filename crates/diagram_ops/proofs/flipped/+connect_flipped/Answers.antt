use Rattle.std.proofs.Common.{ℕ, ◌<◌, sym, ◌∙◌, ap, arith}
use Rattle.std.proofs.lemmas.Result.{err_from_is_err_and}
use Rattle.diagram_ops.specs.Flips.{flip, flipping}
use Rattle.diagram_ops.specs.Operands.{depths}
use Rattle.diagram_ops.specs.Operations.{kept_in}
use Rattle.diagram_ops.proofs.Ending.{Goes, IsMade, answers_at_once, low_ready, low_less, low_stops, high_ready, high_less, high_stops, parts_made, node_stops, node_made, unkept, kept_alone}
use Rattle.diagram_ops.proofs.Flipping.{flipped_parted}
use Rattle.diagram_ops.proofs.Readings.{flip_read}
use Rattle.diagram_ops.proofs.Results.{step_low, step_high, var_on}
use Rattle.diagram_ops.proofs.flipped.+connect_flipped.Given.{Over}
use Rattle.diagram_ops.proofs.flipped.+connect_flipped.Goals.{After-connect_flipped-arg-4-1, After-add-arg-1}
use Rattle.diagram_ops.proofs.flipped.+connect_flipped.Goals as goal

-- no short cut answers, and no result is kept
goes : (g : Over) (t : ℕ) (c : After-connect_flipped-arg-4-1 g t) → Goes (flipping c.args.table c.args.var) (flip c.args.var) c.args.store.now c.args.at c.turned-split.result (kept_in c.args.memo.now)
goes g t c =
    let d = c.args.store.now in let s = c.turned-split.result in
    record {
      begins = record { sound = c.requires.sound; live = c.requires.live; parted = flipped_parted c.args.table c.args.var d c.args.at c.new-whole.result s c.requires.sound c.new-whole.ensures c.turned-split.ensures };
      read = flip_read c.args.var d c.args.at c.new-whole.result s c.requires.sound c.requires.var c.new-whole.ensures c.turned-split.ensures;
      none = sym c.find.ensures ∙ c.in_default-find.is;
    }

pub returns-in-Some-clause-answers : goal.returns-in-Some-clause-answers
returns-in-Some-clause-answers g t c =
    answers_at_once (flipping c.args.table c.args.var) (flip c.args.var) c.args.store.now c.args.at (kept_in c.args.memo.now) c.args.steps.now c.in-Some.short c.requires.sound c.requires.results
    c.in-Some.ensures.short

pub returns-in-Some-find-clause-answers : goal.returns-in-Some-find-clause-answers
returns-in-Some-find-clause-answers g t c =
    answers_at_once (flipping c.args.table c.args.var) (flip c.args.var) c.args.store.now c.args.at (kept_in c.args.memo.now) c.args.steps.now c.in-Some-find.node c.requires.sound c.requires.results
    (c.requires.results c.args.at c.in-Some-find.node (sym c.find.ensures ∙ c.in-Some-find.is))

pub connect_flipped-requires : goal.connect_flipped-requires
connect_flipped-requires g t c κs within =
    let up = goes g t c in
    let less : depths c.args.store.now c.turned-split.result.low < depths c.args.store.now c.args.at = low_less up in
    let q = c.decreases in
    (omega (arith, less, q), (within, (c.requires.sound, (low_ready up, (c.requires.var, c.requires.results)))))

pub returns-in_err-low-clause-stops : goal.returns-in_err-low-clause-stops
returns-in_err-low-clause-stops g t c =
    let p = err_from_is_err_and c.from_residual.result c.from_residual.ensures.1 in
    rw (p.1, p.2) (low_stops (goes g t (goal.at.returns-in_err-low-clause-stops g t c).After-connect_flipped-arg-4-1) c.in_err-low.ensures.stops)

pub connect_flipped-requires-2 : goal.connect_flipped-requires-2
connect_flipped-requires-2 g t c κs within =
    let up = goes g t (goal.at.connect_flipped-requires-2 g t c).After-connect_flipped-arg-4-1 in
    let first = c.in_ok-low.ensures.answers in
    let less : depths c.connect_flipped.new.store c.turned-split.result.high < depths c.args.store.now c.args.at = high_less up first in
    let q = c.decreases in
    (omega (arith, less, q), (within, (first.keeps.sound, (high_ready up first, (rw first.keeps.extends.order c.requires.var, first.keeps.results)))))

pub returns-in_err-high-clause-stops : goal.returns-in_err-high-clause-stops
returns-in_err-high-clause-stops g t c =
    let p = err_from_is_err_and c.from_residual-in_err-high.result c.from_residual-in_err-high.ensures.1 in
    rw (p.1, p.2) (high_stops (goes g t (goal.at.returns-in_err-high-clause-stops g t c).After-connect_flipped-arg-4-1) c.in_ok-low.ensures.answers c.in_err-high.ensures.stops)

pub make-requires : goal.make-requires
make-requires g t c =
    let step = parts_made (goes g t (goal.at.make-requires g t c).After-connect_flipped-arg-4-1) c.in_ok-low.ensures.answers c.in_ok-high.ensures.answers in
    record { var = var_on _ _ _ step.extends step.parted.var; low = step_low _ _ _ _ _ _ _ step; high = step_high _ _ _ _ _ _ _ step }

pub returns-in_err-node-clause-stops : goal.returns-in_err-node-clause-stops
returns-in_err-node-clause-stops g t c =
    let p = err_from_is_err_and c.from_residual-in_err-node.result c.from_residual-in_err-node.ensures.1 in
    let put = c.make.ensures in
    rw (p.1, p.2) (node_stops (goes g t (goal.at.returns-in_err-node-clause-stops g t c).After-connect_flipped-arg-4-1) c.in_ok-low.ensures.answers c.in_ok-high.ensures.answers
    put.sound put.extends put.steps put.made c.in_err-node.ensures.refused c.in_err-node.ensures.stop)

-- the node over both parts
made : (g : Over) (t : ℕ) (c : After-add-arg-1 g t) → IsMade (flipping c.args.table c.args.var) (flip c.args.var) c.args.store.now c.args.at c.make.new.self (kept_in c.args.memo.now) (kept_in c.connect_flipped-2.new.memo) c.args.steps.now c.make.new.steps c.in_ok-node.node.0
made g t c =
    let put = c.make.ensures in let node = c.in_ok-node.ensures in
    node_made (goes g t (goal.at.add-requires g t c).After-connect_flipped-arg-4-1) c.in_ok-low.ensures.answers c.in_ok-high.ensures.answers put.sound put.extends put.steps put.made node.live node.denotes node.only

pub add-requires : goal.add-requires
add-requires g t c = record { new = (made g t c).none }

pub returns-in_err-add-clause-stops : goal.returns-in_err-add-clause-stops
returns-in_err-add-clause-stops g t c =
    let p = err_from_is_err_and c.from_residual-in_err-add.result c.from_residual-in_err-add.ensures.1 in
    rw (p.1, p.2) (unkept (made g t (goal.at.returns-in_err-add-clause-stops g t c).After-add-arg-1) (kept_in c.add.new.self) (ap kept_in c.in_err-add.ensures.err))

pub returns-clause-answers : goal.returns-clause-answers
returns-clause-answers g t c =
    kept_alone (made g t (goal.at.returns-clause-answers g t c).After-add-arg-1) (kept_in c.add.new.self) c.in_ok-add.ensures.here (λ to. c.add.ensures.others to.f to.g to.h)
