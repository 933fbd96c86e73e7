use Rattle.std.proofs.Common.{ℕ, ◌<◌, ◌≤◌, sym, ◌∙◌, inl, arith}
use Rattle.std.proofs.lemmas.Result.{err_from_is_err_and}
use Rattle.diagram_ops.specs.declared.split.Seen.{Seen}
use Rattle.diagram_ops.specs.Operands.{alone, depths}
use Rattle.diagram_ops.specs.Operations.{restricted, fixed_in}
use Rattle.diagram_ops.specs.Taken.{plain}
use Rattle.diagram_ops.proofs.Calls.{begins}
use Rattle.diagram_ops.proofs.Ending.{Goes, answers_at_once, low_ready, low_less, low_stops, high_ready, high_less, high_stops, parts_made, node_stops, node_made, unkept, kept_alone}
use Rattle.diagram_ops.proofs.Marks.{fixed_others, fixed_same}
use Rattle.diagram_ops.proofs.Readings.{plain_read}
use Rattle.diagram_ops.proofs.Restricting.{restricted_fixes, restricted_here, alone_split, alone_splits, other_place}
use Rattle.diagram_ops.proofs.Results.{step_low, step_high, var_on}
use Rattle.diagram_ops.proofs.restrict.+restrict.Given.{Over}
use Rattle.diagram_ops.proofs.restrict.+restrict.Goals.{After-restrict-arg-3-1}
use Rattle.diagram_ops.proofs.restrict.+restrict.Goals as goal

-- a node above the variable, with no result yet
goes : (g : Over) (t : ℕ) (c : After-restrict-arg-3-1 g t) → Goes (restricted c.args.var c.args.bit) plain c.args.store.now (alone c.args.f) (alone_split c.new-seen.result) (fixed_in c.args.memo.now)
goes g t c =
    let d = c.args.store.now in let f = c.args.f in let r : Seen = c.new-seen.result in
    let upper : r.place < c.place_of-place.result = omega (arith, c.if-seen-place.false) in
    let held : r.place < 256 = omega (arith, c.place_of-place.type_inv, upper) in
    let parts = alone_splits d f r c.requires.sound c.new-seen.ensures held in
    let other = other_place d f c.args.var r c.new-seen.ensures held (omega (arith, upper, c.place_of-place.ensures.place)) in
    record {
      begins = begins (restricted c.args.var c.args.bit) d (alone f) (alone_split r) c.requires.sound (c.requires.live, inl (omega arith), inl (omega arith)) parts (restricted_fixes c.args.var c.args.bit r.var other);
      read = plain_read d (alone f) (alone_split r) c.requires.sound parts;
      none = sym c.find.ensures ∙ c.in_default.is;
    }

pub returns-then-seen-place-clause-answers : goal.returns-then-seen-place-clause-answers
returns-then-seen-place-clause-answers g t c =
    let d = c.args.store.now in
    let small : c.place_of-place.result < 256 = omega (arith, c.place_of-place.type_inv) in
    let lower : c.place_of-place.result ≤ c.new-seen.result.place = omega (arith, c.if-seen-place.true) in
    answers_at_once (restricted c.args.var c.args.bit) plain d (alone c.args.f) (fixed_in c.args.memo.now) c.args.steps.now c.child.result c.requires.sound c.requires.results
    (restricted_here d c.args.var c.args.f c.child.result c.args.bit c.new-seen.result c.place_of-place.result c.requires.sound c.requires.live
    (c.requires.sound.all c.args.var c.requires.var) c.new-seen.ensures c.place_of-place.ensures.place small lower c.child.ensures)

pub returns-in-Some-clause-answers : goal.returns-in-Some-clause-answers
returns-in-Some-clause-answers g t c =
    answers_at_once (restricted c.args.var c.args.bit) plain c.args.store.now (alone c.args.f) (fixed_in c.args.memo.now) c.args.steps.now c.in-Some.node c.requires.sound c.requires.results
    (c.requires.results (alone c.args.f) c.in-Some.node (sym c.find.ensures ∙ c.in-Some.is))

pub restrict-requires : goal.restrict-requires
restrict-requires g t c κs within =
    let up = goes g t c in
    let less : depths c.args.store.now (alone c.new-seen.result.low) < depths c.args.store.now (alone c.args.f) = low_less up in
    let q = c.decreases in
    (omega (arith, less, q), (within, (c.requires.sound, ((low_ready up).0, (c.requires.var, c.requires.results)))))

pub returns-in_err-low-clause-stops : goal.returns-in_err-low-clause-stops
returns-in_err-low-clause-stops g t c =
    let p = err_from_is_err_and c.from_residual.result c.from_residual.ensures.1 in
    rw (p.1, p.2) (low_stops (goes g t (goal.at.returns-in_err-low-clause-stops g t c).After-restrict-arg-3-1) c.in_err-low.ensures.stops)

pub restrict-requires-2 : goal.restrict-requires-2
restrict-requires-2 g t c κs within =
    let up = goes g t (goal.at.restrict-requires-2 g t c).After-restrict-arg-3-1 in
    let first = c.in_ok-low.ensures.answers in
    let less : depths c.restrict.new.store (alone c.new-seen.result.high) < depths c.args.store.now (alone c.args.f) = high_less up first in
    let q = c.decreases in
    (omega (arith, less, q), (within, (first.keeps.sound, ((high_ready up first).0, (rw first.keeps.extends.order c.requires.var, first.keeps.results)))))

pub returns-in_err-high-clause-stops : goal.returns-in_err-high-clause-stops
returns-in_err-high-clause-stops g t c =
    let p = err_from_is_err_and c.from_residual-in_err-high.result c.from_residual-in_err-high.ensures.1 in
    rw (p.1, p.2) (high_stops (goes g t (goal.at.returns-in_err-high-clause-stops g t c).After-restrict-arg-3-1) c.in_ok-low.ensures.answers c.in_err-high.ensures.stops)

pub make-requires : goal.make-requires
make-requires g t c =
    let step = parts_made (goes g t (goal.at.make-requires g t c).After-restrict-arg-3-1) c.in_ok-low.ensures.answers c.in_ok-high.ensures.answers in
    record { var = var_on _ _ _ step.extends step.parted.var; low = step_low _ _ _ _ _ _ _ step; high = step_high _ _ _ _ _ _ _ step }

pub returns-in_err-node-clause-stops : goal.returns-in_err-node-clause-stops
returns-in_err-node-clause-stops g t c =
    let p = err_from_is_err_and c.from_residual-in_err-node.result c.from_residual-in_err-node.ensures.1 in
    let made = c.make.ensures in
    rw (p.1, p.2) (node_stops (goes g t (goal.at.returns-in_err-node-clause-stops g t c).After-restrict-arg-3-1) c.in_ok-low.ensures.answers c.in_ok-high.ensures.answers
    made.sound made.extends made.steps made.made c.in_err-node.ensures.refused c.in_err-node.ensures.stop)

pub returns-in_err-add-clause-stops : goal.returns-in_err-add-clause-stops
returns-in_err-add-clause-stops g t c =
    let p = err_from_is_err_and c.from_residual-in_err-add.result c.from_residual-in_err-add.ensures.1 in
    let made = c.make.ensures in let node = c.in_ok-node.ensures in
    rw (p.1, p.2) (unkept (node_made (goes g t (goal.at.returns-in_err-add-clause-stops g t c).After-restrict-arg-3-1) c.in_ok-low.ensures.answers c.in_ok-high.ensures.answers
    made.sound made.extends made.steps made.made node.live node.denotes node.only) (fixed_in c.add.new.self)
    (fixed_same c.restrict-2.new.memo c.add.new.self c.in_err-add.ensures.err))

pub returns-clause-answers : goal.returns-clause-answers
returns-clause-answers g t c =
    let made = c.make.ensures in let node = c.in_ok-node.ensures in
    kept_alone (node_made (goes g t (goal.at.returns-clause-answers g t c).After-restrict-arg-3-1) c.in_ok-low.ensures.answers c.in_ok-high.ensures.answers
    made.sound made.extends made.steps made.made node.live node.denotes node.only)
    (fixed_in c.add.new.self) c.in_ok-add.ensures.here (fixed_others c.restrict-2.new.memo c.add.new.self c.args.f c.add.ensures.others)
