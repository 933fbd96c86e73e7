use Rattle.std.proofs.Common.{true, false, sym, ◌∙◌, ◌<◌, ◌≡◌, Some, length, arith}
use Rattle.diagram_model.specs.Nodes.{parts_of}
use Rattle.diagram_model.proofs.Values.{steps_down}
use Rattle.node_store.proofs.Marking.{set_here, closed_set, reached_set}
use Rattle.node_store.proofs.store.Store.+mark.Goals as goal

pub mark-requires : goal.mark-requires
mark-requires t c =
    let h = steps_down c.args.self.now c.args.n c.in-Some.parts false c.parts.ensures.sound (sym c.in-Some.is ∙ c.parts.ensures.value) in
    let q = c.decreases in
    (omega (arith, h.less, q), (h.live, (c.requires.places, c.requires.closed)))

pub mark-requires-2 : goal.mark-requires-2
mark-requires-2 t c =
    let h = steps_down c.args.self.now c.args.n c.in-Some.parts true c.parts.ensures.sound (sym c.in-Some.is ∙ c.parts.ensures.value) in
    let q = c.decreases in
    (omega (arith, h.less, q), (h.live, ((λ m at. omega (arith, c.requires.places m at, c.mark.ensures.len)), c.mark.ensures.closed)))

pub bounds-marks-n : goal.bounds-marks-n
bounds-marks-n t c = c.requires.places c.args.n (c.in-Some.parts, sym c.parts.ensures.value ∙ c.in-Some.is)

pub bounds-marks-n-2 : goal.bounds-marks-n-2
bounds-marks-n-2 t c =
    let lt = c.requires.places c.args.n (c.in-Some.parts, sym c.parts.ensures.value ∙ c.in-Some.is) in
    omega (arith, lt, c.mark.ensures.len, c.mark-2.ensures.len)

pub returns-clause-closed : goal.returns-clause-closed
returns-clause-closed t c =
    let is : parts_of c.args.self.now.slots c.args.n ≡ Some c.in-Some.parts = sym c.parts.ensures.value ∙ c.in-Some.is in
    let lt : c.args.n < length c.mark-2.new.marks = omega (arith, c.requires.places c.args.n (c.in-Some.parts, is), c.mark.ensures.len, c.mark-2.ensures.len) in
    closed_set c.args.self.now c.args.n c.in-Some.parts c.mark-2.new.marks c.mark-2.ensures.closed lt is
    (λ h. c.mark-2.ensures.keeps c.in-Some.parts.low (c.mark.ensures.there h)) c.mark-2.ensures.there

pub returns-clause-there : goal.returns-clause-there
returns-clause-there t c = λ h.
    let lt : c.args.n < length c.mark-2.new.marks = omega (arith, c.requires.places c.args.n h, c.mark.ensures.len, c.mark-2.ensures.len) in
    set_here c.mark-2.new.marks c.args.n lt

pub returns-clause-reached : goal.returns-clause-reached
returns-clause-reached t c =
    reached_set c.args.self.now c.args.n c.in-Some.parts c.args.marks.now c.mark.new.marks c.mark-2.new.marks
    (sym c.parts.ensures.value ∙ c.in-Some.is) c.mark.ensures.reached c.mark-2.ensures.reached
