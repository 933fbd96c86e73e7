use Rattle.std.proofs.Common.{true, false, map, ap, sym, ◌∙◌, arith}
use Rattle.bit_lists.specs.Orders.{has}
use Rattle.diagram_model.specs.Stores.{function_of}
use Rattle.diagram_model.proofs.Values.{steps_down}
use Rattle.snapshot.proofs.Listing.{visited_old, visited_node}
use Rattle.snapshot.proofs.NumberingLemmas.{has_last}
use Rattle.snapshot.proofs.VisitingLemmas.{numbered_more, keeps_more, keeps_then, lower_all, still_new, never_there}
use Rattle.snapshot.proofs.visiting.+visit.Goals as goal

pub returns-then-has-clause-visited : goal.returns-then-has-clause-visited
returns-then-has-clause-visited t c = visited_old c.args.store.now c.args.n.0 c.args.seen.now.nodes c.requires.kept.sound c.requires.kept.live c.requires.live (sym c.if-has.ensures)

pub returns-in_default-clause-there : goal.returns-in_default-clause-there
returns-in_default-clause-there t c =
    absurd (never_there c.args.store.now c.args.n.0 c.args.seen.now c.requires.kept c.requires.live (sym c.parts_of.ensures.parts ∙ c.in_default.is) (sym c.if-has.ensures))

pub returns-in_default-clause-visited : goal.returns-in_default-clause-visited
returns-in_default-clause-visited t c =
    absurd (never_there c.args.store.now c.args.n.0 c.args.seen.now c.requires.kept c.requires.live (sym c.parts_of.ensures.parts ∙ c.in_default.is) (sym c.if-has.ensures))

pub visit-requires : goal.visit-requires
visit-requires t c =
    let h = steps_down c.args.store.now c.args.n.0 c.in-Some.parts false c.requires.kept.sound (sym c.in-Some.is ∙ c.parts_of.ensures.parts) in
    let q = c.decreases in
    (omega (arith, h.less, q), (h.live, c.requires.kept))

pub visit-requires-2 : goal.visit-requires-2
visit-requires-2 t c =
    let h = steps_down c.args.store.now c.args.n.0 c.in-Some.parts true c.requires.kept.sound (sym c.in-Some.is ∙ c.parts_of.ensures.parts) in
    let q = c.decreases in
    (omega (arith, h.less, q), (h.live, c.in_ok-visit.ensures.kept))

pub push-requires-clause-new : goal.push-requires-clause-new
push-requires-clause-new t c =
    let d = c.args.store.now in
    let p = c.in-Some.parts in
    let is = sym c.in-Some.is ∙ c.parts_of.ensures.parts in
    let low = steps_down d c.args.n.0 p false c.requires.kept.sound is in
    let high = steps_down d c.args.n.0 p true c.requires.kept.sound is in
    still_new d c.args.seen.now.nodes c.visit.new.seen.nodes c.visit-2.new.seen.nodes c.args.n.0 p low.less high.less c.in_ok-visit.ensures.lower c.in_ok-visit-2.ensures.lower (sym c.if-has.ensures)

pub push-requires-clause-place : goal.push-requires-clause-place
push-requires-clause-place t c = c.in_ok-visit-2.ensures.kept.places c.args.n.0 (c.in-Some.parts, sym c.parts_of.ensures.parts ∙ c.in-Some.is)

pub returns-clause-kept : goal.returns-clause-kept
returns-clause-kept t c =
    let d = c.args.store.now in
    let p = c.in-Some.parts in
    let high = c.in_ok-visit-2.ensures in
    let is = sym c.in-Some.is ∙ c.parts_of.ensures.parts in
    let one = steps_down d c.args.n.0 p false c.requires.kept.sound is in
    let two = steps_down d c.args.n.0 p true c.requires.kept.sound is in
    let new = still_new d c.args.seen.now.nodes c.visit.new.seen.nodes c.visit-2.new.seen.nodes c.args.n.0 p one.less two.less c.in_ok-visit.ensures.lower high.lower (sym c.if-has.ensures) in
    numbered_more d c.visit-2.new.seen c.push.new.self c.args.n.0 p high.kept new c.requires.live (sym c.parts_of.ensures.parts ∙ c.in-Some.is) (high.keeps p.low c.in_ok-visit.ensures.there) high.there c.in_ok-push.ensures.nodes c.in_ok-push.ensures.past

pub returns-clause-there : goal.returns-clause-there
returns-clause-there t c = ap (λ l. has l c.args.n.0) c.in_ok-push.ensures.nodes ∙ has_last c.visit-2.new.seen.nodes c.args.n.0

pub returns-clause-keeps : goal.returns-clause-keeps
returns-clause-keeps t c =
    let s0 = c.args.seen.now.nodes in
    let s1 = c.visit.new.seen.nodes in
    let s2 = c.visit-2.new.seen.nodes in
    let s3 = c.push.new.self.nodes in
    keeps_then s0 s2 s3 (keeps_then s0 s1 s2 c.in_ok-visit.ensures.keeps c.in_ok-visit-2.ensures.keeps) (keeps_more s2 s3 c.args.n.0 c.in_ok-push.ensures.nodes)

pub returns-clause-lower : goal.returns-clause-lower
returns-clause-lower t c =
    let d = c.args.store.now in
    let p = c.in-Some.parts in
    let is = sym c.in-Some.is ∙ c.parts_of.ensures.parts in
    let low = steps_down d c.args.n.0 p false c.requires.kept.sound is in
    let high = steps_down d c.args.n.0 p true c.requires.kept.sound is in
    lower_all d c.args.seen.now.nodes c.visit.new.seen.nodes c.visit-2.new.seen.nodes c.push.new.self.nodes c.args.n.0 p low.less high.less c.in_ok-visit.ensures.lower c.in_ok-visit-2.ensures.lower c.in_ok-push.ensures.nodes

pub returns-clause-visited : goal.returns-clause-visited
returns-clause-visited t c =
    let d = c.args.store.now in
    let p = c.in-Some.parts in
    let is = sym c.parts_of.ensures.parts ∙ c.in-Some.is in
    let s0 = c.args.seen.now.nodes in
    let s1 = c.visit.new.seen.nodes in
    let s2 = c.visit-2.new.seen.nodes in
    ap (λ l. map (function_of d) l) c.in_ok-push.ensures.nodes
    ∙ visited_node d c.args.n.0 p s0 s1 s2 c.requires.kept.sound is c.requires.kept.live c.in_ok-visit.ensures.kept.live c.requires.kept.constants c.in_ok-visit.ensures.kept.constants (sym c.if-has.ensures) c.in_ok-visit.ensures.visited c.in_ok-visit-2.ensures.visited
