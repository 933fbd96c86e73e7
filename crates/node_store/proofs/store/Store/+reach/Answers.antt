use Rattle.std.proofs.Common.{true, false, sym, ◌∙◌, arith}
use Rattle.diagram_model.proofs.Values.{steps_down}
use Rattle.node_store.proofs.Walks.{Puts, closed_put, keeps_then, put_keeps, reached_put}
use Rattle.node_store.proofs.store.Store.+reach.Goals as goal

pub reach-requires : goal.reach-requires
reach-requires t c =
    let h = steps_down c.args.self.now c.args.n c.in-Some.parts false c.parts.ensures.sound (sym c.in-Some.is ∙ c.parts.ensures.value) in
    let q = c.decreases in
    (omega (arith, h.less, q), (h.live, c.requires.closed))

pub reach-requires-2 : goal.reach-requires-2
reach-requires-2 t c =
    let h = steps_down c.args.self.now c.args.n c.in-Some.parts true c.parts.ensures.sound (sym c.in-Some.is ∙ c.parts.ensures.value) in
    let q = c.decreases in
    (omega (arith, h.less, q), (h.live, c.in_ok-reach.ensures.closed))

pub returns-clause-closed : goal.returns-clause-closed
returns-clause-closed t c =
    let low = c.in_ok-reach.ensures in
    let high = c.in_ok-reach-2.ensures in
    let puts : Puts c.reach-2.new.seen.keys c.insert.new.self.keys c.args.n = c.in_ok-insert.ensures.updates.0 in
    closed_put c.args.self.now c.args.n c.in-Some.parts c.reach-2.new.seen.keys c.insert.new.self.keys high.closed (sym c.parts.ensures.value ∙ c.in-Some.is)
    (λ h. high.keeps c.in-Some.parts.low (low.there h)) high.there puts

pub returns-clause-keeps : goal.returns-clause-keeps
returns-clause-keeps t c =
    let puts : Puts c.reach-2.new.seen.keys c.insert.new.self.keys c.args.n = c.in_ok-insert.ensures.updates.0 in
    keeps_then c.args.seen.now.keys c.reach-2.new.seen.keys c.insert.new.self.keys
    (keeps_then c.args.seen.now.keys c.reach.new.seen.keys c.reach-2.new.seen.keys c.in_ok-reach.ensures.keeps c.in_ok-reach-2.ensures.keeps)
    (put_keeps c.reach-2.new.seen.keys c.insert.new.self.keys c.args.n puts)

pub returns-clause-reached : goal.returns-clause-reached
returns-clause-reached t c =
    let puts : Puts c.reach-2.new.seen.keys c.insert.new.self.keys c.args.n = c.in_ok-insert.ensures.updates.0 in
    reached_put c.args.self.now c.args.n c.in-Some.parts c.args.seen.now.keys c.reach.new.seen.keys c.reach-2.new.seen.keys c.insert.new.self.keys
    (sym c.parts.ensures.value ∙ c.in-Some.is) c.in_ok-reach.ensures.reached c.in_ok-reach-2.ensures.reached puts
