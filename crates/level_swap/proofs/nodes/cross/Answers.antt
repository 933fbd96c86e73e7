use Rattle.std.proofs.Common.{true, false}
use Rattle.diagram_model.specs.Nodes.{follow}
use Rattle.node_store.specs.Slots.{parts}
use Rattle.level_swap.specs.Rewriting.{GrowsBy}
use Rattle.level_swap.specs.Swaps.{IsNodeOf}
use Rattle.level_swap.proofs.Steps.{crossed_new, crossed_partly, crossed_used}
use Rattle.level_swap.proofs.nodes.cross.Goals as goal

pub rewrite-requires-clause-new : goal.rewrite-requires-clause-new
rewrite-requires-clause-new c =
    let t = c.args.slots.now.diagram.slots in
    let a = c.node_of-when_false.new.slots.diagram.slots in
    let b = c.node_of-when_true.new.slots.diagram.slots in
    let u = c.args.upper in
    let v = c.args.lower in
    let p = c.args.p in
    let grows_a : GrowsBy t a (parts u (follow t v false p.low) (follow t v false p.high)) = rw (c.followed-low.ensures.when_false, c.followed-high.ensures.when_false) at c.node_of-when_false.ensures.grows in
    let node_a : IsNodeOf a u (follow t v false p.low) (follow t v false p.high) c.node_of-when_false.result.0 = rw (c.followed-low.ensures.when_false, c.followed-high.ensures.when_false) at c.node_of-when_false.ensures.node in
    let grows_b : GrowsBy a b (parts u (follow t v true p.low) (follow t v true p.high)) = rw (c.followed-low.ensures.when_true, c.followed-high.ensures.when_true) at c.node_of-when_true.ensures.grows in
    let node_b : IsNodeOf b u (follow t v true p.low) (follow t v true p.high) c.node_of-when_true.result.0 = rw (c.followed-low.ensures.when_true, c.followed-high.ensures.when_true) at c.node_of-when_true.ensures.node in
    let way = c.requires.underway in
    crossed_new way.from t a b way.bound u v way.post c.args.n.0 p c.node_of-when_false.result.0 c.node_of-when_true.result.0 way.top c.held-held.ensures.slotted.ground c.node_of-when_true.ensures.slotted.ground way.partly c.requires.crossing grows_a node_a grows_b node_b

pub returns-clause-underway : goal.returns-clause-underway
returns-clause-underway c = λ s k post top partly.
    let t = c.args.slots.now.diagram.slots in
    let a = c.node_of-when_false.new.slots.diagram.slots in
    let b = c.node_of-when_true.new.slots.diagram.slots in
    let u = c.args.upper in
    let v = c.args.lower in
    let p = c.args.p in
    let grows_a : GrowsBy t a (parts u (follow t v false p.low) (follow t v false p.high)) = rw (c.followed-low.ensures.when_false, c.followed-high.ensures.when_false) at c.node_of-when_false.ensures.grows in
    let node_a : IsNodeOf a u (follow t v false p.low) (follow t v false p.high) c.node_of-when_false.result.0 = rw (c.followed-low.ensures.when_false, c.followed-high.ensures.when_false) at c.node_of-when_false.ensures.node in
    let grows_b : GrowsBy a b (parts u (follow t v true p.low) (follow t v true p.high)) = rw (c.followed-low.ensures.when_true, c.followed-high.ensures.when_true) at c.node_of-when_true.ensures.grows in
    let node_b : IsNodeOf b u (follow t v true p.low) (follow t v true p.high) c.node_of-when_true.result.0 = rw (c.followed-low.ensures.when_true, c.followed-high.ensures.when_true) at c.node_of-when_true.ensures.node in
    crossed_partly s t a b k u v post c.args.n.0 p c.node_of-when_false.result.0 c.node_of-when_true.result.0 top c.held-held.ensures.slotted.ground c.node_of-when_true.ensures.slotted.ground partly c.requires.crossing grows_a node_a grows_b node_b
    c.rewrite.new.self.diagram.slots c.rewrite.ensures.rewrites

pub returns-clause-used : goal.returns-clause-used
returns-clause-used c = λ s k post top partly used.
    let t = c.args.slots.now.diagram.slots in
    let a = c.node_of-when_false.new.slots.diagram.slots in
    let b = c.node_of-when_true.new.slots.diagram.slots in
    let u = c.args.upper in
    let v = c.args.lower in
    let p = c.args.p in
    let grows_a : GrowsBy t a (parts u (follow t v false p.low) (follow t v false p.high)) = rw (c.followed-low.ensures.when_false, c.followed-high.ensures.when_false) at c.node_of-when_false.ensures.grows in
    let node_a : IsNodeOf a u (follow t v false p.low) (follow t v false p.high) c.node_of-when_false.result.0 = rw (c.followed-low.ensures.when_false, c.followed-high.ensures.when_false) at c.node_of-when_false.ensures.node in
    let grows_b : GrowsBy a b (parts u (follow t v true p.low) (follow t v true p.high)) = rw (c.followed-low.ensures.when_true, c.followed-high.ensures.when_true) at c.node_of-when_true.ensures.grows in
    let node_b : IsNodeOf b u (follow t v true p.low) (follow t v true p.high) c.node_of-when_true.result.0 = rw (c.followed-low.ensures.when_true, c.followed-high.ensures.when_true) at c.node_of-when_true.ensures.node in
    crossed_used s t a b k u v post c.args.n.0 p c.node_of-when_false.result.0 c.node_of-when_true.result.0 top c.held-held.ensures.slotted.ground c.node_of-when_true.ensures.slotted.ground partly c.requires.crossing grows_a node_a grows_b node_b
    c.node_of-when_false.ensures.slotted.unique c.node_of-when_true.ensures.slotted.unique c.rewrite.new.self.diagram.slots c.rewrite.ensures.rewrites used
