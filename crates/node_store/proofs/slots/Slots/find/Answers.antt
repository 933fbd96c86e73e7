use Rattle.std.proofs.Common.{arith, length, sym, ◌<◌, ◌≡◌}
use Rattle.node_store.proofs.Kept.{has_var, within_tables, found_some, found_none, of_some, of_none_is}
use Rattle.std.proofs.Common.{Some}
use Rattle.diagram_model.specs.Nodes.{parts_of}
use Rattle.diagram_model.specs.Stores.{IsNew}
use Rattle.node_store.specs.Slots.{parts}
use Rattle.node_store.specs.Stored.{view_of}
use Rattle.node_store.proofs.slots.Slots.find.Goals as goal

pub index-requires : goal.index-requires
index-requires c =
    let lt : c.args.var < length c.self.inside.order = rw (← c.self.view_is) at c.requires in
    let h = has_var c.self.inside c.args.var c.self.invariant lt in
    omega (arith, within_tables c.self.inside c.args.var c.self.invariant h, c.self.inside.tables.ok.0)

pub returns-in-Some-clause-found : goal.returns-in-Some-clause-found
returns-in-Some-clause-found c =
    let lt : c.args.var < length c.self.inside.order = rw (← c.self.view_is) at c.requires in
    let h = has_var c.self.inside c.args.var c.self.invariant lt in
    let all = found_some c.self.inside c.args.var c.args.low.0 c.args.high.0 c.index.result.now c.find.result c.self.invariant h c.index.ensures c.find.ensures in
    rw (sym c.self.view_is) (of_some c.find.result c.in-Some.node (λ n. parts_of (view_of c.self.inside).diagram.slots n ≡ Some (parts c.args.var c.args.low.0 c.args.high.0)) c.in-Some.is all)

pub returns-in-None-clause-absent : goal.returns-in-None-clause-absent
returns-in-None-clause-absent c =
    let lt : c.args.var < length c.self.inside.order = rw (← c.self.view_is) at c.requires in
    let h = has_var c.self.inside c.args.var c.self.invariant lt in
    let all = found_none c.self.inside c.args.var c.args.low.0 c.args.high.0 c.index.result.now c.find.result c.self.invariant h c.index.ensures c.find.ensures in
    rw (sym c.self.view_is) (of_none_is c.find.result (IsNew (view_of c.self.inside).diagram (parts c.args.var c.args.low.0 c.args.high.0)) c.in-None.is all)
