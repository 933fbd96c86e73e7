use Rattle.std.proofs.Common.{sym, length}
use Rattle.tables.specs.NodePlaces.{slot_of, home}
use Rattle.tables.specs.Searching.{LocateMeans}
use Rattle.tables.proofs.Nodes.{sought, node_sought, value_of}
use Rattle.tables.proofs.node_table.NodeTable.seek.Goals as goal

pub returns-clause-node : goal.returns-clause-node
returns-clause-node c =
    let ps = c.self.inside.places.items in
    let h : LocateMeans slot_of ps (home (length ps) (c.args.low, c.args.high)) (c.args.low, c.args.high) c.locate.result = rw (sym c.deref.ensures.value) c.locate.ensures in
    rw (sym c.self.view_is) (node_sought (value_of ps c.self.inside.room) c.args.low c.args.high c.locate.result (sought ps c.self.inside.room c.args.low c.args.high c.locate.result c.self.invariant.probed c.self.invariant.few h))

pub returns-clause-sought : goal.returns-clause-sought
returns-clause-sought c =
    let ps = c.self.inside.places.items in
    let h : LocateMeans slot_of ps (home (length ps) (c.args.low, c.args.high)) (c.args.low, c.args.high) c.locate.result = rw (sym c.deref.ensures.value) c.locate.ensures in
    rw (sym c.self.view_is) (sought ps c.self.inside.room c.args.low c.args.high c.locate.result c.self.invariant.probed c.self.invariant.few h)
