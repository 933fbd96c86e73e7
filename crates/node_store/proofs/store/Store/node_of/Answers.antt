use Rattle.std.proofs.Common.{sym}
use Rattle.bit_lists.specs.Orders.{after}
use Rattle.diagram_model.specs.Stores.{from}
use Rattle.bit_lists.proofs.Variables.{has-head}
use Rattle.diagram_model.proofs.Values.{live-wider}
use Rattle.node_store.specs.Slots.{parts}
use Rattle.node_store.proofs.Makes.{tried_denotes, tried_extends, tried_functions, tried_live, tried_only, tried_room, tried_stop}
use Rattle.node_store.proofs.store.Store.node_of.Goals as goal

pub returns-then-low-high-clause-live : goal.returns-then-low-high-clause-live
returns-then-low-high-clause-live c =
    live-wider c.args.self.now.slots (after c.args.self.now.order c.args.var) (from c.args.self.now.order c.args.var) c.args.low.0
    (λ v h. has-head c.args.var v (after c.args.self.now.order c.args.var) h) c.requires.low

pub returns-clause-denotes : goal.returns-clause-denotes
returns-clause-denotes c =
    tried_denotes c.args.self.now c.find_or_add.new.self c.args.var c.args.low.0 c.args.high.0 c.find_or_add.result
    (record { puts = c.find_or_add.ensures.puts; rest = c.find_or_add.ensures.rest; refused = c.find_or_add.ensures.refused; before = rw (sym c.self.view_is) c.self.invariant; after = c.find_or_add.ensures.sound })
    c.requires.var

pub returns-clause-live : goal.returns-clause-live
returns-clause-live c =
    tried_live c.args.self.now c.find_or_add.new.self (parts c.args.var c.args.low.0 c.args.high.0) c.find_or_add.result
    (record { puts = c.find_or_add.ensures.puts; rest = c.find_or_add.ensures.rest; refused = c.find_or_add.ensures.refused; before = rw (sym c.self.view_is) c.self.invariant; after = c.find_or_add.ensures.sound })

pub returns-clause-functions : goal.returns-clause-functions
returns-clause-functions c =
    tried_functions c.args.self.now c.find_or_add.new.self (parts c.args.var c.args.low.0 c.args.high.0) c.find_or_add.result
    (record { puts = c.find_or_add.ensures.puts; rest = c.find_or_add.ensures.rest; refused = c.find_or_add.ensures.refused; before = rw (sym c.self.view_is) c.self.invariant; after = c.find_or_add.ensures.sound })

pub returns-clause-extends : goal.returns-clause-extends
returns-clause-extends c =
    tried_extends c.args.self.now c.find_or_add.new.self (parts c.args.var c.args.low.0 c.args.high.0) c.find_or_add.result
    (record { puts = c.find_or_add.ensures.puts; rest = c.find_or_add.ensures.rest; refused = c.find_or_add.ensures.refused; before = rw (sym c.self.view_is) c.self.invariant; after = c.find_or_add.ensures.sound })

pub returns-clause-only : goal.returns-clause-only
returns-clause-only c =
    tried_only c.args.self.now c.find_or_add.new.self (parts c.args.var c.args.low.0 c.args.high.0) c.find_or_add.result
    (record { puts = c.find_or_add.ensures.puts; rest = c.find_or_add.ensures.rest; refused = c.find_or_add.ensures.refused; before = rw (sym c.self.view_is) c.self.invariant; after = c.find_or_add.ensures.sound })

pub returns-clause-stop : goal.returns-clause-stop
returns-clause-stop c = tried_stop c.args.self.now c.args.var c.args.low.0 c.args.high.0 c.find_or_add.result c.if-low-high.false c.find_or_add.ensures.stop

pub returns-clause-room : goal.returns-clause-room
returns-clause-room c = tried_room c.args.self.now c.find_or_add.new.self c.args.var c.args.low.0 c.args.high.0 c.find_or_add.result c.find_or_add.ensures.puts
