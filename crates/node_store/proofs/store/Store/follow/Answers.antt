use Rattle.std.proofs.Common.{sym, ◌∙◌}
use Rattle.diagram_model.proofs.Heights.{follow_some, follow_else, follow_none}
use Rattle.node_store.proofs.store.Store.follow.Goals as goal

pub returns-then-parts-var : goal.returns-then-parts-var
returns-then-parts-var c = c.child.ensures ∙ sym (follow_some c.args.self.now.slots c.args.var c.args.bit c.args.n.0 c.in-Some.parts (sym c.parts.ensures.value ∙ c.in-Some.is) c.if-parts-var.true)

pub returns-else-parts-var : goal.returns-else-parts-var
returns-else-parts-var c = sym (follow_else c.args.self.now.slots c.args.var c.args.bit c.args.n.0 c.in-Some.parts (sym c.parts.ensures.value ∙ c.in-Some.is) c.if-parts-var.false)

pub returns-in-None : goal.returns-in-None
returns-in-None c = sym (follow_none c.args.self.now.slots c.args.var c.args.bit c.args.n.0 (sym c.parts.ensures.value ∙ c.in-None.is))
