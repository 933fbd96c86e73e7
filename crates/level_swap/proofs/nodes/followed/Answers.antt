use Rattle.std.proofs.Common.{true, false, sym, ◌∙◌}
use Rattle.diagram_model.proofs.Heights.{follow_some, follow_else, follow_none}
use Rattle.level_swap.proofs.nodes.followed.Goals as goal

pub returns-then-parts-var-clause-when_false : goal.returns-then-parts-var-clause-when_false
returns-then-parts-var-clause-when_false c = sym (follow_some c.args.slots.now.diagram.slots c.args.var false c.args.n c.in-Some.parts (sym c.parts_of.ensures ∙ c.in-Some.is) c.if-parts-var.true)

pub returns-then-parts-var-clause-when_true : goal.returns-then-parts-var-clause-when_true
returns-then-parts-var-clause-when_true c = sym (follow_some c.args.slots.now.diagram.slots c.args.var true c.args.n c.in-Some.parts (sym c.parts_of.ensures ∙ c.in-Some.is) c.if-parts-var.true)

pub returns-else-parts-var-clause-when_false : goal.returns-else-parts-var-clause-when_false
returns-else-parts-var-clause-when_false c = sym (follow_else c.args.slots.now.diagram.slots c.args.var false c.args.n c.in-Some.parts (sym c.parts_of.ensures ∙ c.in-Some.is) c.if-parts-var.false)

pub returns-else-parts-var-clause-when_true : goal.returns-else-parts-var-clause-when_true
returns-else-parts-var-clause-when_true c = sym (follow_else c.args.slots.now.diagram.slots c.args.var true c.args.n c.in-Some.parts (sym c.parts_of.ensures ∙ c.in-Some.is) c.if-parts-var.false)

pub returns-in-None-clause-when_false : goal.returns-in-None-clause-when_false
returns-in-None-clause-when_false c = sym (follow_none c.args.slots.now.diagram.slots c.args.var false c.args.n (sym c.parts_of.ensures ∙ c.in-None.is))

pub returns-in-None-clause-when_true : goal.returns-in-None-clause-when_true
returns-in-None-clause-when_true c = sym (follow_none c.args.slots.now.diagram.slots c.args.var true c.args.n (sym c.parts_of.ensures ∙ c.in-None.is))
