use Rattle.slice_quad.proofs.Gates.{row_both, row_low, row_high, row_none}
use Rattle.slice_quad.proofs.gate.row_node.Goals as goal

pub returns-then-high : goal.returns-then-high
returns-then-high c = λ d s n. row_both d c.args.gate.now c.args.low c.args.high s n c.if-low.true c.if-high.true

pub returns-then-low : goal.returns-then-low
returns-then-low c = λ d s n. row_low d c.args.gate.now c.args.low c.args.high s n c.if-low.true c.if-high.false

pub returns-then-high-2 : goal.returns-then-high-2
returns-then-high-2 c = λ d s n. row_high d c.args.gate.now c.args.low c.args.high s n c.if-low.false c.if-high-2.true

pub returns : goal.returns
returns c = λ d s n. row_none d c.args.gate.now c.args.low c.args.high s n c.if-low.false c.if-high-2.false
