use Rattle.std.proofs.Common.{true, false}
use Rattle.equivalence.proofs.Alike.{wanted_by}
use Rattle.equivalence.proofs.asking.wanted_node.Goals as goal

pub returns-then-value : goal.returns-then-value
returns-then-value c = wanted_by c.args.store.now c.args.kept.0 c.args.zeros.now c.args.bit.0 c.value.result true c.value.ensures c.if-value.true

pub returns-else-value : goal.returns-else-value
returns-else-value c = wanted_by c.args.store.now c.args.kept.0 c.args.zeros.now c.args.bit.0 c.value.result false c.value.ensures c.if-value.false
