use Rattle.qasm_gates.proofs.Adding.{empty_table}
use Rattle.qasm_gates.proofs.table.Table.new.Goals as goal

pub returns : goal.returns
returns c = empty_table c.new.result c.new-2.result c.new-3.result c.new-4.result c.new-5.result c.new-6.result c.new.ensures.items c.new-2.ensures.items c.new-3.ensures.items c.new-4.ensures.items
