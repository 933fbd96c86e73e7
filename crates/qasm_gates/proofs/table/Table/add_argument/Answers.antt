use Rattle.std.proofs.Common.{◌≡◌, [], ◌∷◌, ◌++◌, rules}
use Rattle.qasm_gates.proofs.Adding.{argument_added}
use Rattle.qasm_gates.proofs.table.Table.add_argument.Goals as goal

pub returns : goal.returns
returns c =
    let e : c.push.new.self.items ≡ c.args.self.now.on.items ++ c.args.number ∷ [] = search rules in
    argument_added c.args.self.now c.requires c.push.new.self c.args.number e
