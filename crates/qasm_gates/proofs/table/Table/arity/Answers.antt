use Rattle.std.proofs.Common.{subst, length}
use Rattle.qasm_gates.specs.Private.Seen.{seen_builtin}
use Rattle.qasm_gates.specs.Private.Tables.{IsCallee}
use Rattle.qasm_gates.proofs.Builtins.{named_few}
use Rattle.qasm_gates.proofs.table.Table.arity.Goals as goal

pub arity-requires : goal.arity-requires
arity-requires c =
    let k = subst (IsCallee (length c.args.self.now.rows.items)) c.in-Builtin.is c.requires in
    named_few k.0 (seen_builtin c.in-Builtin.built) k.1
