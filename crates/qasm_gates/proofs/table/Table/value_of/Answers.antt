use Rattle.std.proofs.Common.{◌≡◌, sym, subst, rules}
use Rattle.qasm_lex.specs.Expressions.{eval}
use Rattle.qasm_lex.specs.Values.{values}
use Rattle.qasm_lex.specs.Angles.{given_by, IsOutcome}
use Rattle.qasm_gates.specs.Private.Tables.{store_of, symbols_at, tree_at}
use Rattle.qasm_gates.proofs.Steps.{stored_outcome}
use Rattle.qasm_gates.proofs.table.Table.value_of.Goals as goal

pub returns : goal.returns
returns c =
    let s = store_of c.args.self.now in
    let given = given_by c.args.bound.now in
    let o = eval (values given) (tree_at s c.args.angle) in
    let all : c.as_slice.result.now ≡ symbols_at s c.args.angle = search rules in
    sym (c.outcome_of.ensures.only o (subst (λ symbols. IsOutcome given symbols o) (sym all) (stored_outcome s c.args.angle given c.requires)))
