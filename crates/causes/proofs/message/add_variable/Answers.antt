use Rattle.std.proofs.Common.{rules, ◌≤◌, decimal, length, arith, length-append}
use Rattle.std.proofs.lemmas.Fmt.{length-decimal-le}
use Rattle.causes.proofs.message.add_variable.Goals as goal

pub returns-clause-short : goal.returns-clause-short
returns-clause-short c =
    let digits : length (decimal c.args.var) ≤ 3 = length-decimal-le 3 c.args.var (omega arith) (omega arith) (omega arith) in
    search (rules, length-append)
