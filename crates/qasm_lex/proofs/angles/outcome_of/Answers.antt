use Rattle.std.proofs.Common.{sym, subst, arith}
use Rattle.qasm_lex.specs.Angles.{IsOutcome, given_by}
use Rattle.qasm_lex.proofs.AngleLemmas.{outcome_is, long_outcome}
use Rattle.qasm_lex.proofs.OneAnswer.{one_outcome}
use Rattle.qasm_lex.proofs.angles.outcome_of.Goals as goal

pub returns-clause-is : goal.returns-clause-is
returns-clause-is c =
    let h = c.if-symbols-gt-LONGEST.false in
    subst (IsOutcome (given_by c.args.bound.now) c.args.symbols.now) (sym c.outcome_read.ensures) (outcome_is _ _ (omega arith))

pub returns-clause-only : goal.returns-clause-only
returns-clause-only c outcome a = one_outcome _ _ outcome _ a (returns-clause-is c)

pub returns-then-symbols-gt-LONGEST-clause-is : goal.returns-then-symbols-gt-LONGEST-clause-is
returns-then-symbols-gt-LONGEST-clause-is c =
    let h = c.if-symbols-gt-LONGEST.true in
    long_outcome _ _ (omega arith)

pub returns-then-symbols-gt-LONGEST-clause-only : goal.returns-then-symbols-gt-LONGEST-clause-only
returns-then-symbols-gt-LONGEST-clause-only c outcome a = one_outcome _ _ outcome _ a (returns-then-symbols-gt-LONGEST-clause-is c)
