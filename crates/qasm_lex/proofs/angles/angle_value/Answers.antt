use Rattle.std.proofs.Common.{subst, rules, arith}
use Rattle.std.proofs.lemmas.List.{length-map}
use Rattle.qasm_lex.specs.Lexemes.{lexeme_of, lexemes_of}
use Rattle.qasm_lex.specs.Symbols.{symbol_in}
use Rattle.qasm_lex.specs.Angles.{IsOutcome, given_by, names_of}
use Rattle.qasm_lex.proofs.AngleLemmas.{long_outcome}
use Rattle.qasm_lex.proofs.OneAnswer.{one_outcome}
use Rattle.qasm_lex.proofs.angles.angle_value.Goals as goal

pub returns-clause-only : goal.returns-clause-only
returns-clause-only c outcome a = c.outcome_of.ensures.only outcome (subst (λ s. IsOutcome (given_by c.args.bound.now) s outcome) (search rules) a)

pub returns-then-list-gt-LONGEST-clause-is : goal.returns-then-list-gt-LONGEST-clause-is
returns-then-list-gt-LONGEST-clause-is c =
    let e = length-map c.args.list.now (lexeme_of c.args.text.now) in
    let f = length-map (lexemes_of c.args.text.now c.args.list.now) (symbol_in (names_of c.args.text.now c.args.bound.now)) in
    let h = c.if-list-gt-LONGEST.true in
    long_outcome _ _ (omega arith)

pub returns-then-list-gt-LONGEST-clause-only : goal.returns-then-list-gt-LONGEST-clause-only
returns-then-list-gt-LONGEST-clause-only c outcome a = one_outcome _ _ outcome _ a (returns-then-list-gt-LONGEST-clause-is c)
