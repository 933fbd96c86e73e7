use Rattle.std.proofs.Common.{◌≢◌, ◌≤◌, ◌+◌, [], length}
use Rattle.qasm_reader.specs.Parts.{parts_of}
use Rattle.qasm_reader.specs.Private.Drafts.{Reached}
use Rattle.qasm_reader.proofs.reader.read_statements.Given as goal

-- the statements so far are accepted; each has at least the lexeme that closes it
abbrev pub invariant-statements : goal.invariant-statements
invariant-statements l = record {
  reached : Reached l.limit (parts_of l.fn.lexemes l.bad) (parts_of l.lexemes l.bad) l.draft l.gates l.number;
  some : parts_of l.fn.lexemes l.bad ≢ [];
  short : l.number + length l.lexemes ≤ length l.fn.lexemes + 1;
}

abbrev pub decreases-statements : goal.decreases-statements
decreases-statements l = length l.lexemes
