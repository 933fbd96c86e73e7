use Rattle.std.proofs.Common.{◌≡◌, ◌≤◌, take, length}
use Rattle.qasm_lex.specs.Lexemes.{lexemes_of}
use Rattle.qasm_lex.specs.Symbols.{symbols_in}
use Rattle.qasm_lex.specs.Angles.{names_of}
use Rattle.qasm_lex.proofs.angles.symbols_of.Given as goal

-- the symbols of the tokens so far
abbrev pub invariant-loop-token : goal.invariant-loop-token
invariant-loop-token l = record { are : l.symbols.items ≡ symbols_in (names_of l.text l.bound) (lexemes_of l.text (take l.token-index l.list)); short : length l.list ≤ 64 }
