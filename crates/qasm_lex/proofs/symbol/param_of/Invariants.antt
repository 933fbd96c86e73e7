use Rattle.std.proofs.Common.{◌≡◌, ◌+◌, length, All}
use Rattle.std.specs.List.{position_from}
use Rattle.std.specs.Str.{bytes_eq}
use Rattle.qasm_lex.specs.Angles.{IsBound, names_of}
use Rattle.qasm_lex.proofs.symbol.param_of.Given as goal

-- the first of all is the first of those left
abbrev pub invariant-loop-first : goal.invariant-loop-first
invariant-loop-first l = record {
  same : position_from (bytes_eq l.name) 0 (names_of l.text l.bound) ≡ position_from (bytes_eq l.name) l.number (names_of l.text l.rest);
  places : All (IsBound l.text) l.rest;
  within : l.number + length l.rest ≡ length l.bound;
}

abbrev pub decreases-loop-first : goal.decreases-loop-first
decreases-loop-first l = length l.rest
