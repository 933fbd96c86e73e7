-- Words that only the clauses of private functions cite.
use Rattle.std.specs.Prelude.{ℕ, Bool, List, ◌++◌, codes}
use Rattle.bit_lists.specs.Lists.{bits_text}
use Rattle.amp_printer.specs.Texts.{lowest_line}
use Rattle.amp_printer.specs.declared.listing.Shown.{Shown}

-- the line of a state with these bits, and what stands behind them
abbrev pub line_with : List Bool → List ℕ → List ℕ
line_with x rest = codes "|" ++ bits_text x ++ rest

-- the line of the state that is shown
abbrev pub line_of : Shown → List ℕ
line_of s = lowest_line s.state s.entry s.exponent
