-- What a comparison of two circuits says, as bytes.
use Rattle.std.specs.Prelude.{ℕ, ◌≤◌, List, ◌++◌, length, codes}
use Rattle.bit_lists.specs.Lists.{bits_text}
use Rattle.amp_printer.specs.Texts.{entry_text}
use Rattle.amp_printer.specs.declared.verdict.Verdict.{Verdict}
use Rattle.amp_printer.specs.declared.verdict.Verdict.TheVariants.{Scalar, Differs}

-- `equivalent` and the scalar, or `differs` and the position, the entry there and the corner; a line feed after each line
unfoldable pub verdict_text : Verdict → List ℕ
verdict_text (Scalar q k) = codes "equivalent\nscalar " ++ entry_text q k ++ codes "\n"
verdict_text (Differs row col value own) =
    codes "differs\nrow " ++ bits_text row ++ codes " column " ++ bits_text col ++ codes "\nvalue " ++ entry_text value.0 value.1
    ++ codes "\ncorner " ++ entry_text own.0 own.1 ++ codes "\n"

-- the position, if there is one, has at most 64 bits each way
abbrev pub IsShort : Verdict → Type 0
IsShort (Scalar q k) = Unit {0}
IsShort (Differs row col value own) = (length row ≤ 64) × (length col ≤ 64)
