-- Symbols of angles, kept as codes with their numbers apart.
use Rattle.std.specs.Prelude.{◌<◌, ◌^◌, Bool, true, false, cond, List, [], ◌∷◌, drop, get_or, Some, None, ℤ, pos, unsigned_abs}
use Rattle.qasm_lex.specs.declared.symbol.Symbol.{Symbol}
use Rattle.qasm_lex.specs.declared.symbol.Symbol.TheVariants.{Whole, Real, Pi, Param, Function, Plus, Minus, Times, Over, Caret, Open, Close, Other}
use Rattle.qasm_gates.specs.declared.codes.Code.{Code}
use Rattle.qasm_gates.specs.declared.codes.Code.TheVariants.{End, Whole as CodeWhole, Wide as CodeWide, Real as CodeReal, Pi as CodePi, Param as CodeParam, Function as CodeFunction, Plus as CodePlus, Minus as CodeMinus, Times as CodeTimes, Over as CodeOver, Caret as CodeCaret, Open as CodeOpen, Close as CodeClose, Other as CodeOther}

abbrev pub code_in : Symbol → Code
code_in (Whole (Some n)) = CodeWhole
code_in (Whole None) = CodeWide
code_in Real = CodeReal
code_in Pi = CodePi
code_in (Param n) = CodeParam
code_in Function = CodeFunction
code_in Plus = CodePlus
code_in Minus = CodeMinus
code_in Times = CodeTimes
code_in Over = CodeOver
code_in Caret = CodeCaret
code_in Open = CodeOpen
code_in Close = CodeClose
code_in Other = CodeOther

abbrev pub numbers_in : Symbol → List ℤ
numbers_in (Whole (Some n)) = n ∷ []
numbers_in (Param n) = pos n ∷ []
numbers_in _ = []

-- the number of a parameter fits its place
abbrev pub IsSmall : Symbol → Type 0
IsSmall (Param n) = n < 2 ^ 32
IsSmall _ = Unit {0}

abbrev pub symbol_by : Code → ℤ → Symbol
symbol_by CodeWhole n = Whole (Some n)
symbol_by CodeWide n = Whole None
symbol_by CodeReal n = Real
symbol_by CodePi n = Pi
symbol_by CodeParam n = Param (unsigned_abs n)
symbol_by CodeFunction n = Function
symbol_by CodePlus n = Plus
symbol_by CodeMinus n = Minus
symbol_by CodeTimes n = Times
symbol_by CodeOver n = Over
symbol_by CodeCaret n = Caret
symbol_by CodeOpen n = Open
symbol_by CodeClose n = Close
symbol_by _ n = Other

abbrev pub has_number : Code → Bool
has_number CodeWhole = true
has_number CodeParam = true
has_number _ = false

abbrev pub rest_numbers : Code → List ℤ → List ℤ
rest_numbers code numbers = cond (has_number code) (drop 1 numbers) numbers

abbrev pub is_end : Code → Bool
is_end End = true
is_end _ = false

-- the symbols up to the first end
unfoldable pub unpacked : List Code → List ℤ → List Symbol
unpacked [] numbers = []
unpacked (code ∷ codes) numbers = cond (is_end code) [] (symbol_by code (get_or numbers 0 (pos 0)) ∷ unpacked codes (rest_numbers code numbers))
