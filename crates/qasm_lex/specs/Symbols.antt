-- What a lexeme stands for in an expression.
use Prim.Native.Char.{code}
use Rattle.std.specs.Prelude.{ℕ, ◌+◌, ◌-◌, ◌*◌, ◌^◌, cond, nat_eq, nat_le, nat_lt, List, [], ◌∷◌, length, map, Option, Some, None, ℤ, pos, codes}
use Rattle.std.specs.List.{list_any, position_from}
use Rattle.std.specs.Option.{option_map_or}
use Rattle.std.specs.Str.{bytes_eq}
use Rattle.qasm_lex.specs.declared.symbol.Symbol.{Symbol}
use Rattle.qasm_lex.specs.declared.symbol.Symbol.TheVariants.{Whole, Real, Pi, Param, Function, Plus, Minus, Times, Over, Caret, Open, Close, Other}
use Rattle.qasm_lex.specs.Lexemes.{Lexeme, word, whole, real, mark}
use Rattle.qasm_lex.specs.Fractions.{most}

-- the number that decimal digits spell, the first of them the highest
unfoldable pub decimal : List ℕ → ℕ
decimal [] = 0
decimal (d ∷ digits) = (d - 48) * 10 ^ length digits + decimal digits

-- the number, if it is below the bound
abbrev pub number_below : ℕ → ℕ → Option ℕ
number_below n bound = cond (nat_lt n bound) (Some n) None

-- the number itself, or None where it is more than 2^63 - 1
abbrev pub narrow_number : ℕ → Option ℤ
narrow_number n = cond (nat_le n most) (Some (pos n)) None

-- the functions that angles may call
abbrev pub functions : List (List ℕ)
functions = codes "sin" ∷ codes "cos" ∷ codes "tan" ∷ codes "exp" ∷ codes "ln" ∷ codes "sqrt" ∷ []

-- `pi`, a function, or no symbol
unfoldable pub word_symbol : List ℕ → Symbol
word_symbol bytes = cond (bytes_eq bytes (codes "pi")) Pi (cond (list_any (bytes_eq bytes) functions) Function Other)

-- `+`, `-`, `*`, `/`, `^`, `(` and `)`
unfoldable pub mark_symbol : ℕ → Symbol
mark_symbol b =
    cond (nat_eq b (code "+")) Plus
    (cond (nat_eq b (code "-")) Minus
    (cond (nat_eq b (code "*")) Times
    (cond (nat_eq b (code "/")) Over
    (cond (nat_eq b (code "^")) Caret
    (cond (nat_eq b (code "(")) Open
    (cond (nat_eq b (code ")")) Close Other))))))

-- the symbol of a lexeme
abbrev pub symbol_of : Lexeme → Symbol
symbol_of (word bytes) = word_symbol bytes
symbol_of (whole digits) = Whole (narrow_number (decimal digits))
symbol_of (real bytes) = Real
symbol_of (mark b) = mark_symbol b
symbol_of _ = Other

-- what lexemes stand for
abbrev pub symbols : List Lexeme → List Symbol
symbols lexemes = map symbol_of lexemes

-- the number of the parameter of this name, counted from 0
abbrev pub param_of : List (List ℕ) → List ℕ → Option ℕ
param_of params name = position_from (bytes_eq name) 0 params

-- the symbol of a lexeme where these are the names of parameters
abbrev pub symbol_in : List (List ℕ) → Lexeme → Symbol
symbol_in params (word bytes) = option_map_or Param (param_of params bytes) (word_symbol bytes)
symbol_in params l = symbol_of l

abbrev pub symbols_in : List (List ℕ) → List Lexeme → List Symbol
symbols_in params lexemes = map (symbol_in params) lexemes
