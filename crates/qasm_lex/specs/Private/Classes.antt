-- The scanner's table of bytes.
use Prim.Native.Char.{code}
use Rattle.std.specs.Prelude.{ℕ, Bool, true, false, nat_eq, if◌then◌else◌, codes}
use Rattle.qasm_lex.specs.declared.bytes.Class.{Class}
use Rattle.qasm_lex.specs.declared.bytes.Class.TheVariants.{Letter, LetterE, Digit, Underscore, Point, Quote, Plus, Minus, Greater, Equals, Slash, LineFeed, Blank, Mark, Other}
use Rattle.qasm_lex.specs.declared.bytes.Part.{Part}
use Rattle.qasm_lex.specs.declared.bytes.Part.TheVariants.{Words, Digits, Quoted, Commented}
use Rattle.qasm_lex.specs.Bytes.{one_of, is_letter, is_digit}

-- `e` and `E` are letters of a class of their own, since exponents begin with them
unfoldable pub class_of : ℕ → Class
class_of b =
    if one_of (codes "eE") b then LetterE
    else (if is_letter b then Letter
    else (if is_digit b then Digit
    else (if nat_eq b (code "_") then Underscore
    else (if nat_eq b (code ".") then Point
    else (if nat_eq b (code "\"") then Quote
    else (if nat_eq b (code "+") then Plus
    else (if nat_eq b (code "-") then Minus
    else (if nat_eq b (code ">") then Greater
    else (if nat_eq b (code "=") then Equals
    else (if nat_eq b (code "/") then Slash
    else (if nat_eq b (code "\n") then LineFeed
    else (if one_of (codes " \t\r") b then Blank
    else (if one_of (codes ";,()[]{}*^") b then Mark
    else Other)))))))))))))

-- the classes of the bytes of a run
abbrev pub in_part : Part → Class → Bool
in_part Words Letter = true
in_part Words LetterE = true
in_part Words Digit = true
in_part Words Underscore = true
in_part Words _ = false
in_part Digits Digit = true
in_part Digits _ = false
in_part Quoted Quote = false
in_part Quoted LineFeed = false
in_part Quoted _ = true
in_part Commented LineFeed = false
in_part Commented _ = true

-- `+` and `-`
abbrev pub is_sign : Class → Bool
is_sign Plus = true
is_sign Minus = true
is_sign _ = false

-- `e` and `E`
abbrev pub is_e : Class → Bool
is_e LetterE = true
is_e _ = false
