-- What the private functions that find the next piece return.
use Rattle.std.specs.Prelude.{ℕ, ◌+◌, Bool, cond, List, [], ◌∷◌, Option, Some, None, drop, nat_eq, codes}
use Rattle.qasm_lex.specs.declared.bytes.Class.{Class}
use Rattle.qasm_lex.specs.declared.bytes.Class.TheVariants.{Letter, LetterE, Digit, Underscore, Point, Quote, Plus, Minus, Greater, Equals, Slash, LineFeed, Blank as BlankClass, Mark as MarkClass, Other}
use Rattle.qasm_lex.specs.declared.bytes.Part.{Part}
use Rattle.qasm_lex.specs.declared.bytes.Part.TheVariants.{Words, Digits, Quoted, Commented}
use Rattle.qasm_lex.specs.declared.token.TokenKind.TheVariants.{Word, Whole, Real, Text, Arrow, Equal, Mark}
use Rattle.qasm_lex.specs.declared.pieces.Form.{Form}
use Rattle.qasm_lex.specs.declared.pieces.Form.TheVariants.{Blank, Comment, Token}
use Rattle.qasm_lex.specs.Bytes.{none_of, is_digit, in_word}
use Rattle.qasm_lex.specs.Private.Classes.{class_of, is_e, is_sign}

-- the bytes of a run
abbrev pub bytes_in : Part → ℕ → Bool
bytes_in Words = in_word
bytes_in Digits = is_digit
bytes_in Quoted = none_of (codes "\"\n")
bytes_in Commented = none_of (codes "\n")

-- the class of the first byte, or Other where there is none
abbrev pub front_class : List ℕ → Class
front_class [] = Other
front_class (b ∷ bs) = class_of b

-- how many bytes at the front pass the test
unfoldable pub run : (ℕ → Bool) → List ℕ → ℕ
run is [] = 0
run is (b ∷ bs) = cond (is b) (run is bs + 1) 0

-- how many bytes at the front are a sign, 1 or 0
unfoldable pub sign : List ℕ → ℕ
sign [] = 0
sign (b ∷ bs) = cond (is_sign (class_of b)) 1 0

-- how many bytes at the front are an exponent, or 0
unfoldable pub exponent : List ℕ → ℕ
exponent [] = 0
exponent (b ∷ after) =
    cond (is_e (class_of b))
    (let digits = run is_digit (drop (sign after) after) in cond (nat_eq digits 0) 0 (1 + sign after + digits))
    0

-- a number of so many digits, from after its point
abbrev pub with_point : ℕ → List ℕ → Option (Form × ℕ)
with_point whole after =
    let digits = run is_digit after in
    cond (nat_eq (whole + digits) 0) None (Some (Token Real, whole + 1 + digits + exponent (drop digits after)))

-- a number of so many digits with no point
abbrev pub without_point : ℕ → List ℕ → Option (Form × ℕ)
without_point whole after =
    let more = exponent after in
    cond (nat_eq more 0) (Some (Token Whole, whole)) (Some (Token Real, whole + more))

-- a number of so many digits, by the class of the byte after them
abbrev pub at_point : ℕ → Class → List ℕ → Option (Form × ℕ)
at_point whole Point after = with_point whole (drop 1 after)
at_point whole _ after = without_point whole after

-- a number
unfoldable pub number : List ℕ → Option (Form × ℕ)
number bs = at_point (run is_digit bs) (front_class (drop (run is_digit bs) bs)) (drop (run is_digit bs) bs)

-- a text of so many bytes, by the class of the byte after them
abbrev pub closed : ℕ → Class → Option (Form × ℕ)
closed n Quote = Some (Token Text, n + 2)
closed n _ = None

-- a text, from after its quote
unfoldable pub quoted : List ℕ → Option (Form × ℕ)
quoted after = closed (run (none_of (codes "\"\n")) after) (front_class (drop (run (none_of (codes "\"\n")) after) after))

-- an arrow or a mark, by the class of the byte after the minus
abbrev pub after_minus : Class → ℕ → Option (Form × ℕ)
after_minus Greater b = Some (Token Arrow, 2)
after_minus _ b = Some (Token (Mark b), 1)

-- a double equals sign, by the class of the byte after the first
abbrev pub after_equals : Class → Option (Form × ℕ)
after_equals Equals = Some (Token Equal, 2)
after_equals _ = None

-- a comment or a mark, by the class of the byte after the slash
abbrev pub after_slash : Class → List ℕ → ℕ → Option (Form × ℕ)
after_slash Slash after b = Some (Comment, run (none_of (codes "\n")) (drop 1 after) + 2)
after_slash _ after b = Some (Token (Mark b), 1)

-- the piece that begins with a byte of this class
abbrev pub piece_at : Class → ℕ → List ℕ → Option (Form × ℕ)
piece_at Letter b after = Some (Token Word, run in_word after + 1)
piece_at LetterE b after = Some (Token Word, run in_word after + 1)
piece_at Digit b after = number (b ∷ after)
piece_at Point b after = number (b ∷ after)
piece_at Quote b after = quoted after
piece_at Plus b after = Some (Token (Mark b), 1)
piece_at Minus b after = after_minus (front_class after) b
piece_at Equals b after = after_equals (front_class after)
piece_at Slash b after = after_slash (front_class after) after b
piece_at LineFeed b after = Some (Blank, 1)
piece_at BlankClass b after = Some (Blank, 1)
piece_at MarkClass b after = Some (Token (Mark b), 1)
piece_at Underscore b after = None
piece_at Greater b after = None
piece_at Other b after = None

-- the form and the length of the piece at the front
unfoldable pub piece_of : List ℕ → Option (Form × ℕ)
piece_of [] = None
piece_of (b ∷ bs) = piece_at (class_of b) b bs
