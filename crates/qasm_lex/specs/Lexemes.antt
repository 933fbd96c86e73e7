-- How bytes spell the lexemes, blanks and comments of OpenQASM 2.0, and how a text is cut into them; then its tokens, which have places.
use Prim.Native.Char.{code}
use Rattle.std.specs.Prelude.{◌≡◌, ◌⊎◌, ℕ, ◌-◌, ◌≤◌, ◌<◌, Bool, true, List, [], ◌∷◌, ◌++◌, length, map, drop, take, Option, Some, None, codes}
use Rattle.std.specs.List.{AllByRecursion, filter_map, slice_range}
use Rattle.qasm_lex.specs.declared.token.Token.{Token}
use Rattle.qasm_lex.specs.declared.token.TokenKind.{TokenKind}
use Rattle.qasm_lex.specs.declared.token.TokenKind.TheVariants.{Word, Whole, Real, Text, Arrow, Equal, Mark}
use Rattle.qasm_lex.specs.declared.pieces.Form.{Form}
use Rattle.qasm_lex.specs.declared.pieces.Form.TheVariants.{Blank, Comment, Token as OfKind}
use Rattle.qasm_lex.specs.Bytes.{one_of, none_of, is_letter, is_digit, in_word, is_mark, is_blank}

-- bytes that all pass the test, perhaps none
abbrev pub IsRun : (ℕ → Bool) → List ℕ → Type 0
IsRun is bs = AllByRecursion (λ b. is b ≡ true) bs

-- one byte that passes the test
abbrev pub IsOne : (ℕ → Bool) → List ℕ → Type 0
IsOne is bs = (b : ℕ) × (bs ≡ b ∷ []) × (is b ≡ true)

-- a part, and then another
abbrev pub Then : (List ℕ → Type 0) → (List ℕ → Type 0) → List ℕ → Type 0
Then First Second bs = (front : List ℕ) × (rest : List ℕ) × (bs ≡ front ++ rest) × First front × Second rest

-- a part or nothing
abbrev pub Maybe : (List ℕ → Type 0) → List ℕ → Type 0
Maybe Part bs = (bs ≡ []) ⊎ Part bs

-- one or more digits
abbrev pub IsWhole : List ℕ → Type 0
IsWhole bs = (0 < length bs) × IsRun is_digit bs

-- `e` or `E`, a sign or none, and one or more digits
abbrev pub IsExponent : List ℕ → Type 0
IsExponent bs = Then (IsOne (one_of (codes "eE"))) (Then (Maybe (IsOne (one_of (codes "+-")))) IsWhole) bs

-- digits, a point and digits, on one side of the point at least one, and an exponent or none
abbrev pub IsPointed : List ℕ → Type 0
IsPointed bs = (whole : List ℕ) × (part : List ℕ) × (power : List ℕ) × (bs ≡ whole ++ (code "." ∷ part ++ power)) × IsWhole (whole ++ part) × Maybe IsExponent power

-- a token by what it is, with its bytes where its kind leaves a choice of them
pub data Lexeme : Type 0 where
  word : List ℕ → Lexeme
  whole : List ℕ → Lexeme
  real : List ℕ → Lexeme
  quoted : List ℕ → Lexeme
  arrow : Lexeme
  equal : Lexeme
  mark : ℕ → Lexeme

-- two slashes and the rest of their line
abbrev pub IsComment : List ℕ → Type 0
IsComment bs = (after : List ℕ) × (bs ≡ codes "//" ++ after) × IsRun (none_of (codes "\n")) after

-- how bytes spell a lexeme; or none: a blank or a comment
abbrev pub Spells : Option Lexeme → List ℕ → Type 0
Spells None bs = IsOne is_blank bs ⊎ IsComment bs
Spells (Some (word bytes)) bs = (bs ≡ bytes) × Then (IsOne is_letter) (IsRun in_word) bs
Spells (Some (whole bytes)) bs = (bs ≡ bytes) × IsWhole bs
Spells (Some (real bytes)) bs = (bs ≡ bytes) × (IsPointed bs ⊎ Then IsWhole IsExponent bs)
Spells (Some (quoted bytes)) bs = (bs ≡ bytes) × ((inside : List ℕ) × (bs ≡ codes "\"" ++ inside ++ codes "\"") × IsRun (none_of (codes "\"\n")) inside)
Spells (Some arrow) bs = bs ≡ codes "->"
Spells (Some equal) bs = bs ≡ codes "=="
Spells (Some (mark b)) bs = (bs ≡ b ∷ []) × (is_mark b ≡ true)

-- longest match: no spelling that the text begins with is longer than n bytes. So `//` begins a comment, a comment ends
-- with its line, and a word or a number ends where it can't go on
abbrev pub NoneLonger : List ℕ → ℕ → Type 0
NoneLonger text n = (piece : Option Lexeme) (front after : List ℕ) → Spells piece front → text ≡ front ++ after → length front ≤ n

-- the text begins with no spelling
abbrev pub BeginsNone : List ℕ → Type 0
BeginsNone text = (piece : Option Lexeme) (front after : List ℕ) → Spells piece front → text ≡ front ++ after → ⊥

-- the text is spelled by these, one after the other, and then comes a rest
abbrev pub Cuts : List ℕ → List (Option Lexeme) → List ℕ → Type 0
Cuts text [] rest = text ≡ rest
Cuts text (piece ∷ pieces) rest = (front : List ℕ) × (after : List ℕ) × (text ≡ front ++ after) × Spells piece front × NoneLonger text (length front) × Cuts after pieces rest

-- the text ends at the place, or nothing begins there
abbrev pub Ends : List ℕ → ℕ → Option ℕ → Type 0
Ends text stop None = stop ≡ length text
Ends text stop (Some bad) = (stop ≡ bad) × (bad < length text) × BeginsNone (drop bad text)

-- the lexemes of the text up to its bad place
pub record AreLexemes (text : List ℕ) (lexemes : List Lexeme) (bad : Option ℕ) : Type 0 where
  pub pieces : List (Option Lexeme)
  pub stop : ℕ
  pub cuts : Cuts text pieces (drop stop text)
  pub lexemes_are : lexemes ≡ filter_map (λ piece. piece) pieces
  pub ends : Ends text stop bad

-- the lexeme of a kind and its bytes
abbrev pub of_kind : TokenKind → List ℕ → Lexeme
of_kind Word bytes = word bytes
of_kind Whole bytes = whole bytes
of_kind Real bytes = real bytes
of_kind Text bytes = quoted bytes
of_kind Arrow bytes = arrow
of_kind Equal bytes = equal
of_kind (Mark b) bytes = mark b

-- how bytes spell a piece of a form
abbrev pub SpellsForm : Form → List ℕ → Type 0
SpellsForm Blank bs = IsOne is_blank bs
SpellsForm Comment bs = IsComment bs
SpellsForm (OfKind kind) bs = Spells (Some (of_kind kind bs)) bs

-- the bytes begin with a piece of the form, of n bytes, and with no longer one
pub record Begins (bytes : List ℕ) (form : Form) (n : ℕ) : Type 0 where
  pub within : n ≤ length bytes
  pub spelled : SpellsForm form (take n bytes)
  pub longest : NoneLonger bytes n

-- a piece of a text, from one place up to another, places counted from 0
pub record Piece : Type 0 where
  pub form : Form
  pub from : ℕ
  pub to : ℕ

-- a piece stands in the text at its places
pub record IsPiece (text : List ℕ) (p : Piece) : Type 0 where
  pub forward : p.from ≤ p.to
  pub begins : Begins (drop p.from text) p.form (p.to - p.from)

-- from one place up to another the text is these pieces, one after the other
abbrev pub Cut : List ℕ → ℕ → List Piece → ℕ → Type 0
Cut text place [] stop = place ≡ stop
Cut text place (p ∷ pieces) stop = (p.from ≡ place) × IsPiece text p × Cut text p.to pieces stop

-- a piece of a form from one place up to another is a token, or none where it is a blank or a comment
abbrev pub of_form : Form → ℕ → ℕ → Option Token
of_form (OfKind kind) from to = Some (record { kind = kind; from = from; to = to })
of_form _ from to = None

-- the token that a piece is
abbrev pub token_of : Piece → Option Token
token_of p = of_form p.form p.from p.to

-- the tokens of the text up to its bad place
pub record AreTokens (text : List ℕ) (tokens : List Token) (bad : Option ℕ) : Type 0 where
  pub pieces : List Piece
  pub stop : ℕ
  pub cut : Cut text 0 pieces stop
  pub tokens_are : tokens ≡ filter_map token_of pieces
  pub ends : Ends text stop bad

-- the token's places are places of the text
pub record IsWithin (text : List ℕ) (t : Token) : Type 0 where
  pub forward : t.from ≤ t.to
  pub within : t.to ≤ length text

-- the lexeme that a token of the text is
abbrev pub lexeme_of : List ℕ → Token → Lexeme
lexeme_of text t = of_kind t.kind (slice_range text t.from t.to)

-- the lexemes of tokens
abbrev pub lexemes_of : List ℕ → List Token → List Lexeme
lexemes_of text tokens = map (lexeme_of text) tokens
