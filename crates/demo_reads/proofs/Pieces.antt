-- The text of `demo`, piece by piece.
use Prim.Native.Char.{code}
use Rattle.std.specs.Prelude.{ℕ, List, [], ◌∷◌, ◌++◌, codes, decimal}
use Rattle.qasm_lex.specs.declared.pieces.Form.TheVariants.{Blank, Token as OfKind}
use Rattle.qasm_lex.specs.declared.token.TokenKind.TheVariants.{Word, Whole, Real, Text, Mark}
use Rattle.demo_text.specs.Generator.{Call, first_calls, calls_drawn}
use Rattle.demo_reads.proofs.Spelled.{Spelled, spelled}

abbrev pub word : List ℕ → Spelled
word bytes = spelled (OfKind Word) bytes

abbrev pub mark : ℕ → Spelled
mark b = spelled (OfKind (Mark b)) (b ∷ [])

abbrev pub gap : ℕ → Spelled
gap b = spelled Blank (b ∷ [])

-- `q[I]`
abbrev pub place_pieces : ℕ → List Spelled
place_pieces i = word (codes "q") ∷ mark (code "[") ∷ spelled (OfKind Whole) (decimal i) ∷ mark (code "]") ∷ []

unfoldable pub more_pieces : List ℕ → List Spelled
more_pieces [] = []
more_pieces (i ∷ is) = mark (code ",") ∷ (place_pieces i ++ more_pieces is)

unfoldable pub places_pieces : List ℕ → List Spelled
places_pieces [] = []
places_pieces (i ∷ is) = place_pieces i ++ more_pieces is

abbrev pub line_end : List Spelled
line_end = mark (code ";") ∷ gap (code "\n") ∷ []

-- `NAME q[I],q[J];`
unfoldable pub line_pieces : Call → List Spelled
line_pieces c = word c.name ∷ gap (code " ") ∷ (places_pieces c.on ++ line_end)

unfoldable pub lines_pieces : List Call → List Spelled
lines_pieces [] = []
lines_pieces (c ∷ cs) = line_pieces c ++ lines_pieces cs

unfoldable pub head_pieces : ℕ → List Spelled
head_pieces q =
    word (codes "OPENQASM") ∷ gap (code " ") ∷ spelled (OfKind Real) (codes "2.0") ∷ mark (code ";") ∷ gap (code "\n")
    ∷ word (codes "include") ∷ gap (code " ") ∷ spelled (OfKind Text) (codes "\"qelib1.inc\"") ∷ mark (code ";") ∷ gap (code "\n")
    ∷ word (codes "qreg") ∷ gap (code " ") ∷ (place_pieces q ++ line_end)

unfoldable pub demo_pieces : ℕ → ℕ → ℕ → List Spelled
demo_pieces q n seed = head_pieces q ++ (lines_pieces (first_calls q) ++ lines_pieces (calls_drawn q n seed))
