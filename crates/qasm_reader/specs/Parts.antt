-- The statements of a text as lists of lexemes.
use Prim.Native.Char.{code}
use Rattle.std.specs.Prelude.{◌≡◌, ℕ, Bool, true, false, ◌||◌, ◌&&◌, not, cond, List, [], ◌∷◌, ◌++◌, Option, None}
use Rattle.std.specs.List.{list_any}
use Rattle.qasm_lex.specs.Lexemes.{Lexeme}
use Rattle.qasm_forms.specs.Statements.{is_mark, Statement, version, written, IsStatement}
use Rattle.qasm_reader.specs.Acts.{Act}
use Rattle.qasm_reader.specs.Profile.{leaves}

-- a statement as it stands in a text: its lexemes with its end; or those after the last end, which aren't closed, with the bad place of the text
pub record Part : Type 0 where
  pub lexemes : List Lexeme
  pub closed : Bool
  pub bad : Option ℕ

-- the lexeme ends the statement whose lexemes so far stand before it: `}`, or a `;` with no `{` before it
abbrev pub is_end : List Lexeme → Lexeme → Bool
is_end before l = is_mark (code "}") l || (is_mark (code ";") l && not (list_any (is_mark (code "{")) before))

abbrev pub last_part : List Lexeme → Option ℕ → List Part
last_part [] None = []
last_part lexemes bad = record { lexemes = lexemes; closed = false; bad = bad } ∷ []

-- the statements of lexemes, the first of which begins with those before
unfoldable pub cut : List Lexeme → List Lexeme → Option ℕ → List Part
cut before [] bad = last_part before bad
cut before (l ∷ ls) bad = cond (is_end before l) (record { lexemes = before ++ l ∷ []; closed = true; bad = None } ∷ cut [] ls bad) (cut (before ++ l ∷ []) ls bad)

-- the statements of a text, by its lexemes and its bad place
abbrev pub parts_of : List Lexeme → Option ℕ → List Part
parts_of lexemes bad = cut [] lexemes bad

-- the part has this form; the version stands first
pub record Has (before : List Act) (part : Part) (s : Statement) : Type 0 where
  pub closed : part.closed ≡ true
  pub spelled : part.lexemes ≡ written s
  pub statement : IsStatement (leaves before) s
  pub first : s ≡ version → before ≡ []
