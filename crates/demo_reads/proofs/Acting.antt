-- The statements of the text of `demo`, and what they do.
use Rattle.std.specs.Prelude.{◌≡◌, ℕ, true, List, [], ◌∷◌, ◌++◌, map, codes, decimal, Some, None}
use Rattle.qasm_lex.specs.Lexemes.{Lexeme, AreLexemes}
use Rattle.qasm_forms.specs.Statements.{Statement, version, include, qubits, call as calling, Argument, written}
use Rattle.qasm_reader.specs.Parts.{Part, parts_of}
use Rattle.qasm_reader.specs.Acts.{Act, Target, nothing, declares, applies}
use Rattle.qasm_gates.specs.Gates.{builtin, one}
use Rattle.demo_text.specs.Generator.{Call, demo_calls}
use Rattle.demo_reads.specs.Drawn.{kind_in}

-- `q[I]` as an argument
abbrev pub place_argument : ℕ → Argument
place_argument i = record { name = codes "q"; index = Some (decimal i) }

-- the statement of a call's line
abbrev pub line_statement : Call → Statement
line_statement c = calling c.name None (map place_argument c.on)

-- the version, the include, the register, and the calls
abbrev pub demo_statements : ℕ → ℕ → ℕ → List Statement
demo_statements q n seed = version ∷ include (codes "\"qelib1.inc\"") ∷ qubits (codes "q") (decimal q) ∷ map line_statement (demo_calls q n seed)

-- the statement as a part of the text
abbrev pub closed_part : Statement → Part
closed_part s = record { lexemes = written s; closed = true; bad = None }

-- what `q[I]` means, where `q` is the first register
abbrev pub spot : ℕ → Target
spot i = record { first = i; size = None }

-- what a call's line does
abbrev pub line_act : Call → Act
line_act c = applies 0 (one 0 (kind_in (builtin c.name)) ∷ []) (map spot c.on)

-- what the version, the include and the register do
abbrev pub head_acts : ℕ → List Act
head_acts q = nothing ∷ nothing ∷ declares true (codes "q") q ∷ []

-- what all of them do
abbrev pub demo_acts : ℕ → ℕ → ℕ → List Act
demo_acts q n seed = head_acts q ++ map line_act (demo_calls q n seed)

-- the text has lexemes, no bad place, and these statements, each with its end
pub record HasStatements (text : List ℕ) (statements : List Statement) : Type 0 where
  pub lexemes : List Lexeme
  pub are_lexemes : AreLexemes text lexemes None
  pub are_parts : parts_of lexemes None ≡ map closed_part statements
