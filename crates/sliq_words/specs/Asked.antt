-- What the words of a run ask for.
use Rattle.std.specs.Prelude.{◌≡◌, ℕ, ◌≤◌, ◌==◌, Bool, cond, List, [], ◌∷◌, ◌++◌, map, length, drop, codes, string_bytes, Option, Some, None, IfSome, option_map, option_and_then}
use Rattle.std.specs.Option.{option_map_or}
use Rattle.amp_dense.specs.Rules.{Settings, AreRules}
use Rattle.clap.specs.Words.{Row, Text, first_of}
use Rattle.sliq_words.specs.declared.reading.Task.{Task}
use Rattle.sliq_words.specs.declared.reading.Task.TheVariants as task
use Rattle.sliq_words.specs.declared.reading.Asked.{Asked}
use Rattle.sliq_words.specs.declared.form.Form.{Form}
use Rattle.sliq_words.specs.declared.form.Kind.{Kind}
use Rattle.sliq_words.specs.declared.form.Kind.TheVariants.{Sim, Eq, Prob, Demo, Sample, Fidelity}
use Rattle.sliq_words.specs.declared.form.Word.{Word}
use Rattle.sliq_words.specs.declared.form.Word.TheVariants.{File, Number}
use Rattle.sliq_words.specs.Forms.{form_of, faults, rows_for}
use Rattle.sliq_words.specs.Values.{number_in, bits_of}

infixl 10 ◌>>=◌
-- goes on with what an option holds, if it holds something
abbrev pub ◌>>=◌ : {X Y : Type 0} → Option X → (X → Option Y) → Option Y
o >>= next = option_and_then next o

-- the number of an option, within its range, or the usual one where the option isn't given
unfoldable pub setting_of : Text → ℕ → ℕ → ℕ → List Row → Option ℕ
setting_of id least most usual rows = option_map_or (number_in least most) (first_of id rows) (Some usual)

-- five rules
abbrev pub settings : ℕ → ℕ → ℕ → ℕ → ℕ → Settings
settings w n c r s = record { width = w; nodes = n; cache = c; reclaim = r; sift = s }

-- the rules: each by its option, with its range and what is usual
unfoldable pub rules_in : List Row → Option Settings
rules_in rows = do
  width ← setting_of (codes "width") 2 128 128 rows
  nodes ← setting_of (codes "nodes") 64 16777216 1048576 rows
  cache ← setting_of (codes "cache") 1 1048576 65536 rows
  reclaim ← setting_of (codes "reclaim") 0 1000000 16 rows
  sift ← setting_of (codes "sift") 0 1000000 0 rows
  Some (settings width nodes cache reclaim sift)

-- the list of bits of `--input`, if it is given
unfoldable pub input_in : List Row → Option (Option (List Bool))
input_in rows = option_map_or (λ t. option_map (λ x. Some x) (bits_of t)) (first_of (codes "input") rows) (Some None)

-- three words of a command, read one by one
abbrev pub in_turn : {X : Type 0} → (Option Word → Text → List Row → Option X) → Form → List Row → Option (X × X × X)
in_turn read form rows = do
  first ← read form.first (codes "FIRST") rows
  second ← read form.second (codes "SECOND") rows
  third ← read form.third (codes "THIRD") rows
  Some (first, second, third)

-- the number of a word, within its range; 0 where the command has no number there
abbrev pub number_at : Option Word → Text → List Row → Option ℕ
number_at (Some (Number least most)) id rows = first_of id rows >>= number_in least most
number_at word id rows = Some 0

-- the task of this kind with these values
abbrev pub filled : Kind → ℕ → ℕ → ℕ → Option (List Bool) → Task
filled Sim first second third input = task.Sim input
filled Eq first second third input = task.Eq
filled Prob first second third input = task.Prob
filled Demo first second third input = task.Demo first second third
filled Sample first second third input = task.Sample second third
filled Fidelity first second third input = task.Fidelity

-- a command with its values
unfoldable pub task_in : Form → List Row → Option Task
task_in form rows = do
  n ← in_turn number_at form rows
  input ← input_in rows
  Some (filled form.kind n.0 n.1 n.2 input)

-- the name of a file, where the command has one
abbrev pub names_at : Option Word → Text → List Row → Option (List Text)
names_at (Some File) id rows = option_map (λ name. name ∷ []) (first_of id rows)
names_at word id rows = Some []

-- the files of a command, in their order
unfoldable pub files_in : Form → List Row → Option (List Text)
files_in form rows = option_map (λ n. n.0 ++ n.1 ++ n.2) (in_turn names_at form rows)

-- what is asked for: a command with its values, the names of its files, and the rules
pub record Request : Type 0 where
  pub task : Task
  pub files : List Text
  pub rules : Settings

abbrev pub request : Task → List Text → Settings → Request
request t fs r = record { task = t; files = fs; rules = r }

-- how many files a command has
abbrev pub file_count : Task → ℕ
file_count task.Eq = 2
file_count task.Fidelity = 2
file_count (task.Demo qubits gates seed) = 0
file_count _ = 1

-- the values of a command lie in their ranges
abbrev pub InRange : Task → Type 0
InRange (task.Sim input) = IfSome input (λ bits. length bits ≤ 64)
InRange (task.Demo qubits gates seed) = (1 ≤ qubits) × (qubits ≤ 64) × (gates ≤ 500000)
InRange (task.Sample shots seed) = shots ≤ 1000000
InRange _ = Unit {0}

-- there are as many files as the command has, and its values and its rules lie in their ranges
pub record IsRequest (r : Request) : Type 0 where
  pub files : length r.files ≡ file_count r.task
  pub values : InRange r.task
  pub rules : AreRules r.rules

-- the names of the files of what is asked for, if anything is
abbrev pub files_of : Option Request → List Text
files_of None = []
files_of (Some r) = r.files

-- the same, as `ask` gives it
abbrev pub request_of : Asked → Request
request_of a = request a.task (map string_bytes a.files.items) a.rules

-- what the words found give, where each value reads
unfoldable pub request_in : Form → List Row → Option Request
request_in form rows = do
  t ← task_in form rows
  r ← rules_in rows
  fs ← files_in form rows
  Some (request t fs r)

-- what the words after a command's name ask for: nothing where the command line has a fault
unfoldable pub asked_after : Form → List Text → Option Request
asked_after form words = cond (length (faults form words) == 0) (request_in form (rows_for form words)) None

-- the command that the second word names
abbrev pub command_in : List Text → Option Form
command_in (program ∷ word ∷ rest) = form_of word
command_in _ = None

-- what the words of a run ask for: a command by its name, and the words after it as its command line
abbrev pub asked_of : List Text → Option Request
asked_of words = command_in words >>= (λ form. asked_after form (drop 2 words))
