-- The commands by name, and the command line of each: its words, all of them required, and its options with one value each. How a list of
-- words is a command line is `clap`'s: options stand in any order and place, each at most once, as `--x V` or `--x=V`, with no short forms;
-- `--` ends them; and a word that begins with `-` is an option, but for `-` alone.
use Rattle.std.specs.Prelude.{◌≡◌, ◌≤◌, ℕ, Bool, Option, List, [], ◌∷◌, flat_map, slice_get, codes, cond, Some, None, true}
use Rattle.std.specs.Str.{bytes_eq}
use Rattle.clap.specs.Words.{App, Kinds, Row, Text, fault_of, matches_of, new_app, new_rule, with_rule}
use Rattle.clap.specs.declared.builder.ArgAction.TheVariants.{Set}
use Rattle.sliq_words.specs.declared.form.Form.{Form}
use Rattle.sliq_words.specs.declared.form.Word.{Word}
use Rattle.sliq_words.specs.declared.form.Word.TheVariants.{Number}
use Rattle.sliq_words.specs.declared.form.TheConstants.{COMMANDS}

-- the command of a name: the first of those that have it
unfoldable pub form_of : Text → Option Form
form_of word = slice_get (flat_map (λ command. cond (bytes_eq word command.0.now) (command.1 ∷ []) []) COMMANDS) 0

-- it is a command of some name
abbrev pub IsCommand : Form → Type 0
IsCommand form = (word : Text) × (form_of word ≡ Some form)

-- a number of this word lies in its range
abbrev pub IsWithin : Option Word → ℕ → Type 0
IsWithin (Some (Number least most)) n = (least ≤ n) × (n ≤ most)
IsWithin word n = Unit {0}

-- a command line with no words and no options; no program's name stands before it
abbrev pub bare_app : App
bare_app = record (new_app (codes "sliq")) { top = record (new_app (codes "sliq")).top { no_binary_name = true } }

-- and this word behind those before, which must be given, where the command has one
abbrev pub with_word : Option Word → Text → App → App
with_word None id a = a
with_word (Some word) id a = with_rule a (record (new_rule id) { required = true; action = Some Set })

-- and this option with one value
abbrev pub with_option : Text → App → App
with_option id a = with_rule a (record (new_rule id) { long = Some id; action = Some Set })

-- and `--input`, where the command has it
abbrev pub with_input : Bool → App → App
with_input has a = cond has (with_option (codes "input") a) a

-- and the options that every command has
abbrev pub with_rules : App → App
with_rules a = with_option (codes "sift") (with_option (codes "reclaim") (with_option (codes "cache") (with_option (codes "nodes") (with_option (codes "width") a))))

-- the command line of a command
unfoldable pub app_for : Form → App
app_for form = with_rules (with_input form.input (with_word form.third (codes "THIRD") (with_word form.second (codes "SECOND") (with_word form.first (codes "FIRST") bare_app))))

-- the faults of the words after the command's name: none where they are a command line of the command
unfoldable pub faults : Form → List Text → Kinds
faults form words = fault_of (app_for form) words

-- what stands in that command line, by the names of words and options
unfoldable pub rows_for : Form → List Text → List Row
rows_for form words = matches_of (app_for form) words
