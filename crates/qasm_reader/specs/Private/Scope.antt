-- What the reader knows at a statement, and its tests there.
use Rattle.std.specs.List.{list_any}
use Rattle.std.specs.Option.{option_or}
use Rattle.std.specs.Str.{bytes_eq}
use Rattle.std.specs.Map.{lookup}
use Rattle.std.specs.Prelude.{not, get_or, ℕ, ◌+◌, Bool, true, false, ◌||◌, ◌&&◌, cond, nat_lt, nat_eq, List, [], ◌∷◌, ◌++◌, length, Option, Some, is_some, ok_or, Result, Ok, Err}
use Rattle.qasm_forms.specs.Statements.{Argument, Line, fence, calls}
use Rattle.qasm_reader.specs.declared.registers.Miss.{Miss}
use Rattle.qasm_reader.specs.declared.registers.Miss.TheVariants.{Unknown, Beyond}
use Rattle.qasm_reader.specs.declared.calls.Found.{Found as CodeFound}
use Rattle.qasm_reader.specs.declared.reason.Why.{Why}
use Rattle.qasm_reader.specs.declared.reason.Why.TheVariants.{UnknownRegister, IndexOutOfRange}
use Rattle.qasm_gates.specs.Gates.{Named, up_to}
use Rattle.qasm_reader.specs.Acts.{Register, Target, target, place_count, qubits_at, is_among}
use Rattle.qasm_reader.specs.Profile.{words_left_out, words_undefined}
use Rattle.qasm_reader.specs.Reasons.{is_unknown, is_beyond}
use Rattle.qasm_reader.specs.Private.Seen.{seen_targets}

-- the target of an argument whose register is known and whose index isn't beyond it
abbrev pub found_as : Bool → Bool → Option Target → Result Target Miss
found_as unknown beyond t = cond unknown (Err Unknown) (cond beyond (Err Beyond) (ok_or t Unknown))

-- what an argument means among the registers of a sort, or why it means nothing
abbrev pub find : List (List ℕ × Register) → Bool → Argument → Result Target Miss
find all quantum a = found_as (is_unknown all quantum a) (is_beyond all a) (target all a)

abbrev pub why_missed : Miss → Why
why_missed Unknown = UnknownRegister
why_missed Beyond = IndexOutOfRange

-- two that are found; an unknown register is told first
abbrev pub both_found : Result Target Miss → Result Target Miss → Result (Target × Target) Miss
both_found (Ok f) (Ok t) = Ok (f, t)
both_found (Ok f) (Err m) = Err m
both_found (Err Unknown) t = Err Unknown
both_found (Err Beyond) (Ok t) = Err Beyond
both_found (Err Beyond) (Err m) = Err m

-- what is known of the arguments so far: the first 64, how many there are, counted up to 2^32, whether some miss, the size of the first that is a
-- whole register, and whether another one differs from it
pub record Found : Type 0 where
  pub targets : List Target
  pub count : ℕ
  pub unknown : Bool
  pub beyond : Bool
  pub size : Option ℕ
  pub differ : Bool

abbrev pub seen_found : CodeFound → Found
seen_found f = record { targets = seen_targets f.targets.items; count = f.count; unknown = f.unknown; beyond = f.beyond; size = f.size; differ = f.differ }

-- more than any gate has
abbrev pub many : ℕ
many = 4294967296

abbrev pub next_count : ℕ → ℕ
next_count n = cond (nat_lt n many) (n + 1) n

abbrev pub other_size : Option ℕ → Option ℕ → Bool
other_size (Some n) (Some m) = not (nat_eq m n)
other_size _ _ = false

abbrev pub noted : Found → Result Target Miss → Found
noted f (Ok t) = record f {
  targets = cond (nat_lt (length f.targets) 64) (f.targets ++ t ∷ []) f.targets;
  count = next_count f.count;
  size = option_or f.size t.size;
  differ = f.differ || other_size f.size t.size;
}
noted f (Err Unknown) = record f { count = next_count f.count; unknown = true }
noted f (Err Beyond) = record f { count = next_count f.count; beyond = true }

abbrev pub other_than : ℕ → ℕ → Bool
other_than n m = not (nat_eq m n)

-- some size isn't the first one
abbrev pub differ : List ℕ → Bool
differ [] = false
differ (n ∷ ns) = list_any (other_than n) ns

abbrev pub has_twice : List ℕ → Bool
has_twice [] = false
has_twice (q ∷ qs) = is_among qs q || has_twice qs

-- whether a name stands twice
abbrev pub named_twice : List (List ℕ) → Bool
named_twice [] = false
named_twice (n ∷ ns) = list_any (bytes_eq n) ns || named_twice ns

abbrev pub line_repeats : Line → Bool
line_repeats (fence on) = false
line_repeats (calls name angles on) = named_twice on

-- whether one of the repeated calls has a qubit twice
abbrev pub repeats : List Target → Bool
repeats ts = list_any (λ place. has_twice (qubits_at ts place)) (up_to (place_count ts))

abbrev pub flagged : List Bool → ℕ → Bool
flagged flags q = get_or flags q false

-- whether one of the repeated calls has a qubit with a flag
abbrev pub touches : List Bool → List Target → Bool
touches flags ts = list_any (λ place. list_any (flagged flags) (qubits_at ts place)) (up_to (place_count ts))

-- whether two targets differ in how many places they have
abbrev pub other_count : Target → Target → Bool
other_count f t = not (nat_eq (place_count (f ∷ [])) (place_count (t ∷ [])))

-- a statement or a call that begins with this word is left out, where these gates are defined
abbrev pub leaves_by : List (List ℕ × Named) → List ℕ → Bool
leaves_by definitions first = list_any (bytes_eq first) words_left_out || (list_any (bytes_eq first) words_undefined && not (is_some (lookup (bytes_eq first) definitions)))

-- whether a gate has other counts of arguments and angles
abbrev pub wrong_counts : Named → ℕ → ℕ → Bool
wrong_counts gate arguments angles = not (nat_eq arguments gate.arity) || not (nat_eq angles gate.angles)
