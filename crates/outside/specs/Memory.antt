-- What contracts see of the shelf and the sink in memory.
use Rattle.std.specs.Prelude.{◌≡◌, ℕ, ◌==◌, Bool, ◌||◌, List, [], length, slice_get, Option, position, slice_index, nat_le, is_none}
use Rattle.std.specs.List.{list_any}
use Rattle.std.specs.Str.{bytes_eq}
use Rattle.std.specs.Option.{option_map, option_map_or, option_eq}
use Rattle.outside.specs.Outside.{raised, Shelf}

-- a name and its text
pub record NamedText : Type 0 where
  pub name : List ℕ
  pub text : List ℕ

-- the place of the first file of this name
abbrev pub place_of : List ℕ → List NamedText → Option ℕ
place_of name files = position (λ file. bytes_eq file.name name) files

-- the text at a place
abbrev pub text_at : List NamedText → ℕ → List ℕ
text_at files place = option_map_or (λ file. file.text) (slice_get files place) []

-- the text at a place that may be none, and then the empty text
abbrev pub text_in : List NamedText → Option ℕ → List ℕ
text_in files place = option_map_or (text_at files) place []

-- what a shelf in memory holds
pub record Shelved : Type 0 where
  pub files : List NamedText
  -- the most bytes that one read gives
  pub most : ℕ
  -- the numbers of the calls that fail
  pub bad_begins : List ℕ
  pub bad_reads : List ℕ
  -- how many calls there were
  pub begins : ℕ
  pub reads : ℕ
  -- a count of faults for each file, and one for all missing names
  pub faults : List ℕ
  pub missing : ℕ
  -- the place of the begun file
  pub current : Option ℕ
  pub ready : Bool
  pub left : List ℕ
  pub taken : ℕ
  pub ended : Bool

-- the text of a name, or none for a missing one
abbrev pub text_of : Shelved → List ℕ → Option (List ℕ)
text_of s name = option_map (text_at s.files) (place_of name s.files)

-- whether a name is that of the begun file; all missing names are one
abbrev pub is_begun_in : Shelved → List ℕ → Bool
is_begun_in s name = option_eq (λ i j. i == j) (place_of name s.files) s.current

-- the count that a name has
abbrev pub count_of : Shelved → List ℕ → ℕ
count_of s name = option_map_or (slice_index s.faults) (place_of name s.files) s.missing

-- a shelf in memory, as it is seen
abbrev pub memory : Shelf Shelved
memory = record { text = text_of; faults = count_of; ready = λ s. s.ready; taken = λ s. s.taken; ended = λ s. s.ended }

-- the call after this many is one of those that fail
abbrev pub is_next_bad : ℕ → List ℕ → Bool
is_next_bad calls bad = list_any (λ number. number == raised calls 1) bad

-- the next `begin` of this name fails
abbrev pub begin_fails : Shelved → List ℕ → Bool
begin_fails s name = is_next_bad s.begins s.bad_begins || is_none (place_of name s.files)

-- the files, the most bytes of a read and the numbers of bad calls are as they were
pub record IsSameShelf (old new : Shelved) : Type 0 where
  pub files : new.files ≡ old.files
  pub most : new.most ≡ old.most
  pub bad_begins : new.bad_begins ≡ old.bad_begins
  pub bad_reads : new.bad_reads ≡ old.bad_reads

-- no count of faults changed
pub record HasSameFaults (old new : Shelved) : Type 0 where
  pub faults : new.faults ≡ old.faults
  pub missing : new.missing ≡ old.missing

-- what a shelf in memory holds that never fails
pub record Calm : Type 0 where
  pub files : List NamedText
  -- the place of the begun file, or none for the empty text
  pub current : Option ℕ
  pub ready : Bool
  pub left : List ℕ
  pub taken : ℕ
  pub ended : Bool

-- what a sink in memory holds
pub record Sunk : Type 0 where
  pub bytes : List ℕ
  -- the most bytes that one write takes, and that all take
  pub most : ℕ
  pub room : ℕ
  -- the numbers of the writes that fail
  pub bad_writes : List ℕ
  pub writes : ℕ
  pub faults : ℕ

-- the next write fails
abbrev pub write_fails : Sunk → Bool
write_fails s = is_next_bad s.writes s.bad_writes || nat_le s.room (length s.bytes)

-- the limits and the numbers of bad writes are as they were
pub record IsSameSink (old new : Sunk) : Type 0 where
  pub most : new.most ≡ old.most
  pub room : new.room ≡ old.room
  pub bad_writes : new.bad_writes ≡ old.bad_writes
