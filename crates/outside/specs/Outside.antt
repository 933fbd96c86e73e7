-- What the calls of a shelf and of a sink say of their meanings before and after.
use Rattle.std.specs.Prelude.{◌≡◌, ℕ, ◌+◌, ◌-◌, ◌^◌, ◌<◌, ◌≤◌, min, Bool, IsTrue, List, ◌++◌, length, Option}
use Rattle.std.specs.Option.{option_map}

-- a count after some more, up to the end of its type
abbrev pub raised : ℕ → ℕ → ℕ
raised count more = min (count + more) (2 ^ 64 - 1)

-- a count has risen, or stands at its end
abbrev pub Rose : ℕ → ℕ → Type 0
Rose before now = raised before 1 ≤ now

-- each name has the text that it had, told or untold
abbrev pub SameTexts : (List ℕ → Option (List ℕ)) → (List ℕ → Option (List ℕ)) → Type 0
SameTexts old new = (name : List ℕ) → new name ≡ old name

-- no count falls
abbrev pub NoneFalls : (List ℕ → ℕ) → (List ℕ → ℕ) → Type 0
NoneFalls old new = (name : List ℕ) → old name ≤ new name

-- the count of each begun name rose
abbrev pub BegunRose : (List ℕ → Bool) → (List ℕ → ℕ) → (List ℕ → ℕ) → Type 0
BegunRose is_begun old new = (name : List ℕ) → IsTrue (is_begun name) → Rose (old name) (new name)

-- the same names are the begun ones
abbrev pub SameBegun : (List ℕ → Bool) → (List ℕ → Bool) → Type 0
SameBegun old new = (name : List ℕ) → new name ≡ old name

-- what was left is what was given and what is left now, where it is told
abbrev pub Gives : Option (List ℕ) → Option (List ℕ) → List ℕ → Type 0
Gives old new given = old ≡ option_map (λ rest. given ++ rest) new

-- an answer of no bytes for a buffer that has room
abbrev pub GivesEnd : List ℕ → ℕ → Type 0
GivesEnd buf count = (count ≡ 0) × (0 < length buf)

-- what is seen of a shelf in each of its states: its texts, its counts of faults, whether the last begin was Ok, the bytes taken since
-- then, and whether the end was given
pub record Shelf (S : Type 0) : Type 0 where
  pub text : S → List ℕ → Option (List ℕ)
  pub faults : S → List ℕ → ℕ
  pub ready : S → Bool
  pub taken : S → ℕ
  pub ended : S → Bool
