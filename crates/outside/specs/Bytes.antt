-- Bytes added to a sink, and bytes read from a shelf, each where they are told.
use Rattle.std.specs.Prelude.{◌≡◌, ℕ, List, ◌++◌, Option, Some, IfSome}
use Rattle.std.specs.Option.{option_map}

abbrev pub IsPrefixOf : List ℕ → List ℕ → Type 0
IsPrefixOf front whole = (rest : List ℕ) × (whole ≡ front ++ rest)

-- these bytes were added to the old ones, where those are told; else the new ones are untold as well
abbrev pub Added : Option (List ℕ) → Option (List ℕ) → List ℕ → Type 0
Added old new bytes = new ≡ option_map (λ before. before ++ bytes) old

-- a front of these bytes was added
abbrev pub AddedSome : Option (List ℕ) → Option (List ℕ) → List ℕ → Type 0
AddedSome old new bytes = (front : List ℕ) × IsPrefixOf front bytes × Added old new front

-- where the text is told, it is what was read and what is left
abbrev pub IsReading : Option (List ℕ) → Option (List ℕ) → List ℕ → Type 0
IsReading text left bytes = IfSome text (λ whole. (rest : List ℕ) × (left ≡ Some rest) × (whole ≡ bytes ++ rest))
