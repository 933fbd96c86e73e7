-- Words that only the clauses of private functions and lemmas cite.
use Rattle.std.specs.Prelude.{ℕ, List, [], ◌∷◌, ◌++◌, codes, flat_map}
use Rattle.demo_text.specs.Generator.{Call, place_text, line}

-- bytes
abbrev pub Text : Type 0
Text = List ℕ

-- further places, with a comma before each
unfoldable pub more_places : List ℕ → Text
more_places [] = []
more_places (i ∷ is) = codes "," ++ (place_text i ++ more_places is)

-- the lines of calls
abbrev pub lines : List Call → Text
lines cs = flat_map line cs
