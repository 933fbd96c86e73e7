-- Words that only the clauses of private functions cite.
use Rattle.std.specs.Prelude.{ℕ, List, map, Vec}
use Rattle.std.specs.Global.{Global}

-- the bytes of each text
abbrev pub bytes_of : List (Vec ℕ Global) → List (List ℕ)
bytes_of texts = map (λ (text : Vec ℕ Global). text.items) texts
