-- What this reader leaves out of OpenQASM 2.0.
use Rattle.std.specs.Prelude.{ℕ, Bool, ◌||◌, ◌&&◌, not, List, [], ◌∷◌, is_some, codes}
use Rattle.std.specs.List.{list_any}
use Rattle.std.specs.Str.{bytes_eq}
use Rattle.std.specs.Map.{lookup}
use Rattle.qasm_reader.specs.Acts.{Act, definitions}

-- statements that begin so are left out
abbrev pub words_left_out : List (List ℕ)
words_left_out = codes "gate" ∷ codes "opaque" ∷ codes "reset" ∷ codes "if" ∷ codes "U" ∷ codes "CX" ∷ []

-- gates of the standard that aren't built in: a text may define them
abbrev pub words_undefined : List (List ℕ)
words_undefined = codes "rz" ∷ codes "u2" ∷ codes "u3" ∷ codes "crz" ∷ codes "cu3" ∷ []

abbrev pub is_defined : List Act → List ℕ → Bool
is_defined before name = is_some (lookup (bytes_eq name) (definitions before))

-- a statement or a call that begins with this word is left out, given what was done before it
abbrev pub leaves : List Act → List ℕ → Bool
leaves before first = list_any (bytes_eq first) words_left_out || (list_any (bytes_eq first) words_undefined && not (is_defined before first))
