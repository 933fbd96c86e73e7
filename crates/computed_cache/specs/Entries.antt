-- What a cache holds: a list of keys with values, most recently used first.
use Rattle.std.specs.Prelude.{ℕ, Bool, cond, ◌-◌, ◌&&◌, ◌==◌, List, ◌∷◌, take, Option, is_some}
use Rattle.std.specs.Map.{lookup, remove_entry}
use Rattle.std.specs.Option.{option_map_or}
use Rattle.computed_cache.specs.declared.key.Key.{Key}

-- the entries, most recently used first, and how many there may be
pub record Cached : Type 0 where
  pub entries : List (Key × ℕ)
  pub capacity : ℕ

abbrev pub same_key : Key → Key → Bool
same_key k l = (k.table == l.table) && ((k.f == l.f) && ((k.g == l.g) && (k.h == l.h)))

-- the value under a key
abbrev pub value_at : List (Key × ℕ) → Key → Option ℕ
value_at es k = lookup (same_key k) es

-- the list without the entry of a key
abbrev pub without : List (Key × ℕ) → Key → List (Key × ℕ)
without es k = remove_entry (same_key k) es

-- after a look: the entry of the key, if there is one, goes to the front
abbrev pub touched : List (Key × ℕ) → Key → List (Key × ℕ)
touched es k = option_map_or (λ v. (k, v) ∷ without es k) (value_at es k) es

-- after a put: the new entry stands first, in place of the key's old one, or else of the last one
-- where all are taken
abbrev pub kept : ℕ → List (Key × ℕ) → Key → ℕ → List (Key × ℕ)
kept capacity es k v = (k, v) ∷ cond (is_some (value_at es k)) (without es k) (take (capacity - 1) es)
