-- The places of a memo. Only private functions and proofs use these words.
use Rattle.std.specs.Prelude.{◌≡◌, ◌≢◌, ◌⊎◌, ℕ, ◌+◌, ◌*◌, ◌/◌, ◌%◌, ◌^◌, cond, ◌==◌, List, map, Some}
use Rattle.memos.specs.declared.memo.Place.{Place}
use Rattle.memos.specs.Memo.{Triple, found}
use Rattle.tables.specs.Probing.{Slot, free, holds}

-- what a place holds in a call: a place with the stamp of another call is free
abbrev pub slot_of : ℕ → Place → Slot Triple
slot_of now p = cond (p.stamp == now) (holds (p.f, p.g, p.h) p.node) free

-- what the places hold in a call
abbrev pub slots_of : ℕ → List Place → List (Slot Triple)
slots_of now ps = map (slot_of now) ps

-- where the search for a key begins among n places
unfoldable pub home : ℕ → Triple → ℕ
home n k = ((k.0 * 2654435769 % 2 ^ 32 + k.1 * 2246822519 % 2 ^ 32) % 2 ^ 32 + k.2 * 3266489917 % 2 ^ 32) % 2 ^ 32 * n / 2 ^ 32

-- the results, and how many more there is room for
pub record MemoValue : Type 0 where
  pub entries : List (Triple × ℕ)
  pub spare : ℕ

-- the new results have this one, and are else the old ones
pub record Puts (old new : List (Triple × ℕ)) (f g h : ℕ) (node : ℕ) : Type 0 where
  pub here : found new f g h ≡ Some node
  pub others : (a b c : ℕ) → (a ≢ f) ⊎ ((b ≢ g) ⊎ (c ≢ h)) → found new a b c ≡ found old a b c

-- both lists have the same results
abbrev pub SameFound : List (Triple × ℕ) → List (Triple × ℕ) → Type 0
SameFound old new = (f g h : ℕ) → found new f g h ≡ found old f g h
