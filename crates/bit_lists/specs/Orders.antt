-- Orders of variables, top first.
use Rattle.std.specs.Prelude.{◌≡◌, ℕ, zero, suc, ◌<◌, Bool, true, false, cond, ◌==◌, List, [], ◌∷◌, length}

-- whether v is in the list
unfoldable pub has : List ℕ → ℕ → Bool
has [] v = false
has (w ∷ ws) v = cond (w == v) true (has ws v)

-- the variables below v in the order
unfoldable pub after : List ℕ → ℕ → List ℕ
after [] v = []
after (w ∷ ws) v = cond (w == v) ws (after ws v)

-- each variable stands once, and is below k
abbrev pub AreVars : ℕ → List ℕ → Type 0
AreVars k [] = Unit {0}
AreVars k (v ∷ vs) = (v < k) × (has vs v ≡ false) × AreVars k vs

-- the numbers below the length, each once
pub record IsOrder (order : List ℕ) : Type 0 where
  pub once : AreVars (length order) order
  pub all : (v : ℕ) → v < length order → has order v ≡ true

-- the place of v in the order, the first one from 0 on
unfoldable pub place_in : List ℕ → ℕ → ℕ
place_in [] v = 0
place_in (w ∷ ws) v = cond (w == v) 0 (suc (place_in ws v))

-- the order once the variables at a place and at the next one are exchanged
abbrev pub exchanged : List ℕ → ℕ → List ℕ
exchanged (u ∷ v ∷ vs) zero = v ∷ u ∷ vs
exchanged (u ∷ vs) (suc place) = u ∷ exchanged vs place
exchanged vs place = vs
