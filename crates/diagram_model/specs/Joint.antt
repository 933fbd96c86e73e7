-- How many triples of functions arise from three functions in an order.
use Rattle.std.specs.Prelude.{◌≡◌, ◌⊎◌, ℕ, ◌+◌, Bool, true, false, ◌||◌, List, [], ◌∷◌, ◌++◌, map, filter}
use Rattle.std.specs.Set.{distinct_count}
use Rattle.diagram_model.specs.Functions.{Function, fix}
use Rattle.diagram_model.specs.Size.{truths, same_truths, depends}

-- three functions
pub record Trio : Type 0 where
  pub f : Function
  pub g : Function
  pub h : Function

-- the truth values of the three, one list after the other
unfoldable pub trio_truths : ℕ → Trio → List Bool
trio_truths k t = truths k t.f ++ (truths k t.g ++ truths k t.h)

-- whether one of the three depends on v
abbrev pub one_depends : ℕ → ℕ → Trio → Bool
one_depends k v t = depends k v t.f || (depends k v t.g || depends k v t.h)

-- the three with v fixed to b
abbrev pub fix_trio : ℕ → Bool → Trio → Trio
fix_trio v b t = record { f = fix v b t.f; g = fix v b t.g; h = fix v b t.h }

-- the triples with v fixed each way
unfoldable pub fix_trios : ℕ → List Trio → List Trio
fix_trios v [] = []
fix_trios v (t ∷ ts) = fix_trio v false t ∷ fix_trio v true t ∷ fix_trios v ts

-- how many different triples of the list have one that depends on v
abbrev pub trio_level : ℕ → ℕ → List Trio → ℕ
trio_level k v ts = distinct_count same_truths (map (trio_truths k) (filter (one_depends k v) ts))

-- how many different triples arise by fixing the variables of a prefix of the order in all three, and
-- have one that depends on the next variable
unfoldable pub joint_size : ℕ → List ℕ → List Trio → ℕ
joint_size k [] ts = 0
joint_size k (v ∷ vs) ts = trio_level k v ts + joint_size k vs (fix_trios v ts)

-- u is t with the variables of a prefix of the order fixed, and one of its three depends on the next one
abbrev pub IsTrioFrom : ℕ → List ℕ → Trio → Trio → Type 0
IsTrioFrom k [] t u = ⊥
IsTrioFrom k (v ∷ vs) t u = ((u ≡ t) × (one_depends k v u ≡ true)) ⊎ ((b : Bool) × IsTrioFrom k vs (fix_trio v b t) u)

-- l has the truth values of a triple that arises from t and has one that depends on the next variable
pub record IsCountedTrio (k : ℕ) (order : List ℕ) (t : Trio) (l : List Bool) : Type 0 where
  pub trio : Trio
  pub counted : IsTrioFrom k order t trio
  pub is : l ≡ trio_truths k trio
