-- How many nodes a list of functions needs in an order.
use Rattle.std.specs.Prelude.{ℕ, ◌+◌, Bool, true, false, not, cond, ◌&&◌, List, [], ◌∷◌, map, filter}
use Rattle.std.specs.Set.{distinct_count}
use Rattle.bit_lists.specs.Lists.{all_lists}
use Rattle.diagram_model.specs.Functions.{Function, fix, bit}

-- f as the list of its 2^k truth values
unfoldable pub truths : ℕ → Function → List Bool
truths k f = map (λ x. f (bit x)) (all_lists k)

abbrev pub same_bool : Bool → Bool → Bool
same_bool a b = cond a b (not b)

-- whether two truth lists are the same
unfoldable pub same_truths : List Bool → List Bool → Bool
same_truths [] [] = true
same_truths (a ∷ ts) (b ∷ us) = same_bool a b && same_truths ts us
same_truths [] (b ∷ us) = false
same_truths (a ∷ ts) [] = false

-- whether f depends on v
abbrev pub depends : ℕ → ℕ → Function → Bool
depends k v f = not (same_truths (truths k (fix v false f)) (truths k (fix v true f)))

-- the functions with v fixed each way
unfoldable pub fix_both : ℕ → List Function → List Function
fix_both v [] = []
fix_both v (f ∷ fs) = fix v false f ∷ fix v true f ∷ fix_both v fs

-- how many different functions of the list depend on v
abbrev pub level_size : ℕ → ℕ → List Function → ℕ
level_size k v fs = distinct_count same_truths (map (truths k) (filter (depends k v) fs))

-- how many different functions of k variables arise by fixing the variables of a prefix of the order,
-- and depend on the next variable (Bryant's count of the nodes of a reduced diagram)
unfoldable pub size : ℕ → List ℕ → List Function → ℕ
size k [] fs = 0
size k (v ∷ vs) fs = level_size k v fs + size k vs (fix_both v fs)
