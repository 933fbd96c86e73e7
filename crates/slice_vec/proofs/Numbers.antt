-- Nodes by their numbers.
use Rattle.std.proofs.Common.{◌≡◌, ℕ, zero, suc, List, [], ◌∷◌, map, take, drop, replicate, refl, ap}
use Rattle.node_store.specs.declared.node.Node.{Node}

abbrev pub numbers : List Node → List ℕ
numbers ns = map (λ n. n.0) ns

pub numbers_of : (k : ℕ) (n : Node) → numbers (replicate k n) ≡ replicate k n.0
numbers_of zero n = refl
numbers_of (suc k) n = ap (λ l. n.0 ∷ l) (numbers_of k n)

pub numbers_take : (k : ℕ) (ns : List Node) → numbers (take k ns) ≡ take k (numbers ns)
numbers_take zero ns = refl
numbers_take (suc k) [] = refl
numbers_take (suc k) (n ∷ ns) = ap (λ l. n.0 ∷ l) (numbers_take k ns)

pub numbers_drop : (ns : List Node) → numbers (drop 1 ns) ≡ drop 1 (numbers ns)
numbers_drop [] = refl
numbers_drop (n ∷ ns) = refl
