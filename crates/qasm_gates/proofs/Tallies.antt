-- Counts of gates: of one call after another, and up to the most that are told apart.
use Rattle.std.proofs.Common.{◌≡◌, ◌∙◌, sym, ap, refl, ℕ, ◌+◌, min, List, [], ◌∷◌, ◌++◌, map, Option, Some, None, Ok, Err, arith}
use Rattle.std.specs.Result.{result_map_both}
use Rattle.qasm_gates.specs.Gates.{Basic, Meaning, call_on}
use Rattle.qasm_gates.specs.Bodies.{joined}
use Rattle.qasm_gates.specs.Private.Counts.{Tally, both_counts, gate_count, count_of, tally, added, many, capped}

min_twice : (m n k : ℕ) → min (min m k + min n k) k ≡ min (m + n) k
min_twice m n k = omega (arith, min)

-- counts up to the most are told as well from counts up to it
pub capped_added : (a b : Tally) → capped (added (capped a) (capped b)) ≡ capped (added a b)
capped_added (Err e) b = refl
capped_added (Ok m) (Err e) = refl
capped_added (Ok (Some m)) (Ok (Some n)) = ap (λ k. Ok (Some k)) (min_twice m n many)
capped_added (Ok (Some m)) (Ok None) = refl
capped_added (Ok None) (Ok n) = refl

min_once : (m k : ℕ) → min (min m k) k ≡ min m k
min_once m k = omega (arith, min)

pub capped_once : (a : Tally) → capped (capped a) ≡ capped a
capped_once (Err e) = refl
capped_once (Ok (Some m)) = ap (λ k. Ok (Some k)) (min_once m many)
capped_once (Ok None) = refl

counts_assoc : (a b c : Option ℕ) → both_counts (both_counts a b) c ≡ both_counts a (both_counts b c)
counts_assoc (Some a) (Some b) (Some c) = ap Some (omega arith)
counts_assoc (Some a) (Some b) None = refl
counts_assoc (Some a) None c = refl
counts_assoc None b c = refl

pub added_assoc : (a b c : Tally) → added (added a b) c ≡ added a (added b c)
added_assoc (Err e) b c = refl
added_assoc (Ok a) (Err e) c = refl
added_assoc (Ok a) (Ok b) (Err e) = refl
added_assoc (Ok a) (Ok b) (Ok c) = ap Ok (counts_assoc a b c)

nothing_first : (n : Option ℕ) → both_counts (Some 0) n ≡ n
nothing_first None = refl
nothing_first (Some n) = ap Some (omega arith)

nothing_last : (n : Option ℕ) → both_counts n (Some 0) ≡ n
nothing_last None = refl
nothing_last (Some n) = ap Some (omega arith)

pub added_last : (a : Tally) → added a (Ok (Some 0)) ≡ a
added_last (Err e) = refl
added_last (Ok n) = ap Ok (nothing_last n)

pub added_first : (a : Tally) → added (Ok (Some 0)) a ≡ a
added_first (Err e) = refl
added_first (Ok n) = ap Ok (nothing_first n)

count_append : (xs ys : List Basic) → count_of (xs ++ ys) ≡ both_counts (count_of xs) (count_of ys)
count_append [] ys = sym (nothing_first (count_of ys))
count_append (x ∷ xs) ys = ap (both_counts (gate_count x.gate x.angles)) (count_append xs ys) ∙ sym (counts_assoc (gate_count x.gate x.angles) (count_of xs) (count_of ys))

-- one meaning after the other has the counts of both
pub tally_joined : (a b : Meaning) → tally (joined a b) ≡ added (tally a) (tally b)
tally_joined (Err e) b = refl
tally_joined (Ok xs) (Err e) = refl
tally_joined (Ok xs) (Ok ys) = ap Ok (count_append xs ys)

count_on : (on : List ℕ) (xs : List Basic) → count_of (map (call_on on) xs) ≡ count_of xs
count_on on [] = refl
count_on on (x ∷ xs) = ap (both_counts (gate_count x.gate x.angles)) (count_on on xs)

-- other arguments change no count
pub tally_on : (on : List ℕ) (m : Meaning) → tally (result_map_both (map (call_on on)) (λ e. e) m) ≡ tally m
tally_on on (Ok xs) = ap Ok (count_on on xs)
tally_on on (Err e) = refl
