-- Tests of lists, and what they decide.
use Rattle.std.proofs.Common.{◌≡◌, ◌≢◌, ◌∙◌, sym, ap, refl, ℕ, zero, suc, Bool, true, false, ◌||◌, ◌&&◌, not, nat_eq, get_or, List, [], ◌∷◌, All, AllPairs, arith}
use Rattle.std.specs.Bool.{Decides}
use Rattle.std.specs.List.{list_any, AllByRecursion}
use Rattle.std.specs.Str.{bytes_eq}
use Rattle.std.proofs.lemmas.Bool.{eqb-true, eq-eqb, not-true, not-false, or_parts}
use Rattle.std.proofs.lemmas.Bool.Decides.{Decides-eqb, Decides-not, Decides-at, Decides-and, Decides-by_and}
use Rattle.std.proofs.lemmas.Slice.Eq.{bytes_eq-Decides}
use Rattle.std.proofs.lemmas.List.Elements.{All-cons}
use Rattle.std.proofs.lemmas.List.Kept.{AllPairs-cons}
use Rattle.qasm_forms.specs.Statements.{Line, fence, calls}
use Rattle.qasm_reader.specs.Acts.{is_among}
use Rattle.qasm_reader.specs.Reasons.{OnceEach}
use Rattle.qasm_reader.specs.Private.Scope.{other_than, differ, has_twice, named_twice, line_repeats}

-- pairs of a list
pub pairs_none : {X : Type 0} (R : X → X → Type 0) → AllPairs R []
pairs_none R i j d h k = absurd (omega arith)

pairs_head : {X : Type 0} (R : X → X → Type 0) (x : X) (xs : List X) → AllPairs R (x ∷ xs) → All (R x) xs
pairs_head R x xs h k d l = h zero (suc k) d (omega arith) (omega arith)

pairs_tail : {X : Type 0} (R : X → X → Type 0) (x : X) (xs : List X) → AllPairs R (x ∷ xs) → AllPairs R xs
pairs_tail R x xs h i j d l k = h (suc i) (suc j) d (omega arith) (omega arith)

-- a test that is false where a fact holds decides its opposite
pub opposite_decides : (b : Bool) (P : Type 0) → Decides (not b) P → Decides b (P → ⊥)
opposite_decides true P d = (λ e p. (let q : false ≡ true = d.1 p in cc), λ n. refl)
opposite_decides false P d = (λ e. absurd cc, λ n. absurd (n (d.0 refl)))

not_or : (a b : Bool) → not (a || b) ≡ not a && not b
not_or true b = refl
not_or false b = refl

pub none_decides : {X : Type 0} (P : X → Type 0) (test : X → Bool) → ((x : X) → Decides (not (test x)) (P x)) → (xs : List X) → Decides (not (list_any test xs)) (All P xs)
none_decides P test d xs = Decides-by_and (λ x. not (test x)) P (λ xs. not (list_any test xs)) d refl (λ x xs. not_or (test x) (list_any test xs)) xs

-- sizes that are all equal
each_same : (n : ℕ) (sizes : List ℕ) → list_any (other_than n) sizes ≡ false → AllByRecursion (λ m. m ≡ n) sizes
each_same n [] e = tt
each_same n (m ∷ sizes) e =
    let q = or_parts (not (nat_eq m n)) (list_any (other_than n) sizes) e in
    (eqb-true m n (not-false (nat_eq m n) q.0), each_same n sizes q.1)

pub same_places : (sizes : List ℕ) → differ sizes ≡ false → AllByRecursion (λ m. m ≡ get_or sizes 0 1) sizes
same_places [] e = tt
same_places (n ∷ sizes) e = (refl, each_same n sizes e)

pub equal_decides : (sizes : List ℕ) → Decides (not (differ sizes)) (AllPairs (λ i j. i ≡ j) sizes)
equal_decides [] = (λ e. pairs_none (λ i j. i ≡ j), λ h. refl)
equal_decides (n ∷ sizes) = (λ e i j d lt l. (let a = All-cons (λ m. n ≡ m) n sizes refl (same.0 e) in sym (a i d (omega arith)) ∙ a j d l), λ h. same.1 (pairs_head (λ i j. i ≡ j) n sizes h))
  where
    same : Decides (not (differ (n ∷ sizes))) (All (λ m. n ≡ m) sizes)
    same = none_decides (λ m. n ≡ m) (other_than n) (λ m. (λ e. sym (eqb-true m n (not-false _ (not-true _ e))), λ h. ap (λ b. not (not b)) (eq-eqb m n (sym h)))) sizes

-- qubits that are different
pub among_decides : (q : ℕ) (qs : List ℕ) → Decides (not (is_among qs q)) (All (λ p. q ≢ p) qs)
among_decides q qs = none_decides (λ p. q ≢ p) (nat_eq q) (λ p. Decides-not (nat_eq q p) (Decides-eqb q p)) qs

pub twice_decides : (qs : List ℕ) → Decides (not (has_twice qs)) (AllPairs (λ p q. p ≢ q) qs)
twice_decides [] = (λ e. pairs_none (λ p q. p ≢ q), λ h. refl)
twice_decides (q ∷ qs) =
    let d = Decides-at _ _ (not_or (is_among qs q) (has_twice qs)) (Decides-and (not (is_among qs q)) (not (has_twice qs)) (among_decides q qs) (twice_decides qs)) in
    (λ e. (let p = d.0 e in AllPairs-cons (λ p q. p ≢ q) q qs p.0 p.1), λ h. d.1 (pairs_head (λ p q. p ≢ q) q qs h, pairs_tail (λ p q. p ≢ q) q qs h))

pub different : (qs : List ℕ) → has_twice qs ≡ false → AllPairs (λ p q. p ≢ q) qs
different qs e = (twice_decides qs).0 (ap not e)

-- names that are different
name_decides : (n : List ℕ) (ns : List (List ℕ)) → Decides (not (list_any (bytes_eq n) ns)) (All (λ p. n ≢ p) ns)
name_decides n ns = none_decides (λ p. n ≢ p) (bytes_eq n) (λ p. Decides-not (bytes_eq n p) (bytes_eq-Decides n p)) ns

pub names_decide : (ns : List (List ℕ)) → Decides (not (named_twice ns)) (AllPairs (λ p q. p ≢ q) ns)
names_decide [] = (λ e. pairs_none (λ p q. p ≢ q), λ h. refl)
names_decide (n ∷ ns) =
    let d = Decides-at _ _ (not_or (list_any (bytes_eq n) ns) (named_twice ns)) (Decides-and (not (list_any (bytes_eq n) ns)) (not (named_twice ns)) (name_decides n ns) (names_decide ns)) in
    (λ e. (let p = d.0 e in AllPairs-cons (λ p q. p ≢ q) n ns p.0 p.1), λ h. d.1 (pairs_head (λ p q. p ≢ q) n ns h, pairs_tail (λ p q. p ≢ q) n ns h))

-- lines that have no name twice
line_decides : (l : Line) → Decides (not (line_repeats l)) (OnceEach l)
line_decides (fence on) = (λ e. tt, λ h. refl)
line_decides (calls name angles on) = names_decide on

pub lines_decide : (lines : List Line) → Decides (not (list_any line_repeats lines)) (All (λ l. OnceEach l) lines)
lines_decide lines = none_decides (λ l. OnceEach l) line_repeats line_decides lines
