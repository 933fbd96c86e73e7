-- A gate with further controls: its kind's matrix where all of them are 1, and elsewhere the entry beside it.
use Rattle.std.proofs.Common.{◌≡◌, ◌≢◌, ◌⊎◌, inl, inr, ℕ, zero, suc, ◌+◌, ◌*◌, ◌^◌, ◌<◌, refl, sym, ◌∙◌, ap, subst, Bool, true, false, cond, ◌&&◌, List, [], ◌∷◌, ◌++◌, map, length, get_or, set, length-append, arith}
use Rattle.std.proofs.Math.Path.{ap₂}
use Rattle.std.proofs.lemmas.List.{set-get_or}
use Rattle.ring_omega.specs.declared.quad.Quad.{Quad}
use Rattle.ring_omega.specs.Ring.{zero_quad, sum_of}
use Rattle.ring_omega.proofs.RingLaws.{sum_of-zero, zero-sum_of, sum_of-assoc}
use Rattle.bit_lists.specs.Lists.{all_lists, place_of, bits_at, with_bits}
use Rattle.bit_lists.proofs.Places.{place_of-below}
use Rattle.bit_lists.proofs.OrderLemmas.{same_place}
use Rattle.gate_set.specs.declared.entry.Entry.{Entry}
use Rattle.gate_set.specs.declared.entry.Entry.TheVariants.{Zero}
use Rattle.gate_set.specs.declared.gate.Gate.{Gate}
use Rattle.gate_set.specs.declared.kind.Kind.{Kind}
use Rattle.gate_set.specs.Matrix.{arity_of, entry_of, beside, controlled_entry, times_entry}
use Rattle.gate_set.specs.Shape.{qubits_of, gate_entry}
use Rattle.gate_set.proofs.ControlledLemmas.{side_of, entry-none, entry-one, entry-diagonal, entry-beside}
use Rattle.circuit_model.specs.Product.{sum_over, entries_product, applied}
use Rattle.circuit_model.specs.Vector.{all_set}
use Rattle.circuit_model.proofs.SumLemmas.{sum_over-same, length-bits_at}

-- ---- sums over all lists
sum_over-append : (xs ys : List (List Bool)) (f : List Bool → Quad) → sum_over (xs ++ ys) f ≡ sum_of (sum_over xs f) (sum_over ys f)
sum_over-append [] ys f = sym (zero-sum_of (sum_over ys f))
sum_over-append (x ∷ xs) ys f = ap (sum_of (f x)) (sum_over-append xs ys f) ∙ sym (sum_of-assoc (f x) (sum_over xs f) (sum_over ys f))

sum_over-map : (b : Bool) (xs : List (List Bool)) (f : List Bool → Quad) → sum_over (map (λ y. b ∷ y) xs) f ≡ sum_over xs (λ y. f (b ∷ y))
sum_over-map b [] f = refl
sum_over-map b (x ∷ xs) f = ap (sum_of (f (b ∷ x))) (sum_over-map b xs f)

-- by the first bit
pub sum_halves : (n : ℕ) (f : List Bool → Quad) → sum_over (all_lists (suc n)) f ≡ sum_of (sum_over (all_lists n) (λ y. f (false ∷ y))) (sum_over (all_lists n) (λ y. f (true ∷ y)))
sum_halves n f =
    sum_over-append (map (λ y. false ∷ y) (all_lists n)) (map (λ y. true ∷ y) (all_lists n)) f
    ∙ ap₂ sum_of (sum_over-map false (all_lists n) f) (sum_over-map true (all_lists n) f)

pub sum_none : (n : ℕ) (f : List Bool → Quad) → ((y : List Bool) → length y ≡ n → f y ≡ zero_quad) → sum_over (all_lists n) f ≡ zero_quad
sum_none zero f h = sum_of-zero (f []) ∙ h [] refl
sum_none (suc n) f h =
    sum_halves n f
    ∙ ap₂ sum_of (sum_none n (λ y. f (false ∷ y)) (λ y len. h (false ∷ y) (ap suc len))) (sum_none n (λ y. f (true ∷ y)) (λ y len. h (true ∷ y) (ap suc len)))
    ∙ sum_of-zero zero_quad

pub sum_within : (n : ℕ) (f g : List Bool → Quad) → ((y : List Bool) → length y ≡ n → f y ≡ g y) → sum_over (all_lists n) f ≡ sum_over (all_lists n) g
sum_within zero f g h = ap (λ q. sum_of q zero_quad) (h [] refl)
sum_within (suc n) f g h =
    sum_halves n f
    ∙ ap₂ sum_of (sum_within n (λ y. f (false ∷ y)) (λ y. g (false ∷ y)) (λ y len. h (false ∷ y) (ap suc len))) (sum_within n (λ y. f (true ∷ y)) (λ y. g (true ∷ y)) (λ y len. h (true ∷ y) (ap suc len)))
    ∙ sym (sum_halves n g)

rest_of : {b c : Bool} {x y : List Bool} → (b ∷ x) ≡ (c ∷ y) → x ≡ y
rest_of e = cc

other_first : {x y : List Bool} → (true ∷ x) ≢ (false ∷ y)
other_first e = cc

first_other : {x y : List Bool} → (false ∷ x) ≢ (true ∷ y)
first_other e = cc

pub sum_only : (n : ℕ) (r : List Bool) (f : List Bool → Quad) → length r ≡ n → ((y : List Bool) → length y ≡ n → y ≢ r → f y ≡ zero_quad) → sum_over (all_lists n) f ≡ f r
sum_only zero [] f len h = sum_of-zero (f [])
sum_only zero (b ∷ r) f len h = absurd (omega (arith, len))
sum_only (suc n) [] f len h = absurd (omega (arith, len))
sum_only (suc n) (false ∷ r) f len h =
    sum_halves n f
    ∙ ap₂ sum_of (sum_only n r (λ y. f (false ∷ y)) (omega (arith, len)) (λ y long ne. h (false ∷ y) (ap suc long) (λ e. ne (rest_of e))))
    (sum_none n (λ y. f (true ∷ y)) (λ y long. h (true ∷ y) (ap suc long) other_first))
    ∙ sum_of-zero (f (false ∷ r))
sum_only (suc n) (true ∷ r) f len h =
    sum_halves n f
    ∙ ap₂ sum_of (sum_none n (λ y. f (false ∷ y)) (λ y long. h (false ∷ y) (ap suc long) first_other))
    (sum_only n r (λ y. f (true ∷ y)) (omega (arith, len)) (λ y long ne. h (true ∷ y) (ap suc long) (λ e. ne (rest_of e))))
    ∙ zero-sum_of (f (true ∷ r))

-- ---- a matrix with one control more
abbrev pub Entries : Type 0
Entries = ℕ → ℕ → Entry

-- f is e with one control before its n qubits, and b on the diagonal where it is 0
pub record IsLifted (n : ℕ) (b : Entry) (e f : Entries) : Type 0 where
  pub one : (r c : ℕ) → f (2 ^ n + r) (2 ^ n + c) ≡ e r c
  pub diagonal : (r : ℕ) → r < 2 ^ n → f r r ≡ b
  pub others : (r c : ℕ) → (r < 2 ^ n) ⊎ (c < 2 ^ n) → r ≢ c → f r c ≡ Zero

-- transposed
pub turned_lift : (n : ℕ) (b : Entry) (e f : Entries) → IsLifted n b e f → IsLifted n b (λ r c. e c r) (λ r c. f c r)
turned_lift n b e f h = record { one = λ r c. h.one c r; diagonal = h.diagonal; others = λ r c low ne. h.others c r (swapped r c low) (λ at. ne (sym at)) }
  where
    swapped : (r c : ℕ) → (r < 2 ^ n) ⊎ (c < 2 ^ n) → (c < 2 ^ n) ⊎ (r < 2 ^ n)
    swapped r c (inl a) = inr a
    swapped r c (inr a) = inl a

place-false : (y : List Bool) → place_of (false ∷ y) ≡ place_of y
place-false y = omega arith

place-true : (y : List Bool) → place_of (true ∷ y) ≡ 2 ^ length y + place_of y
place-true y = omega arith

no_term : (a : Entry) (q : Quad) → a ≡ Zero → times_entry a q ≡ zero_quad
no_term a q is = ap (λ b. times_entry b q) is

pub with_own_bits : (x : List Bool) (qs : List ℕ) → with_bits x qs (bits_at x qs) ≡ x
with_own_bits x [] = refl
with_own_bits x (q ∷ qs) =
    let own : set x q (get_or x q false) ≡ x = set-get_or x q false in
    ap (λ z. with_bits z qs (bits_at x qs)) own ∙ with_own_bits x qs

module _ (n : ℕ) (b : Entry) (e f : Entries) (h : IsLifted n b e f) (r : List Bool) (len : length r ≡ n) (u : List Bool → Quad) where
  below : (y : List Bool) → length y ≡ n → place_of y < 2 ^ n
  below y long = subst (λ m. place_of y < 2 ^ m) long (place_of-below y)

  row_clear : sum_over (all_lists (suc n)) (λ y. times_entry (f (place_of (false ∷ r)) (place_of y)) (u y)) ≡ times_entry b (u (false ∷ r))
  row_clear =
      let at : place_of (false ∷ r) ≡ place_of r = place-false r in
      let low : place_of (false ∷ r) < 2 ^ n = subst (λ k. k < 2 ^ n) (sym at) (below r len) in
      sum_only (suc n) (false ∷ r) (λ y. times_entry (f (place_of (false ∷ r)) (place_of y)) (u y)) (ap suc len)
      (λ y long ne. no_term (f (place_of (false ∷ r)) (place_of y)) (u y) (h.others (place_of (false ∷ r)) (place_of y) (inl low) (λ same. ne (sym (same_place (false ∷ r) y (ap suc len ∙ sym long) same)))))
      ∙ ap (λ a. times_entry a (u (false ∷ r))) (h.diagonal (place_of (false ∷ r)) low)

  row_set : sum_over (all_lists (suc n)) (λ y. times_entry (f (place_of (true ∷ r)) (place_of y)) (u y)) ≡ sum_over (all_lists n) (λ y. times_entry (e (place_of r) (place_of y)) (u (true ∷ y)))
  row_set =
      let at : place_of (true ∷ r) ≡ 2 ^ n + place_of r = place-true r ∙ ap (λ m. 2 ^ m + place_of r) len in
      sum_halves n (λ y. times_entry (f (place_of (true ∷ r)) (place_of y)) (u y))
      ∙ ap₂ sum_of
      (sum_none n (λ y. times_entry (f (place_of (true ∷ r)) (place_of (false ∷ y))) (u (false ∷ y)))
      (λ y long.
      let low : place_of (false ∷ y) < 2 ^ n = subst (λ k. k < 2 ^ n) (sym (place-false y)) (below y long) in
      no_term (f (place_of (true ∷ r)) (place_of (false ∷ y))) (u (false ∷ y)) (h.others (place_of (true ∷ r)) (place_of (false ∷ y)) (inr low) (λ same. omega (arith, same, at, low)))))
      (sum_within n (λ y. times_entry (f (place_of (true ∷ r)) (place_of (true ∷ y))) (u (true ∷ y))) (λ y. times_entry (e (place_of r) (place_of y)) (u (true ∷ y)))
      (λ y long.
      let there : place_of (true ∷ y) ≡ 2 ^ n + place_of y = place-true y ∙ ap (λ m. 2 ^ m + place_of y) long in
      ap (λ a. times_entry a (u (true ∷ y))) (ap₂ f at there ∙ h.one (place_of r) (place_of y))))
      ∙ zero-sum_of (sum_over (all_lists n) (λ y. times_entry (e (place_of r) (place_of y)) (u (true ∷ y))))

-- where the control is 1 it is the matrix, and elsewhere the entry beside it
pub lifted_product : (b : Entry) (e f : Entries) (c : ℕ) (qs : List ℕ) (v : List Bool → Quad) (x : List Bool) → IsLifted (length qs) b e f
    → entries_product f (c ∷ qs) v x ≡ cond (get_or x c false) (entries_product e qs v x) (times_entry b (v x))
lifted_product b e f c qs v x h = by (get_or x c false) refl
  where
    r : List Bool
    r = bits_at x qs

    term : Bool → List Bool → Quad
    term p y = times_entry (f (place_of (p ∷ bits_at x qs)) (place_of y)) (v (with_bits x (c ∷ qs) y))

    own : (p : Bool) → get_or x c false ≡ p → set x c p ≡ x
    own p is = ap (set x c) (sym is) ∙ set-get_or x c false

    by : (p : Bool) → get_or x c false ≡ p → sum_over (all_lists (suc (length qs))) (λ y. times_entry (f (place_of (p ∷ bits_at x qs)) (place_of y)) (v (with_bits x (c ∷ qs) y))) ≡ cond p (entries_product e qs v x) (times_entry b (v x))
    by true is =
        row_set (length qs) b e f h (bits_at x qs) (length-bits_at x qs) (λ y. v (with_bits x (c ∷ qs) y))
        ∙ sum_over-same (all_lists (length qs)) _ _ (λ y. ap (λ z. times_entry (e (place_of (bits_at x qs)) (place_of y)) (v (with_bits z qs y))) (own true is))
    by false is =
        row_clear (length qs) b e f h (bits_at x qs) (length-bits_at x qs) (λ y. v (with_bits x (c ∷ qs) y))
        ∙ ap (λ z. times_entry b (v (with_bits z qs (bits_at x qs)))) (own false is)
        ∙ ap (λ z. times_entry b (v z)) (with_own_bits x qs)

-- ---- all further controls
lift : (n e : ℕ) (k : Kind) → n ≡ e + arity_of k → IsLifted n (beside k) (controlled_entry e k) (controlled_entry (suc e) k)
lift n e k at = record {
  one = λ r c. ap₂ (controlled_entry (suc e) k) (ap (λ m. 2 ^ m + r) at) (ap (λ m. 2 ^ m + c) at) ∙ entry-one e k r c;
  diagonal = λ r low. entry-diagonal e k r (subst (λ m. r < 2 ^ m) at low);
  others = λ r c low ne. entry-beside e k r c (moved r c low) ne;
}
  where
    moved : (r c : ℕ) → (r < 2 ^ n) ⊎ (c < 2 ^ n) → (r < side_of e k) ⊎ (c < side_of e k)
    moved r c (inl low) = inl (subst (λ m. r < 2 ^ m) at low)
    moved r c (inr low) = inr (subst (λ m. c < 2 ^ m) at low)

joined : (p q : Bool) (a b : Quad) → cond p (cond q a b) b ≡ cond (p && q) a b
joined true q a b = refl
joined false q a b = refl

pub controlled_product : (k : Kind) (cs on : List ℕ) (v : List Bool → Quad) (x : List Bool) → length on ≡ arity_of k
    → entries_product (controlled_entry (length cs) k) (cs ++ on) v x ≡ cond (all_set x cs) (entries_product (entry_of k) on v x) (times_entry (beside k) (v x))
controlled_product k [] on v x count = sum_over-same (all_lists (length on)) _ _ (λ y. ap (λ a. times_entry a (v (with_bits x on y))) (entry-none k (place_of (bits_at x on)) (place_of y)))
controlled_product k (c ∷ cs) on v x count =
    lifted_product (beside k) (controlled_entry (length cs) k) (controlled_entry (suc (length cs)) k) c (cs ++ on) v x (lift (length (cs ++ on)) (length cs) k (length-append cs on ∙ ap (λ n. length cs + n) count))
    ∙ ap (λ a. cond (get_or x c false) a (times_entry (beside k) (v x))) (controlled_product k cs on v x count)
    ∙ joined (get_or x c false) (all_set x cs) (entries_product (entry_of k) on v x) (times_entry (beside k) (v x))

-- transposed
pub controlled_turned : (k : Kind) (cs on : List ℕ) (v : List Bool → Quad) (x : List Bool) → length on ≡ arity_of k
    → entries_product (λ r c. controlled_entry (length cs) k c r) (cs ++ on) v x ≡ cond (all_set x cs) (entries_product (λ r c. entry_of k c r) on v x) (times_entry (beside k) (v x))
controlled_turned k [] on v x count = sum_over-same (all_lists (length on)) _ _ (λ y. ap (λ a. times_entry a (v (with_bits x on y))) (entry-none k (place_of y) (place_of (bits_at x on))))
controlled_turned k (c ∷ cs) on v x count =
    lifted_product (beside k) (λ r s. controlled_entry (length cs) k s r) (λ r s. controlled_entry (suc (length cs)) k s r) c (cs ++ on) v x
    (turned_lift (length (cs ++ on)) (beside k) (controlled_entry (length cs) k) (controlled_entry (suc (length cs)) k) (lift (length (cs ++ on)) (length cs) k (length-append cs on ∙ ap (λ n. length cs + n) count)))
    ∙ ap (λ a. cond (get_or x c false) a (times_entry (beside k) (v x))) (controlled_turned k cs on v x count)
    ∙ joined (get_or x c false) (all_set x cs) (entries_product (λ r s. entry_of k s r) on v x) (times_entry (beside k) (v x))

-- a gate, by its kind's matrix
pub applied-controlled : (g : Gate) (v : List Bool → Quad) (x : List Bool) → length g.on ≡ arity_of g.kind
    → applied g v x ≡ cond (all_set x g.extra) (entries_product (entry_of g.kind) g.on v x) (times_entry (beside g.kind) (v x))
unfolding applied
applied-controlled g v x count = controlled_product g.kind g.extra g.on v x count
