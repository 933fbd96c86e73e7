-- Lists of lines, and the outputs of vectors with the same values.
use Rattle.std.proofs.Common.{◌≡◌, ℕ, suc, ◌+◌, ◌<◌, refl, sym, ◌∙◌, ap, Bool, not, cond, List, [], ◌∷◌, ◌++◌, length, get_or, take, arith, append-nil, Result, Ok, Err, OnErr}
use Rattle.std.proofs.Math.Path.{ap₂}
use Rattle.std.specs.List.{flat_map, fold}
use Rattle.std.proofs.lemmas.List.{take_more}
use Rattle.std.proofs.lemmas.Grind.{flat_map-append}
use Rattle.std.proofs.lemmas.List.Concat.{flat_map-cons}
use Rattle.std.proofs.lemmas.Bool.Decides.{same_from_decides}
use Rattle.ring_omega.specs.declared.quad.Quad.{Quad}
use Rattle.ring_omega.specs.Ring.{is_zero, zero_quad, times_power, root_of_two}
use Rattle.ring_omega.specs.Value.{SameValue}
use Rattle.ring_omega.specs.Lowest.{lowest_form}
use Rattle.ring_omega.proofs.RingLemmas.{Decides-is_zero}
use Rattle.ring_omega.proofs.LowestLemmas.{times_power-root_cancel, times_power-times_power, times_power-zero_quad}
use Rattle.ring_omega.proofs.LowestFormLemmas.{lowest_form-is, lowest_form-from_lowest}
use Rattle.bit_lists.specs.Lists.{all_lists}
use Rattle.bit_lists.proofs.Places.{listed, length-all_lists}
use Rattle.circuit_model.specs.Working.{scaled}
use Rattle.amp_printer.specs.declared.counted.Counted.TheVariants.{Qubits, States}
use Rattle.amp_printer.specs.Texts.{state_line, count_line}
use Rattle.outputs.specs.Listing.{listing_of, number_listed, has_no_entry, entry_line, vector_output}

pub on_err : {T E : Type 0} (r : Result T E) (P : Type 0) → P → OnErr r P
on_err (Ok x) P p = tt
on_err (Err e) P p = p

-- ---- lists of lines
pub flat_map-take_more : {X : Type 0} (f : X → List ℕ) (xs : List X) (i : ℕ) (d : X) → i < length xs → flat_map f (take (i + 1) xs) ≡ flat_map f (take i xs) ++ f (get_or xs i d)
flat_map-take_more f xs i d lt =
    ap (flat_map f) (take_more xs i d lt) ∙ flat_map-append f (take i xs) (get_or xs i d ∷ []) ∙ ap (λ t. flat_map f (take i xs) ++ t) (append-nil (f (get_or xs i d)))

flat_map-same : {X : Type 0} (f g : X → List ℕ) (xs : List X) (d : X) → ((i : ℕ) → i < length xs → f (get_or xs i d) ≡ g (get_or xs i d)) → flat_map f xs ≡ flat_map g xs
flat_map-same f g [] d h = refl
flat_map-same f g (x ∷ xs) d h =
    flat_map-cons f x xs ∙ ap₂ (λ a b. a ++ b) (h 0 (omega arith)) (flat_map-same f g xs d (λ i lt. h (suc i) (omega arith))) ∙ sym (flat_map-cons g x xs)

sum_by-same : {X : Type 0} (f g : X → ℕ) (xs : List X) (d : X) (n : ℕ) → ((i : ℕ) → i < length xs → f (get_or xs i d) ≡ g (get_or xs i d))
    → fold (λ m x. m + f x) n xs ≡ fold (λ m x. m + g x) n xs
sum_by-same f g [] d n h = refl
sum_by-same f g (x ∷ xs) d n h =
    sum_by-same f g xs d (n + f x) (λ i lt. h (suc i) (omega arith)) ∙ ap (λ m. fold (λ k y. k + g y) (n + m) xs) (h 0 (omega arith))

-- ---- pairs of one value
-- the same value twice
same_twice : (q p r : Quad) (k j i : ℕ) → SameValue q k p j → SameValue p j r i → SameValue q k r i
same_twice q p r k j i e f =
    times_power-root_cancel j (times_power root_of_two i q) (times_power root_of_two k r)
    (times_power-times_power root_of_two j i q ∙ ap (times_power root_of_two i) e ∙ times_power-times_power root_of_two i k p
    ∙ ap (times_power root_of_two k) f ∙ times_power-times_power root_of_two k j r)

lowest_form-same : (q p : Quad) (k j : ℕ) → SameValue q k p j → (lowest_form q k).0 ≡ (lowest_form p j).0 × (lowest_form q k).1 ≡ (lowest_form p j).1
lowest_form-same q p k j e =
    let l = lowest_form-is q k in
    lowest_form-from_lowest p j (lowest_form q k).0 (lowest_form q k).1 (record {
      same = same_twice p q (lowest_form q k).0 j k (lowest_form q k).1 (sym e) l.same;
      least = λ r i s. l.least r i (same_twice q p r k j i e s);
    })

zero-same : (q p : Quad) (k j : ℕ) → SameValue q k p j → q ≡ zero_quad → p ≡ zero_quad
zero-same q p k j e z =
    times_power-root_cancel k p zero_quad
    (sym e ∙ ap (times_power root_of_two j) z ∙ times_power-zero_quad j ∙ sym (times_power-zero_quad k))

is_zero-same : (q p : Quad) (k j : ℕ) → SameValue q k p j → is_zero q ≡ is_zero p
is_zero-same q p k j e =
    let d = Decides-is_zero q in
    same_from_decides (is_zero q) (is_zero p) (λ t. zero-same q p k j e (d.0 t), λ z. d.1 (zero-same p q j k (sym e) z)) (Decides-is_zero p)

line_at-same : (q p : Quad) (k j : ℕ) (x : List Bool) → SameValue q k p j
    → cond (is_zero q) [] (state_line x (lowest_form q k).0 (lowest_form q k).1) ≡ cond (is_zero p) [] (state_line x (lowest_form p j).0 (lowest_form p j).1)
line_at-same q p k j x e =
    let low = lowest_form-same q p k j e in
    ap₂ (λ b l. cond b [] l) (is_zero-same q p k j e) (ap₂ (state_line x) low.0 low.1)

-- ---- outputs of vectors with the same values
-- the output reads the values at lists of n bits only
pub vector_output-values : (n : ℕ) (v u : List Bool → Quad) (k j : ℕ) → ((x : List Bool) → length x ≡ n → SameValue (v x) k (u x) j) → vector_output n (scaled v k) ≡ vector_output n (scaled u j)
unfolding vector_output
vector_output-values n v u k j h =
    let same = λ (i : ℕ) (lt : i < length (all_lists n)). h (get_or (all_lists n) i []) (listed n i [] (omega (arith, length-all_lists n))).0 in
    let listing : listing_of n (has_no_entry (scaled v k)) (entry_line (scaled v k)) ≡ listing_of n (has_no_entry (scaled u j)) (entry_line (scaled u j)) =
    flat_map-same _ _ (all_lists n) [] (λ i lt. line_at-same (v (get_or (all_lists n) i [])) (u (get_or (all_lists n) i [])) k j (get_or (all_lists n) i []) (same i lt)) in
    let states : number_listed n (has_no_entry (scaled v k)) ≡ number_listed n (has_no_entry (scaled u j)) =
    sum_by-same _ _ (all_lists n) [] 0 (λ i lt. ap (λ b. cond (not b) 1 0) (is_zero-same (v (get_or (all_lists n) i [])) (u (get_or (all_lists n) i [])) k j (same i lt))) in
    ap₂ (λ a b. count_line Qubits n ++ a ++ count_line States b) listing states
