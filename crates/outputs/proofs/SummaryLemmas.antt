-- The first and the last of the basis states that a walk shows, and the pieces of a summary.
use Rattle.std.proofs.Common.{◌≡◌, ℕ, ◌+◌, ◌-◌, ◌^◌, ◌<◌, refl, sym, ◌∙◌, ap, Bool, true, false, not, List, [], ◌∷◌, ◌++◌, length, slice_get, length-append, get_or, take, drop, arith, append-nil, codes, Option, Some, None, IfSome, IfNone, subst}
use Rattle.std.proofs.Math.Seq.{take-length}
use Rattle.std.specs.Option.{ForSome}
use Rattle.std.specs.List.{filter}
use Rattle.std.proofs.lemmas.List.{append_assoc, take_more, take-append-drop}
use Rattle.std.proofs.lemmas.List.Elements.{filter-append}
use Rattle.bit_lists.specs.Lists.{all_lists, place_of}
use Rattle.bit_lists.proofs.Places.{length-all_lists, get_or-all_lists}
use Rattle.circuit_model.specs.Working.{Scaled}
use Rattle.amp_printer.specs.declared.counted.Counted.TheVariants.{Qubits, Gates, Exponent, States}
use Rattle.amp_printer.specs.Texts.{count_line}
use Rattle.outputs.specs.Listing.{number_listed, has_no_entry, entry_line}
use Rattle.outputs.specs.Summary.{shown, labelled, summary_output}
use Rattle.amp_dense.specs.Nonzero.{NoneAfter, IsLastNonzero}
use Rattle.outputs.proofs.FoundLemmas.{nonzero_test, found_state}
use Rattle.outputs.proofs.WalkLemmas.{place_after, place_next, place_below, IsShown, IsFound, found_place, found_shown}

one_kept : (p : List Bool → Bool) (x : List Bool) → p x ≡ true → filter p (x ∷ []) ≡ x ∷ []
one_kept p x e = rw e refl

one_dropped : (p : List Bool → Bool) (x : List Bool) → p x ≡ false → filter p (x ∷ []) ≡ []
one_dropped p x e = rw e refl

-- the last of a list, if there is one
abbrev last_of : List (List Bool) → Option (List Bool)
last_of xs = slice_get xs (length xs - 1)

at_end : (xs : List (List Bool)) (x : List Bool) → slice_get (xs ++ x ∷ []) (length xs) ≡ Some x
at_end [] x = refl
at_end (y ∷ ys) x = at_end ys x

last_one : (xs : List (List Bool)) (x : List Bool) → last_of (xs ++ x ∷ []) ≡ Some x
last_one xs x = let end : length (xs ++ x ∷ []) - 1 ≡ length xs = omega (arith, length-append xs (x ∷ [])) in ap (slice_get (xs ++ x ∷ [])) end ∙ at_end xs x

module _ (n : ℕ) (w : Scaled) where
  -- the basis states before a place whose entries aren't zero
  unfoldable pub shown_before : ℕ → List (List Bool)
  shown_before place = filter (λ x. not (has_no_entry w x)) (take place (all_lists n))

  shown_none : shown_before 0 ≡ []
  unfolding shown_before
  shown_none = refl

  shown_more : (x : List Bool) → length x ≡ n → shown_before (place_of x + 1) ≡ shown_before (place_of x) ++ filter (λ y. not (has_no_entry w y)) (x ∷ [])
  unfolding shown_before
  shown_more x long =
      let p = λ (y : List Bool). not (has_no_entry w y) in
      let within : place_of x < length (all_lists n) = omega (arith, place_below n x long, length-all_lists n) in
      ap (filter p) (take_more (all_lists n) (place_of x) [] within)
      ∙ filter-append p (take (place_of x) (all_lists n)) (get_or (all_lists n) (place_of x) [] ∷ [])
      ∙ ap (λ y. filter p (take (place_of x) (all_lists n)) ++ filter p (y ∷ [])) (get_or-all_lists n x [] long)

  -- one basis state more
  shown_one : (x : List Bool) → IsShown n (has_no_entry w) x → shown_before (place_of x + 1) ≡ shown_before (place_of x) ++ x ∷ []
  shown_one x s = shown_more x s.long ∙ ap (λ l. shown_before (place_of x) ++ l) (one_kept (λ y. not (has_no_entry w y)) x (ap not s.shown))

  shown_skip : (x : List Bool) → length x ≡ n → has_no_entry w x ≡ true → shown_before (place_of x) ≡ shown_before (place_of x + 1)
  shown_skip x long none =
      sym (shown_more x long ∙ ap (λ l. shown_before (place_of x) ++ l) (one_dropped (λ y. not (has_no_entry w y)) x (ap not none)) ∙ append-nil (shown_before (place_of x)))

  -- between two of them there is none
  found_before : (given next : Option (List Bool)) → IsFound n (has_no_entry w) given next → shown_before (place_after given) ≡ shown_before (place_next n next)
  found_before given next f = found_place n (has_no_entry w) shown_before shown_skip given next f

  pub shown_all : shown_before (2 ^ n) ≡ shown n w
  unfolding shown_before
  shown_all = ap (filter (λ (x : List Bool). not (has_no_entry w x))) (ap (λ i. take i (all_lists n)) (sym (length-all_lists n)) ∙ take-length (all_lists n))

  shown_front : (place : ℕ) → (rest : List (List Bool)) × (shown n w ≡ shown_before place ++ rest)
  unfolding shown_before
  shown_front place =
      let p = λ (y : List Bool). not (has_no_entry w y) in (
        filter p (drop place (all_lists n)),
        ap (filter p) (sym (take-append-drop place (all_lists n))) ∙ filter-append p (take place (all_lists n)) (drop place (all_lists n)),
      )

  -- the first that is found is the first of all
  pub first_found : (next : Option (List Bool)) → IsFound n (has_no_entry w) None next → next ≡ slice_get (shown n w) 0
  first_found None f = ap (λ l. slice_get l 0) (sym shown_none ∙ found_before None None f ∙ shown_all)
  first_found (Some x) f =
      let rest = shown_front (place_of x + 1) in
      let here : IsShown n (has_no_entry w) x = found_shown n (has_no_entry w) None (Some x) f x refl in
      let start : shown_before (place_of x) ≡ [] = sym (found_before None (Some x) f) ∙ shown_none in
      sym (ap (λ l. slice_get l 0) (rest.1 ∙ ap (λ l. l ++ rest.0) (shown_one x here ∙ ap (λ l. l ++ x ∷ []) start)))

  -- before the first there is none
  pub none_found : (next : Option (List Bool)) → IsFound n (has_no_entry w) None next → None ≡ last_of (shown_before (place_next n next))
  none_found next f = ap last_of (sym shown_none ∙ found_before None next f)

  -- the one that was found is the last before the next
  pub last_found : (x : List Bool) (next then : Option (List Bool)) → next ≡ Some x → ForSome next (IsShown n (has_no_entry w)) → IsFound n (has_no_entry w) (Some x) then
      → Some x ≡ last_of (shown_before (place_next n then))
  last_found x next then here shown f =
      sym (ap last_of (sym (found_before (Some x) then f) ∙ shown_one x (shown x here)) ∙ last_one (shown_before (place_of x)) x)

-- the last one of all
pub last_listed : (m n : ℕ) (w : Scaled) (o : Option (List Bool)) → m ≡ n → IfSome o (IsLastNonzero m w.entries) → IfNone o (NoneAfter m w.entries None) → o ≡ last_of (shown n w)
last_listed m n w None size found none = none_found n w None (found_state m n w None None size (λ x e. cc) tt none) ∙ ap last_of (shown_all n w)
last_listed m n w (Some x) size found none =
    let long : length x ≡ n = found.long ∙ size in
    let alike : ForSome (Some x) (λ y. length y ≡ n) = λ y e. (let same : x ≡ y = cc in ap length (sym same) ∙ long) in
    let here : ForSome (Some x) (IsShown n (has_no_entry w)) = λ y e. (let same : x ≡ y = cc in subst (IsShown n (has_no_entry w)) same (record { long = long; shown = nonzero_test (w.entries x) found.nonzero })) in
    last_found n w x (Some x) None refl here (found_state m n w (Some x) None size alike tt found.last) ∙ ap last_of (shown_all n w)

pub last_long : (m n : ℕ) (w : Scaled) (o : Option (List Bool)) → m ≡ n → IfSome o (IsLastNonzero m w.entries) → ForSome o (λ x. length x ≡ n)
last_long m n w None size found = λ x e. cc
last_long m n w (Some x) size found = λ y e. (let same : x ≡ y = cc in ap length (sym same) ∙ found.long ∙ size)

-- the line of a basis state behind its label
pub labelled_wrote : (label t0 t1 t2 : List ℕ) (w : Scaled) (x : List Bool) (o : Option (List Bool)) → o ≡ Some x → t1 ≡ t0 ++ label
    → t2 ≡ t1 ++ entry_line w x → t2 ≡ t0 ++ labelled label w o
labelled_wrote label t0 t1 t2 w x o is e f =
    let line = entry_line w x in
    f ∙ ap (λ t. t ++ line) e ∙ append_assoc t0 label line ∙ ap (λ p. t0 ++ labelled label w p) (sym is)

pub unlabelled : (label t : List ℕ) (w : Scaled) (o : Option (List Bool)) → o ≡ None → t ≡ t ++ labelled label w o
unlabelled label t w o is = sym (append-nil t) ∙ ap (λ p. t ++ labelled label w p) (sym is)

-- the six pieces
pub summary_wrote : (n count k states : ℕ) (w : Scaled) (first last : Option (List Bool)) (t1 t2 t3 t4 t5 t6 : List ℕ) → k ≡ w.exponent → states ≡ number_listed n (has_no_entry w)
    → first ≡ slice_get (shown n w) 0 → last ≡ last_of (shown n w)
    → t1 ≡ [] ++ count_line Qubits n → t2 ≡ t1 ++ count_line Gates count → t3 ≡ t2 ++ count_line Exponent k → t4 ≡ t3 ++ count_line States states
    → t5 ≡ t4 ++ labelled (codes "first ") w first → t6 ≡ t5 ++ labelled (codes "last ") w last → t6 ≡ summary_output n count w
unfolding summary_output
summary_wrote n count k states w first last t1 t2 t3 t4 t5 t6 roots counted begins ends e1 e2 e3 e4 e5 e6 =
    e6 ∙ ap (λ o. t5 ++ labelled (codes "last ") w o) ends
    ∙ ap (λ t. t ++ labelled (codes "last ") w (last_of (shown n w)))
    (e5 ∙ ap (λ o. t4 ++ labelled (codes "first ") w o) begins
    ∙ ap (λ t. t ++ labelled (codes "first ") w (slice_get (shown n w) 0))
    (e4 ∙ ap (λ m. t3 ++ count_line States m) counted
    ∙ ap (λ t. t ++ count_line States (number_listed n (has_no_entry w)))
    (e3 ∙ ap (λ m. t2 ++ count_line Exponent m) roots ∙ ap (λ t. t ++ count_line Exponent w.exponent) (e2 ∙ ap (λ t. t ++ count_line Gates count) e1))))
