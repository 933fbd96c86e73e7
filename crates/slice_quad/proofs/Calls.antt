-- A choice, a negation or a flip, by other names of its functions.
use Rattle.std.proofs.Common.{◌≡◌, ℕ, ◌+◌, max, List, length, refl, ◌∙◌, ap}
use Rattle.diagram_model.specs.Functions.{Function}
use Rattle.diagram_model.specs.Stores.{function_of}
use Rattle.diagram_ops.specs.Diagrams.{StoreAndCache}
use Rattle.diagram_ops.specs.Made.{Property, IsPrefixOfSome}
use Rattle.slice_vec.specs.Digits.{Digits, chosen, negated, turned}
use Rattle.slice_vec.specs.Growing.{Grows}
use Rattle.slice_vec.specs.Slices.{digits_of, first_bits, negation_functions, IsChosen, IsNegation, IsTurned, InChosen, InNegation, InTurned}
use Rattle.slice_quad.specs.Terms.{IsOf}
use Rattle.slice_quad.proofs.Columns.{negation_same}
use Rattle.slice_quad.proofs.Serving.{Serves, serves_list}

-- a choice between xs and ys, in the store v
module _ (u v : StoreAndCache) (Is : Property) (k : Grows u Is v) (n : ℕ) (xs ys : List ℕ) (s : Digits) (e : chosen (function_of v.store n) (digits_of v.store xs) (digits_of v.store ys) ≡ s) where
  pub chosen_serves : ((p : Function) → IsPrefixOfSome u.store.order (first_bits (max (length xs) (length ys)) s) p → Is p) → Serves u v Is (InChosen v.store n xs ys)
  chosen_serves wanted =
      let w = max (length xs) (length ys) in let a = chosen (function_of v.store n) (digits_of v.store xs) (digits_of v.store ys) in
      serves_list u v Is (first_bits w a) (first_bits w s) k (ap (first_bits w) e) wanted

  pub chosen_of : (w : StoreAndCache) (ns : List ℕ) → IsChosen v.store w.store n xs ys ns → IsOf w.store (max (length xs) (length ys)) s ns
  chosen_of w ns h = record { stands = h.stands; width = h.width; digits = h.digits ∙ e }

-- a negation
module _ (u v : StoreAndCache) (Is : Property) (k : Grows u Is v) (n : ℕ) (xs : List ℕ) (f : Function) (a : Digits) (ef : function_of v.store n ≡ f) (ea : digits_of v.store xs ≡ a) where
  pub negated_serves : ((p : Function) → IsPrefixOfSome u.store.order (negation_functions (length xs + 1) f a) p → Is p) → Serves u v Is (InNegation v.store n xs)
  negated_serves wanted =
      let w = length xs + 1 in
      serves_list u v Is (negation_functions w (function_of v.store n) (digits_of v.store xs)) (negation_functions w f a) k (negation_same w w (function_of v.store n) f (digits_of v.store xs) a refl ef ea) wanted

  pub negated_of : (w : StoreAndCache) (ns : List ℕ) → IsNegation v.store w.store n xs ns → IsOf w.store (length xs + 1) (negated f a) ns
  negated_of w ns h = record {
    stands = h.stands;
    width = h.width;
    digits = h.digits ∙ ap (λ (g : Function). negated g (digits_of v.store xs)) ef ∙ ap (λ (b : Digits). negated f b) ea;
  }

-- a flip of a variable
module _ (u v : StoreAndCache) (Is : Property) (k : Grows u Is v) (t n : ℕ) (xs : List ℕ) (s : Digits) (e : turned t (function_of v.store n) (digits_of v.store xs) ≡ s) where
  pub turned_serves : ((p : Function) → IsPrefixOfSome u.store.order (first_bits (length xs) s) p → Is p) → Serves u v Is (InTurned v.store t n xs)
  turned_serves wanted = serves_list u v Is (first_bits (length xs) (turned t (function_of v.store n) (digits_of v.store xs))) (first_bits (length xs) s) k (ap (first_bits (length xs)) e) wanted

  pub turned_of : (w : StoreAndCache) (ns : List ℕ) → IsTurned v.store w.store t n xs ns → IsOf w.store (length xs) s ns
  turned_of w ns h = record { stands = h.stands; width = h.width; digits = h.digits ∙ e }
