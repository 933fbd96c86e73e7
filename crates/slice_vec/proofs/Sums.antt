-- The bits of a sum, one after another.
use Rattle.std.proofs.Common.{◌≡◌, ℕ, suc, ◌+◌, ◌-◌, ◌<◌, ◌≤◌, ◌+ℤ◌, max, List, [], ◌∷◌, ◌++◌, length, inl, ◌∙◌, ap, arith, length-append}
use Rattle.diagram_model.specs.Functions.{IsPrefixOf}
use Rattle.diagram_model.specs.Stores.{Diagram, function_of}
use Rattle.diagram_ops.specs.Diagrams.{StoreAndCache, IsConsistent}
use Rattle.diagram_ops.specs.Bounds.{joint_size_of, TakesAtMost}
use Rattle.slice_vec.specs.Bounds.{adding}
use Rattle.slice_vec.specs.Digits.{Digits, IsSteady, carry, sum, slice_value}
use Rattle.slice_vec.specs.Growing.{Grows, Denotes}
use Rattle.slice_vec.specs.Places.{odd_at, majority_at}
use Rattle.slice_vec.specs.Slices.{bit_node, digits_of, StandsIn, sum_width, InSum, IsSum}
use Rattle.slice_vec.proofs.Bits.{Shows, shows_digits, shows_stands, bit_denotes, steady-digits, steady_later, value_on}
use Rattle.slice_vec.proofs.Bounds.{joint_as, steps_as}
use Rattle.slice_vec.proofs.Carried.{Carries, carries_none, top_shows}
use Rattle.slice_vec.proofs.DigitLemmas.{value-sum, steady-sum}
use Rattle.slice_vec.proofs.Places.{odd_same, majority_same, false_function}

-- the steps of place i: the bit and the carry
abbrev pub place_steps : Diagram → List ℕ → List ℕ → ℕ → ℕ
place_steps d xs ys i = adding d (digits_of d xs) (digits_of d ys) i + adding d (digits_of d xs) (digits_of d ys) i

-- the sum so far, and the carry
abbrev pub Ripples : StoreAndCache → List ℕ → List ℕ → StoreAndCache → List ℕ → ℕ → Type 0
Ripples u xs ys v ns m = Carries u (sum_width xs ys) (sum (digits_of u.store xs) (digits_of u.store ys)) (carry (digits_of u.store xs) (digits_of u.store ys)) v ns m

pub ripples_none : (u : StoreAndCache) (xs ys : List ℕ) → IsConsistent u → Ripples u xs ys u [] 0
unfolding carry
ripples_none u xs ys s =
    carries_none u (sum_width xs ys) (sum (digits_of u.store xs) (digits_of u.store ys)) (carry (digits_of u.store xs) (digits_of u.store ys)) 0 s (record { live = inl (omega arith); is = false_function u.store s.store })

-- the bits of both at place i, and the carry
pub record IsAtPlace (u v : StoreAndCache) (xs ys ns : List ℕ) (m i an bn : ℕ) : Type 0 where
  pub began : IsConsistent u
  pub stands_x : StandsIn u.store xs
  pub stands_y : StandsIn u.store ys
  pub ripples : Ripples u xs ys v ns m
  pub at : length ns ≡ i
  pub a_is : an ≡ bit_node xs i
  pub b_is : bn ≡ bit_node ys i

module _ {u v : StoreAndCache} {xs ys ns : List ℕ} {m i an bn : ℕ} (place : IsAtPlace u v xs ys ns m i an bn) where
  pub a_denotes : Denotes v.store an (digits_of u.store xs i)
  a_denotes = bit_denotes u v (InSum u.store xs ys) xs i an place.began place.ripples.grows place.stands_x place.a_is

  pub b_denotes : Denotes v.store bn (digits_of u.store ys i)
  b_denotes = bit_denotes u v (InSum u.store xs ys) ys i bn place.began place.ripples.grows place.stands_y place.b_is

  carry_here : function_of v.store m ≡ carry (digits_of u.store xs) (digits_of u.store ys) i
  carry_here = place.ripples.carries.is ∙ ap (carry (digits_of u.store xs) (digits_of u.store ys)) place.at

  -- the joint size at place i
  pub place_joint : joint_size_of v.store an bn m ≡ adding u.store (digits_of u.store xs) (digits_of u.store ys) i
  unfolding adding
  place_joint =
      let a = digits_of u.store xs in let b = digits_of u.store ys in
      joint_as u.store v.store (function_of v.store an) (function_of v.store bn) (function_of v.store m) (a i) (b i) (carry a b i) place.ripples.grows.extends.order a_denotes.is b_denotes.is carry_here

  pub both_steps : (w : StoreAndCache) (s t : ℕ) → TakesAtMost (joint_size_of v.store an bn m + joint_size_of v.store an bn m) v.store w.store s t → TakesAtMost (place_steps u.store xs ys i) v.store w.store s t
  both_steps w s t h = steps_as (joint_size_of v.store an bn m + joint_size_of v.store an bn m) (place_steps u.store xs ys i) v.store w.store s t (ap (λ j. j + j) place_joint) h

  pub top_steps : (n : ℕ) (w : StoreAndCache) (s t : ℕ) → i ≡ n → TakesAtMost (joint_size_of v.store an bn m) v.store w.store s t → TakesAtMost (adding u.store (digits_of u.store xs) (digits_of u.store ys) n) v.store w.store s t
  top_steps n w s t same h =
      let a = digits_of u.store xs in let b = digits_of u.store ys in
      steps_as (joint_size_of v.store an bn m) (adding u.store a b n) v.store w.store s t (place_joint ∙ ap (adding u.store a b) same) h

  pub place_sum : odd_at v.store an bn m ≡ sum (digits_of u.store xs) (digits_of u.store ys) i
  unfolding sum
  place_sum = odd_same (function_of v.store an) (function_of v.store bn) (function_of v.store m) (digits_of u.store xs i) (digits_of u.store ys i) (carry (digits_of u.store xs) (digits_of u.store ys) i) a_denotes.is b_denotes.is carry_here

  pub place_carry : majority_at v.store an bn m ≡ carry (digits_of u.store xs) (digits_of u.store ys) (suc i)
  unfolding carry
  place_carry = majority_same (function_of v.store an) (function_of v.store bn) (function_of v.store m) (digits_of u.store xs i) (digits_of u.store ys i) (carry (digits_of u.store xs) (digits_of u.store ys) i) a_denotes.is b_denotes.is carry_here

  pub sum_done : (w : StoreAndCache) (zs : List ℕ) (n : ℕ) → i ≡ max (length xs) (length ys) → length xs ≤ 130 → length ys ≤ 130 → Grows v (IsPrefixOf v.store.order (odd_at v.store an bn m)) w → Denotes w.store n (odd_at v.store an bn m) → zs ≡ ns ++ n ∷ [] → IsSum u.store w.store xs ys zs
  sum_done w zs n wide few_x few_y g is made =
      let a = digits_of u.store xs in let b = digits_of u.store ys in
      let k = i - 1 in
      let len : length zs ≡ suc i = omega (arith, ap length made, length-append ns (n ∷ []), place.at) in
      let px = place.stands_x.some in
      let py = place.stands_y.some in
      let shows : Shows w.store zs (sum a b) = rw made (top_shows place.ripples place.at place_sum place_carry w n g is) in
      let some : 0 < length zs = omega (arith, len) in
      let few : length zs ≤ 131 = omega (arith, len, wide, few_x, few_y) in
      let ha = steady_later (length xs - 1) k a (steady-digits u.store xs px) (omega (arith, wide)) in
      let hb = steady_later (length ys - 1) k b (steady-digits u.store ys py) (omega (arith, wide)) in
      let last : length zs - 1 ≡ suc k = omega (arith, len, wide, px) in
      let steady : IsSteady (length zs - 1) (sum a b) = steady_later (suc k) (length zs - 1) (sum a b) (steady-sum k a b ha hb) (omega (arith, last)) in
      let digits : digits_of w.store zs ≡ sum a b = shows_digits w.store zs (sum a b) shows some steady in
      record {
        width = omega (arith, len, wide);
        stands = shows_stands w.store zs (sum a b) shows some few;
        digits = digits;
        values = λ x.
            ap (λ (s : Digits). slice_value (length zs - 1) s x) digits
            ∙ ap (λ j. slice_value j (sum a b) x) last
            ∙ value-sum k a b x ha hb
            ∙ ap (λ z. z +ℤ slice_value (suc k) b x) (value_on (length xs - 1) (suc k) a x (steady-digits u.store xs px) (omega (arith, wide)))
            ∙ ap (λ z. slice_value (length xs - 1) a x +ℤ z) (value_on (length ys - 1) (suc k) b x (steady-digits u.store ys py) (omega (arith, wide)));
      }
