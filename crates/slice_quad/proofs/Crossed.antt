-- The calls of an exchange, by the functions of its definition.
use Rattle.std.proofs.Common.{◌≡◌, ℕ, zero, suc, ◌<◌, Bool, true, false, max, List, [], ◌∷◌, get_or, length, refl, ◌∙◌, ap, arith}
use Rattle.std.specs.Prelude.{flat_map}
use Rattle.diagram_model.specs.Functions.{Function}
use Rattle.diagram_model.specs.Stores.{function_of}
use Rattle.diagram_ops.specs.Diagrams.{StoreAndCache, IsConsistent, variable_of}
use Rattle.diagram_ops.specs.Made.{Property, IsPrefixOfSome}
use Rattle.slice_vec.specs.Digits.{Digits, chosen, fixed}
use Rattle.slice_vec.specs.Growing.{Grows, Denotes}
use Rattle.slice_vec.specs.Slices.{StandsIn, digits_of, first_bits, InFixed, InMerged, InChosen, IsFixed, IsMerged, IsChosen}
use Rattle.slice_vec.proofs.Bits.{stands_on, digits_on}
use Rattle.slice_vec.proofs.Growing.{grows_none, some_left, some_right}
use Rattle.slice_quad.specs.Crossings.{InExchange}
use Rattle.slice_quad.specs.Exchange.{Exchange, fixed_both, by_second, by_first, exchange_digits, exchange_parts, exchange_functions}
use Rattle.slice_quad.specs.Mix.{all_true}
use Rattle.slice_quad.specs.Terms.{IsOf}
use Rattle.slice_quad.proofs.Raws.{of_on}
use Rattle.slice_quad.proofs.Serving.{Serves, serves_list, grows_by}

-- the bits of one of several are among the bits of all
bits_among : (vs : List ℕ) (w : ℕ) (ds : List Digits) (i : ℕ) (d : Digits) (p : Function) → i < length ds → IsPrefixOfSome vs (first_bits w (get_or ds i d)) p → IsPrefixOfSome vs (flat_map (first_bits w) ds) p
bits_among vs w [] i d p less h = absurd (omega (arith, less))
bits_among vs w (s ∷ ds) zero d p less h = some_left vs (first_bits w s) (flat_map (first_bits w) ds) p h
bits_among vs w (s ∷ ds) (suc i) d p less h = some_right vs (first_bits w s) (flat_map (first_bits w) ds) p (bits_among vs w ds i d p (omega (arith, less)) h)

-- which bits are among the functions of an exchange
module _ (vs : List ℕ) (W : ℕ) (e : Exchange) (A : Digits) where
  pub low_wanted : (p : Function) → IsPrefixOfSome vs (first_bits W (fixed e.first false A)) p → IsPrefixOfSome vs (exchange_functions W e A) p
  unfolding exchange_functions
  low_wanted p h = bits_among vs W (exchange_parts e A) 1 A p (omega arith) h

  pub high_wanted : (p : Function) → IsPrefixOfSome vs (first_bits W (fixed e.first true A)) p → IsPrefixOfSome vs (exchange_functions W e A) p
  unfolding exchange_functions
  high_wanted p h = bits_among vs W (exchange_parts e A) 2 A p (omega arith) h

  pub clear_wanted : (p : Function) → IsPrefixOfSome vs (first_bits W (by_second e A false)) p → IsPrefixOfSome vs (exchange_functions W e A) p
  unfolding exchange_functions
  clear_wanted p h = bits_among vs W (exchange_parts e A) 7 A p (omega arith) h

  pub set_wanted : (p : Function) → IsPrefixOfSome vs (first_bits W (by_second e A true)) p → IsPrefixOfSome vs (exchange_functions W e A) p
  unfolding exchange_functions
  set_wanted p h = bits_among vs W (exchange_parts e A) 8 A p (omega arith) h

  pub first_wanted : (p : Function) → IsPrefixOfSome vs (first_bits W (by_first e A)) p → IsPrefixOfSome vs (exchange_functions W e A) p
  unfolding exchange_functions
  first_wanted p h = bits_among vs W (exchange_parts e A) 9 A p (omega arith) h

  pub last_wanted : (p : Function) → IsPrefixOfSome vs (first_bits W (exchange_digits e A)) p → IsPrefixOfSome vs (exchange_functions W e A) p
  unfolding exchange_functions
  last_wanted p h = bits_among vs W (exchange_parts e A) 10 A p (omega arith) h

lists_same : (m n : ℕ) (s r : Digits) → m ≡ n → s ≡ r → first_bits m s ≡ first_bits n r
lists_same m n s r em es = ap (λ k. first_bits k s) em ∙ ap (λ (k : Digits). first_bits n k) es

chosen_same : (f g : Function) (a b c k : Digits) → f ≡ g → a ≡ c → b ≡ k → chosen f a b ≡ chosen g c k
chosen_same f g a b c k ef ea eb = ap (λ (h : Function). chosen h a b) ef ∙ ap (λ (s : Digits). chosen g s b) ea ∙ ap (λ (s : Digits). chosen g c s) eb

second_is : (e : Exchange) (A : Digits) (b : Bool) → chosen (variable_of e.second) (fixed e.second b (fixed e.first true A)) (fixed e.second b (fixed e.first false A)) ≡ by_second e A b
unfolding by_second fixed_both variable_of
second_is e A b = refl

first_is : (e : Exchange) (A : Digits) → chosen (variable_of e.first) (by_second e A true) (by_second e A false) ≡ by_first e A
unfolding by_first variable_of
first_is e A = refl

last_is : (e : Exchange) (A : Digits) → chosen (all_true e.controls) (by_first e A) A ≡ exchange_digits e A
unfolding exchange_digits
last_is e A = refl

module _ (u : StoreAndCache) (e : Exchange) (xs : List ℕ) (s : IsConsistent u) (hx : StandsIn u.store xs) (v : StoreAndCache) (k : Grows u (InExchange u.store e xs) v) where
  abbrev A : Digits
  A = digits_of u.store xs

  abbrev W : ℕ
  W = length xs

  abbrev Is : Property
  Is = InExchange u.store e xs

  pub x_of : IsOf v.store W A xs
  x_of = record { stands = stands_on u v Is xs k hx; width = refl; digits = digits_on u v Is xs s k hx }

  -- bits that are the definition's by another name
  bits_serve : (m : ℕ) (a b : Digits) → m ≡ W → a ≡ b → ((p : Function) → IsPrefixOfSome u.store.order (first_bits W b) p → Is p) → Serves u v Is (IsPrefixOfSome v.store.order (first_bits m a))
  bits_serve m a b em es wanted = serves_list u v Is (first_bits m a) (first_bits W b) k (lists_same m W a b em es) wanted

  fix_wanted : (b : Bool) (p : Function) → IsPrefixOfSome u.store.order (first_bits W (fixed e.first b A)) p → Is p
  fix_wanted true p h = high_wanted u.store.order W e A p h
  fix_wanted false p h = low_wanted u.store.order W e A p h

  pub fix_serves : (b : Bool) → Serves u v Is (InFixed v.store e.first b xs)
  fix_serves b = bits_serve W (fixed e.first b (digits_of v.store xs)) (fixed e.first b A) refl (ap (fixed e.first b) x_of.digits) (fix_wanted b)

  fix_of : (b : Bool) (w : StoreAndCache) (ns : List ℕ) → IsFixed v.store w.store e.first b xs ns → IsOf w.store W (fixed e.first b A) ns
  fix_of b w ns h = record { stands = h.stands; width = h.width; digits = h.digits ∙ ap (fixed e.first b) x_of.digits }

  second_wanted : (b : Bool) (p : Function) → IsPrefixOfSome u.store.order (first_bits W (by_second e A b)) p → Is p
  second_wanted true p h = set_wanted u.store.order W e A p h
  second_wanted false p h = clear_wanted u.store.order W e A p h

  module _ (ys zs : List ℕ) (oy : IsOf v.store W (fixed e.first true A) ys) (oz : IsOf v.store W (fixed e.first false A) zs) (b : Bool) where
    abbrev Met : Digits
    Met = chosen (variable_of e.second) (fixed e.second b (digits_of v.store ys)) (fixed e.second b (digits_of v.store zs))

    met : Met ≡ by_second e A b
    met =
        chosen_same (variable_of e.second) (variable_of e.second) (fixed e.second b (digits_of v.store ys)) (fixed e.second b (digits_of v.store zs)) (fixed e.second b (fixed e.first true A)) (fixed e.second b (fixed e.first false A)) refl (ap (fixed e.second b) oy.digits) (ap (fixed e.second b) oz.digits)
        ∙ second_is e A b

    wide : max (length ys) (length zs) ≡ W
    wide = omega (arith, oy.width, oz.width)

    pub merge_serves : Serves u v Is (InMerged v.store e.second b ys zs)
    merge_serves = bits_serve (max (length ys) (length zs)) Met (by_second e A b) wide met (second_wanted b)

    pub merge_of : (w : StoreAndCache) (ns : List ℕ) → IsMerged v.store w.store e.second b ys zs ns → IsOf w.store W (by_second e A b) ns
    merge_of w ns h = record { stands = h.stands; width = h.width ∙ wide; digits = h.digits ∙ met }

  -- a choice among the bits of the definition
  module _ (n : ℕ) (f : Function) (ys zs : List ℕ) (a b r : Digits) (dn : Denotes v.store n f) (oy : IsOf v.store W a ys) (oz : IsOf v.store W b zs) (same : chosen f a b ≡ r) (wanted : (p : Function) → IsPrefixOfSome u.store.order (first_bits W r) p → Is p) where
    abbrev Had : Digits
    Had = chosen (function_of v.store n) (digits_of v.store ys) (digits_of v.store zs)

    had : Had ≡ r
    had = chosen_same (function_of v.store n) f (digits_of v.store ys) (digits_of v.store zs) a b dn.is oy.digits oz.digits ∙ same

    wide_too : max (length ys) (length zs) ≡ W
    wide_too = omega (arith, oy.width, oz.width)

    choice_serves : Serves u v Is (InChosen v.store n ys zs)
    choice_serves = bits_serve (max (length ys) (length zs)) Had r wide_too had wanted

    choice_of : (w : StoreAndCache) (ns : List ℕ) → IsChosen v.store w.store n ys zs ns → IsOf w.store W r ns
    choice_of w ns h = record { stands = h.stands; width = h.width ∙ wide_too; digits = h.digits ∙ had }

  module _ (n : ℕ) (ys zs : List ℕ) (dn : Denotes v.store n (variable_of e.first)) (oy : IsOf v.store W (by_second e A true) ys) (oz : IsOf v.store W (by_second e A false) zs) where
    pub first_serves : Serves u v Is (InChosen v.store n ys zs)
    first_serves = choice_serves n (variable_of e.first) ys zs (by_second e A true) (by_second e A false) (by_first e A) dn oy oz (first_is e A) (first_wanted u.store.order W e A)

    pub first_of : (w : StoreAndCache) (ns : List ℕ) → IsChosen v.store w.store n ys zs ns → IsOf w.store W (by_first e A) ns
    first_of w ns h = choice_of n (variable_of e.first) ys zs (by_second e A true) (by_second e A false) (by_first e A) dn oy oz (first_is e A) (first_wanted u.store.order W e A) w ns h

  module _ (n : ℕ) (ys : List ℕ) (dn : Denotes v.store n (all_true e.controls)) (oy : IsOf v.store W (by_first e A) ys) where
    pub last_serves : Serves u v Is (InChosen v.store n ys xs)
    last_serves = choice_serves n (all_true e.controls) ys xs (by_first e A) A (exchange_digits e A) dn oy x_of (last_is e A) (last_wanted u.store.order W e A)

    pub last_of : (w : StoreAndCache) (ns : List ℕ) → IsChosen v.store w.store n ys xs ns → IsOf w.store W (exchange_digits e A) ns
    last_of w ns h = choice_of n (all_true e.controls) ys xs (by_first e A) A (exchange_digits e A) dn oy x_of (last_is e A) (last_wanted u.store.order W e A) w ns h

-- v has grown from u, and there the first variable is fixed each way
pub record AreFixed (u v : StoreAndCache) (e : Exchange) (xs low high : List ℕ) : Type 0 where
  pub grows : Grows u (InExchange u.store e xs) v
  pub clear : IsOf v.store (length xs) (fixed e.first false (digits_of u.store xs)) low
  pub set : IsOf v.store (length xs) (fixed e.first true (digits_of u.store xs)) high

module _ (u : StoreAndCache) (e : Exchange) (xs : List ℕ) (s : IsConsistent u) (hx : StandsIn u.store xs) where
  pub low_serves : Serves u u (InExchange u.store e xs) (InFixed u.store e.first false xs)
  low_serves = fix_serves u e xs s hx u (grows_none u (InExchange u.store e xs) s) false

  module _ (v : StoreAndCache) (g : Grows u (InFixed u.store e.first false xs) v) where
    pub high_serves : Serves u v (InExchange u.store e xs) (InFixed v.store e.first true xs)
    high_serves = fix_serves u e xs s hx v (grows_by low_serves g) true

    pub are_fixed : (w : StoreAndCache) (low high : List ℕ) → IsFixed u.store v.store e.first false xs low → Grows v (InFixed v.store e.first true xs) w → IsFixed v.store w.store e.first true xs high → AreFixed u w e xs low high
    are_fixed w low high l h r = record {
      grows = grows_by high_serves h;
      clear = of_on v w (InFixed v.store e.first true xs) (length xs) (fixed e.first false (digits_of u.store xs)) low g.sound h (fix_of u e xs s hx u (grows_none u (InExchange u.store e xs) s) false v low l);
      set = fix_of u e xs s hx v (grows_by low_serves g) true w high r;
    }

  module _ (v : StoreAndCache) (low high : List ℕ) (f : AreFixed u v e xs low high) (b : Bool) where
    pub either_serves : Serves u v (InExchange u.store e xs) (InMerged v.store e.second b high low)
    either_serves = merge_serves u e xs s hx v f.grows high low f.set f.clear b

    pub either_of : (w : StoreAndCache) (ns : List ℕ) → IsMerged v.store w.store e.second b high low ns → IsOf w.store (length xs) (by_second e (digits_of u.store xs) b) ns
    either_of w ns h = merge_of u e xs s hx v f.grows high low f.set f.clear b w ns h

    pub fixed_after : (w : StoreAndCache) → Grows v (InMerged v.store e.second b high low) w → AreFixed u w e xs low high
    fixed_after w g = record {
      grows = grows_by either_serves g;
      clear = of_on v w (InMerged v.store e.second b high low) (length xs) (fixed e.first false (digits_of u.store xs)) low f.grows.sound g f.clear;
      set = of_on v w (InMerged v.store e.second b high low) (length xs) (fixed e.first true (digits_of u.store xs)) high f.grows.sound g f.set;
    }
