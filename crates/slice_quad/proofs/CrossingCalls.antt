-- The calls that exchange two variables in all four coordinates.
use Rattle.std.proofs.Common.{◌≡◌, ℕ, ◌-◌, ◌<◌, List, [], ◌∷◌, ◌++◌, map, length, refl, sym, ◌∙◌, ap}
use Rattle.std.specs.Prelude.{flat_map}
use mathlib.Core.Path.{fun_ext}
use Rattle.diagram_model.specs.Functions.{Function, IsPrefixOf}
use Rattle.diagram_model.specs.Stores.{Diagram}
use Rattle.diagram_ops.specs.Diagrams.{StoreAndCache, IsConsistent, variable_of}
use Rattle.diagram_ops.specs.Made.{Property, IsPrefixOfSome}
use Rattle.slice_vec.specs.Digits.{Digits, slice_value}
use Rattle.slice_vec.specs.Growing.{Grows}
use Rattle.slice_vec.specs.Slices.{StandsIn, digits_of}
use Rattle.slice_vec.proofs.Growing.{grows_none, some_left, some_right, some_first, some_later, denotes_on}
use Rattle.slice_quad.specs.declared.coord.Coord.{Coord}
use Rattle.slice_quad.specs.declared.coord.Coord.TheVariants.{A, B, C, D}
use Rattle.slice_quad.specs.declared.crossing.Crossing.{Crossing}
use Rattle.slice_quad.specs.declared.four.Four.{Four}
use Rattle.slice_quad.specs.Crossings.{exchange_of, exchange_made, AreCrossed, GivesCrossed, InExchange, IsCrossable, IsCrossing, IsExchange}
use Rattle.slice_quad.specs.Exchange.{Exchange, exchanged, exchange_digits, exchange_functions, crossing_functions, exchange_work}
use Rattle.slice_quad.specs.Fourfold.{AreGiven, IsRepeatable}
use Rattle.slice_quad.specs.Fours.{nodes_of, digits_in, AreIntegers}
use Rattle.slice_quad.specs.Mix.{Vector, Coordinates, vector_of}
use Rattle.slice_quad.specs.Terms.{IsOf}
use Rattle.slice_quad.specs.Turns.{coordinate}
use Rattle.slice_quad.specs.Variables.{control_functions}
use Rattle.slice_quad.specs.Vectors.{vector_in, AreValues}
use Rattle.slice_quad.specs.Work.{conjunctions}
use Rattle.slice_quad.proofs.Exchanges.{exchange-value}
use Rattle.slice_quad.proofs.Raws.{digits_in_on, integers_on, of_on}
use Rattle.slice_quad.proofs.RawValues.{vector_bits}
use Rattle.slice_quad.proofs.Serving.{Serves, serves_one, serves_list}

-- ---- among the functions of an exchange
-- those of a coordinate
coordinate_wanted : (vs : List ℕ) (w : ℕ) (e : Exchange) (q : Coordinates) (z : Coord) (p : Function) → IsPrefixOfSome vs (exchange_functions w e (q z)) p → IsPrefixOfSome vs (exchange_work w e q) p
unfolding exchange_work
coordinate_wanted vs w e q z p h = some_right vs (crossing_functions e) (flat_map f (A ∷ B ∷ C ∷ D ∷ [])) p (at z h)
  where
    f : Coord → List Function
    f y = exchange_functions w e (q y)

    at : (y : Coord) → IsPrefixOfSome vs (f y) p → IsPrefixOfSome vs (f A ++ (f B ++ (f C ++ (f D ++ [])))) p
    at A k = some_left vs (f A) (f B ++ (f C ++ (f D ++ []))) p k
    at B k = some_right vs (f A) (f B ++ (f C ++ (f D ++ []))) p (some_left vs (f B) (f C ++ (f D ++ [])) p k)
    at C k = some_right vs (f A) (f B ++ (f C ++ (f D ++ []))) p (some_right vs (f B) (f C ++ (f D ++ [])) p (some_left vs (f C) (f D ++ []) p k))
    at D k = some_right vs (f A) (f B ++ (f C ++ (f D ++ []))) p (some_right vs (f B) (f C ++ (f D ++ [])) p (some_right vs (f C) (f D ++ []) p (some_left vs (f D) [] p k)))

-- those of its nodes
crossing_wanted : (vs : List ℕ) (w : ℕ) (e : Exchange) (q : Coordinates) (p : Function) → IsPrefixOfSome vs (crossing_functions e) p → IsPrefixOfSome vs (exchange_work w e q) p
unfolding exchange_work
crossing_wanted vs w e q p h = some_left vs (crossing_functions e) (flat_map (λ z. exchange_functions w e (q z)) (A ∷ B ∷ C ∷ D ∷ [])) p h

first_wanted : (vs : List ℕ) (e : Exchange) (p : Function) → IsPrefixOf vs (variable_of e.first) p → IsPrefixOfSome vs (crossing_functions e) p
unfolding crossing_functions variable_of
first_wanted vs e p h = some_first vs (λ x. x e.first) ((λ x. x e.second) ∷ (map (λ c. λ x. x c) e.controls ++ conjunctions [] e.controls)) p h

second_wanted : (vs : List ℕ) (e : Exchange) (p : Function) → IsPrefixOf vs (variable_of e.second) p → IsPrefixOfSome vs (crossing_functions e) p
unfolding crossing_functions variable_of
second_wanted vs e p h =
    let cs = map (λ c. λ x. x c) e.controls ++ conjunctions [] e.controls in
    some_later vs (λ x. x e.first) ((λ x. x e.second) ∷ cs) p (some_first vs (λ x. x e.second) cs p h)

controls_wanted : (vs : List ℕ) (e : Exchange) (p : Function) → IsPrefixOfSome vs (control_functions e.controls) p → IsPrefixOfSome vs (crossing_functions e) p
unfolding crossing_functions control_functions
controls_wanted vs e p h =
    let cs = map (λ c. λ x. x c) e.controls ++ conjunctions [] e.controls in
    some_later vs (λ x. x e.first) ((λ x. x e.second) ∷ cs) p (some_later vs (λ x. x e.second) cs p h)

-- ---- its nodes, one after another
pub first_serves : (u : StoreAndCache) (e : Exchange) → IsConsistent u → Serves u u (IsCrossing u.store e) (IsPrefixOf u.store.order (variable_of e.first))
first_serves u e s = serves_one u u (IsCrossing u.store e) (variable_of e.first) (variable_of e.first) (grows_none u (IsCrossing u.store e) s) refl (first_wanted u.store.order e)

module _ (u v : StoreAndCache) (e : Exchange) (k : Grows u (IsCrossing u.store e) v) where
  pub second_serves : Serves u v (IsCrossing u.store e) (IsPrefixOf v.store.order (variable_of e.second))
  second_serves = serves_one u v (IsCrossing u.store e) (variable_of e.second) (variable_of e.second) k refl (second_wanted u.store.order e)

  pub controls_serve : Serves u v (IsCrossing u.store e) (IsPrefixOfSome v.store.order (control_functions e.controls))
  controls_serve = serves_list u v (IsCrossing u.store e) (control_functions e.controls) (control_functions e.controls) k refl (controls_wanted u.store.order e)

-- ---- in a larger store
crossed_on : (u v : StoreAndCache) (Is : Property) (c : Crossing) → IsConsistent u → Grows u Is v → AreCrossed u.store c → AreCrossed v.store c
crossed_on u v Is c s k h = record {
  first = denotes_on u v Is c.is_first.0 _ s k h.first;
  second = denotes_on u v Is c.is_second.0 _ s k h.second;
  all = denotes_on u v Is c.all.0 _ s k h.all;
}

crossable_on : (u v : StoreAndCache) (Is : Property) (c : Crossing) (q : Four) → IsConsistent u → Grows u Is v → IsCrossable u.store c q → IsCrossable v.store c q
crossable_on u v Is c q s k r = record {
  nodes = crossed_on u v Is c s k r.nodes;
  whole = integers_on u v Is (length q.a) q k r.whole;
  first = rw k.extends.order r.first;
  second = rw k.extends.order r.second;
}

-- ---- one coordinate
module _ (u : StoreAndCache) (c : Crossing) (q : Four) (z : Coord) (s : IsConsistent u) (r : IsCrossable u.store c q) (xs : List ℕ) (ex : xs ≡ nodes_of q z) where
  abbrev e : Exchange
  e = exchange_of c

  own : digits_of u.store xs ≡ digits_in u.store q z
  unfolding digits_in
  own = ap (digits_of u.store) ex

  wide : length xs ≡ length q.a
  wide = ap (λ (l : List ℕ). length l) ex ∙ r.whole.width z

  pub own_stands : StandsIn u.store xs
  own_stands = let h = r.whole.stands z in rw ex h

  same : exchange_functions (length xs) e (digits_of u.store xs) ≡ exchange_functions (length q.a) e (digits_in u.store q z)
  same = ap (λ (n : ℕ). exchange_functions n e (digits_of u.store xs)) wide ∙ ap (λ (a : Digits). exchange_functions (length q.a) e a) own

  wanted : (p : Function) → IsPrefixOfSome u.store.order (exchange_functions (length q.a) e (digits_in u.store q z)) p → IsExchange u.store e q p
  wanted p h = coordinate_wanted u.store.order (length q.a) e (digits_in u.store q) z p h

  pub one_serves : Serves u u (IsExchange u.store e q) (InExchange u.store e xs)
  one_serves = serves_list u u (IsExchange u.store e q) (exchange_functions (length xs) e (digits_of u.store xs)) (exchange_functions (length q.a) e (digits_in u.store q z)) (grows_none u (IsExchange u.store e q) s) same wanted

  pub one_is : (d : Diagram) (ns : List ℕ) → IsOf d (length xs) (exchange_digits e (digits_of u.store xs)) ns → IsOf d (length q.a) (exchange_digits e (digits_in u.store q z)) ns
  one_is d ns h = record { stands = h.stands; width = h.width ∙ wide; digits = h.digits ∙ ap (exchange_digits e) own }

-- ---- all four, from the store v
whole_list : (u v : StoreAndCache) (e : Exchange) (q : Four) → IsConsistent u → Grows u (IsExchange u.store e q) v → AreIntegers u.store (length q.a) q → exchange_made e q v.store ≡ exchange_made e q u.store
whole_list u v e q s k h = ap (λ (c : Coordinates). exchange_work (length q.a) e c) (digits_in_on u v (IsExchange u.store e q) (length q.a) q s k h)

pub exchange_serves : (u v : StoreAndCache) (e : Exchange) (q : Four) → IsConsistent u → Grows u (IsExchange u.store e q) v → AreIntegers u.store (length q.a) q → Serves u v (IsExchange u.store e q) (IsExchange v.store e q)
exchange_serves u v e q s k h = serves_list u v (IsExchange u.store e q) (exchange_made e q v.store) (exchange_made e q u.store) k (whole_list u v e q s k h) (λ p x. x)

exchange_as : (u v w : StoreAndCache) (e : Exchange) (q : Four) (z : Coord) (ns : List ℕ) → IsConsistent u → Grows u (IsExchange u.store e q) v → AreIntegers u.store (length q.a) q → GivesCrossed e q v.store z w.store ns → GivesCrossed e q u.store z w.store ns
exchange_as u v w e q z ns s k h r = record {
  stands = r.stands;
  width = r.width;
  digits = r.digits ∙ ap (λ (c : Coordinates). exchange_digits e (c z)) (digits_in_on u v (IsExchange u.store e q) (length q.a) q s k h);
}

pub exchange_repeatable : (c : Crossing) (q : Four) → IsRepeatable (λ d. IsCrossable d c q) (exchange_made (exchange_of c) q) (GivesCrossed (exchange_of c) q)
exchange_repeatable c q = record {
  again = λ u v s k r. crossable_on u v (IsExchange u.store (exchange_of c) q) c q s k r;
  same = λ u v s k r. whole_list u v (exchange_of c) q s k r.whole;
  earlier = λ u v w z ns s k r h. exchange_as u v w (exchange_of c) q z ns s k r.whole h;
  later = λ u v w z ns s g h. of_on v w (IsExchange v.store (exchange_of c) q) (length q.a) (exchange_digits (exchange_of c) (digits_in u.store q z)) ns s g h;
}

-- ---- from the nodes on
pub nodes_serve : (u : StoreAndCache) (e : Exchange) (q : Four) → IsConsistent u → Serves u u (IsExchange u.store e q) (IsCrossing u.store e)
nodes_serve u e q s = record { grows = grows_none u (IsExchange u.store e q) s; wanted = crossing_wanted u.store.order (length q.a) e (digits_in u.store q) }

pub ready_for : (u v : StoreAndCache) (e : Exchange) (c : Crossing) (q : Four) → IsConsistent u → Grows u (IsExchange u.store e q) v → AreIntegers u.store (length q.a) q → exchange_of c ≡ e → AreCrossed v.store c → e.first < length u.store.order → e.second < length u.store.order → IsCrossable v.store c q
ready_for u v e c q s k h same nodes first second = record {
  nodes = nodes;
  whole = integers_on u v (IsExchange u.store e q) (length q.a) q k h;
  first = let f : c.first ≡ e.first = ap (λ (x : Exchange). x.first) same in rw (f, k.extends.order) first;
  second = let f : c.second ≡ e.second = ap (λ (x : Exchange). x.second) same in rw (f, k.extends.order) second;
}

-- the exchange by another name
pub renamed_serves : (u v : StoreAndCache) (e r : Exchange) (q : Four) → IsConsistent u → Grows u (IsExchange u.store e q) v → AreIntegers u.store (length q.a) q → r ≡ e → Serves u v (IsExchange u.store e q) (IsExchange v.store r q)
renamed_serves u v e r q s k h same = rw same (exchange_serves u v e q s k h)

exchange_by_name : (d w : Diagram) (e r : Exchange) (q f : Four) → r ≡ e → AreGiven (GivesCrossed r q) d w f → AreGiven (GivesCrossed e q) d w f
exchange_by_name d w e r q f same h = rw (sym same) h

-- the values
pub exchanged_values : (u v : StoreAndCache) (d : Diagram) (e r : Exchange) (q f : Four) → IsConsistent u → Grows u (IsExchange u.store e q) v → AreIntegers u.store (length q.a) q → r ≡ e → AreGiven (GivesCrossed r q) v.store d f → AreValues d (exchanged e (vector_in u.store q)) f
exchanged_values u v d e r q f s k h same given = record {
  stands = λ z. (given z).stands;
  values = λ z x.
      let n = length q.a in
      let Q = digits_in u.store q in
      let is = exchange_by_name v.store d e r q f same given z in
      let digits : digits_of d (nodes_of f z) ≡ exchange_digits e (Q z) = is.digits ∙ ap (λ (c : Coordinates). exchange_digits e (c z)) (digits_in_on u v (IsExchange u.store e q) n q s k h) in
      let vector : vector_of (n - 1) Q ≡ vector_in u.store q = fun_ext (λ y. vector_bits u.store n q h y) in
      ap (λ (i : ℕ). slice_value (i - 1) (digits_of d (nodes_of f z)) x) is.width
      ∙ ap (λ (a : Digits). slice_value (n - 1) a x) digits
      ∙ exchange-value e (n - 1) Q z x
      ∙ ap (λ (v : Vector). coordinate z (exchanged e v x)) vector;
}
