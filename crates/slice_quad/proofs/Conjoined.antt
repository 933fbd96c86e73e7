-- Conjunctions of the first controls.
use Rattle.std.proofs.Common.{◌≡◌, ℕ, zero, suc, ◌+◌, ◌<◌, ◌≤◌, Bool, true, false, List, [], ◌∷◌, ◌++◌, map, length, take, drop, get_or, inl, refl, sym, ◌∙◌, ap, arith}
use Rattle.std.specs.Prelude.{◌&&◌}
use Rattle.std.proofs.lemmas.List.{append_assoc}
use mathlib.Core.Path.{fun_ext}
use Rattle.diagram_model.specs.Functions.{Function, IsPrefixOf}
use Rattle.diagram_model.specs.Stores.{IsLive, function_of}
use Rattle.diagram_model.proofs.Growing.{function_on}
use Rattle.diagram_ops.specs.Diagrams.{StoreAndCache, IsConsistent, variable_of}
use Rattle.diagram_ops.specs.Made.{Property, IsPrefixOfSome}
use Rattle.slice_vec.specs.Growing.{Grows, Denotes}
use Rattle.slice_vec.proofs.Growing.{grows_none, some_left, some_right, some_first, some_later, all_of_two, denotes_as, lists_same}
use Rattle.slice_vec.proofs.Places.{true_function}
use Rattle.slice_quad.specs.Mix.{all_true}
use Rattle.slice_quad.specs.Fours.{true_places}
use Rattle.slice_quad.specs.Work.{conjunctions}
use Rattle.slice_quad.specs.Variables.{both_at, with_at, control_functions}
use Rattle.slice_quad.proofs.Serving.{Serves, serves_one, serves_list, grows_by}

-- the true places of the first bits, and of the others
pub places_split : (n k m : ℕ) (x : List Bool) → k + n ≡ m → true_places n x ≡ true_places n (take k x) ++ true_places m (drop k x)
places_split n zero m x e = ap (λ (j : ℕ). true_places j x) (let h : n ≡ m = omega (arith, e) in h)
places_split n (suc k) m [] e = refl
places_split n (suc k) m (true ∷ x) e = ap (λ (l : List ℕ). n ∷ l) (places_split (1 + n) k m x (omega (arith, e)))
places_split n (suc k) m (false ∷ x) e = places_split (1 + n) k m x (omega (arith, e))

-- a control more
pub places_on : (n i m : ℕ) (x : List Bool) → i + n ≡ m → get_or x i false ≡ true → true_places n (take (suc i) x) ≡ true_places n (take i x) ++ m ∷ []
places_on n i m [] h e = absurd (let r : false ≡ true = e in cc)
places_on n zero m (true ∷ x) h e = ap (λ (j : ℕ). j ∷ []) (let g : n ≡ m = omega (arith, h) in g)
places_on n zero m (false ∷ x) h e = absurd (let r : false ≡ true = e in cc)
places_on n (suc i) m (true ∷ x) h e = ap (λ (l : List ℕ). n ∷ l) (places_on (1 + n) i m x (omega (arith, h)) e)
places_on n (suc i) m (false ∷ x) h e = places_on (1 + n) i m x (omega (arith, h)) e

-- no control more
pub places_off : (n i : ℕ) (x : List Bool) → get_or x i false ≡ false → true_places n (take (suc i) x) ≡ true_places n (take i x)
places_off n zero [] e = refl
places_off n (suc i) [] e = refl
places_off n zero (true ∷ x) e = absurd (let r : true ≡ false = e in cc)
places_off n zero (false ∷ x) e = refl
places_off n (suc i) (true ∷ x) e = ap (λ (l : List ℕ). n ∷ l) (places_off (1 + n) i x e)
places_off n (suc i) (false ∷ x) e = places_off (1 + n) i x e

-- all of one more
and_assoc : (a b c : Bool) → (a && (b && c)) ≡ ((a && b) && c)
and_assoc true b c = refl
and_assoc false b c = refl

-- and with true
and_yes : (a : Bool) → (a && true) ≡ a
and_yes true = refl
and_yes false = refl

-- one more is true beside the others
all_at : (ds : List ℕ) (c : ℕ) (x : ℕ → Bool) → all_true (ds ++ c ∷ []) x ≡ (all_true ds x && x c)
unfolding all_true
all_at [] c x = and_yes (x c)
all_at (d ∷ ds) c x = ap (λ b. x d && b) (all_at ds c x) ∙ and_assoc (x d) (all_true ds x) (x c)

-- the same as functions
pub all_more : (ds : List ℕ) (c : ℕ) → all_true (ds ++ c ∷ []) ≡ (λ x. all_true ds x && x c)
all_more ds c = fun_ext (λ x. all_at ds c x)

-- in the list
conj_in : (vs done ds : List ℕ) (c : ℕ) (es : List ℕ) (p : Function) → IsPrefixOf vs (all_true (done ++ (ds ++ c ∷ []))) p → IsPrefixOfSome vs (conjunctions done (ds ++ c ∷ es)) p
unfolding conjunctions
conj_in vs done [] c es p h = some_first vs (all_true (done ++ c ∷ [])) (conjunctions (done ++ c ∷ []) es) p h
conj_in vs done (d ∷ ds) c es p h =
    some_later vs (all_true (done ++ d ∷ [])) (conjunctions (done ++ d ∷ []) (ds ++ c ∷ es)) p
    (conj_in vs (done ++ d ∷ []) ds c es p (conj_as vs (done ++ (d ∷ (ds ++ c ∷ []))) ((done ++ d ∷ []) ++ (ds ++ c ∷ [])) p (sym (append_assoc done (d ∷ []) (ds ++ c ∷ []))) h))
  where
    conj_as : (vs ks ls : List ℕ) (p : Function) → ks ≡ ls → IsPrefixOf vs (all_true ks) p → IsPrefixOf vs (all_true ls) p
    conj_as vs ks ls p e h = rw (sym e) h

-- the variable of a control is listed
map_in : (vs ds : List ℕ) (c : ℕ) (es : List ℕ) (p : Function) → IsPrefixOf vs (variable_of c) p → IsPrefixOfSome vs (map (λ e. λ x. x e) (ds ++ c ∷ es)) p
unfolding variable_of
map_in vs [] c es p h = some_first vs (λ x. x c) (map (λ e. λ x. x e) es) p h
map_in vs (d ∷ ds) c es p h = some_later vs (λ x. x d) (map (λ e. λ x. x e) (ds ++ c ∷ es)) p (map_in vs ds c es p h)

-- the functions that are made for these controls
abbrev pub Is : List ℕ → List ℕ → Property
Is vs cs = IsPrefixOfSome vs (control_functions cs)

-- both functions that are made for a control
two_in : (vs cs ds : List ℕ) (c : ℕ) (es : List ℕ) → cs ≡ ds ++ c ∷ es → (p : Function) → IsPrefixOfSome vs (variable_of c ∷ all_true (ds ++ c ∷ []) ∷ []) p → Is vs cs p
unfolding control_functions
two_in vs cs ds c es e p h =
    rw e (all_of_two vs (variable_of c) (all_true (ds ++ c ∷ [])) (λ q. IsPrefixOfSome vs (map (λ w. λ x. x w) (ds ++ c ∷ es) ++ conjunctions [] (ds ++ c ∷ es)) q)
    (λ q k. some_left vs (map (λ w. λ x. x w) (ds ++ c ∷ es)) (conjunctions [] (ds ++ c ∷ es)) q (map_in vs ds c es q k))
    (λ q k. some_right vs (map (λ w. λ x. x w) (ds ++ c ∷ es)) (conjunctions [] (ds ++ c ∷ es)) q (conj_in vs [] ds c es q k)) p h)

-- the loop
pub record Conjoins (u : StoreAndCache) (controls : List Bool) (v : StoreAndCache) (n i : ℕ) : Type 0 where
  pub grows : Grows u (Is u.store.order (true_places 0 controls)) v
  pub node : Denotes v.store n (all_true (true_places 0 (take i controls)))

-- at the start
pub conjoins_none : (u : StoreAndCache) (controls : List Bool) → IsConsistent u → Conjoins u controls u 1 0
unfolding all_true
conjoins_none u controls s = record {
  grows = grows_none u (Is u.store.order (true_places 0 controls)) s;
  node = record { live = inl (let h : 1 < 2 = omega arith in h); is = true_function u.store s.store };
}

-- a control is joined to those before it
module _ (u v : StoreAndCache) (controls : List Bool) (n i : ℕ) (h : Conjoins u controls v n i) (on : get_or controls i false ≡ true) where
  abbrev before : List ℕ
  before = true_places 0 (take i controls)

  after_is : true_places 0 (take (suc i) controls) ≡ before ++ i ∷ []
  after_is = places_on 0 i i controls (omega arith) on

  whole_is : true_places 0 controls ≡ before ++ i ∷ true_places (suc i) (drop (suc i) controls)
  whole_is =
      places_split 0 (suc i) (suc i) controls (omega arith)
      ∙ ap (λ (l : List ℕ). l ++ true_places (suc i) (drop (suc i) controls)) after_is
      ∙ append_assoc before (i ∷ []) (true_places (suc i) (drop (suc i) controls))

  with_is : with_at v.store n i ≡ all_true (before ++ i ∷ [])
  with_is = ap (λ (f : Function). λ x. f x && x i) h.node.is ∙ sym (all_more before i)

  same : (variable_of i ∷ with_at v.store n i ∷ []) ≡ (variable_of i ∷ all_true (before ++ i ∷ []) ∷ [])
  same = lists_same (variable_of i) (with_at v.store n i) (variable_of i) (all_true (before ++ i ∷ [])) refl with_is

  pub control_serves : Serves u v (Is u.store.order (true_places 0 controls)) (IsPrefixOfSome v.store.order (variable_of i ∷ with_at v.store n i ∷ []))
  control_serves =
      serves_list u v (Is u.store.order (true_places 0 controls)) (variable_of i ∷ with_at v.store n i ∷ []) (variable_of i ∷ all_true (before ++ i ∷ []) ∷ []) h.grows same
      (two_in u.store.order (true_places 0 controls) before i (true_places (suc i) (drop (suc i) controls)) whole_is)

  conjoined : (w : StoreAndCache) (m : ℕ) → Grows v (IsPrefixOfSome v.store.order (variable_of i ∷ with_at v.store n i ∷ [])) w → Denotes w.store m (with_at v.store n i) → Conjoins u controls w m (suc i)
  conjoined w m g is = record {
    grows = grows_by control_serves g;
    node = denotes_as w.store m (with_at v.store n i) (all_true (true_places 0 (take (suc i) controls))) (with_is ∙ ap all_true (sym after_is)) is;
  }

  pub conjoins_more : (w : StoreAndCache) (m : ℕ) → Grows v (IsPrefixOfSome v.store.order (variable_of i ∷ with_at v.store n i ∷ [])) w → Denotes w.store m (with_at v.store n i) → (j : ℕ) → j ≡ suc i → Conjoins u controls w m j
  conjoins_more w m g is j e = rw e (conjoined w m g is)

-- a place that is no control
skipped : (u v : StoreAndCache) (controls : List Bool) (n i : ℕ) → Conjoins u controls v n i → get_or controls i false ≡ false → Conjoins u controls v n (suc i)
skipped u v controls n i h off = record {
  grows = h.grows;
  node = denotes_as v.store n (all_true (true_places 0 (take i controls))) (all_true (true_places 0 (take (suc i) controls))) (ap all_true (sym (places_off 0 i controls off))) h.node;
}

-- the same at the next place
pub conjoins_skip : (u v : StoreAndCache) (controls : List Bool) (n i : ℕ) → Conjoins u controls v n i → get_or controls i false ≡ false → (j : ℕ) → j ≡ suc i → Conjoins u controls v n j
conjoins_skip u v controls n i h off j e = rw e (skipped u v controls n i h off)

-- the same by other names
pub conjoins_as : (u v w : StoreAndCache) (controls : List Bool) (n m i : ℕ) → w ≡ v → m ≡ n → Conjoins u controls v n i → Conjoins u controls w m i
conjoins_as u v w controls n m i ev en h = rw (ev, en) h

-- all of a list
take_whole : (i : ℕ) (x : List Bool) → length x ≤ i → take i x ≡ x
take_whole zero [] le = refl
take_whole zero (b ∷ x) le = absurd (omega (arith, le))
take_whole (suc i) [] le = refl
take_whole (suc i) (b ∷ x) le = ap (λ (l : List Bool). b ∷ l) (take_whole i x (omega (arith, le)))

-- at the end
pub conjoins_all : (u v : StoreAndCache) (controls : List Bool) (n i : ℕ) → Conjoins u controls v n i → length controls ≤ i → Denotes v.store n (all_true (true_places 0 controls))
conjoins_all u v controls n i h le = denotes_as v.store n (all_true (true_places 0 (take i controls))) (all_true (true_places 0 controls)) (ap (λ (l : List Bool). all_true (true_places 0 l)) (take_whole i controls le)) h.node

-- a control beside the others
pub both_on : (v e : StoreAndCache) (Is : Property) (n m i : ℕ) → IsConsistent v → Grows v Is e → IsLive v.store n → function_of e.store m ≡ variable_of i → both_at e.store n m ≡ with_at v.store n i
unfolding variable_of
both_on v e Is n m i s g live is =
    ap (λ (f : Function). λ x. f x && function_of e.store m x) (function_on v.store e.store n s.store g.sound.store g.extends live)
    ∙ ap (λ (f : Function). λ x. function_of v.store n x && f x) is

-- its two calls
module _ (v : StoreAndCache) (n i : ℕ) (s : IsConsistent v) where
  abbrev Two : Property
  Two = IsPrefixOfSome v.store.order (variable_of i ∷ with_at v.store n i ∷ [])

  pub variable_serves : Serves v v Two (IsPrefixOf v.store.order (variable_of i))
  variable_serves = record { grows = grows_none v Two s; wanted = λ p h. some_first v.store.order (variable_of i) (with_at v.store n i ∷ []) p h }

  pub both_serves : (e : StoreAndCache) (m : ℕ) → IsLive v.store n → Grows v (IsPrefixOf v.store.order (variable_of i)) e → function_of e.store m ≡ variable_of i → Serves v e Two (IsPrefixOf e.store.order (both_at e.store n m))
  both_serves e m live g is =
      serves_one v e Two (both_at e.store n m) (with_at v.store n i) (grows_by variable_serves g) (both_on v e (IsPrefixOf v.store.order (variable_of i)) n m i s g live is)
      (λ p h. some_later v.store.order (variable_of i) (with_at v.store n i ∷ []) p (some_first v.store.order (with_at v.store n i) [] p h))
