-- One call after another, under one property of the nodes made.
use Rattle.std.proofs.Common.{◌≡◌, ℕ, zero, suc, ◌<◌, List, [], ◌∷◌, ◌++◌, inl, inr, refl, sym, ◌∙◌, ap, arith}
use Rattle.std.proofs.lemmas.Bool.{cases_eq}
use Rattle.node_store.specs.declared.node.StoreStop.{StoreStop}
use Rattle.diagram_model.specs.Functions.{Function, IsPrefixOf}
use Rattle.diagram_model.specs.Stores.{Diagram, IsLive, function_of}
use Rattle.diagram_model.proofs.Growing.{extends_trans, live_on, function_on, functions_same}
use Rattle.diagram_ops.specs.Diagrams.{StoreAndCache, IsConsistent}
use Rattle.diagram_ops.specs.Made.{Property, StopIs, IsPrefixOfSome}
use Rattle.diagram_ops.proofs.Making.{makes_none, makes_then, makes_wider, stop_wider}
use Rattle.diagram_ops.proofs.Results.{same_store, functions_then}
use Rattle.slice_vec.specs.Digits.{Digits}
use Rattle.slice_vec.specs.Growing.{Grows, Denotes}
use Rattle.slice_vec.specs.Slices.{first_bits}

pub grows_none : (v : StoreAndCache) (Is : Property) → IsConsistent v → Grows v Is v
grows_none v Is s = record {
  sound = s;
  extends = same_store v.store;
  functions = functions_same v.store;
  capacity = refl;
  cached = omega arith;
  made = makes_none v.store Is;
}

pub grows_wider : (u v : StoreAndCache) (Is Are : Property) → ((p : Function) → Is p → Are p) → Grows u Is v → Grows u Are v
grows_wider u v Is Are wider g = record {
  sound = g.sound;
  extends = g.extends;
  functions = g.functions;
  capacity = g.capacity;
  cached = g.cached;
  made = makes_wider u.store v.store Is Are wider g.made;
}

pub grows_then : (u v w : StoreAndCache) (Is : Property) → Grows u Is v → Grows v Is w → Grows u Is w
grows_then u v w Is g h = record {
  sound = h.sound;
  extends = extends_trans u.store v.store w.store g.extends h.extends;
  functions = functions_then u.store v.store w.store g.functions h.functions;
  capacity = h.capacity ∙ g.capacity;
  cached = omega (arith, g.cached, h.cached);
  made = makes_then u.store v.store w.store Is g.sound.store h.sound.store h.extends g.made h.made;
}

-- a call that makes prefix subfunctions of f, which by another name is r
wanted_by : (us vs : List ℕ) (f r : Function) (Is : Property) → vs ≡ us → f ≡ r → ((p : Function) → IsPrefixOf us r p → Is p) → (p : Function) → IsPrefixOf vs f p → Is p
wanted_by us vs f r Is ev ef wanted p h = wanted p (rw (sym ev, sym ef) h)

pub grows_call : (u v w : StoreAndCache) (Is : Property) (f r : Function) → Grows u Is v → Grows v (IsPrefixOf v.store.order f) w → f ≡ r → ((p : Function) → IsPrefixOf u.store.order r p → Is p) → Grows u Is w
grows_call u v w Is f r g h same wanted =
    grows_then u v w Is g (grows_wider v w (IsPrefixOf v.store.order f) Is (wanted_by u.store.order v.store.order f r Is g.extends.order same wanted) h)

pub stop_call : (u v w : StoreAndCache) (Is : Property) (f r : Function) → Grows u Is v → f ≡ r → ((p : Function) → IsPrefixOf u.store.order r p → Is p) → (why : StoreStop) → StopIs w.store (IsPrefixOf v.store.order f) why → StopIs w.store Is why
stop_call u v w Is f r g same wanted why stop =
    stop_wider w.store (IsPrefixOf v.store.order f) Is (wanted_by u.store.order v.store.order f r Is g.extends.order same wanted) why stop

-- the same for a list of functions
wanted_list : (us vs : List ℕ) (fs rs : List Function) (Is : Property) → vs ≡ us → fs ≡ rs → ((p : Function) → IsPrefixOfSome us rs p → Is p) → (p : Function) → IsPrefixOfSome vs fs p → Is p
wanted_list us vs fs rs Is ev ef wanted p h = wanted p (rw (sym ev, sym ef) h)

pub grows_calls : (u v w : StoreAndCache) (Is : Property) (fs rs : List Function) → Grows u Is v → Grows v (IsPrefixOfSome v.store.order fs) w → fs ≡ rs → ((p : Function) → IsPrefixOfSome u.store.order rs p → Is p) → Grows u Is w
grows_calls u v w Is fs rs g h same wanted =
    grows_then u v w Is g (grows_wider v w (IsPrefixOfSome v.store.order fs) Is (wanted_list u.store.order v.store.order fs rs Is g.extends.order same wanted) h)

pub stop_calls : (u v w : StoreAndCache) (Is : Property) (fs rs : List Function) → Grows u Is v → fs ≡ rs → ((p : Function) → IsPrefixOfSome u.store.order rs p → Is p) → (why : StoreStop) → StopIs w.store (IsPrefixOfSome v.store.order fs) why → StopIs w.store Is why
stop_calls u v w Is fs rs g same wanted why stop =
    stop_wider w.store (IsPrefixOfSome v.store.order fs) Is (wanted_list u.store.order v.store.order fs rs Is g.extends.order same wanted) why stop

-- what a node denotes stays
pub denotes_on : (v w : StoreAndCache) (Is : Property) (n : ℕ) (f : Function) → IsConsistent v → Grows v Is w → Denotes v.store n f → Denotes w.store n f
denotes_on v w Is n f s g h = record {
  live = live_on v.store w.store n g.extends h.live;
  is = function_on v.store w.store n s.store g.sound.store g.extends h.live ∙ h.is;
}

pub denotes_as : (d : Diagram) (n : ℕ) (f g : Function) → f ≡ g → Denotes d n f → Denotes d n g
denotes_as d n f g e h = record { live = h.live; is = h.is ∙ e }

pub denotes_itself : (d : Diagram) (n : ℕ) → IsLive d n → Denotes d n (function_of d n)
denotes_itself d n live = record { live = live; is = refl }

pub denotes_node : (d : Diagram) (n m : ℕ) (f : Function) → n ≡ m → Denotes d m f → Denotes d n f
denotes_node d n m f e h = rw e h

-- what arises from one function of a list arises from the list
pub some_left : (vs : List ℕ) (fs gs : List Function) (p : Function) → IsPrefixOfSome vs fs p → IsPrefixOfSome vs (fs ++ gs) p
unfolding IsPrefixOfSome
some_left vs [] gs p h = absurd h
some_left vs (f ∷ fs) gs p (inl h) = inl h
some_left vs (f ∷ fs) gs p (inr h) = inr (some_left vs fs gs p h)

pub some_right : (vs : List ℕ) (fs gs : List Function) (p : Function) → IsPrefixOfSome vs gs p → IsPrefixOfSome vs (fs ++ gs) p
unfolding IsPrefixOfSome
some_right vs [] gs p h = h
some_right vs (f ∷ fs) gs p h = inr (some_right vs fs gs p h)

pub some_bit : (vs : List ℕ) (n i : ℕ) (s : Digits) (p : Function) → i < n → IsPrefixOf vs (s i) p → IsPrefixOfSome vs (first_bits n s) p
unfolding IsPrefixOfSome first_bits
some_bit vs zero i s p less h = absurd (omega (arith, less))
some_bit vs (suc n) i s p less h =
    elim (cases_eq i n) [
      | inl e ↦ inl (rw (sym e) h)
      | inr ne ↦ inr (some_bit vs n i s p (omega (arith, less, ne)) h)
    ]

pub some_first : (vs : List ℕ) (f : Function) (gs : List Function) (p : Function) → IsPrefixOf vs f p → IsPrefixOfSome vs (f ∷ gs) p
unfolding IsPrefixOfSome
some_first vs f gs p h = inl h

pub some_later : (vs : List ℕ) (f : Function) (gs : List Function) (p : Function) → IsPrefixOfSome vs gs p → IsPrefixOfSome vs (f ∷ gs) p
unfolding IsPrefixOfSome
some_later vs f gs p h = inr h

-- whatever arises from each of two functions
pub all_of_two : (vs : List ℕ) (f g : Function) (Is : Property) → ((p : Function) → IsPrefixOf vs f p → Is p) → ((p : Function) → IsPrefixOf vs g p → Is p) → (p : Function) → IsPrefixOfSome vs (f ∷ g ∷ []) p → Is p
unfolding IsPrefixOfSome
all_of_two vs f g Is at_f at_g p (inl h) = at_f p h
all_of_two vs f g Is at_f at_g p (inr (inl h)) = at_g p h
all_of_two vs f g Is at_f at_g p (inr (inr h)) = absurd h

-- one call, and another one after it
pub first_grows : (v e : StoreAndCache) (f : Function) (gs : List Function) → Grows v (IsPrefixOf v.store.order f) e → Grows v (IsPrefixOfSome v.store.order (f ∷ gs)) e
first_grows v e f gs g = grows_wider v e (IsPrefixOf v.store.order f) (IsPrefixOfSome v.store.order (f ∷ gs)) (λ p h. some_first v.store.order f gs p h) g

pub first_stop : (d : Diagram) (vs : List ℕ) (f : Function) (gs : List Function) (why : StoreStop) → StopIs d (IsPrefixOf vs f) why → StopIs d (IsPrefixOfSome vs (f ∷ gs)) why
first_stop d vs f gs why stop = stop_wider d (IsPrefixOf vs f) (IsPrefixOfSome vs (f ∷ gs)) (λ p h. some_first vs f gs p h) why stop

second_wanted : (vs : List ℕ) (f q p : Function) → IsPrefixOf vs q p → IsPrefixOfSome vs (f ∷ q ∷ []) p
second_wanted vs f q p h = some_later vs f (q ∷ []) p (some_first vs q [] p h)

pub second_grows : (v e w : StoreAndCache) (f q r : Function) → Grows v (IsPrefixOf v.store.order f) e → Grows e (IsPrefixOf e.store.order q) w → q ≡ r → Grows v (IsPrefixOfSome v.store.order (f ∷ r ∷ [])) w
second_grows v e w f q r g h same =
    grows_call v e w (IsPrefixOfSome v.store.order (f ∷ r ∷ [])) q r (first_grows v e f (r ∷ []) g) h same (λ p is. second_wanted v.store.order f r p is)

pub second_stop : (v e w : StoreAndCache) (f q r : Function) → Grows v (IsPrefixOf v.store.order f) e → q ≡ r → (why : StoreStop) → StopIs w.store (IsPrefixOf e.store.order q) why → StopIs w.store (IsPrefixOfSome v.store.order (f ∷ r ∷ [])) why
second_stop v e w f q r g same why stop =
    stop_call v e w (IsPrefixOfSome v.store.order (f ∷ r ∷ [])) q r (first_grows v e f (r ∷ []) g) same (λ p is. second_wanted v.store.order f r p is) why stop

pub lists_same : (f g h k : Function) → f ≡ h → g ≡ k → (f ∷ g ∷ []) ≡ (h ∷ k ∷ [])
lists_same f g h k e d = ap (λ (w : Function). w ∷ g ∷ []) e ∙ ap (λ (w : Function). h ∷ w ∷ []) d

-- a call of the function f, by another name
pub renamed_grows : (v w : StoreAndCache) (f r : Function) → f ≡ r → Grows v (IsPrefixOf v.store.order f) w → Grows v (IsPrefixOf v.store.order r) w
renamed_grows v w f r same g = rw (sym same) g
