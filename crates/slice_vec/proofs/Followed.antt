-- Bits that are made one after another, each by a call of its own.
use Rattle.std.proofs.Common.{◌≡◌, ℕ, ◌-◌, ◌<◌, ◌≤◌, Bool, cond, max, List, [], ◌∷◌, ◌++◌, length, inl, sym, ◌∙◌, ap, arith}
use Rattle.node_store.specs.declared.node.StoreStop.{StoreStop}
use Rattle.diagram_model.specs.Functions.{Function, IsPrefixOf, put}
use Rattle.diagram_model.specs.Stores.{Diagram, IsLive, IsSound, function_of}
use Rattle.diagram_model.proofs.Growing.{function_on}
use Rattle.diagram_ops.specs.Diagrams.{StoreAndCache, IsConsistent}
use Rattle.diagram_ops.specs.Made.{Property, StopIs, IsPrefixOfSome}
use Rattle.diagram_ops.specs.Bounds.{joint_size_in, joint_size_of, TakesAtMost}
use Rattle.diagram_ops.specs.Flips.{flip, exchanged}
use Rattle.slice_vec.specs.Bounds.{choosing, turning}
use Rattle.slice_vec.specs.Digits.{Digits, IsSteady, choice, chosen, fixed, turned, slice_value}
use Rattle.slice_vec.specs.Growing.{Grows, Denotes}
use Rattle.slice_vec.specs.Places.{choice_at}
use Rattle.slice_vec.specs.Slices.{digits_of, StandsIn, first_bits, IsChosen, IsFixed, turned_point, IsTurned}
use Rattle.slice_vec.proofs.Bits.{Shows, shows_none, shows_more, shows_digits, shows_stands, steady-digits, steady_later, value_on}
use Rattle.slice_vec.proofs.Bounds.{joint_as, steps_as}
use Rattle.slice_vec.proofs.DigitLemmas.{value-chosen, steady-chosen, value-fixed, steady-fixed, value-turned, steady-turned}
use Rattle.slice_vec.proofs.Growing.{grows_none, grows_call, stop_call, some_bit, denotes_as, denotes_on, denotes_itself}
use Rattle.slice_vec.proofs.Places.{false_function}

-- the first bits of s so far, of w bits
pub record Follows (u : StoreAndCache) (w : ℕ) (s : Digits) (v : StoreAndCache) (ns : List ℕ) : Type 0 where
  pub grows : Grows u (IsPrefixOfSome u.store.order (first_bits w s)) v
  pub shows : Shows v.store ns s

pub follows_none : (u : StoreAndCache) (w : ℕ) (s : Digits) → IsConsistent u → Follows u w s u []
follows_none u w s sound = record { grows = grows_none u (IsPrefixOfSome u.store.order (first_bits w s)) sound; shows = shows_none u.store s }

module _ {u : StoreAndCache} {k : ℕ} {s : Digits} {v : StoreAndCache} {ns : List ℕ} (h : Follows u k s v ns) {i : ℕ} (at : length ns ≡ i) {f : Function} (same : f ≡ s i) (less : i < k) (w : StoreAndCache) where
  pub next_grows : Grows v (IsPrefixOf v.store.order f) w → Grows u (IsPrefixOfSome u.store.order (first_bits k s)) w
  next_grows g =
      grows_call u v w (IsPrefixOfSome u.store.order (first_bits k s)) f (s i) h.grows g same (λ p q. some_bit u.store.order k i s p less q)

  pub next_stops : (why : StoreStop) → StopIs w.store (IsPrefixOf v.store.order f) why → StopIs w.store (IsPrefixOfSome u.store.order (first_bits k s)) why
  next_stops why stop =
      stop_call u v w (IsPrefixOfSome u.store.order (first_bits k s)) f (s i) h.grows same (λ p q. some_bit u.store.order k i s p less q) why stop

  pub follows_more : {zs : List ℕ} {n : ℕ} → Grows v (IsPrefixOf v.store.order f) w → Denotes w.store n f → zs ≡ ns ++ n ∷ [] → Follows u k s w zs
  follows_more {zs} {n} g is made =
      let out : Follows u k s w (ns ++ n ∷ []) = record {
        grows = next_grows g;
        shows = shows_more v w (IsPrefixOf v.store.order f) ns s n h.grows.sound g h.shows (denotes_as w.store n f (s (length ns)) (same ∙ ap s (sym at)) is);
      } in
      rw made out

-- the choice at place i
pub choice_is : (u v : StoreAndCache) (Is : Property) (n : ℕ) (xs ys : List ℕ) (i an bn : ℕ) → IsConsistent u → Grows u Is v → IsLive u.store n → Denotes v.store an (digits_of u.store xs i) → Denotes v.store bn (digits_of u.store ys i) → choice_at v.store n an bn ≡ chosen (function_of u.store n) (digits_of u.store xs) (digits_of u.store ys) i
unfolding chosen
choice_is u v Is n xs ys i an bn s g live a b =
    let m = denotes_on u v Is n (function_of u.store n) s g (denotes_itself u.store n live) in
    ap (λ (f : Function). choice f (function_of v.store an) (function_of v.store bn)) m.is
    ∙ ap (λ (f : Function). choice (function_of u.store n) f (function_of v.store bn)) a.is
    ∙ ap (λ (f : Function). choice (function_of u.store n) (digits_of u.store xs i) f) b.is

-- its steps
pub choice_joint : (u v : StoreAndCache) (Is : Property) (n : ℕ) (xs ys : List ℕ) (i an bn : ℕ) (w : StoreAndCache) (s t : ℕ) → IsConsistent u → Grows u Is v → IsLive u.store n → Denotes v.store an (digits_of u.store xs i) → Denotes v.store bn (digits_of u.store ys i) → TakesAtMost (joint_size_of v.store n an bn) v.store w.store s t → TakesAtMost (choosing u.store (function_of u.store n) (digits_of u.store xs) (digits_of u.store ys) i) v.store w.store s t
unfolding choosing
choice_joint u v Is n xs ys i an bn w s t sound g live a b h =
    let m = denotes_on u v Is n (function_of u.store n) sound g (denotes_itself u.store n live) in
    let x = digits_of u.store xs i in let y = digits_of u.store ys i in
    steps_as (joint_size_of v.store n an bn) (joint_size_in u.store (function_of u.store n) x y) v.store w.store s t
    (joint_as u.store v.store (function_of v.store n) (function_of v.store an) (function_of v.store bn) (function_of u.store n) x y g.extends.order m.is a.is b.is) h

pub chosen_done : (u v : StoreAndCache) (n : ℕ) (xs ys zs : List ℕ) → StandsIn u.store xs → StandsIn u.store ys → Follows u (max (length xs) (length ys)) (chosen (function_of u.store n) (digits_of u.store xs) (digits_of u.store ys)) v zs → length zs ≡ max (length xs) (length ys) → IsChosen u.store v.store n xs ys zs
chosen_done u v n xs ys zs hx hy h len =
    let f = function_of u.store n in
    let a = digits_of u.store xs in let b = digits_of u.store ys in
    let m = length zs - 1 in
    let some : 0 < length zs = omega (arith, len, hx.some) in
    let few : length zs ≤ 131 = omega (arith, len, hx.few, hy.few) in
    let ha = steady-digits u.store xs hx.some in
    let hb = steady-digits u.store ys hy.some in
    let steady : IsSteady m (chosen f a b) = steady-chosen m f a b (steady_later (length xs - 1) m a ha (omega (arith, len))) (steady_later (length ys - 1) m b hb (omega (arith, len))) in
    let digits : digits_of v.store zs ≡ chosen f a b = shows_digits v.store zs (chosen f a b) h.shows some steady in
    record {
      width = len;
      stands = shows_stands v.store zs (chosen f a b) h.shows some few;
      digits = digits;
      values = λ x.
          ap (λ (s : Digits). slice_value m s x) digits
          ∙ value-chosen m f a b x
          ∙ ap (λ z. cond (f x) z (slice_value m b x)) (value_on (length xs - 1) m a x ha (omega (arith, len)))
          ∙ ap (λ z. cond (f x) (slice_value (length xs - 1) a x) z) (value_on (length ys - 1) m b x hb (omega (arith, len)));
    }

pub fixed_done : (u v : StoreAndCache) (t : ℕ) (b : Bool) (xs zs : List ℕ) → StandsIn u.store xs → Follows u (length xs) (fixed t b (digits_of u.store xs)) v zs → length zs ≡ length xs → IsFixed u.store v.store t b xs zs
fixed_done u v t b xs zs hx h len =
    let a = digits_of u.store xs in
    let m = length zs - 1 in
    let some : 0 < length zs = omega (arith, len, hx.some) in
    let few : length zs ≤ 131 = omega (arith, len, hx.few) in
    let ha = steady-digits u.store xs hx.some in
    let steady : IsSteady m (fixed t b a) = steady-fixed m t b a (steady_later (length xs - 1) m a ha (omega (arith, len))) in
    let digits : digits_of v.store zs ≡ fixed t b a = shows_digits v.store zs (fixed t b a) h.shows some steady in
    record {
      width = len;
      stands = shows_stands v.store zs (fixed t b a) h.shows some few;
      digits = digits;
      values = λ x.
          ap (λ (s : Digits). slice_value m s x) digits
          ∙ value-fixed m t b a x
          ∙ value_on (length xs - 1) m a (put x t b) ha (omega (arith, len));
    }

-- a node that stays has its function
stays : (u v : StoreAndCache) (Is : Property) (n : ℕ) → IsConsistent u → Grows u Is v → IsLive u.store n → Denotes v.store n (function_of u.store n)
stays u v Is n s g live = denotes_on u v Is n (function_of u.store n) s g (denotes_itself u.store n live)

-- the flipped bit at place i
pub turned_is : (u v : StoreAndCache) (Is : Property) (t n : ℕ) (xs : List ℕ) (i an : ℕ) → IsConsistent u → Grows u Is v → IsLive u.store n → Denotes v.store an (digits_of u.store xs i) → exchanged t (function_of v.store n) (function_of v.store an) ≡ turned t (function_of u.store n) (digits_of u.store xs) i
unfolding turned
turned_is u v Is t n xs i an s g live a =
    ap (λ (f : Function). exchanged t f (function_of v.store an)) (stays u v Is n s g live).is
    ∙ ap (exchanged t (function_of u.store n)) a.is

pub turned_live : (u v : StoreAndCache) (Is : Property) (n : ℕ) → IsConsistent u → Grows u Is v → IsLive u.store n → IsLive v.store n
turned_live u v Is n s g live = (stays u v Is n s g live).live

-- FALSE stays FALSE
pub turned_none : (d : Diagram) (t n : ℕ) → IsSound d → Denotes d 0 (exchanged t (function_of d n) (function_of d 0))
unfolding exchanged
turned_none d t n s =
    let none = false_function d s in
    record { live = inl (omega arith); is = none ∙ ap (exchanged t (function_of d n)) (sym none) }

-- what is known of the bit below, in the store of this place
pub turned_below : (u v : StoreAndCache) (Is : Property) (t n a m : ℕ) → IsConsistent u → Grows u Is v → IsLive u.store n → Denotes v.store m (exchanged t (function_of u.store n) (function_of v.store a)) → Denotes v.store m (exchanged t (function_of v.store n) (function_of v.store a))
turned_below u v Is t n a m s g live h =
    denotes_as v.store m (exchanged t (function_of u.store n) (function_of v.store a)) (exchanged t (function_of v.store n) (function_of v.store a))
    (ap (λ (f : Function). exchanged t f (function_of v.store a)) (sym (stays u v Is n s g live).is)) h

-- what was made is known in the store after it
pub turned_next : (u v w : StoreAndCache) (Was Is : Property) (t n a m : ℕ) → IsConsistent u → Grows u Was v → Grows v Is w → IsLive u.store n → IsLive v.store a → Denotes w.store m (exchanged t (function_of v.store n) (function_of v.store a)) → Denotes w.store m (exchanged t (function_of u.store n) (function_of w.store a))
turned_next u v w Was Is t n a m s first g ln la h =
    denotes_as w.store m (exchanged t (function_of v.store n) (function_of v.store a)) (exchanged t (function_of u.store n) (function_of w.store a))
    (ap (λ (f : Function). exchanged t f (function_of v.store a)) (stays u v Was n s first ln).is
    ∙ ap (exchanged t (function_of u.store n)) (sym (function_on v.store w.store a first.sound.store g.sound.store g.extends la))) h

-- its steps
pub turned_joint : (u v : StoreAndCache) (Is : Property) (t n : ℕ) (xs : List ℕ) (i an : ℕ) (w : StoreAndCache) (s0 s1 : ℕ) → IsConsistent u → Grows u Is v → IsLive u.store n → Denotes v.store an (digits_of u.store xs i) → TakesAtMost (joint_size_in v.store (function_of v.store n) (flip t (function_of v.store an)) (function_of v.store an)) v.store w.store s0 s1 → TakesAtMost (turning u.store t (function_of u.store n) (digits_of u.store xs) i) v.store w.store s0 s1
unfolding turning
turned_joint u v Is t n xs i an w s0 s1 sound g live a h =
    let m = denotes_on u v Is n (function_of u.store n) sound g (denotes_itself u.store n live) in
    let x = digits_of u.store xs i in
    let f = function_of v.store an in
    steps_as (joint_size_in v.store (function_of v.store n) (flip t f) f) (joint_size_in u.store (function_of u.store n) (flip t x) x) v.store w.store s0 s1
    (joint_as u.store v.store (function_of v.store n) (flip t f) f (function_of u.store n) (flip t x) x g.extends.order m.is (ap (flip t) a.is) a.is) h

pub turned_done : (u v : StoreAndCache) (t n : ℕ) (xs zs : List ℕ) → StandsIn u.store xs → Follows u (length xs) (turned t (function_of u.store n) (digits_of u.store xs)) v zs → length zs ≡ length xs → IsTurned u.store v.store t n xs zs
turned_done u v t n xs zs hx h len =
    let f = function_of u.store n in
    let a = digits_of u.store xs in
    let m = length zs - 1 in
    let some : 0 < length zs = omega (arith, len, hx.some) in
    let few : length zs ≤ 131 = omega (arith, len, hx.few) in
    let ha = steady-digits u.store xs hx.some in
    let steady : IsSteady m (turned t f a) = steady-turned m t f a (steady_later (length xs - 1) m a ha (omega (arith, len))) in
    let digits : digits_of v.store zs ≡ turned t f a = shows_digits v.store zs (turned t f a) h.shows some steady in
    record {
      width = len;
      stands = shows_stands v.store zs (turned t f a) h.shows some few;
      digits = digits;
      values = λ x.
          ap (λ (s : Digits). slice_value m s x) digits
          ∙ value-turned m t f a x
          ∙ value_on (length xs - 1) m a (turned_point t f x) ha (omega (arith, len));
    }
