-- Bits that are made one after another, each with a carry to the next place.
use Rattle.std.proofs.Common.{◌≡◌, ℕ, suc, ◌<◌, List, [], ◌∷◌, ◌++◌, length, sym, ◌∙◌, ap, arith, length-append}
use Rattle.node_store.specs.declared.node.StoreStop.{StoreStop}
use Rattle.diagram_model.specs.Functions.{Function, IsPrefixOf}
use Rattle.diagram_ops.specs.Diagrams.{StoreAndCache, IsConsistent}
use Rattle.diagram_ops.specs.Made.{Property, StopIs, IsPrefixOfSome}
use Rattle.slice_vec.specs.Digits.{Digits}
use Rattle.slice_vec.specs.Growing.{Grows, Denotes}
use Rattle.slice_vec.specs.Slices.{first_bits}
use Rattle.slice_vec.proofs.Bits.{Shows, shows_none, shows_more}
use Rattle.slice_vec.proofs.Growing.{grows_none, grows_call, grows_calls, stop_call, stop_calls, some_left, some_right, some_bit, all_of_two, denotes_as, lists_same}

-- a prefix subfunction of one of the first w carries and bits
abbrev pub InCarried : StoreAndCache → ℕ → Digits → Digits → Property
InCarried u w s c = IsPrefixOfSome u.store.order (first_bits w c ++ first_bits w s)

-- the bits of s so far, and the next carry of c, of w places
pub record Carries (u : StoreAndCache) (w : ℕ) (s c : Digits) (v : StoreAndCache) (ns : List ℕ) (m : ℕ) : Type 0 where
  pub grows : Grows u (InCarried u w s c) v
  pub shows : Shows v.store ns s
  pub carries : Denotes v.store m (c (length ns))

pub carries_none : (u : StoreAndCache) (w : ℕ) (s c : Digits) (m : ℕ) → IsConsistent u → Denotes u.store m (c 0) → Carries u w s c u [] m
carries_none u w s c m sound first = record { grows = grows_none u (InCarried u w s c) sound; shows = shows_none u.store s; carries = first }

-- at place i the calls make f and g
module _ {u : StoreAndCache} {w : ℕ} {s c : Digits} {v : StoreAndCache} {ns : List ℕ} {m : ℕ} (h : Carries u w s c v ns m) {i : ℕ} (at : length ns ≡ i) {f g : Function} (bit : f ≡ s i) (next : g ≡ c (suc i)) (e : StoreAndCache) where
  wanted_bit : (j : ℕ) → j < w → (p : Function) → IsPrefixOf u.store.order (s j) p → InCarried u w s c p
  wanted_bit j less p q = some_right u.store.order (first_bits w c) (first_bits w s) p (some_bit u.store.order w j s p less q)

  wanted_both : suc i < w → (p : Function) → IsPrefixOfSome u.store.order (s i ∷ c (suc i) ∷ []) p → InCarried u w s c p
  wanted_both less =
      all_of_two u.store.order (s i) (c (suc i)) (InCarried u w s c) (wanted_bit i (omega (arith, less)))
      (λ p q. some_left u.store.order (first_bits w c) (first_bits w s) p (some_bit u.store.order w (suc i) c p less q))

  both : (f ∷ g ∷ []) ≡ (s i ∷ c (suc i) ∷ [])
  both = lists_same f g (s i) (c (suc i)) bit next

  shown : (n : ℕ) (Are : Property) → Grows v Are e → Denotes e.store n f → Shows e.store (ns ++ n ∷ []) s
  shown n Are k is = shows_more v e Are ns s n h.grows.sound k h.shows (denotes_as e.store n f (s (length ns)) (bit ∙ ap s (sym at)) is)

  -- a place before the last
  pub place_grows : suc i < w → Grows v (IsPrefixOfSome v.store.order (f ∷ g ∷ [])) e → Grows u (InCarried u w s c) e
  place_grows less k = grows_calls u v e (InCarried u w s c) (f ∷ g ∷ []) (s i ∷ c (suc i) ∷ []) h.grows k both (wanted_both less)

  pub place_stops : suc i < w → (why : StoreStop) → StopIs e.store (IsPrefixOfSome v.store.order (f ∷ g ∷ [])) why → StopIs e.store (InCarried u w s c) why
  place_stops less why stop = stop_calls u v e (InCarried u w s c) (f ∷ g ∷ []) (s i ∷ c (suc i) ∷ []) h.grows both (wanted_both less) why stop

  pub carries_more : {zs : List ℕ} {n l : ℕ} → suc i < w → Grows v (IsPrefixOfSome v.store.order (f ∷ g ∷ [])) e → Denotes e.store n f → Denotes e.store l g → zs ≡ ns ++ n ∷ [] → Carries u w s c e zs l
  carries_more {zs} {n} {l} less k is_n is_l made =
      let longer : suc i ≡ length (ns ++ n ∷ []) = omega (arith, length-append ns (n ∷ []), at) in
      let out : Carries u w s c e (ns ++ n ∷ []) l = record {
        grows = place_grows less k;
        shows = shown n (IsPrefixOfSome v.store.order (f ∷ g ∷ [])) k is_n;
        carries = denotes_as e.store l g (c (length (ns ++ n ∷ []))) (next ∙ ap c longer) is_l;
      } in
      rw made out

  -- the last place
  pub top_grows : i < w → Grows v (IsPrefixOf v.store.order f) e → Grows u (InCarried u w s c) e
  top_grows less k = grows_call u v e (InCarried u w s c) f (s i) h.grows k bit (wanted_bit i less)

  pub top_stops : i < w → (why : StoreStop) → StopIs e.store (IsPrefixOf v.store.order f) why → StopIs e.store (InCarried u w s c) why
  top_stops less why stop = stop_call u v e (InCarried u w s c) f (s i) h.grows bit (wanted_bit i less) why stop

  pub top_shows : (n : ℕ) → Grows v (IsPrefixOf v.store.order f) e → Denotes e.store n f → Shows e.store (ns ++ n ∷ []) s
  top_shows n k is = shown n (IsPrefixOf v.store.order f) k is
