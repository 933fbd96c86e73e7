-- The nodes that are left once the first bits are known, one list for each number of bits, the last one on top.
use Rattle.std.proofs.Common.{◌≡◌, ℕ, zero, suc, ◌+◌, ◌-◌, ◌<◌, Bool, false, List, [], ◌∷◌, ◌++◌, length, length-append, map, take, drop, get_or, refl, sym, ◌∙◌, ap, subst, arith}
use Rattle.std.proofs.Math.Path.{ap₂}
use Rattle.std.proofs.lemmas.List.{length-map, get_or-map, get_or_append_left}
use Rattle.diagram_model.specs.Functions.{bit}
use Rattle.diagram_model.specs.Nodes.{follow}
use Rattle.diagram_model.specs.Stores.{Diagram, IsSound}
use Rattle.slice_quad.specs.declared.coord.Coord.{Coord}
use Rattle.slice_quad.specs.declared.coord.Coord.TheVariants.{A, B, C, D}
use Rattle.slice_quad.specs.declared.four.Four.{Four}
use Rattle.slice_quad.specs.Fours.{nodes_of}
use Rattle.slice_quad.specs.Walks.{entries_in, Shares}
use Rattle.slice_weights.specs.declared.places.Places.{Places}
use Rattle.slice_weights.specs.declared.places.Roots.{Roots}
use Rattle.slice_weights.specs.Private.{picked, four_at, ArePlaces, ArePlacesIn, AreFrom, IsBitOf, IsCut, AreCuts, AreRoots, IsReady}
use Rattle.slice_weights.proofs.Tuples.{half, half_from, length-half, entry_half}

-- ---- a bit more
pub shares_append : (x : List Bool) (b : Bool) → Shares (length x) (x ++ b ∷ []) x
shares_append x b i lt = get_or_append_left x (b ∷ []) false i lt

pub last_bit : (x : List Bool) (b : Bool) → bit (x ++ b ∷ []) (length x) ≡ b
last_bit [] b = refl
last_bit (c ∷ x) b = last_bit x b

-- the first bits of a list and one more
pub begins : (x y : List Bool) (b : Bool) → y ≡ x ++ b ∷ [] → Shares (length x) y x
begins x y b is i lt = ap (λ l. bit l i) is ∙ shares_append x b i lt

drop-front : (ns t : List ℕ) → drop (length ns) (ns ++ t) ≡ t
drop-front [] t = refl
drop-front (n ∷ ns) t = drop-front ns t

take-front : (ns t : List ℕ) → take (length ns) (ns ++ t) ≡ ns
take-front [] t = refl
take-front (n ∷ ns) t = ap (λ l. n ∷ l) (take-front ns t)

-- a node that is a bit stays one
half_bit : (d : Diagram) (s : Places) (v : ℕ) (t : List ℕ) (b : Bool) (n : ℕ) → ArePlacesIn (length t) s → IsBitOf (four_at s t) n → IsBitOf (four_at s (half d v t b)) (follow d.slots v b n)
half_bit d s v t b n are of = by of.coord of.place of.within of.is
  where
    one : (ps : List ℕ) → ArePlaces (length t) ps → (i : ℕ) → i < length (picked ps t) → n ≡ get_or (picked ps t) i 0 → follow d.slots v b n ≡ get_or (picked ps (half d v t b)) i 0
    one ps is i lt at =
        let inside : i < length ps = omega (arith, length-map ps (λ j. get_or t j 0)) in
        ap (follow d.slots v b) (at ∙ get_or-map (λ j. get_or t j 0) ps i 0 0 inside)
        ∙ sym (get_or-map (follow d.slots v b) t (get_or ps i 0) 0 0 (is.within i inside))
        ∙ sym (get_or-map (λ j. get_or (half d v t b) j 0) ps i 0 0 inside)

    still : (ps : List ℕ) (i : ℕ) → i < length (picked ps t) → i < length (picked ps (half d v t b))
    still ps i lt = omega (arith, length-map ps (λ j. get_or t j 0), length-map ps (λ j. get_or (half d v t b) j 0))

    by : (z : Coord) (i : ℕ) → i < length (nodes_of (four_at s t) z) → n ≡ get_or (nodes_of (four_at s t) z) i 0 → IsBitOf (four_at s (half d v t b)) (follow d.slots v b n)
    by A i lt at = record { coord = A; place = i; within = still s.a.items i lt; is = one s.a.items are.a i lt at }
    by B i lt at = record { coord = B; place = i; within = still s.b.items i lt; is = one s.b.items are.b i lt at }
    by C i lt at = record { coord = C; place = i; within = still s.c.items i lt; is = one s.c.items are.c i lt at }
    by D i lt at = record { coord = D; place = i; within = still s.d.items i lt; is = one s.d.items are.d i lt at }

module _ (d : Diagram) (s : Places) (f : Four) (read : List Bool → List Bool) (m : ℕ) where
  cut_shares : (k : ℕ) (x y : List Bool) (t : List ℕ) → Shares k x y → IsCut d s f read m k x t → IsCut d s f read m k y t
  cut_shares k x y t alike cut = record {
    long = cut.long;
    from = cut.from;
    bits = cut.bits;
    same = λ z wide shares. cut.same z wide (λ i lt. shares i lt ∙ sym (alike i lt));
  }

  cuts_share : (k : ℕ) (x y : List Bool) (ns : List ℕ) → Shares k x y → AreCuts d s f read m k x ns → AreCuts d s f read m k y ns
  cuts_share zero x y ns alike cuts = cut_shares 0 x y ns alike cuts
  cuts_share (suc k) x y ns alike cuts =
      (cut_shares (suc k) x y (drop (length ns - m) ns) alike cuts.0, cuts_share k x y (take (length ns - m) ns) (λ i lt. alike i (omega (arith, lt))) cuts.1)

  -- the list on top
  pub top_cut : (k : ℕ) (x : List Bool) (ns : List ℕ) → AreCuts d s f read m k x ns → IsCut d s f read m k x (drop (length ns - m) ns)
  top_cut zero x ns cuts =
      let none : 0 ≡ length ns - m = omega (arith, cuts.long) in
      subst (λ i. IsCut d s f read m 0 x (drop i ns)) none cuts
  top_cut (suc k) x ns cuts = cuts.0

  -- what is left once one bit more is known: that of the variable v
  cut_half : (k v : ℕ) (x y : List Bool) (b : Bool) (t : List ℕ) → IsSound d → ArePlacesIn m s → k < length d.order → v ≡ get_or d.order k 0 → ((z : List Bool) → length z ≡ length d.order → bit z v ≡ bit (read z) k) → length x ≡ k → y ≡ x ++ b ∷ []
      → IsCut d s f read m k x t → IsCut d s f read m (suc k) y (half d v t b)
  cut_half k v x y b t sound are within at reads long is cut =
      let places : ArePlacesIn (length t) s = subst (λ l. ArePlacesIn l s) (sym cut.long) are in
      let next : k + 1 ≡ suc k = omega arith in
      record {
        long = length-half d v t b ∙ cut.long;
        from = subst (λ i. AreFrom d i (half d v t b)) next (half_from d sound k v t within at cut.from b);
        bits = λ j lt.
            let inside : j < length t = omega (arith, length-half d v t b) in
            subst (IsBitOf (four_at s (half d v t b))) (sym (get_or-map (follow d.slots v b) t j 0 0 inside)) (half_bit d s v t b (get_or t j 0) places (cut.bits j inside));
        same = λ z wide shares.
            let here : bit z v ≡ b = reads z wide ∙ shares k (omega arith) ∙ ap (λ l. bit l k) is ∙ ap (bit (x ++ b ∷ [])) (sym long) ∙ last_bit x b in
            let front : Shares k (read z) x = λ i lt. shares i (omega (arith, lt)) ∙ ap (λ l. bit l i) is ∙ shares_append x b i (omega (arith, lt, long)) in
            sym (entry_half d sound k v t within at cut.from s places b z here) ∙ cut.same z wide front;
      }

  -- one list more
  pub push_cuts : (v : ℕ) (x y : List Bool) (b : Bool) (ns new : List ℕ) → IsSound d → ArePlacesIn m s → length x < length d.order → v ≡ get_or d.order (length x) 0 → ((z : List Bool) → length z ≡ length d.order → bit z v ≡ bit (read z) (length x)) → y ≡ x ++ b ∷ []
      → new ≡ ns ++ map (follow d.slots v b) (drop (length ns - m) ns) → AreCuts d s f read m (length x) x ns → AreCuts d s f read m (length y) y new
  push_cuts v x y b ns new sound are within at reads is grown cuts =
      let k = length x in
      let t = half d v (drop (length ns - m) ns) b in
      let long : suc k ≡ length y = sym (ap length is ∙ length-append x (b ∷ []) ∙ omega arith) in
      let last : IsCut d s f read m (suc k) y t = cut_half k v x y b (drop (length ns - m) ns) sound are within at reads refl is (top_cut k x ns cuts) in
      let place : length ns ≡ length new - m = omega (arith, ap length grown, length-append ns t, last.long) in
      let on : t ≡ drop (length new - m) new = sym (drop-front ns t) ∙ ap₂ drop place (sym grown) in
      let rest : ns ≡ take (length new - m) new = sym (take-front ns t) ∙ ap₂ take place (sym grown) in
      subst (λ i. AreCuts d s f read m i y new) long
      (subst (IsCut d s f read m (suc k) y) on last, subst (AreCuts d s f read m k y) rest (cuts_share k x y ns (λ i lt. sym (begins x y b is i lt)) cuts))

  -- one list less
  pop_one : (k j : ℕ) (x y : List Bool) (ns new : List ℕ) → k ≡ suc j → new ≡ take (length ns - m) ns → Shares j x y → AreCuts d s f read m k x ns → AreCuts d s f read m j y new
  pop_one zero j x y ns new e is alike cuts = absurd (omega arith)
  pop_one (suc k) j x y ns new e is alike cuts =
      let same : k ≡ j = omega arith in
      let one : AreCuts d s f read m k x new = subst (AreCuts d s f read m k x) (sym is) cuts.1 in
      cuts_share j x y new alike (subst (λ i. AreCuts d s f read m i x new) same one)

  pub pop_cuts : (x y : List Bool) (b : Bool) (ns new : List ℕ) → x ≡ y ++ b ∷ [] → new ≡ take (length ns - m) ns → AreCuts d s f read m (length x) x ns → AreCuts d s f read m (length y) y new
  pop_cuts x y b ns new is cut cuts =
      pop_one (length x) (length y) x y ns new (ap length is ∙ length-append y (b ∷ []) ∙ omega arith) cut (begins y x b is) cuts

-- the roots alone
pub root_cuts : (d : Diagram) (f : Four) (read : List Bool → List Bool) (r : Roots) (s : Places) (m : ℕ) (x : List Bool) (ns : List ℕ) → AreRoots f r → IsReady d r → s ≡ r.places → m ≡ length r.nodes.items → ns ≡ r.nodes.items → x ≡ [] → ArePlacesIn m s × AreCuts d s f read m (length x) x ns
root_cuts d f read r s m x ns roots ready places wide nodes at =
    let first : AreCuts d r.places f read (length r.nodes.items) 0 [] r.nodes.items = record {
      long = refl;
      from = ready.live;
      bits = λ j lt. subst (λ g. IsBitOf g (get_or r.nodes.items j 0)) (sym roots.is) (roots.bits j lt);
      same = λ y long shares. ap (λ g. entries_in d g y) roots.is;
    } in
    rw (places, wide, nodes, at) (ready.places, first)
