-- The nodes of a vector or matrix, and the functions that arise from theirs.
use Rattle.std.proofs.Common.{◌≡◌, ℕ, zero, suc, ◌<◌, true, false, eqb, List, [], ◌∷◌, ◌++◌, All, get_or, map, length, inl, inr, refl, sym, ◌∙◌, ap, subst, arith, eq-eqb}
use Rattle.std.specs.Prelude.{slice_index_or, flat_map}
use Rattle.std.proofs.lemmas.Bool.{eqb-true, false≢true, or_cases, or_left, or_right}
use Rattle.diagram_model.specs.Functions.{Function, IsPrefixOf}
use Rattle.diagram_model.specs.Reach.{is_in}
use Rattle.diagram_model.specs.Stores.{Diagram, IsLive, function_of}
use Rattle.diagram_model.proofs.Prefixes.{prefix_self}
use Rattle.diagram_model.proofs.Reached.{in_append}
use Rattle.diagram_ops.specs.Made.{IsPrefixOfSome}
use Rattle.node_store.specs.declared.node.Node.{Node}
use Rattle.node_store.specs.Marks.{numbers}
use Rattle.node_reclaim.proofs.Bound.{either, in_before}
use Rattle.slice_vec.specs.Digits.{Digits}
use Rattle.slice_vec.specs.Slices.{first_bits, digits_of}
use Rattle.slice_vec.proofs.Bits.{bit_within}
use Rattle.slice_vec.proofs.Growing.{some_left, some_right, some_bit, some_first, some_later}
use Rattle.slice_quad.specs.declared.coord.Coord.{Coord}
use Rattle.slice_quad.specs.declared.coord.Coord.TheVariants.{A, B, C, D}
use Rattle.slice_quad.specs.declared.kind.Step.{Step}
use Rattle.slice_quad.specs.declared.kind.Step.TheVariants as steps
use Rattle.slice_quad.specs.declared.quad.SliceQuad.{SliceQuad}
use Rattle.slice_quad.specs.Bits.{bits_of}
use Rattle.slice_quad.specs.Exchange.{Exchange, exchange_parts, exchange_functions, crossing_functions, exchange_work}
use Rattle.slice_quad.specs.Fields.{roots_of}
use Rattle.slice_quad.specs.Fours.{nodes_of, digits_in, AreIntegers}
use Rattle.slice_quad.specs.Mix.{Mix, Coordinates}
use Rattle.slice_quad.specs.Stepping.{mix_with, exchange_with, step_functions, work_functions, IsWork}
use Rattle.slice_quad.specs.Vectors.{vector_in, Stands}
use Rattle.slice_quad.specs.Work.{coordinate_functions}
use Rattle.slice_quad.proofs.StepCalls.{digits_vector}
use Rattle.slice_quad.proofs.Wanted.{wanted_in}
use Rattle.step_upkeep.specs.Upkept.{InQuad}

-- ---- lists of numbers
-- what holds at each place holds of each number
pub in_list : (P : ℕ → Type 0) (ns : List ℕ) → ((i : ℕ) → i < length ns → P (slice_index_or ns i 0)) → (n : ℕ) → is_in ns n ≡ true → P n
in_list P [] h n is = absurd (false≢true is)
in_list P (m ∷ ns) h n is =
    elim (or_cases (eqb n m) (is_in ns n) is) [
      | inl at ↦
          let e : n ≡ m = eqb-true n m at in
          let first : P m = h 0 (omega arith) in
          subst P (sym e) first
      | inr more ↦ in_list P ns (λ i lt. h (suc i) (omega (arith, lt))) n more
    ]

-- each place has a number of the list
pub at_list : (ns : List ℕ) (i : ℕ) → i < length ns → is_in ns (slice_index_or ns i 0) ≡ true
at_list [] i lt = absurd (omega (arith, lt))
at_list (m ∷ ns) zero lt = or_left (eqb m m) (is_in ns m) (eq-eqb m m refl)
at_list (m ∷ ns) (suc i) lt = or_right (eqb (slice_index_or ns i 0) m) (is_in ns (slice_index_or ns i 0)) (at_list ns i (omega (arith, lt)))

-- what holds of each node holds of each of their numbers
pub in_nodes : (P : ℕ → Type 0) (ns : List Node) → All (λ (n : Node). P n.0) ns → (m : ℕ) → is_in (numbers ns) m ≡ true → P m
in_nodes P [] all m is = absurd (false≢true is)
in_nodes P (n ∷ ns) all m is =
    elim (or_cases (eqb m n.0) (is_in (numbers ns) m) is) [
      | inl at ↦
          let e : m ≡ n.0 = eqb-true m n.0 at in
          let first : P n.0 = all 0 n (omega arith) in
          subst P (sym e) first
      | inr more ↦ in_nodes P ns (λ k z lt. all (suc k) z (omega (arith, lt))) m more
    ]

in_behind : (ms ns : List ℕ) (q : ℕ) → is_in ns q ≡ true → is_in (ms ++ ns) q ≡ true
in_behind ms ns q h = in_append ms ns q ∙ or_right (is_in ms q) (is_in ns q) h

-- ---- the nodes of a vector or matrix
only_one : (P : ℕ → Type 0) (k : ℕ) → P k → (n : ℕ) → is_in (k ∷ []) n ≡ true → P n
only_one P k h n is = elim (or_cases (eqb n k) false is) [ inl at ↦ let e : n ≡ k = eqb-true n k at in subst P (sym e) h | inr lie ↦ absurd (false≢true lie) ]

-- what holds of the bits of each coordinate and of the kept node
pub of_roots : (P : ℕ → Type 0) (q : SliceQuad) → ((z : Coord) (n : ℕ) → is_in (nodes_of q.four z) n ≡ true → P n) → P q.kept.0 → (n : ℕ) → is_in (roots_of q) n ≡ true → P n
of_roots P q bits kept =
    let f = q.four in
    either P (((f.a ++ f.b) ++ f.c) ++ f.d) (q.kept.0 ∷ [])
    (either P ((f.a ++ f.b) ++ f.c) f.d (either P (f.a ++ f.b) f.c (either P f.a f.b (bits A) (bits B)) (bits C)) (bits D))
    (only_one P q.kept.0 kept)

-- they are among the roots
pub to_roots : (q : SliceQuad) (z : Coord) (n : ℕ) → is_in (nodes_of q.four z) n ≡ true → is_in (roots_of q) n ≡ true
to_roots q A n h = let f = q.four in in_before (((f.a ++ f.b) ++ f.c) ++ f.d) (q.kept.0 ∷ []) n (in_before ((f.a ++ f.b) ++ f.c) f.d n (in_before (f.a ++ f.b) f.c n (in_before f.a f.b n h)))
to_roots q B n h = let f = q.four in in_before (((f.a ++ f.b) ++ f.c) ++ f.d) (q.kept.0 ∷ []) n (in_before ((f.a ++ f.b) ++ f.c) f.d n (in_before (f.a ++ f.b) f.c n (in_behind f.a f.b n h)))
to_roots q C n h = let f = q.four in in_before (((f.a ++ f.b) ++ f.c) ++ f.d) (q.kept.0 ∷ []) n (in_before ((f.a ++ f.b) ++ f.c) f.d n (in_behind (f.a ++ f.b) f.c n h))
to_roots q D n h = let f = q.four in in_before (((f.a ++ f.b) ++ f.c) ++ f.d) (q.kept.0 ∷ []) n (in_behind ((f.a ++ f.b) ++ f.c) f.d n h)

pub kept_root : (q : SliceQuad) → is_in (roots_of q) q.kept.0 ≡ true
kept_root q =
    let f = q.four in
    in_behind (((f.a ++ f.b) ++ f.c) ++ f.d) (q.kept.0 ∷ []) q.kept.0 (or_left (eqb q.kept.0 q.kept.0) false (eq-eqb q.kept.0 q.kept.0 refl))

-- they are live where it stands
pub roots_live : (d : Diagram) (q : SliceQuad) → Stands d q → (n : ℕ) → is_in (roots_of q) n ≡ true → IsLive d n
roots_live d q h = of_roots (IsLive d) q (λ z. in_list (IsLive d) (nodes_of q.four z) ((h.integers z).live)) h.kept

-- it stands where they are live
pub live_stands : (d e : Diagram) (q : SliceQuad) → Stands d q → ((n : ℕ) → is_in (roots_of q) n ≡ true → IsLive e n) → Stands e q
live_stands d e q h live = record {
  integers = λ z. record {
    some = (h.integers z).some;
    few = (h.integers z).few;
    live = λ i lt. live (slice_index_or (nodes_of q.four z) i 0) (to_roots q z (slice_index_or (nodes_of q.four z) i 0) (at_list (nodes_of q.four z) i lt));
  };
  kept = live q.kept.0 (kept_root q);
}

-- ---- their functions
-- one of the functions arises from all of them
pub one_of_map : (vs : List ℕ) (F : ℕ → Function) (ns : List ℕ) (r : ℕ) → is_in ns r ≡ true → IsPrefixOfSome vs (map F ns) (F r)
unfolding IsPrefixOfSome
one_of_map vs F [] r is = absurd (false≢true is)
one_of_map vs F (n ∷ ns) r is =
    elim (or_cases (eqb r n) (is_in ns r) is) [
      | inl at ↦ inl (prefix_self vs (F n) (F r) (ap F (eqb-true r n at)))
      | inr more ↦ inr (one_of_map vs F ns r more)
    ]

-- what arises from all arises from one of them
pub by_one : (Q : Type 0) (vs : List ℕ) (F : ℕ → Function) (ns : List ℕ) (p : Function) → ((r : ℕ) → is_in ns r ≡ true → IsPrefixOf vs (F r) p → Q) → IsPrefixOfSome vs (map F ns) p → Q
unfolding IsPrefixOfSome
by_one Q vs F [] p f h = absurd h
by_one Q vs F (n ∷ ns) p f (inl h) = f n (or_left (eqb n n) (is_in ns n) (eq-eqb n n refl)) h
by_one Q vs F (n ∷ ns) p f (inr h) = by_one Q vs F ns p (λ r is. f r (or_right (eqb r n) (is_in ns r) is)) h

-- the bits of one of several are among the bits of all
bits_among : (vs : List ℕ) (w : ℕ) (ds : List Digits) (i : ℕ) (d : Digits) (p : Function) → i < length ds → IsPrefixOfSome vs (first_bits w (get_or ds i d)) p → IsPrefixOfSome vs (flat_map (first_bits w) ds) p
bits_among vs w [] i d p less h = absurd (omega (arith, less))
bits_among vs w (s ∷ ds) zero d p less h = some_left vs (first_bits w s) (flat_map (first_bits w) ds) p h
bits_among vs w (s ∷ ds) (suc i) d p less h = some_right vs (first_bits w s) (flat_map (first_bits w) ds) p (bits_among vs w ds i d p (omega (arith, less)) h)

old_crossed : (vs : List ℕ) (w : ℕ) (e : Exchange) (a : Digits) (p : Function) → IsPrefixOfSome vs (first_bits w a) p → IsPrefixOfSome vs (exchange_functions w e a) p
unfolding exchange_functions
old_crossed vs w e a p h = bits_among vs w (exchange_parts e a) 0 a p (omega arith) h

-- the old bits are among the functions of an exchange
old_exchanged : (vs : List ℕ) (w : ℕ) (e : Exchange) (q : Coordinates) (z : Coord) (p : Function) → IsPrefixOfSome vs (first_bits w (q z)) p → IsPrefixOfSome vs (exchange_work w e q) p
unfolding exchange_work
old_exchanged vs w e q z p h = some_right vs (crossing_functions e) (flat_map (λ y. exchange_functions w e (q y)) (A ∷ B ∷ C ∷ D ∷ [])) p (at z (old_crossed vs w e (q z) p h))
  where
    f : Coord → List Function
    f y = exchange_functions w e (q y)

    at : (y : Coord) → IsPrefixOfSome vs (f y) p → IsPrefixOfSome vs (f A ++ (f B ++ (f C ++ (f D ++ [])))) p
    at A k = some_left vs (f A) (f B ++ (f C ++ (f D ++ []))) p k
    at B k = some_right vs (f A) (f B ++ (f C ++ (f D ++ []))) p (some_left vs (f B) (f C ++ (f D ++ [])) p k)
    at C k = some_right vs (f A) (f B ++ (f C ++ (f D ++ []))) p (some_right vs (f B) (f C ++ (f D ++ [])) p (some_left vs (f C) (f D ++ []) p k))
    at D k = some_right vs (f A) (f B ++ (f C ++ (f D ++ []))) p (some_right vs (f B) (f C ++ (f D ++ [])) p (some_right vs (f C) (f D ++ []) p (some_left vs (f D) [] p k)))

-- those of a matrix on a target
old_mixed : (vs : List ℕ) (w : ℕ) (m : Mix) (q : Coordinates) (z : Coord) (p : Function) → IsPrefixOfSome vs (first_bits w (q z)) p → IsPrefixOfSome vs (coordinate_functions w m q z) p
unfolding coordinate_functions
old_mixed vs w m q z p h = some_left vs (first_bits w (q z)) _ p h

-- those of any step
pub old_stepped : (vs : List ℕ) (w : ℕ) (s : Step) (q : Coordinates) (z : Coord) (p : Function) → IsPrefixOfSome vs (first_bits w (q z)) p → IsPrefixOfSome vs (step_functions w s q) p
unfolding step_functions
old_stepped vs w (steps.Mix controls target rows half) q z p h = let m = mix_with controls target rows half in wanted_in vs w m q z p (old_mixed vs w m q z p h)
old_stepped vs w (steps.Exchange controls first second) q z p h = old_exchanged vs w (exchange_with controls first second) q z p h

-- the function of a bit is one of the bits
bit_among : (d : Diagram) (ns : List ℕ) (w : ℕ) (p : Function) → length ns ≡ w → (i : ℕ) → i < length ns → IsPrefixOf d.order (function_of d (slice_index_or ns i 0)) p → IsPrefixOfSome d.order (first_bits w (digits_of d ns)) p
unfolding digits_of
bit_among d ns w p long i lt h =
    some_bit d.order w i (digits_of d ns) p (omega (arith, long, lt)) (subst (λ n. IsPrefixOf d.order (function_of d n) p) (sym (bit_within ns i lt)) h)

-- the functions of a vector or matrix are among the work functions of a step on it
pub quad_wanted : (d : Diagram) (s : Step) (q : SliceQuad) → AreIntegers d (length q.four.a) q.four → (p : Function) → InQuad d q p → IsWork d s q p
unfolding work_functions digits_in
quad_wanted d s q h p is = by_one (IsWork d s q p) d.order (function_of d) (roots_of q) p (of_roots P q bits (λ k. some_first d.order (function_of d q.kept.0) (step_functions w s (bits_of (vector_in d q.four))) p k)) is
  where
    w : ℕ
    w = length q.four.a

    P : ℕ → Type 0
    P r = IsPrefixOf d.order (function_of d r) p → IsWork d s q p

    of_bits : (z : Coord) → IsPrefixOfSome d.order (first_bits w (digits_in d q.four z)) p → IsWork d s q p
    of_bits z k =
        some_later d.order (function_of d q.kept.0) (step_functions w s (bits_of (vector_in d q.four))) p
        (subst (λ (c : Coordinates). IsPrefixOfSome d.order (step_functions w s c) p) (sym (digits_vector d w q.four h)) (old_stepped d.order w s (digits_in d q.four) z p k))

    own : (z : Coord) → digits_of d (nodes_of q.four z) ≡ digits_in d q.four z
    own z = refl

    bits : (z : Coord) (n : ℕ) → is_in (nodes_of q.four z) n ≡ true → P n
    bits z = in_list P (nodes_of q.four z) (λ i lt k. of_bits z (subst (λ (a : Digits). IsPrefixOfSome d.order (first_bits w a) p) (own z) (bit_among d (nodes_of q.four z) w p (h.width z) i lt k)))
