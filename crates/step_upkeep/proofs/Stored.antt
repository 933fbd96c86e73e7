-- The functions that a vector or matrix is stored by are those of its nodes, and need no more nodes than are held.
use Rattle.std.proofs.Common.{◌≡◌, ℕ, zero, suc, ◌-◌, ◌<◌, ◌≤◌, true, eqb, List, [], ◌∷◌, ◌++◌, map, length, inl, inr, refl, sym, ap, subst, arith, eq-eqb}
use Rattle.std.specs.Prelude.{slice_index_or}
use Rattle.std.proofs.lemmas.Bool.{eqb-true, false≢true, or_cases, or_left, or_right}
use Rattle.diagram_model.specs.Bryant.{IsOneOf}
use Rattle.diagram_model.specs.Functions.{Function}
use Rattle.diagram_model.specs.Reach.{is_in}
use Rattle.diagram_model.specs.Size.{size}
use Rattle.diagram_model.specs.Stores.{Diagram, IsSound, held, function_of}
use Rattle.node_reclaim.proofs.Bound.{size-le, size-held, one_some}
use Rattle.sifting.specs.Answers.{SameFunctions}
use Rattle.sifting.proofs.SameFunctions.{same_order}
use Rattle.slice_vec.specs.Digits.{Digits}
use Rattle.slice_vec.specs.Slices.{first_bits, digits_of, bit_node}
use Rattle.slice_vec.proofs.Bits.{lt_or_le, bit_within, bit_beyond}
use Rattle.slice_quad.specs.declared.coord.Coord.{Coord}
use Rattle.slice_quad.specs.declared.coord.Coord.TheVariants.{A, B, C, D}
use Rattle.slice_quad.specs.declared.quad.SliceQuad.{SliceQuad}
use Rattle.slice_quad.specs.Bits.{bits_of}
use Rattle.slice_quad.specs.Fields.{roots_of}
use Rattle.slice_quad.specs.Fours.{nodes_of, digits_in}
use Rattle.slice_quad.specs.Mix.{Coordinates}
use Rattle.slice_quad.specs.Vectors.{vector_in, Stands}
use Rattle.slice_quad.proofs.StepCalls.{digits_vector}
use Rattle.step_upkeep.specs.Due.{IsInForce}
use Rattle.step_upkeep.specs.Stored.{stored_functions}
use Rattle.step_upkeep.specs.Upkept.{functions_in}
use Rattle.step_upkeep.proofs.Keeping.{integers_of}
use Rattle.step_upkeep.proofs.Roots.{in_list, at_list, of_roots, to_roots, kept_root, roots_live}

-- what holds of the functions of two lists
pub one_of_both : (P : Function → Type 0) (fs gs : List Function) → ((g : Function) → IsOneOf fs g → P g) → ((g : Function) → IsOneOf gs g → P g) → (g : Function) → IsOneOf (fs ++ gs) g → P g
one_of_both P [] gs f k g is = k g is
one_of_both P (x ∷ fs) gs f k g (inl e) = f g (inl e)
one_of_both P (x ∷ fs) gs f k g (inr is) = one_of_both P fs gs (λ h at. f h (inr at)) k g is

-- what holds of each bit
pub one_of_bits : (P : Function → Type 0) (w : ℕ) (s : Digits) → ((i : ℕ) → P (s i)) → (g : Function) → IsOneOf (first_bits w s) g → P g
unfolding first_bits
one_of_bits P zero s f g is = absurd is
one_of_bits P (suc w) s f g (inl e) = subst P (sym e) (f w)
one_of_bits P (suc w) s f g (inr is) = one_of_bits P w s f g is

-- the node of each bit is one of the nodes
pub bit_in : (ns : List ℕ) (i : ℕ) → 0 < length ns → is_in ns (bit_node ns i) ≡ true
bit_in ns i some =
    elim (lt_or_le i (length ns)) [
      | inl lt ↦ subst (λ n. is_in ns n ≡ true) (sym (bit_within ns i lt)) (at_list ns i lt)
      | inr le ↦ subst (λ n. is_in ns n ≡ true) (sym (bit_beyond ns i (omega (arith, le)) some)) (at_list ns (length ns - 1) (omega (arith, some)))
    ]

-- ---- one of several
one_of_left : (fs gs : List Function) (g : Function) → IsOneOf fs g → IsOneOf (fs ++ gs) g
one_of_left [] gs g is = absurd is
one_of_left (f ∷ fs) gs g (inl e) = inl e
one_of_left (f ∷ fs) gs g (inr is) = inr (one_of_left fs gs g is)

one_of_right : (fs gs : List Function) (g : Function) → IsOneOf gs g → IsOneOf (fs ++ gs) g
one_of_right [] gs g is = is
one_of_right (f ∷ fs) gs g is = inr (one_of_right fs gs g is)

bit_of : (w : ℕ) (s : Digits) (i : ℕ) → i < w → IsOneOf (first_bits w s) (s i)
unfolding first_bits
bit_of zero s i lt = absurd (omega (arith, lt))
bit_of (suc w) s i lt =
    elim (lt_or_le i w) [
      | inl less ↦ inr (bit_of w s i less)
      | inr le ↦ (let e : i ≡ w = omega (arith, lt, le) in inl (ap s e))
    ]

in_map : (F : ℕ → Function) (ns : List ℕ) (n : ℕ) → is_in ns n ≡ true → IsOneOf (map F ns) (F n)
in_map F [] n is = absurd (false≢true is)
in_map F (m ∷ ns) n is =
    elim (or_cases (eqb n m) (is_in ns n) is) [
      | inl at ↦ inl (ap F (eqb-true n m at))
      | inr more ↦ inr (in_map F ns n more)
    ]

of_map : (F : ℕ → Function) (P : Function → Type 0) (ns : List ℕ) → ((n : ℕ) → is_in ns n ≡ true → P (F n)) → (g : Function) → IsOneOf (map F ns) g → P g
of_map F P [] h g is = absurd is
of_map F P (n ∷ ns) h g (inl e) = subst P (sym e) (h n (or_left (eqb n n) (is_in ns n) (eq-eqb n n refl)))
of_map F P (n ∷ ns) h g (inr is) = of_map F P ns (λ m there. h m (or_right (eqb m n) (is_in ns m) there)) g is

-- ---- the stored functions
module _ (d : Diagram) (q : SliceQuad) (h : Stands d q) where
  abbrev IsRoot : Function → Type 0
  IsRoot g = IsOneOf (functions_in d q) g

  abbrev stored : ℕ → List Function
  stored w = stored_functions w (function_of d q.kept.0) (vector_in d q.four)

  abbrev bits : ℕ → Coord → List Function
  bits w z = first_bits w (bits_of (vector_in d q.four) z)

  same_bits : bits_of (vector_in d q.four) ≡ digits_in d q.four
  same_bits = digits_vector d (length q.four.a) q.four (integers_of d q h)

  -- each is the function of a root
  bit_root : (z : Coord) (i : ℕ) → IsRoot (digits_in d q.four z i)
  unfolding digits_in digits_of
  bit_root z i =
      let n = bit_node (nodes_of q.four z) i in
      in_map (function_of d) (roots_of q) n (to_roots q z n (bit_in (nodes_of q.four z) i ((h.integers z).some)))

  bits_root : (w : ℕ) (z : Coord) (g : Function) → IsOneOf (bits w z) g → IsRoot g
  bits_root w z = one_of_bits IsRoot w (bits_of (vector_in d q.four) z) (λ i. subst (λ (c : Coordinates). IsRoot (c z i)) (sym same_bits) (bit_root z i))

  all_roots : (w : ℕ) (g : Function) → IsOneOf (stored w) g → IsRoot g
  unfolding stored_functions
  all_roots w g (inl e) = subst IsRoot (sym e) (in_map (function_of d) (roots_of q) q.kept.0 (kept_root q))
  all_roots w g (inr is) =
      one_of_both IsRoot (bits w A) (bits w B ++ (bits w C ++ (bits w D ++ []))) (bits_root w A)
      (one_of_both IsRoot (bits w B) (bits w C ++ (bits w D ++ [])) (bits_root w B)
      (one_of_both IsRoot (bits w C) (bits w D ++ []) (bits_root w C) (one_of_both IsRoot (bits w D) [] (bits_root w D) (λ k lie. absurd lie)))) g is

  -- and the other way round, where the width is enough
  in_stored : (w : ℕ) (z : Coord) (g : Function) → IsOneOf (bits w z) g → IsOneOf (stored w) g
  unfolding stored_functions
  in_stored w A g is = inr (one_of_left (bits w A) (bits w B ++ (bits w C ++ (bits w D ++ []))) g is)
  in_stored w B g is = inr (one_of_right (bits w A) (bits w B ++ (bits w C ++ (bits w D ++ []))) g (one_of_left (bits w B) (bits w C ++ (bits w D ++ [])) g is))
  in_stored w C g is = inr (one_of_right (bits w A) (bits w B ++ (bits w C ++ (bits w D ++ []))) g (one_of_right (bits w B) (bits w C ++ (bits w D ++ [])) g (one_of_left (bits w C) (bits w D ++ []) g is)))
  in_stored w D g is =
      inr (one_of_right (bits w A) (bits w B ++ (bits w C ++ (bits w D ++ []))) g
      (one_of_right (bits w B) (bits w C ++ (bits w D ++ [])) g (one_of_right (bits w C) (bits w D ++ []) g (one_of_left (bits w D) [] g is))))

  kept_stored : (w : ℕ) → IsOneOf (stored w) (function_of d q.kept.0)
  unfolding stored_functions
  kept_stored w = inl refl

  long : (z : Coord) → length (nodes_of q.four z) ≡ length q.four.a
  long A = refl
  long B = q.width_b
  long C = q.width_c
  long D = q.width_d

  node_stored : (w : ℕ) (z : Coord) (i : ℕ) → length q.four.a ≤ w → i < length (nodes_of q.four z) → IsOneOf (stored w) (function_of d (slice_index_or (nodes_of q.four z) i 0))
  unfolding digits_in digits_of
  node_stored w z i le lt =
      let ns = nodes_of q.four z in
      let l = long z in
      let here : IsOneOf (stored w) (digits_in d q.four z i) = subst (λ (c : Coordinates). IsOneOf (stored w) (c z i)) same_bits (in_stored w z (bits_of (vector_in d q.four) z i) (bit_of w (bits_of (vector_in d q.four) z) i (omega (arith, le, lt, l)))) in
      subst (λ n. IsOneOf (stored w) (function_of d n)) (bit_within ns i lt) here

  pub stored_alike : (w : ℕ) → length q.four.a ≤ w → SameFunctions (functions_in d q) (stored w)
  stored_alike w le = (
    of_map (function_of d) (IsOneOf (stored w)) (roots_of q)
        (of_roots (λ n. IsOneOf (stored w) (function_of d n)) q (λ z. in_list (λ n. IsOneOf (stored w) (function_of d n)) (nodes_of q.four z) (λ i lt. node_stored w z i le lt)) (kept_stored w)),
    all_roots w,
  )

  -- so the order in force is the same for both
  pub in_force_stored : (every gates limit w : ℕ) (order new : List ℕ) → length q.four.a ≤ w → IsInForce every gates (functions_in d q) limit order new → IsInForce every gates (stored w) limit order new
  in_force_stored every gates limit w order new le new_is = record {
    sifted = λ due. same_order (functions_in d q) (stored w) limit (length order) 0 order new (stored_alike w le) (new_is.sifted due);
    same = new_is.same;
  }

  pub stored_held : (w : ℕ) → IsSound d → size (length d.order) d.order (stored_functions w (function_of d q.kept.0) (vector_in d q.four)) ≤ held d
  stored_held w sound =
      let k = length d.order in
      let le : size k d.order (stored w) ≤ size k d.order (functions_in d q) = size-le k k d.order (functions_in d q) (stored w) sound.diagram.order (λ g is. one_some d.order (functions_in d q) g (all_roots w g is)) in
      let few : size k d.order (functions_in d q) ≤ held d = size-held d (roots_of q) sound (roots_live d q h) in
      omega (arith, le, few)
