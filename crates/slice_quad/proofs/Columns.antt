-- The calls that make a term of a coordinate.
use Rattle.std.proofs.Common.{◌≡◌, ℕ, ◌+◌, Bool, true, false, cond, max, List, ◌++◌, length, inl, inr, ◌∙◌, ap, arith}
use Rattle.diagram_model.specs.Functions.{Function, IsPrefixOf}
use Rattle.diagram_model.specs.Stores.{Diagram, function_of}
use Rattle.diagram_ops.specs.Diagrams.{StoreAndCache, IsConsistent}
use Rattle.diagram_ops.specs.Made.{Property, IsPrefixOfSome}
use Rattle.gate_set.specs.declared.entry.Entry.{Entry}
use Rattle.gate_set.specs.declared.entry.Entry.TheVariants.{Zero, Omega, Root2}
use Rattle.slice_vec.specs.Digits.{Digits, chosen, fixed, one_carry, negated}
use Rattle.slice_vec.specs.Growing.{Grows, Denotes}
use Rattle.slice_vec.specs.Slices.{StandsIn, digits_of, first_bits, negation_functions, IsChosen, IsNegation, InChosen, InNegation}
use Rattle.slice_vec.proofs.Bits.{digits_on, stands_on}
use Rattle.slice_vec.proofs.Growing.{grows_none, denotes_on, denotes_as}
use Rattle.slice_quad.specs.declared.coord.Coord.{Coord}
use Rattle.slice_quad.specs.declared.four.Four.{Four}
use Rattle.slice_quad.specs.declared.gate.Gate.{Gate}
use Rattle.slice_quad.specs.declared.raw.Halves.{Halves}
use Rattle.slice_quad.specs.declared.term.Column.{Column}
use Rattle.slice_quad.specs.Turns.{turn, root_turn}
use Rattle.slice_quad.specs.Mix.{Mix, Coordinates, all_true, entry_digits, entry_negates, from_row, from_target, old_part, term, negates, signed_term}
use Rattle.slice_quad.specs.Fours.{nodes_of, digits_in, mix_of, AreIntegers}
use Rattle.slice_quad.specs.Raws.{GivesTerm, GivesUnsigned, IsHalf, IsMix, IsReady, IsZeroFor}
use Rattle.slice_quad.specs.Terms.{IsOf, low_of, high_of, column_of, nodes_brought, nodes_old}
use Rattle.slice_quad.specs.Column.{where_signed}
use Rattle.slice_quad.specs.Work.{term_functions}
use Rattle.slice_quad.proofs.Gates.{nodes_on}
use Rattle.slice_quad.proofs.Raws.{entry_fixed, sign_term}
use Rattle.slice_quad.proofs.Serving.{Serves, serves_one, serves_list}
use Rattle.slice_quad.proofs.Wanted.{some_split, wanted_in, wanted_term, term_target, term_term, term_sign, term_carry, term_signed}

-- the same choice of the same bits
chosen_same : (n m : Function) (a b a2 b2 : Digits) → n ≡ m → a ≡ a2 → b ≡ b2 → chosen n a b ≡ chosen m a2 b2
chosen_same n m a b a2 b2 en ea eb = ap (λ (f : Function). chosen f a b) en ∙ ap (λ (s : Digits). chosen m s b) ea ∙ ap (λ (s : Digits). chosen m a2 s) eb

-- as many of the same bits
pub bits_same : (v w : ℕ) (a b : Digits) → v ≡ w → a ≡ b → first_bits v a ≡ first_bits w b
bits_same v w a b e d = ap (λ k. first_bits k a) e ∙ ap (λ (s : Digits). first_bits w s) d

-- the same negation of the same bits
pub negation_same : (v w : ℕ) (f g : Function) (a b : Digits) → v ≡ w → f ≡ g → a ≡ b → negation_functions v f a ≡ negation_functions w g b
negation_same v w f g a b ev ef ea = ap (λ j. negation_functions j f a) ev ∙ ap (λ (h : Function). negation_functions w h a) ef ∙ ap (λ (s : Digits). negation_functions w g s) ea

-- what stands elsewhere
module _ (d : Diagram) (q : Four) (z : Coord) (zs os : List ℕ) where
  old_digits : (rooted b : Bool) → IsZeroFor d q zs → os ≡ nodes_old rooted z b q zs → digits_of d os ≡ old_part rooted (digits_in d q) z b
  unfolding digits_in old_part
  old_digits true b o e = ap (digits_of d) e
  old_digits false true o e = ap (digits_of d) e ∙ o.digits
  old_digits false false o e = ap (digits_of d) e

  old_stands : (rooted b : Bool) → AreIntegers d (length q.a) q → IsZeroFor d q zs → os ≡ nodes_old rooted z b q zs → StandsIn d os
  old_stands true b h o e = rw e (h.stands (root_turn z b).from)
  old_stands false true h o e = rw e o.stands
  old_stands false false h o e = rw e (h.stands z)

  old_width : (rooted b : Bool) → AreIntegers d (length q.a) q → IsZeroFor d q zs → os ≡ nodes_old rooted z b q zs → length os ≡ length q.a
  old_width true b h o e = ap length e ∙ h.width (root_turn z b).from
  old_width false true h o e = ap length e ∙ o.width
  old_width false false h o e = ap length e ∙ h.width z

-- the calls
module _ (u : StoreAndCache) (g : Gate) (q : Four) (hs : Halves) (zs : List ℕ) (z : Coord) (s : Bool) (sound : IsConsistent u) (r : IsReady u.store g q hs zs) where
  abbrev Is : Property
  Is = IsMix u.store g.target q

  abbrev m : Mix
  m = mix_of g.target

  abbrev Q : Coordinates
  Q = digits_in u.store q

  abbrev W : ℕ
  W = length q.a

  none : Grows u Is u
  none = grows_none u Is sound

  to : (p : Function) → IsPrefixOfSome u.store.order (term_functions W m Q z s) p → Is p
  to p h = wanted_in u.store.order W m Q z p (wanted_term u.store.order W m Q z p s h)

  -- the sign
  module _ (c : Column) (ec : c ≡ column_of g.target z s) (low high : Bool) (el : low ≡ entry_negates c.low z) (eh : high ≡ entry_negates c.high z) where
    sign_same : where_signed m low high c.out ≡ negates m z s
    sign_same =
        ap (λ b. where_signed m b high c.out) el ∙ ap (λ b. where_signed m (entry_negates c.low z) b c.out) eh
        ∙ ap (λ (k : Column). where_signed m (entry_negates k.low z) (entry_negates k.high z) k.out) ec ∙ sign_term g.target z s

    pub sign_serves : Serves u u Is (IsPrefixOf u.store.order (where_signed m low high c.out))
    sign_serves = serves_one u u Is (where_signed m low high c.out) (negates m z s) none sign_same (λ p h. to p (term_sign u.store.order W m Q z s p h))

    pub sign_is : (v w : StoreAndCache) (Are : Property) (n : ℕ) → IsConsistent v → Grows v Are w → Denotes v.store n (where_signed m low high c.out) → Denotes w.store n (negates m z s)
    sign_is v w Are n consistent k d = denotes_on v w Are n (negates m z s) consistent k (denotes_as v.store n (where_signed m low high c.out) (negates m z s) sign_same d)

  -- what an entry brings
  module _ (f : Four) (ef : f ≡ cond s hs.high hs.low) where
    half_at : (b : Bool) → f ≡ cond b hs.high hs.low → IsHalf u.store g.target.target b q f
    half_at true e = rw e r.high
    half_at false e = rw e r.low

    pub brought_stands : (e : Entry) → StandsIn u.store (nodes_brought e z f zs)
    brought_stands Zero = r.zero.stands
    brought_stands (Omega j) = (half_at s ef).integers.stands (turn j z).from
    brought_stands Root2 = r.zero.stands

    brought_digits : (e : Entry) → digits_of u.store (nodes_brought e z f zs) ≡ fixed g.target.target s (entry_digits e z Q)
    unfolding entry_digits digits_in
    brought_digits Zero = r.zero.digits ∙ entry_fixed Zero g.target.target s z Q
    brought_digits (Omega j) = (half_at s ef).digits (turn j z).from
    brought_digits Root2 = r.zero.digits ∙ entry_fixed Root2 g.target.target s z Q

    brought_width : (e : Entry) → length (nodes_brought e z f zs) ≡ W
    brought_width Zero = r.zero.width
    brought_width (Omega j) = (half_at s ef).integers.width (turn j z).from
    brought_width Root2 = r.zero.width

    -- by the target
    module _ (c : Column) (ec : c ≡ column_of g.target z s) (ls ns : List ℕ) (el : ls ≡ nodes_brought c.low z f zs) (eh : ns ≡ nodes_brought c.high z f zs) where
      abbrev met : Digits
      met = chosen (function_of u.store g.is_set.0) (digits_of u.store ns) (digits_of u.store ls)

      target_same : met ≡ from_target m Q z s
      unfolding from_target from_row
      target_same =
          chosen_same (function_of u.store g.is_set.0) (λ x. x g.target.target) (digits_of u.store ns) (digits_of u.store ls) (fixed g.target.target s (entry_digits (high_of g.target s) z Q)) (fixed g.target.target s (entry_digits (low_of g.target s) z Q)) r.nodes.target.is
          (ap (digits_of u.store) eh ∙ brought_digits c.high ∙ ap (λ (k : Column). fixed g.target.target s (entry_digits k.high z Q)) ec)
          (ap (digits_of u.store) el ∙ brought_digits c.low ∙ ap (λ (k : Column). fixed g.target.target s (entry_digits k.low z Q)) ec)

      target_width : max (length ns) (length ls) ≡ W
      target_width =
          let a : length ns ≡ W = ap length eh ∙ brought_width c.high in
          let b : length ls ≡ W = ap length el ∙ brought_width c.low in
          omega (arith, a, b)

      pub target_serves : Serves u u Is (InChosen u.store g.is_set.0 ns ls)
      target_serves =
          serves_list u u Is (first_bits (max (length ns) (length ls)) met) (first_bits W (from_target m Q z s)) none (bits_same (max (length ns) (length ls)) W met (from_target m Q z s) target_width target_same) (λ p h. to p (term_target u.store.order W m Q z s p h))

      pub target_is : (w : StoreAndCache) (ts : List ℕ) → IsChosen u.store w.store g.is_set.0 ns ls ts → IsOf w.store W (from_target m Q z s) ts
      target_is w ts is = record { stands = is.stands; width = is.width ∙ target_width; digits = is.digits ∙ target_same }

  -- by the controls, in the store v
  module _ (os : List ℕ) (eo : os ≡ nodes_old g.target.rooted z s q zs) (v : StoreAndCache) (ts : List ℕ) (k : Grows u Is v) (is : IsOf v.store W (from_target m Q z s) ts) where
    abbrev had : Digits
    had = chosen (function_of v.store g.all.0) (digits_of v.store ts) (digits_of v.store os)

    pub old_later : StandsIn v.store os
    old_later = stands_on u v Is os k (old_stands u.store q z zs os g.target.rooted s r.whole r.zero eo)

    term_same : had ≡ term m Q z s
    unfolding term
    term_same =
        chosen_same (function_of v.store g.all.0) (all_true m.controls) (digits_of v.store ts) (digits_of v.store os) (from_target m Q z s) (old_part g.target.rooted Q z s)
        (nodes_on u v Is g sound k r.nodes).all.is is.digits
        (digits_on u v Is os sound k (old_stands u.store q z zs os g.target.rooted s r.whole r.zero eo) ∙ old_digits u.store q z zs os g.target.rooted s r.zero eo)

    term_width : max (length ts) (length os) ≡ W
    term_width = let e = is.width in let o = old_width u.store q z zs os g.target.rooted s r.whole r.zero eo in omega (arith, e, o)

    pub term_serves : Serves u v Is (InChosen v.store g.all.0 ts os)
    term_serves =
        serves_list u v Is (first_bits (max (length ts) (length os)) had) (first_bits W (term m Q z s)) k (bits_same (max (length ts) (length os)) W had (term m Q z s) term_width term_same) (λ p h. to p (term_term u.store.order W m Q z s p h))

    pub term_is : (w : StoreAndCache) (ns : List ℕ) → IsChosen v.store w.store g.all.0 ts os ns → GivesUnsigned g.target q s u.store z w.store ns
    term_is w ns made = record { stands = made.stands; width = made.width ∙ term_width; digits = made.digits ∙ term_same }

  -- with its sign, in the store v
  signed_wanted : (p : Function) → IsPrefixOfSome u.store.order (negation_functions (W + 1) (negates m z s) (term m Q z s)) p → Is p
  unfolding signed_term
  signed_wanted p h = elim (some_split u.store.order (first_bits (W + 1) (one_carry (negates m z s) (term m Q z s))) (first_bits (W + 1) (negated (negates m z s) (term m Q z s))) p h) [
    | inl x ↦ to p (term_carry u.store.order W m Q z s p x)
    | inr x ↦ to p (term_signed u.store.order W m Q z s p x)
  ]

  module _ (v : StoreAndCache) (n : ℕ) (ts : List ℕ) (sign : Denotes v.store n (negates m z s)) (is : GivesUnsigned g.target q s u.store z v.store ts) where
    pub negation_serves : Grows u Is v → Serves u v Is (InNegation v.store n ts)
    negation_serves k =
        serves_list u v Is (negation_functions (length ts + 1) (function_of v.store n) (digits_of v.store ts)) (negation_functions (W + 1) (negates m z s) (term m Q z s)) k
        (negation_same (length ts + 1) (W + 1) (function_of v.store n) (negates m z s) (digits_of v.store ts) (term m Q z s) (ap (λ i. i + 1) is.width) sign.is is.digits) signed_wanted

    pub negation_is : (w : StoreAndCache) (ps : List ℕ) → IsNegation v.store w.store n ts ps → GivesTerm g.target q s u.store z w.store ps
    unfolding signed_term
    negation_is w ps made = record {
      stands = made.stands;
      width = made.width ∙ ap (λ i. i + 1) is.width;
      digits = made.digits ∙ ap (λ (b : Function). negated b (digits_of v.store ts)) sign.is ∙ ap (λ (a : Digits). negated (negates m z s) a) is.digits;
    }
