-- The bits of a result, one after another, and the bits of an integer at each place.
use Rattle.std.proofs.Common.{◌≡◌, ◌≢◌, ◌⊎◌, ℕ, zero, suc, ◌+◌, ◌-◌, ◌<◌, ◌≤◌, List, [], ◌∷◌, ◌++◌, length, get_or, inl, inr, refl, sym, ◌∙◌, ap, arith, length-append}
use Rattle.std.proofs.lemmas.Bool.{cases_eq}
use Rattle.std.proofs.lemmas.List.{get_or_default, get_or_append_left}
use Rattle.std.proofs.Math.ListN.{get_or-eq_default}
use Rattle.std.proofs.Math.Seq.{get_or-append_seam}
use mathlib.Core.Path.{fun_ext}
use Rattle.diagram_model.specs.Functions.{Assignment}
use Rattle.diagram_model.specs.Stores.{Diagram, IsLive, KeepsFunctions, function_of}
use Rattle.diagram_model.proofs.Growing.{function_on}
use Rattle.diagram_ops.specs.Diagrams.{StoreAndCache, IsConsistent}
use Rattle.diagram_ops.specs.Made.{Property}
use Rattle.slice_vec.specs.Digits.{Digits, IsSteady, slice_value}
use Rattle.slice_vec.specs.Growing.{Grows, Denotes}
use Rattle.slice_vec.specs.Slices.{bit_node, sign_node, digits_of, StandsIn}
use Rattle.slice_vec.proofs.DigitLemmas.{value-steady}
use Rattle.slice_vec.proofs.Growing.{denotes_on, denotes_node, denotes_as, denotes_itself}

pub lt_or_le : (i n : ℕ) → (i < n) ⊎ (n ≤ i)
lt_or_le i zero = inr (omega arith)
lt_or_le zero (suc n) = inl (omega arith)
lt_or_le (suc i) (suc n) = elim (lt_or_le i n) [ inl l ↦ inl (omega (arith, l)) | inr l ↦ inr (omega (arith, l)) ]

-- the bits that were made so far
pub record Shows (d : Diagram) (ns : List ℕ) (s : Digits) : Type 0 where
  pub each : (i : ℕ) → i < length ns → Denotes d (get_or ns i 0) (s i)

pub shows_none : (d : Diagram) (s : Digits) → Shows d [] s
shows_none d s = record { each = λ i less. absurd (omega (arith, less)) }

-- one more bit, in a larger store
pub shows_more : (v w : StoreAndCache) (Is : Property) (ns : List ℕ) (s : Digits) (n : ℕ) → IsConsistent v → Grows v Is w → Shows v.store ns s → Denotes w.store n (s (length ns)) → Shows w.store (ns ++ n ∷ []) s
shows_more v w Is ns s n sound g h is =
    let long : (i : ℕ) → i < length (ns ++ n ∷ []) → i ≢ length ns → i < length ns = λ i less ne. omega (arith, less, ne, length-append ns (n ∷ [])) in
    record {
      each = λ i less. elim (cases_eq i (length ns)) [
        | inl at ↦
            let here : get_or (ns ++ n ∷ []) i 0 ≡ n = ap (λ j. get_or (ns ++ n ∷ []) j 0) at ∙ get_or-append_seam ns n [] 0 in
            denotes_as w.store (get_or (ns ++ n ∷ []) i 0) (s (length ns)) (s i) (ap s (sym at)) (denotes_node w.store (get_or (ns ++ n ∷ []) i 0) n (s (length ns)) here is)
        | inr ne ↦
            denotes_node w.store (get_or (ns ++ n ∷ []) i 0) (get_or ns i 0) (s i) (get_or_append_left ns (n ∷ []) 0 i (long i less ne)) (denotes_on v w Is (get_or ns i 0) (s i) sound g (h.each i (long i less ne)))
      ];
    }

-- the node of a bit, within and beyond
pub bit_within : (ns : List ℕ) (i : ℕ) → i < length ns → bit_node ns i ≡ get_or ns i 0
bit_within ns i less = get_or_default ns i (sign_node ns) 0 less

pub bit_beyond : (ns : List ℕ) (i : ℕ) → length ns ≤ i + 1 → 0 < length ns → bit_node ns i ≡ sign_node ns
bit_beyond ns i le some =
    elim (cases_eq (i + 1) (length ns)) [
      | inl e ↦ bit_within ns i (omega (arith, e)) ∙ ap (λ j. get_or ns j 0) (omega (arith, e))
      | inr ne ↦ get_or-eq_default ns (sign_node ns) (omega (arith, le, ne))
    ]

node_live : (d : Diagram) (n m : ℕ) → n ≡ m → IsLive d m → IsLive d n
node_live d n m e h = rw e h

pub bit_live : (d : Diagram) (ns : List ℕ) (i : ℕ) → StandsIn d ns → IsLive d (bit_node ns i)
bit_live d ns i h =
    elim (lt_or_le i (length ns)) [
      | inl less ↦ node_live d (bit_node ns i) (get_or ns i 0) (bit_within ns i less) (h.live i less)
      | inr le ↦ node_live d (bit_node ns i) (sign_node ns) (bit_beyond ns i (omega (arith, le)) h.some) (h.live (length ns - 1) (omega (arith, h.some)))
    ]

-- a bit in a larger store
pub bit_denotes : (v w : StoreAndCache) (Is : Property) (xs : List ℕ) (i n : ℕ) → IsConsistent v → Grows v Is w → StandsIn v.store xs → n ≡ bit_node xs i → Denotes w.store n (digits_of v.store xs i)
unfolding digits_of
bit_denotes v w Is xs i n s g h e =
    denotes_node w.store n (bit_node xs i) (function_of v.store (bit_node xs i)) e (denotes_on v w Is (bit_node xs i) (function_of v.store (bit_node xs i)) s g (denotes_itself v.store (bit_node xs i) (bit_live v.store xs i h)))

-- the bits are the sign from the last one on
pub steady-digits : (d : Diagram) (ns : List ℕ) → 0 < length ns → IsSteady (length ns - 1) (digits_of d ns)
unfolding digits_of
steady-digits d ns some i le = ap (function_of d) (bit_beyond ns (suc i) (omega (arith, le)) some ∙ sym (bit_beyond ns i (omega (arith, le)) some))

pub steady_later : (m k : ℕ) (s : Digits) → IsSteady m s → m ≤ k → IsSteady k s
steady_later m k s h le i more = h i (omega (arith, le, more))

-- steady bits are the last one from it on
pub steady_last : (m : ℕ) (s : Digits) → IsSteady m s → (e i : ℕ) → i ≡ e + m → s i ≡ s m
steady_last m s h zero i is = ap s (omega (arith, is))
steady_last m s h (suc e) i is = ap s (let g : i ≡ suc (e + m) = omega (arith, is) in g) ∙ h (e + m) (omega arith) ∙ steady_last m s h e (e + m) refl

-- the value is the same at each place from which on the bits are the same
pub value_on : (m k : ℕ) (s : Digits) (x : Assignment) → IsSteady m s → m ≤ k → slice_value k s x ≡ slice_value m s x
value_on m k s x h le = value-steady (k - m) m k s x h (omega (arith, le))

-- the bits are those of steady digits
pub shows_digits : (d : Diagram) (ns : List ℕ) (s : Digits) → Shows d ns s → 0 < length ns → IsSteady (length ns - 1) s → digits_of d ns ≡ s
unfolding digits_of
shows_digits d ns s h some steady = fun_ext (λ i. at i)
  where
    at : (i : ℕ) → function_of d (bit_node ns i) ≡ s i
    at i =
        elim (lt_or_le i (length ns)) [
          | inl less ↦ ap (function_of d) (bit_within ns i less) ∙ (h.each i less).is
          | inr le ↦ ap (function_of d) (bit_beyond ns i (omega (arith, le)) some) ∙ (h.each (length ns - 1) (omega (arith, some))).is ∙ sym (steady_last (length ns - 1) s steady (i - (length ns - 1)) i (omega (arith, le)))
        ]

pub shows_stands : (d : Diagram) (ns : List ℕ) (s : Digits) → Shows d ns s → 0 < length ns → length ns ≤ 131 → StandsIn d ns
shows_stands d ns s h some few = record { some = some; few = few; live = λ i less. (h.each i less).live }

pub digits_on : (v w : StoreAndCache) (Is : Property) (ns : List ℕ) → IsConsistent v → Grows v Is w → StandsIn v.store ns → digits_of w.store ns ≡ digits_of v.store ns
unfolding digits_of
digits_on v w Is ns s g h = fun_ext (λ i. function_on v.store w.store (bit_node ns i) s.store g.sound.store g.extends (bit_live v.store ns i h))

-- an integer still stands where all functions are kept
pub stands_kept : (d e : Diagram) (ns : List ℕ) → KeepsFunctions d e → StandsIn d ns → StandsIn e ns
stands_kept d e ns k h = record { some = h.some; few = h.few; live = λ i less. k.live (get_or ns i 0) (h.live i less) }

pub stands_on : (v w : StoreAndCache) (Is : Property) (ns : List ℕ) → Grows v Is w → StandsIn v.store ns → StandsIn w.store ns
stands_on v w Is ns g h = stands_kept v.store w.store ns g.functions h
