-- The bits of a negation, one after another.
use Rattle.std.proofs.Common.{◌≡◌, ℕ, false, suc, ◌+◌, ◌-◌, ◌<◌, ◌≤◌, neg_ℤ, cond, List, [], ◌∷◌, ◌++◌, length, refl, ◌∙◌, ap, arith, length-append}
use Rattle.diagram_model.specs.Functions.{Function, IsPrefixOf}
use Rattle.diagram_model.specs.Stores.{Diagram, IsLive, function_of}
use Rattle.diagram_ops.specs.Diagrams.{StoreAndCache, IsConsistent}
use Rattle.diagram_ops.specs.Bounds.{joint_size_of, TakesAtMost}
use Rattle.slice_vec.specs.Bounds.{negating, carrying}
use Rattle.slice_vec.specs.Digits.{Digits, IsSteady, odd, xor_of, flipped, one_carry, negated, slice_value}
use Rattle.slice_vec.specs.Growing.{Grows, Denotes}
use Rattle.slice_vec.specs.Places.{odd_at, less_at}
use Rattle.slice_vec.specs.Slices.{bit_node, digits_of, StandsIn, InNegation, IsNegation}
use Rattle.slice_vec.proofs.Bits.{Shows, shows_digits, shows_stands, bit_denotes, steady-digits, steady_later, value_on}
use Rattle.slice_vec.proofs.Bounds.{joint_as, steps_as}
use Rattle.slice_vec.proofs.Carried.{Carries, carries_none, top_shows}
use Rattle.slice_vec.proofs.DigitLemmas.{value-negated, steady-negated, one_carry-less}
use Rattle.slice_vec.proofs.Growing.{denotes_on, denotes_itself}
use Rattle.slice_vec.proofs.Places.{odd_same, less_same, false_function}

-- the steps of place i: the bit and the carry
abbrev pub bit_steps : Diagram → ℕ → List ℕ → ℕ → ℕ
bit_steps d n xs i = negating d (function_of d n) (digits_of d xs) i + carrying d (function_of d n) (digits_of d xs) i

-- the negation so far, and the carry
abbrev pub Negates : StoreAndCache → ℕ → List ℕ → StoreAndCache → List ℕ → ℕ → Type 0
Negates u n xs v ns m = Carries u (length xs + 1) (negated (function_of u.store n) (digits_of u.store xs)) (one_carry (function_of u.store n) (digits_of u.store xs)) v ns m

pub negates_none : (u : StoreAndCache) (n : ℕ) (xs : List ℕ) → IsConsistent u → IsLive u.store n → Negates u n xs u [] n
unfolding one_carry
negates_none u n xs s live = carries_none u (length xs + 1) (negated (function_of u.store n) (digits_of u.store xs)) (one_carry (function_of u.store n) (digits_of u.store xs)) n s (denotes_itself u.store n live)

-- the bit at place i, and the carry
pub record IsAtBit (u v : StoreAndCache) (n : ℕ) (xs ns : List ℕ) (m i an : ℕ) : Type 0 where
  pub began : IsConsistent u
  pub stands : StandsIn u.store xs
  pub live : IsLive u.store n
  pub negates : Negates u n xs v ns m
  pub at : length ns ≡ i
  pub a_is : an ≡ bit_node xs i

odd_negated : (f : Function) (a : Digits) (i : ℕ) → odd (a i) f (one_carry f a i) ≡ negated f a i
unfolding odd negated flipped xor_of
odd_negated f a i = refl

module _ {u v : StoreAndCache} {n : ℕ} {xs ns : List ℕ} {m i an : ℕ} (place : IsAtBit u v n xs ns m i an) where
  pub a_denotes : Denotes v.store an (digits_of u.store xs i)
  a_denotes = bit_denotes u v (InNegation u.store n xs) xs i an place.began place.negates.grows place.stands place.a_is

  pub n_denotes : Denotes v.store n (function_of u.store n)
  n_denotes = denotes_on u v (InNegation u.store n xs) n (function_of u.store n) place.began place.negates.grows (denotes_itself u.store n place.live)

  carry_here : function_of v.store m ≡ one_carry (function_of u.store n) (digits_of u.store xs) i
  carry_here = place.negates.carries.is ∙ ap (one_carry (function_of u.store n) (digits_of u.store xs)) place.at

  -- the joint sizes at place i
  pub bit_joint : joint_size_of v.store an n m ≡ negating u.store (function_of u.store n) (digits_of u.store xs) i
  unfolding negating
  bit_joint =
      let f = function_of u.store n in let a = digits_of u.store xs in
      joint_as u.store v.store (function_of v.store an) (function_of v.store n) (function_of v.store m) (a i) f (one_carry f a i) place.negates.grows.extends.order a_denotes.is n_denotes.is carry_here

  carry_joint : joint_size_of v.store m an 0 ≡ carrying u.store (function_of u.store n) (digits_of u.store xs) i
  unfolding carrying
  carry_joint =
      let f = function_of u.store n in let a = digits_of u.store xs in
      joint_as u.store v.store (function_of v.store m) (function_of v.store an) (function_of v.store 0) (one_carry f a i) (a i) (λ x. false) place.negates.grows.extends.order carry_here a_denotes.is (false_function v.store place.negates.grows.sound.store)

  pub both_steps : (w : StoreAndCache) (s t : ℕ) → TakesAtMost (joint_size_of v.store an n m + joint_size_of v.store m an 0) v.store w.store s t → TakesAtMost (bit_steps u.store n xs i) v.store w.store s t
  both_steps w s t h =
      let f = function_of u.store n in let a = digits_of u.store xs in
      steps_as (joint_size_of v.store an n m + joint_size_of v.store m an 0) (bit_steps u.store n xs i) v.store w.store s t
      (ap (λ j. j + joint_size_of v.store m an 0) bit_joint ∙ ap (λ j. negating u.store f a i + j) carry_joint) h

  pub sign_steps : (k : ℕ) (w : StoreAndCache) (s t : ℕ) → i ≡ k → TakesAtMost (joint_size_of v.store an n m) v.store w.store s t → TakesAtMost (negating u.store (function_of u.store n) (digits_of u.store xs) k) v.store w.store s t
  sign_steps k w s t same h =
      let f = function_of u.store n in let a = digits_of u.store xs in
      steps_as (joint_size_of v.store an n m) (negating u.store f a k) v.store w.store s t (bit_joint ∙ ap (negating u.store f a) same) h

  pub bit_is : odd_at v.store an n m ≡ negated (function_of u.store n) (digits_of u.store xs) i
  bit_is =
      let f = function_of u.store n in let a = digits_of u.store xs in
      odd_same (function_of v.store an) (function_of v.store n) (function_of v.store m) (a i) f (one_carry f a i) a_denotes.is n_denotes.is carry_here ∙ odd_negated f a i

  pub next_is : less_at v.store m an ≡ one_carry (function_of u.store n) (digits_of u.store xs) (suc i)
  next_is =
      let f = function_of u.store n in let a = digits_of u.store xs in
      less_same (function_of v.store m) (function_of v.store an) (one_carry f a i) (a i) carry_here a_denotes.is ∙ one_carry-less f a i

  pub negation_done : (w : StoreAndCache) (zs : List ℕ) (b : ℕ) → i ≡ length xs → length xs ≤ 130 → Grows v (IsPrefixOf v.store.order (odd_at v.store an n m)) w → Denotes w.store b (odd_at v.store an n m) → zs ≡ ns ++ b ∷ [] → IsNegation u.store w.store n xs zs
  negation_done w zs b long few_x g is made =
      let f = function_of u.store n in let a = digits_of u.store xs in
      let k = length xs - 1 in
      let px = place.stands.some in
      let len : length zs ≡ suc i = omega (arith, ap length made, length-append ns (b ∷ []), place.at) in
      let shows : Shows w.store zs (negated f a) = rw made (top_shows place.negates place.at bit_is next_is w b g is) in
      let some : 0 < length zs = omega (arith, len) in
      let few : length zs ≤ 131 = omega (arith, len, long, few_x) in
      let ha = steady-digits u.store xs px in
      let last : length zs - 1 ≡ suc k = omega (arith, len, long, px) in
      let steady : IsSteady (length zs - 1) (negated f a) = steady_later (suc k) (length zs - 1) (negated f a) (steady-negated k f a ha) (omega (arith, last)) in
      let digits : digits_of w.store zs ≡ negated f a = shows_digits w.store zs (negated f a) shows some steady in
      record {
        width = omega (arith, len, long);
        stands = shows_stands w.store zs (negated f a) shows some few;
        digits = digits;
        values = λ x.
            ap (λ (s : Digits). slice_value (length zs - 1) s x) digits
            ∙ ap (λ j. slice_value j (negated f a) x) last
            ∙ value-negated k f a x ha
            ∙ ap (λ v. cond (f x) (neg_ℤ v) v) (value_on k (suc k) a x ha (omega arith));
      }
