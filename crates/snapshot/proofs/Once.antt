-- Nodes that have a number are held, each once: so there are no more than that.
use Rattle.std.proofs.Common.{◌≡◌, ℕ, ◌+◌, ◌≤◌, true, false, eqb, List, [], ◌∷◌, ◌++◌, length, drop, inl, inr, refl, sym, ◌∙◌, arith, eq-eqb, eqb-true, length-drop}
use Rattle.std.specs.Cmp.{nat_eq_equiv}
use Rattle.std.specs.List.{IsDistinct, AllByRecursion}
use Rattle.std.proofs.lemmas.Bool.{cases_lt, ne_eqb, or_cases, or_left, or_right, false≢true, false_from_ne_true}
use Rattle.std.proofs.lemmas.Map.Keys.{IsDistinct-cons}
use Rattle.std.proofs.lemmas.Map.Made.{length-le_from_is_member}
use Rattle.bit_lists.specs.Orders.{has}
use Rattle.bit_lists.proofs.Variables.{has-head, has-here}
use Rattle.diagram_model.specs.Reach.{is_in}
use Rattle.diagram_model.specs.Stores.{Diagram, IsLive, AddsOnly, held}
use Rattle.diagram_model.proofs.Held.{held_list, length-held_list, distinct-held_list, in_held_list, of_held_list}
use Rattle.snapshot.specs.Private.{Numbered, IsNumbering, AreOnce}
use Rattle.snapshot.proofs.NumberingLemmas.{has_cases, lacks_head, lacks_tail}

-- one more
pub once_more : (xs : List ℕ) (n : ℕ) → AreOnce xs → has xs n ≡ false → AreOnce (xs ++ n ∷ [])
unfolding AreOnce has
once_more [] n once lacks = (refl, tt)
once_more (x ∷ xs) n once lacks = (
  false_from_ne_true (has (xs ++ n ∷ []) x) (λ h. elim (has_cases xs n x h) [
    | inl there ↦ false≢true (sym once.0 ∙ there)
    | inr at ↦ lacks_head x n xs lacks (sym at)
  ]),
  once_more xs n once.1 (lacks_tail x n xs lacks),
)

all_other : (x : ℕ) (xs : List ℕ) → has xs x ≡ false → AllByRecursion (λ y. eqb x y ≡ false) xs
all_other x [] h = tt
all_other x (y ∷ ys) h = (ne_eqb x y (λ e. lacks_head y x ys h (sym e)), all_other x ys (lacks_tail y x ys h))

distinct : (xs : List ℕ) → AreOnce xs → IsDistinct eqb xs
unfolding AreOnce IsDistinct
distinct [] once = tt
distinct (x ∷ xs) once = IsDistinct-cons eqb x xs (all_other x xs once.0) (distinct xs once.1)

in_has : (xs : List ℕ) (q : ℕ) → is_in xs q ≡ true → has xs q ≡ true
in_has [] q h = absurd (false≢true h)
in_has (x ∷ xs) q h =
    elim (or_cases (eqb q x) (is_in xs q) h) [
      | inl at ↦ has-here x xs q (eqb-true q x at)
      | inr more ↦ has-head x q xs (in_has xs q more)
    ]

-- live nodes that stand once, constants or held
live_in : (d : Diagram) (q : ℕ) → IsLive d q → is_in (0 ∷ 1 ∷ held_list d) q ≡ true
live_in d q (inl lt) =
    elim (cases_lt q 1) [
      | inl none ↦ or_left (eqb q 0) (is_in (1 ∷ held_list d) q) (eq-eqb q 0 (omega (arith, none)))
      | inr one ↦ or_right (eqb q 0) (is_in (1 ∷ held_list d) q) (or_left (eqb q 1) (is_in (held_list d) q) (eq-eqb q 1 (omega (arith, one, lt))))
    ]
live_in d q (inr h) = or_right (eqb q 0) (is_in (1 ∷ held_list d) q) (or_right (eqb q 1) (is_in (held_list d) q) (in_held_list d q (h.parts, h.is)))

pub numbered_few : (d : Diagram) (s : Numbered) → IsNumbering d s → length (drop 2 s.nodes) ≤ held d
numbered_few d s h =
    let le = length-le_from_is_member nat_eq_equiv s.nodes (0 ∷ 1 ∷ held_list d) (distinct s.nodes h.once) (λ q is. live_in d q (h.live q (in_has s.nodes q is))) in
    omega (arith, le, length-held_list d, length-drop 2 s.nodes)

-- a call that adds one node at most
pub held_more : (d e : Diagram) (n : ℕ) → AddsOnly d e n → held e ≤ held d + 1
held_more d e n only =
    let le = length-le_from_is_member nat_eq_equiv (held_list e) (n ∷ held_list d) (distinct-held_list e) (λ q is.
    let p = of_held_list e q is in
    elim (only q p.0 p.1) [
      | inl old ↦ or_right (eqb q n) (is_in (held_list d) q) (in_held_list d q (p.0, old))
      | inr at ↦ or_left (eqb q n) (is_in (held_list d) q) (eq-eqb q n at)
    ]) in
    omega (arith, le, length-held_list d, length-held_list e)
