-- The numbers of the held nodes as a list.
use Rattle.std.proofs.Common.{◌≡◌, ℕ, zero, suc, ◌+◌, ◌<◌, true, false, cond, eqb, List, [], ◌∷◌, length, Option, Some, None, is_some, count_by, inl, inr, refl, ◌∙◌, ap, arith, eq-eqb}
use Rattle.std.specs.List.{IsDistinct, AllByRecursion}
use Rattle.std.proofs.lemmas.Bool.{eqb-true, ne_eqb, or_cases, or_left, or_right, false≢true}
use Rattle.std.proofs.lemmas.List.Sums.{sum_by-cons}
use Rattle.std.proofs.lemmas.Map.Keys.{IsDistinct-cons}
use Rattle.diagram_model.specs.declared.parts.Parts.{Parts}
use Rattle.diagram_model.specs.Nodes.{parts_of}
use Rattle.diagram_model.specs.Stores.{Diagram, HasParts, held}
use Rattle.diagram_model.specs.Reach.{is_in}

-- the numbers of the held nodes, the first slot of which is k
unfoldable pub held_from : ℕ → List (Option Parts) → List ℕ
held_from k [] = []
held_from k (None ∷ s) = held_from (suc k) s
held_from k (Some p ∷ s) = k ∷ held_from (suc k) s

one : Option Parts → ℕ
one o = cond (is_some o) 1 0

length_from : (k : ℕ) (s : List (Option Parts)) → length (held_from k s) ≡ count_by is_some s
unfolding held_from one
length_from k [] = refl
length_from k (None ∷ s) = let rest = length_from (suc k) s in omega (arith, rest, sum_by-cons one None s)
length_from k (Some p ∷ s) = let rest = length_from (suc k) s in omega (arith, rest, sum_by-cons one (Some p) s)

later : (k j : ℕ) (s : List (Option Parts)) → j < k → AllByRecursion (λ y. eqb j y ≡ false) (held_from k s)
unfolding held_from
later k j [] lt = tt
later k j (None ∷ s) lt = later (suc k) j s (omega arith)
later k j (Some p ∷ s) lt = (ne_eqb j k (λ e. absurd (omega arith)), later (suc k) j s (omega arith))

distinct_from : (k : ℕ) (s : List (Option Parts)) → IsDistinct eqb (held_from k s)
unfolding held_from IsDistinct
distinct_from k [] = tt
distinct_from k (None ∷ s) = distinct_from (suc k) s
distinct_from k (Some p ∷ s) = IsDistinct-cons eqb k (held_from (suc k) s) (later (suc k) k s (omega arith)) (distinct_from (suc k) s)

in_from : (k i : ℕ) (s : List (Option Parts)) (p : Parts) → parts_of s i ≡ Some p → is_in (held_from k s) (k + i) ≡ true
unfolding held_from
in_from k i [] p is = cc
in_from k zero (None ∷ s) p is = cc
in_from k zero (Some q ∷ s) p is = or_left (eqb (k + 0) k) (is_in (held_from (suc k) s) (k + 0)) (eq-eqb (k + 0) k (omega arith))
in_from k (suc i) (None ∷ s) p is = ap (is_in (held_from (suc k) s)) (let e : k + suc i ≡ suc k + i = omega arith in e) ∙ in_from (suc k) i s p is
in_from k (suc i) (Some q ∷ s) p is =
    or_right (eqb (k + suc i) k) (is_in (held_from (suc k) s) (k + suc i))
    (ap (is_in (held_from (suc k) s)) (let e : k + suc i ≡ suc k + i = omega arith in e) ∙ in_from (suc k) i s p is)

-- where a number of the list comes from
abbrev IsFrom : ℕ → List (Option Parts) → ℕ → Type 0
IsFrom k s q = (i : ℕ) × (q ≡ k + i) × ((p : Parts) × (parts_of s i ≡ Some p))

further : (k q : ℕ) (o : Option Parts) (s : List (Option Parts)) → IsFrom (suc k) s q → IsFrom k (o ∷ s) q
further k q o s (i, e, there) = (suc i, omega arith, there)

of_from : (k q : ℕ) (s : List (Option Parts)) → is_in (held_from k s) q ≡ true → IsFrom k s q
unfolding held_from
of_from k q [] h = absurd (false≢true h)
of_from k q (None ∷ s) h = further k q None s (of_from (suc k) q s h)
of_from k q (Some p ∷ s) h =
    elim (or_cases (eqb q k) (is_in (held_from (suc k) s) q) h) [
      | inl at ↦ (0, (let e = eqb-true q k at in omega arith), (p, refl))
      | inr more ↦ further k q (Some p) s (of_from (suc k) q s more)
    ]

-- the held nodes, each once
abbrev pub held_list : Diagram → List ℕ
held_list d = held_from 0 d.slots

pub length-held_list : (d : Diagram) → length (held_list d) ≡ held d
length-held_list d = length_from 0 d.slots

pub distinct-held_list : (d : Diagram) → IsDistinct eqb (held_list d)
distinct-held_list d = distinct_from 0 d.slots

pub in_held_list : (d : Diagram) (q : ℕ) → HasParts d q → is_in (held_list d) q ≡ true
in_held_list d q h = ap (is_in (held_list d)) (let e : q ≡ 0 + q = omega arith in e) ∙ in_from 0 q d.slots h.0 h.1

pub of_held_list : (d : Diagram) (q : ℕ) → is_in (held_list d) q ≡ true → HasParts d q
of_held_list d q h = let r = of_from 0 q d.slots h in rw (let e : q ≡ r.0 = let g = r.1 in omega arith in e) r.2
