-- Counting the nodes that are reached.
use Rattle.std.proofs.Common.{◌≡◌, ℕ, zero, suc, ◌+◌, ◌<◌, ◌≤◌, true, false, cond, eqb, List, [], ◌∷◌, ◌++◌, map, take, length, Option, Some, None, get_or, is_some, count_by, inl, inr, refl, sym, ◌∙◌, ap, arith, eq-eqb, All}
use Rattle.std.specs.List.{IsDistinct}
use Rattle.std.specs.Cmp.{nat_eq_equiv}
use Rattle.std.proofs.lemmas.Bool.{eqb-true, or_cases, or_left, or_right, false≢true}
use Rattle.std.proofs.lemmas.List.Sums.{sum_by-cons}
use Rattle.std.proofs.lemmas.List.{take_more, map-append}
use Rattle.std.proofs.lemmas.Map.Made.{length-le_from_is_member}
use Rattle.diagram_model.specs.declared.parts.Parts.{Parts}
use Rattle.diagram_model.specs.Nodes.{parts_of, denoted, IsLiveIn}
use Rattle.diagram_model.specs.Size.{size}
use Rattle.diagram_model.specs.Stores.{Diagram, HasParts, IsSound, IsLive, held, function_of}
use Rattle.diagram_model.specs.Reach.{is_in, Reaches}
use Rattle.diagram_model.specs.Reach.Reaches.{root, step}
use Rattle.diagram_model.proofs.Sizes.{Each}
use Rattle.diagram_model.proofs.Reached.{size_of_reached, in_append}
use Rattle.node_store.specs.declared.node.Node.{Node}
use Rattle.node_store.specs.Walks.{IsClosed}

-- the numbers of nodes
abbrev pub numbers : List Node → List ℕ
numbers ns = map (λ (n : Node). n.0) ns

-- the numbers of the held nodes, the first of which is k
unfoldable held_from : ℕ → List (Option Parts) → List ℕ
held_from k [] = []
held_from k (None ∷ s) = held_from (suc k) s
held_from k (Some p ∷ s) = k ∷ held_from (suc k) s

one : Option Parts → ℕ
one o = cond (is_some o) 1 0

length-held_from : (k : ℕ) (s : List (Option Parts)) → length (held_from k s) ≡ count_by is_some s
unfolding held_from one
length-held_from k [] = refl
length-held_from k (None ∷ s) = let rest = length-held_from (suc k) s in omega (arith, rest, sum_by-cons one None s)
length-held_from k (Some p ∷ s) = let rest = length-held_from (suc k) s in omega (arith, rest, sum_by-cons one (Some p) s)

in_held_from : (k i : ℕ) (s : List (Option Parts)) (p : Parts) → parts_of s i ≡ Some p → is_in (held_from k s) (k + i) ≡ true
unfolding held_from
in_held_from k i [] p is = cc
in_held_from k zero (None ∷ s) p is = cc
in_held_from k zero (Some q ∷ s) p is = or_left (eqb (k + 0) k) (is_in (held_from (suc k) s) (k + 0)) (eq-eqb (k + 0) k (omega arith))
in_held_from k (suc i) (None ∷ s) p is = ap (is_in (held_from (suc k) s)) (let e : k + suc i ≡ suc k + i = omega arith in e) ∙ in_held_from (suc k) i s p is
in_held_from k (suc i) (Some q ∷ s) p is =
    or_right (eqb (k + suc i) k) (is_in (held_from (suc k) s) (k + suc i))
    (ap (is_in (held_from (suc k) s)) (let e : k + suc i ≡ suc k + i = omega arith in e) ∙ in_held_from (suc k) i s p is)

-- different held nodes are at most as many as are held
pub few_seen : (d : Diagram) (ks : List ℕ) → IsDistinct eqb ks → ((q : ℕ) → is_in ks q ≡ true → HasParts d q) → length ks ≤ held d
few_seen d ks distinct all =
    let le = length-le_from_is_member nat_eq_equiv ks (held_from 0 d.slots) distinct (λ q h.
    let r = all q h in
    ap (is_in (held_from 0 d.slots)) (let e : q ≡ 0 + q = omega arith in e) ∙ in_held_from 0 q d.slots r.0 r.1) in
    omega (arith, le, length-held_from 0 d.slots)

-- the roots so far, with the next one
pub numbers_more : (ns : List Node) (i : ℕ) (d : Node) → i < length ns → numbers (take (i + 1) ns) ≡ numbers (take i ns) ++ (get_or ns i d).0 ∷ []
numbers_more ns i d lt = ap numbers (take_more ns i d lt) ∙ map-append (λ (m : Node). m.0) (take i ns) (get_or ns i d ∷ [])

-- one more root is walked from
pub roots_more : (d : Diagram) (ms ks new : List ℕ) (n : ℕ) → ((m : ℕ) → is_in ms m ≡ true → HasParts d m → is_in ks m ≡ true) → ((q : ℕ) → is_in ks q ≡ true → is_in new q ≡ true) → (HasParts d n → is_in new n ≡ true) → (m : ℕ) → is_in (ms ++ n ∷ []) m ≡ true → HasParts d m → is_in new m ≡ true
roots_more d ms ks new n all keeps there m h held =
    elim (or_cases (is_in ms m) (is_in (n ∷ []) m) (sym (in_append ms (n ∷ []) m) ∙ h)) [
      | inl old ↦ keeps m (all m old held)
      | inr last ↦ elim (or_cases (eqb m n) false last) [
        | inl e ↦ let same : n ≡ m = sym (eqb-true m n e) in rw (sym same) (there (rw (sym (eqb-true m n e)) held))
        | inr wrong ↦ absurd (false≢true wrong)
      ]
    ]

in_numbers : (ns : List Node) (i : ℕ) (d : Node) → i < length ns → is_in (numbers ns) (get_or ns i d).0 ≡ true
in_numbers [] i d lt = absurd (omega arith)
in_numbers (n ∷ ns) zero d lt = or_left (eqb n.0 n.0) (is_in (numbers ns) n.0) (eq-eqb n.0 n.0 refl)
in_numbers (n ∷ ns) (suc i) d lt = or_right (eqb (get_or ns i d).0 n.0) (is_in (numbers ns) (get_or ns i d).0) (in_numbers ns i d (omega arith))

-- a root is reached
pub root_reached : (s : List (Option Parts)) (ns : List Node) (i : ℕ) (d : Node) → i < length ns → Reaches s (numbers ns) (get_or ns i d).0
root_reached s ns i d lt = root (get_or ns i d).0 (in_numbers ns i d lt)

in_set : (d : Diagram) (ns ks : List ℕ) → IsClosed d ks → ((m : ℕ) → is_in ns m ≡ true → HasParts d m → is_in ks m ≡ true) → (q : ℕ) → Reaches d.slots ns q → HasParts d q → is_in ks q ≡ true
in_set d ns ks closed roots q (root _ h) held = roots q h held
in_set d ns ks closed roots q (step n r b h at) held =
    closed.children n r b (in_set d ns ks closed roots n h (r, at)) at held

each_live : (d : Diagram) (ns : List Node) → All (λ (n : Node). IsLive d n.0) ns → Each (IsLiveIn d.slots d.order) (numbers ns)
each_live d [] all = tt
each_live d (n ∷ ns) all = (all 0 n (omega arith), each_live d ns (λ k e lt. all (suc k) e (omega arith)))

denoted_all : (d : Diagram) (ns : List Node) → map (λ (n : Node). function_of d n.0) ns ≡ map (denoted d.slots d.order) (numbers ns)
unfolding function_of
denoted_all d [] = refl
denoted_all d (n ∷ ns) = ap (λ l. denoted d.slots d.order n.0 ∷ l) (denoted_all d ns)

-- The number of nodes that a walk from the roots has met is the size of their functions.
pub size_of_seen : (d : Diagram) (ns : List Node) (ks : List ℕ) → IsSound d → All (λ (n : Node). IsLive d n.0) ns → IsDistinct eqb ks → IsClosed d ks → ((m : ℕ) → is_in (numbers ns) m ≡ true → HasParts d m → is_in ks m ≡ true) → ((q : ℕ) → is_in ks q ≡ true → Reaches d.slots (numbers ns) q) → length ks ≡ size (length d.order) d.order (map (λ (n : Node). function_of d n.0) ns)
size_of_seen d ns ks sound live distinct closed roots reached =
    size_of_reached d.slots (length d.order) d.order (numbers ns) ks sound.diagram (each_live d ns live) distinct
    (λ q h. (reached q h, closed.held q h)) (λ q p h is. in_set d (numbers ns) ks closed roots q h (p, is))
    ∙ ap (size (length d.order) d.order) (sym (denoted_all d ns))

-- three live nodes are live
pub all_three : (d : Diagram) (f g h : Node) → IsLive d f.0 → IsLive d g.0 → IsLive d h.0 → All (λ (n : Node). IsLive d n.0) (f ∷ g ∷ h ∷ [])
all_three d f g h lf lg lh zero e lt = lf
all_three d f g h lf lg lh (suc zero) e lt = lg
all_three d f g h lf lg lh (suc (suc zero)) e lt = lh
all_three d f g h lf lg lh (suc (suc (suc k))) e lt = absurd (omega arith)
