-- Nodes that are taken away or given other parts, and counts of nodes.
use Rattle.std.proofs.Common.{◌≡◌, ◌≢◌, ℕ, zero, suc, ◌+◌, ◌<◌, ◌≤◌, Bool, false, cond, eqb, List, [], ◌∷◌, Option, Some, None, is_some, count_by, inl, inr, refl, sym, ◌∙◌, ap, arith, eq-eqb}
use Rattle.std.proofs.lemmas.Bool.{cases_eq, cond-true, cond-false, ne_eqb}
use Rattle.std.proofs.lemmas.List.Sums.{sum_by-cons}
use Rattle.diagram_model.specs.declared.parts.Parts.{Parts}
use Rattle.diagram_model.specs.Nodes.{parts_of}
use Rattle.diagram_model.specs.Stores.{Diagram, PutsNode}
use Rattle.node_store.specs.Slots.{IsSlotted, Takes, is_of}

abbrev pub one : (Option Parts → Bool) → Option Parts → ℕ
one f o = cond (f o) 1 0

pub count_cons : (f : Option Parts → Bool) (o : Option Parts) (s : List (Option Parts)) → count_by f (o ∷ s) ≡ one f o + count_by f s
count_cons f o s = sum_by-cons (one f) o s

one_none : (f : Option Parts → Bool) (o : Option Parts) → f None ≡ false → o ≡ None → one f o ≡ 0
one_none f o none e = ap (λ r. cond (f r) 1 0) e ∙ cond-false (f None) 1 0 none

-- slots with the same parts have the same counts
pub count_same : (f : Option Parts → Bool) → f None ≡ false → (s t : List (Option Parts)) → ((m : ℕ) → parts_of t m ≡ parts_of s m) → count_by f t ≡ count_by f s
count_same f none [] [] same = refl
count_same f none [] (o ∷ t) same =
    let rest = count_same f none [] t (λ m. same (suc m)) in
    omega (arith, rest, count_cons f o t, one_none f o none (same 0))
count_same f none (q ∷ s) [] same =
    let rest = count_same f none s [] (λ m. same (suc m)) in
    omega (arith, rest, count_cons f q s, one_none f q none (sym (same 0)))
count_same f none (q ∷ s) (o ∷ t) same =
    let rest = count_same f none s t (λ m. same (suc m)) in
    omega (arith, rest, count_cons f q s, count_cons f o t, ap (one f) (same 0))

none_some : (p : Parts) → None ≡ Some p → ⊥
none_some p e = cc

next_ne : (m n : ℕ) → m ≢ n → suc m ≢ suc n
next_ne m n ne e = ne (omega arith)

-- slots with one more node count it
pub count_put : (f : Option Parts → Bool) → f None ≡ false → (s t : List (Option Parts)) (n : ℕ) (p : Parts) → PutsNode s t n p → count_by f t ≡ count_by f s + one f (Some p)
count_put f none s [] n p puts = absurd (none_some p puts.here)
count_put f none [] (o ∷ t) zero p puts =
    let rest = count_same f none [] t (λ m. puts.others (suc m) (omega arith)) in
    omega (arith, rest, count_cons f o t, ap (one f) puts.here)
count_put f none (q ∷ s) (o ∷ t) zero p puts =
    let rest = count_same f none s t (λ m. puts.others (suc m) (omega arith)) in
    omega (arith, rest, count_cons f q s, count_cons f o t, ap (one f) puts.here, one_none f q none puts.free)
count_put f none [] (o ∷ t) (suc n) p puts =
    let rest = count_put f none [] t n p (record { free = puts.free; here = puts.here; others = λ m ne. puts.others (suc m) (next_ne m n ne) }) in
    omega (arith, rest, count_cons f o t, one_none f o none (puts.others 0 (omega arith)))
count_put f none (q ∷ s) (o ∷ t) (suc n) p puts =
    let rest = count_put f none s t n p (record { free = puts.free; here = puts.here; others = λ m ne. puts.others (suc m) (next_ne m n ne) }) in
    omega (arith, rest, count_cons f q s, count_cons f o t, ap (one f) (puts.others 0 (omega arith)))

-- the counts of nodes of a variable
pub of_here : (v : ℕ) (p : Parts) → p.var ≡ v → one (is_of v) (Some p) ≡ 1
unfolding is_of
of_here v p e = cond-true (eqb p.var v) 1 0 (eq-eqb p.var v e)

pub of_other : (v : ℕ) (p : Parts) → p.var ≢ v → one (is_of v) (Some p) ≡ 0
unfolding is_of
of_other v p ne = cond-false (eqb p.var v) 1 0 (ne_eqb p.var v ne)

of_none : (v : ℕ) → is_of v None ≡ false
unfolding is_of
of_none v = refl

pub nodes_put : (v : ℕ) (s t : List (Option Parts)) (n : ℕ) (p : Parts) → PutsNode s t n p → p.var ≡ v → count_by (is_of v) t ≡ count_by (is_of v) s + 1
nodes_put v s t n p puts e = omega (arith, count_put (is_of v) (of_none v) s t n p puts, of_here v p e)

pub nodes_other : (v : ℕ) (s t : List (Option Parts)) (n : ℕ) (p : Parts) → PutsNode s t n p → p.var ≢ v → count_by (is_of v) t ≡ count_by (is_of v) s
nodes_other v s t n p puts ne = omega (arith, count_put (is_of v) (of_none v) s t n p puts, of_other v p ne)

pub one_held : (p : Parts) → one is_some (Some p) ≡ 1
one_held p = refl

pub held_put : (s t : List (Option Parts)) (n : ℕ) (p : Parts) → PutsNode s t n p → count_by is_some t ≡ count_by is_some s + 1
held_put s t n p puts = omega (arith, count_put is_some refl s t n p puts, one_held p)

-- the slots t without the node n are such that s puts it
pub taken_put : (s t : List (Option Parts)) (n : ℕ) (p : Parts) → Takes s t n → parts_of s n ≡ Some p → PutsNode t s n p
taken_put s t n p takes is = record { free = takes.gone; here = is; others = λ m ne. sym (takes.others m ne) }

pub not_gone : (s t : List (Option Parts)) (n m : ℕ) (q : Parts) → Takes s t n → parts_of t m ≡ Some q → m ≢ n
not_gone s t n m q takes is e = none_some q (sym takes.gone ∙ ap (parts_of t) (sym e) ∙ is)

pub left_was : (s t : List (Option Parts)) (n m : ℕ) (q : Parts) → Takes s t n → parts_of t m ≡ Some q → parts_of s m ≡ Some q
left_was s t n m q takes is = sym (takes.others m (not_gone s t n m q takes is)) ∙ is

-- slots without one of their nodes
pub slotted_take : (d e : Diagram) (n : ℕ) (p : Parts) → IsSlotted d → e.order ≡ d.order → e.limit ≡ d.limit → Takes d.slots e.slots n → parts_of d.slots n ≡ Some p → IsSlotted e
slotted_take d e n p s eo el takes is =
    let count = held_put e.slots d.slots n p (taken_put d.slots e.slots n p takes is) in
    let big : (m : ℕ) → m < 2 → m ≢ n = λ m small at. none_some p (sym (s.ground m small) ∙ ap (parts_of d.slots) at ∙ is) in
    record {
      order = rw eo s.order;
      ground = λ m small. takes.others m (big m small) ∙ s.ground m small;
      within = λ m q iq. rw eo (s.within m q (left_was d.slots e.slots n m q takes iq));
      unique = λ m l q im il. s.unique m l q (left_was d.slots e.slots n m q takes im) (left_was d.slots e.slots n l q takes il);
      few = omega (arith, count, s.few);
      most = omega (arith, s.most);
    }

one_le : (v : ℕ) (o : Option Parts) → one (is_of v) o ≤ one is_some o
unfolding is_of
one_le v None = omega arith
one_le v (Some p) = elim (cases_eq p.var v) [
  | inl e ↦ omega (arith, of_here v p e, one_held p)
  | inr ne ↦ omega (arith, of_other v p ne)
]

-- the nodes of a variable are among the held nodes
pub nodes_le : (v : ℕ) (s : List (Option Parts)) → count_by (is_of v) s ≤ count_by is_some s
nodes_le v [] = omega arith
nodes_le v (o ∷ s) = omega (arith, nodes_le v s, one_le v o, count_cons (is_of v) o s, count_cons is_some o s)
