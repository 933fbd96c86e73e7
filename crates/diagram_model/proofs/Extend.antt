-- What adding a node keeps.
use Rattle.std.proofs.Common.{◌≡◌, ◌≢◌, ℕ, ◌<◌, ◌≤◌, Bool, true, eqb, List, [], ◌∷◌, length, Option, Some, None, inl, inr, refl, sym, ◌∙◌, ap, arith}
use Rattle.std.proofs.lemmas.Bool.{cases_eq}
use Rattle.bit_lists.specs.Orders.{has, after, AreVars}
use Rattle.diagram_model.specs.Nodes.{parts_of, follow_parts, follow, walk, value, IsLiveIn, IsProper, AreProper, IsDiagram}
use Rattle.diagram_model.specs.Stores.{Diagram, IsLive, IsSound, Extends, PutsNode}
use Rattle.diagram_model.specs.declared.parts.Parts.{Parts}
use Rattle.diagram_model.proofs.Canonical.{some_same, follow-other, live-follow, proper-tail}
use Rattle.diagram_model.proofs.Values.{none_some}

-- each node of s is in t with its parts
abbrev pub Keeps : List (Option Parts) → List (Option Parts) → Type 0
Keeps s t = (n : ℕ) (p : Parts) → parts_of s n ≡ Some p → parts_of t n ≡ Some p

pub live-keeps : (s t : List (Option Parts)) (vs : List ℕ) (n : ℕ) → Keeps s t → IsLiveIn s vs n → IsLiveIn t vs n
live-keeps s t vs n keeps (inl h) = inl h
live-keeps s t vs n keeps (inr h) = inr (record { parts = h.parts; is = keeps n h.parts h.is; below = h.below })

follow_small : (s : List (Option Parts)) (n : ℕ) → ((m : ℕ) → m < 2 → parts_of s m ≡ None) → n < 2 → (v : ℕ) (b : Bool) → follow s v b n ≡ n
follow_small s n ground h v b = follow-other s v n (λ p is at. none_some p (sym (ground n h) ∙ is)) b

pub same_parts_follow : (s t : List (Option Parts)) (n : ℕ) (v : ℕ) (b : Bool) → parts_of s n ≡ parts_of t n → follow s v b n ≡ follow t v b n
unfolding follow
same_parts_follow s t n v b e = ap (λ o. follow_parts v b n o) e

pub follow_keeps : (s t : List (Option Parts)) (vs : List ℕ) (n : ℕ) → ((m : ℕ) → m < 2 → parts_of s m ≡ None) → ((m : ℕ) → m < 2 → parts_of t m ≡ None) → Keeps s t → IsLiveIn s vs n → (v : ℕ) (b : Bool) → follow s v b n ≡ follow t v b n
follow_keeps s t vs n gs gt keeps (inl h) v b = follow_small s n gs h v b ∙ sym (follow_small t n gt h v b)
follow_keeps s t vs n gs gt keeps (inr h) v b = same_parts_follow s t n v b (h.is ∙ sym (keeps n h.parts h.is))

pub walk-keeps : (s t : List (Option Parts)) (k : ℕ) (vs : List ℕ) (n : ℕ) → ((m : ℕ) → m < 2 → parts_of s m ≡ None) → ((m : ℕ) → m < 2 → parts_of t m ≡ None) → AreVars k vs → AreProper s vs → Keeps s t → IsLiveIn s vs n → (x : ℕ → Bool) → walk t vs x n ≡ walk s vs x n
unfolding walk
walk-keeps s t k [] n gs gt vars proper keeps live x = refl
walk-keeps s t k (v ∷ vs) n gs gt vars proper keeps live x =
    ap (λ m. walk t vs x m) (sym (follow_keeps s t (v ∷ vs) n gs gt keeps live v (x v)))
    ∙ walk-keeps s t k vs (follow s v (x v) n) gs gt vars.2 (proper-tail s v vs vars.1 proper) keeps (live-follow s v vs n proper live (x v)) x

-- live nodes keep their functions
pub value-extends : (d e : Diagram) (n : ℕ) → IsSound d → IsSound e → Extends d e → IsLive d n → (x : ℕ → Bool) → value e.slots e.order x n ≡ value d.slots d.order x n
unfolding value
value-extends d e n sd se ext live x =
    rw ext.order (ap (λ m. eqb m 1) (walk-keeps d.slots e.slots (length d.order) d.order n sd.diagram.ground se.diagram.ground sd.diagram.order sd.diagram.proper ext.kept live x))

pub keeps_put : (s t : List (Option Parts)) (n : ℕ) (p : Parts) → PutsNode s t n p → Keeps s t
keeps_put s t n p puts m q is =
    elim (cases_eq m n) [
      | inl e ↦ absurd (none_some q (sym puts.free ∙ ap (λ t. parts_of s t) (sym e) ∙ is))
      | inr ne ↦ puts.others m ne ∙ is
    ]

pub proper-keeps : (s t : List (Option Parts)) (vs : List ℕ) (p : Parts) → Keeps s t → IsProper s vs p → IsProper t vs p
proper-keeps s t vs p keeps h =
    record { low = live-keeps s t (after vs p.var) p.low keeps h.low; high = live-keeps s t (after vs p.var) p.high keeps h.high; differ = h.differ }

pub here : (s t : List (Option Parts)) (n : ℕ) (p : Parts) → PutsNode s t n p → (m : ℕ) (q : Parts) → m ≡ n → parts_of t m ≡ Some q → p ≡ q
here s t n p puts m q e is = some_same p q (sym puts.here ∙ ap (λ l. parts_of t l) (sym e) ∙ is)

-- the rules still hold once a proper node of new parts is added
pub diagram_put : (s t : List (Option Parts)) (k : ℕ) (vs : List ℕ) (n : ℕ) (p : Parts) → IsDiagram s k vs → PutsNode s t n p → 2 ≤ n → has vs p.var ≡ true → IsProper s vs p → ((m : ℕ) → parts_of s m ≢ Some p) → IsDiagram t k vs
diagram_put s t k vs n p d puts big below proper new =
    let keeps = keeps_put s t n p puts in
    record {
      ground = λ m small. puts.others m (omega arith) ∙ d.ground m small;
      order = d.order;
      within = λ m q is. elim (cases_eq m n) [
        | inl e ↦ rw (sym (here s t n p puts m q e is)) below
        | inr ne ↦ d.within m q (sym (puts.others m ne) ∙ is)
      ];
      proper = λ m q is h. elim (cases_eq m n) [
        | inl e ↦ let g = proper-keeps s t vs p keeps proper in rw (sym (here s t n p puts m q e is)) g
        | inr ne ↦ proper-keeps s t vs q keeps (d.proper m q (sym (puts.others m ne) ∙ is) h)
      ];
      unique = λ m l q im il. elim (cases_eq m n) [
        | inl e ↦ elim (cases_eq l n) [
          | inl f ↦ e ∙ sym f
          | inr nf ↦ absurd (new l (sym (puts.others l nf) ∙ il ∙ ap (λ r. Some r) (sym (here s t n p puts m q e im))))
        ]
        | inr ne ↦ elim (cases_eq l n) [
          | inl f ↦ absurd (new m (sym (puts.others m ne) ∙ im ∙ ap (λ r. Some r) (sym (here s t n p puts l q f il))))
          | inr nf ↦ d.unique m l q (sym (puts.others m ne) ∙ im) (sym (puts.others l nf) ∙ il)
        ]
      ];
    }
