-- What marking the nodes below a node keeps.
use Rattle.std.proofs.Common.{◌≡◌, ◌⊎◌, ℕ, ◌<◌, Bool, true, false, eqb, List, [], ◌∷◌, ◌++◌, length, replicate, zero, suc, Some, inl, inr, refl, sym, ◌∙◌, ap, set, get_or-set_same, get_or-set_other}
use Rattle.std.proofs.lemmas.Bool.{cases_eq, eqb-true, false≢true, or_cases}
use Rattle.diagram_model.specs.declared.parts.Parts.{Parts}
use Rattle.diagram_model.specs.Nodes.{parts_of, child}
use Rattle.diagram_model.specs.Stores.{Diagram, HasParts}
use Rattle.diagram_model.specs.Reach.{is_in, Reaches}
use Rattle.diagram_model.specs.Reach.Reaches.{root, step}
use Rattle.diagram_model.proofs.Canonical.{some_same}
use Rattle.diagram_model.proofs.Reached.{in_append}
use Rattle.node_store.specs.Marks.{is_marked}
use Rattle.node_store.specs.Marking.{AreUnmarked, AreClosed, KeepsMarks, MarksReached}

-- the marks new are ms with one on n
pub set_keeps : (ms : List Bool) (n : ℕ) → n < length ms → KeepsMarks ms (set ms n true)
set_keeps ms n lt q h =
    elim (cases_eq q n) [
      | inl e ↦ ap (is_marked (set ms n true)) e ∙ get_or-set_same ms n true false lt
      | inr ne ↦ get_or-set_other ms n q true false ne ∙ h
    ]

pub set_here : (ms : List Bool) (n : ℕ) → n < length ms → is_marked (set ms n true) n ≡ true
set_here ms n lt = get_or-set_same ms n true false lt

pub set_cases : (ms : List Bool) (n q : ℕ) → is_marked (set ms n true) q ≡ true → (q ≡ n) ⊎ (is_marked ms q ≡ true)
set_cases ms n q h =
    elim (cases_eq q n) [
      | inl e ↦ inl e
      | inr ne ↦ inr (sym (get_or-set_other ms n q true false ne) ∙ h)
    ]

child_marked : (d : Diagram) (p : Parts) (ms new : List Bool) → KeepsMarks ms new → (HasParts d p.low → is_marked ms p.low ≡ true) → (HasParts d p.high → is_marked ms p.high ≡ true) → (b : Bool) → HasParts d (child b p) → is_marked new (child b p) ≡ true
child_marked d p ms new keeps low high false held = keeps p.low (low held)
child_marked d p ms new keeps low high true held = keeps p.high (high held)

child_is : (d : Diagram) (p r : Parts) (new : List Bool) (b : Bool) → p ≡ r → ((c : Bool) → HasParts d (child c p) → is_marked new (child c p) ≡ true) → HasParts d (child b r) → is_marked new (child b r) ≡ true
child_is d p r new b same all = rw (sym same) (all b)

-- n gets a mark once its held children have one
pub closed_set : (d : Diagram) (n : ℕ) (p : Parts) (ms : List Bool) → AreClosed d ms → n < length ms → parts_of d.slots n ≡ Some p → (HasParts d p.low → is_marked ms p.low ≡ true) → (HasParts d p.high → is_marked ms p.high ≡ true) → AreClosed d (set ms n true)
closed_set d n p ms closed lt is low high = record {
  held = λ q h. elim (set_cases ms n q h) [
    | inl e ↦ (p, ap (parts_of d.slots) e ∙ is)
    | inr there ↦ closed.held q there
  ];
  children = λ q r b h at held. elim (set_cases ms n q h) [
    | inl e ↦
        let same : p ≡ r = some_same p r (sym is ∙ ap (parts_of d.slots) (sym e) ∙ at) in
        child_is d p r (set ms n true) b same (child_marked d p ms (set ms n true) (set_keeps ms n lt) low high) held
    | inr there ↦ set_keeps ms n lt (child b r) (closed.children q r b there at held)
  ];
}

pub marks_then : (a b c : List Bool) → KeepsMarks a b → KeepsMarks b c → KeepsMarks a c
marks_then a b c f g q h = g q (f q h)

-- what was marked below a node, and then the node
pub reached_set : (d : Diagram) (n : ℕ) (p : Parts) (ms low high : List Bool) → parts_of d.slots n ≡ Some p → MarksReached d p.low ms low → MarksReached d p.high low high → MarksReached d n ms (set high n true)
reached_set d n p ms low high is first second roots at q h =
    elim (set_cases high n q h) [
      | inl e ↦ inr (rw e at)
      | inr there ↦ elim (second roots (step n p true at is) q there) [
        | inl more ↦ first roots (step n p false at is) q more
        | inr reached ↦ inr reached
      ]
    ]

-- one more root is walked from
pub roots_marked : (d : Diagram) (ns : List ℕ) (ms new : List Bool) (n : ℕ) → ((m : ℕ) → is_in ns m ≡ true → HasParts d m → is_marked ms m ≡ true) → KeepsMarks ms new → (HasParts d n → is_marked new n ≡ true) → (m : ℕ) → is_in (ns ++ n ∷ []) m ≡ true → HasParts d m → is_marked new m ≡ true
roots_marked d ns ms new n all keeps there m h held =
    elim (or_cases (is_in ns m) (is_in (n ∷ []) m) (sym (in_append ns (n ∷ []) m) ∙ h)) [
      | inl old ↦ keeps m (all m old held)
      | inr last ↦ elim (or_cases (eqb m n) false last) [
        | inl e ↦ let same : n ≡ m = sym (eqb-true m n e) in rw (sym same) (there (rw (sym (eqb-true m n e)) held))
        | inr wrong ↦ absurd (false≢true wrong)
      ]
    ]

-- what is reached from marked roots is marked
pub in_marks : (d : Diagram) (ns : List ℕ) (ms : List Bool) → AreClosed d ms → ((m : ℕ) → is_in ns m ≡ true → HasParts d m → is_marked ms m ≡ true) → (q : ℕ) → Reaches d.slots ns q → HasParts d q → is_marked ms q ≡ true
in_marks d ns ms closed roots q (root _ h) held = roots q h held
in_marks d ns ms closed roots q (step n r b h at) held =
    closed.children n r b (in_marks d ns ms closed roots n h (r, at)) at held

pub unmarked : (k n : ℕ) → is_marked (replicate k false) n ≡ false
unmarked zero n = refl
unmarked (suc k) zero = refl
unmarked (suc k) (suc n) = unmarked k n

pub none_marked : (ms : List Bool) (q : ℕ) → AreUnmarked ms → is_marked ms q ≡ true → ⊥
none_marked ms q none h = false≢true (sym (none q) ∙ h)

-- no marks
pub closed_none : (d : Diagram) (ms : List Bool) → AreUnmarked ms → AreClosed d ms
closed_none d ms none = record {
  held = λ q h. absurd (none_marked ms q none h);
  children = λ q p b h is held. absurd (none_marked ms q none h);
}
