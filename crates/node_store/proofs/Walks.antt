-- What a walk over the nodes below a node keeps.
use Rattle.std.proofs.Common.{◌≡◌, ◌⊎◌, ℕ, Bool, true, false, cond, eqb, List, Some, inl, inr, sym, ◌∙◌, ap, eq-eqb}
use Rattle.std.proofs.lemmas.Bool.{cases_eq, cond-true, cond-false, ne_eqb}
use Rattle.diagram_model.specs.declared.parts.Parts.{Parts}
use Rattle.diagram_model.specs.Nodes.{parts_of, child}
use Rattle.diagram_model.specs.Stores.{Diagram, HasParts}
use Rattle.diagram_model.specs.Reach.{is_in}
use Rattle.diagram_model.specs.Reach.Reaches.{step}
use Rattle.diagram_model.proofs.Canonical.{some_same}
use Rattle.node_store.specs.Walks.{IsClosed, Keeps, AddsReached}

-- the set new is ks with n
abbrev pub Puts : List ℕ → List ℕ → ℕ → Type 0
Puts ks new n = (q : ℕ) → is_in new q ≡ cond (eqb n q) true (is_in ks q)

pub put_here : (ks new : List ℕ) (n q : ℕ) → Puts ks new n → n ≡ q → is_in new q ≡ true
put_here ks new n q puts e = puts q ∙ cond-true (eqb n q) true (is_in ks q) (eq-eqb n q e)

pub put_keeps : (ks new : List ℕ) (n : ℕ) → Puts ks new n → Keeps ks new
put_keeps ks new n puts q h =
    elim (cases_eq n q) [
      | inl e ↦ put_here ks new n q puts e
      | inr ne ↦ puts q ∙ cond-false (eqb n q) true (is_in ks q) (ne_eqb n q ne) ∙ h
    ]

pub put_cases : (ks new : List ℕ) (n q : ℕ) → Puts ks new n → is_in new q ≡ true → (n ≡ q) ⊎ (is_in ks q ≡ true)
put_cases ks new n q puts h =
    elim (cases_eq n q) [
      | inl e ↦ inl e
      | inr ne ↦ inr (sym (puts q ∙ cond-false (eqb n q) true (is_in ks q) (ne_eqb n q ne)) ∙ h)
    ]

pub keeps_then : (a b c : List ℕ) → Keeps a b → Keeps b c → Keeps a c
keeps_then a b c f g q h = g q (f q h)

-- the held children of p are in the set
child_in : (d : Diagram) (p : Parts) (ks new : List ℕ) → Keeps ks new → (HasParts d p.low → is_in ks p.low ≡ true) → (HasParts d p.high → is_in ks p.high ≡ true) → (b : Bool) → HasParts d (child b p) → is_in new (child b p) ≡ true
child_in d p ks new keeps low high false held = keeps p.low (low held)
child_in d p ks new keeps low high true held = keeps p.high (high held)

child_is : (d : Diagram) (p r : Parts) (ks new : List ℕ) (b : Bool) → p ≡ r → ((c : Bool) → HasParts d (child c p) → is_in new (child c p) ≡ true) → HasParts d (child b r) → is_in new (child b r) ≡ true
child_is d p r ks new b same all = rw (sym same) (all b)

-- n goes into a closed set that has its held children
pub closed_put : (d : Diagram) (n : ℕ) (p : Parts) (ks new : List ℕ) → IsClosed d ks → parts_of d.slots n ≡ Some p → (HasParts d p.low → is_in ks p.low ≡ true) → (HasParts d p.high → is_in ks p.high ≡ true) → Puts ks new n → IsClosed d new
closed_put d n p ks new closed is low high puts = record {
  held = λ q h. elim (put_cases ks new n q puts h) [
    | inl e ↦ (p, ap (parts_of d.slots) (sym e) ∙ is)
    | inr there ↦ closed.held q there
  ];
  children = λ q r b h at held. elim (put_cases ks new n q puts h) [
    | inl e ↦
        let same : p ≡ r = some_same p r (sym is ∙ ap (parts_of d.slots) e ∙ at) in
        child_is d p r ks new b same (child_in d p ks new (put_keeps ks new n puts) low high) held
    | inr there ↦ put_keeps ks new n puts (child b r) (closed.children q r b there at held)
  ];
}

-- what was added below a node, and then the node
pub reached_put : (d : Diagram) (n : ℕ) (p : Parts) (ks low high new : List ℕ) → parts_of d.slots n ≡ Some p → AddsReached d p.low ks low → AddsReached d p.high low high → Puts high new n → AddsReached d n ks new
reached_put d n p ks low high new is first second puts roots at q h =
    elim (put_cases high new n q puts h) [
      | inl e ↦ inr (rw (sym e) at)
      | inr there ↦ elim (second roots (step n p true at is) q there) [
        | inl more ↦ first roots (step n p false at is) q more
        | inr reached ↦ inr reached
      ]
    ]
