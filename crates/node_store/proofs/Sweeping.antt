-- Slots without the nodes that have no mark, number by number.
use Rattle.std.proofs.Common.{◌≡◌, ◌≢◌, ◌⊎◌, ℕ, ◌+◌, ◌≤◌, ◌<◌, Bool, true, false, List, Option, Some, None, inl, inr, sym, ◌∙◌, ap, arith}
use Rattle.std.proofs.lemmas.Bool.{cases_eq, false≢true}
use Rattle.diagram_model.specs.declared.parts.Parts.{Parts}
use Rattle.diagram_model.specs.Nodes.{parts_of}
use Rattle.diagram_model.specs.Stores.{Diagram, HasParts}
use Rattle.diagram_model.proofs.Values.{none_some}
use Rattle.node_store.specs.Marks.{is_marked, KeepsMarked}
use Rattle.node_store.specs.Slots.{Takes}

left : (t u : List (Option Parts)) (i n : ℕ) (p : Parts) → Takes t u i → parts_of u n ≡ Some p → (n ≢ i) × (parts_of t n ≡ Some p)
left t u i n p takes is =
    let ne : n ≢ i = λ e. none_some p (sym takes.gone ∙ ap (parts_of u) (sym e) ∙ is) in
    (ne, sym (takes.others n ne) ∙ is)

-- the slots t are s without the unmarked nodes below i
pub record AreSwept (s t : List (Option Parts)) (ms : List Bool) (i : ℕ) : Type 0 where
  pub kept : (n : ℕ) (p : Parts) → parts_of s n ≡ Some p → (is_marked ms n ≡ true) ⊎ (i ≤ n) → parts_of t n ≡ Some p
  pub was : (n : ℕ) (p : Parts) → parts_of t n ≡ Some p → parts_of s n ≡ Some p
  pub only : (n : ℕ) (p : Parts) → parts_of t n ≡ Some p → n < i → is_marked ms n ≡ true

pub swept_first : (s : List (Option Parts)) (ms : List Bool) → ((n : ℕ) → n < 2 → parts_of s n ≡ None) → AreSwept s s ms 2
swept_first s ms ground = record {
  kept = λ n p is why. is;
  was = λ n p is. is;
  only = λ n p is small. absurd (none_some p (sym (ground n small) ∙ is));
}

next_or : (ms : List Bool) (i n : ℕ) → (is_marked ms n ≡ true) ⊎ (i + 1 ≤ n) → (is_marked ms n ≡ true) ⊎ (i ≤ n)
next_or ms i n (inl h) = inl h
next_or ms i n (inr h) = inr (omega arith)

pub swept_on : (s t : List (Option Parts)) (ms : List Bool) (i : ℕ) → AreSwept s t ms i → ((p : Parts) → parts_of t i ≡ Some p → is_marked ms i ≡ true) → AreSwept s t ms (i + 1)
swept_on s t ms i swept marked = record {
  kept = λ n p is why. swept.kept n p is (next_or ms i n why);
  was = swept.was;
  only = λ n p is lt. elim (cases_eq n i) [
    | inl e ↦ ap (is_marked ms) e ∙ marked p (ap (parts_of t) (sym e) ∙ is)
    | inr ne ↦ swept.only n p is (omega arith)
  ];
}

not_at : (ms : List Bool) (i n : ℕ) → is_marked ms i ≡ false → (is_marked ms n ≡ true) ⊎ (i + 1 ≤ n) → n ≢ i
not_at ms i n un (inl h) e = false≢true (sym un ∙ ap (is_marked ms) (sym e) ∙ h)
not_at ms i n un (inr h) e = absurd (omega arith)

pub swept_free : (s t u : List (Option Parts)) (ms : List Bool) (i : ℕ) → AreSwept s t ms i → is_marked ms i ≡ false → Takes t u i → AreSwept s u ms (i + 1)
swept_free s t u ms i swept un takes = record {
  kept = λ n p is why. takes.others n (not_at ms i n un why) ∙ swept.kept n p is (next_or ms i n why);
  was = λ n p is. swept.was n p (left t u i n p takes is).1;
  only = λ n p is lt. let r = left t u i n p takes is in swept.only n p r.1 (let ne = r.0 in omega (arith, ne));
}

pub swept_all : (d e : Diagram) (ms : List Bool) (i : ℕ) → AreSwept d.slots e.slots ms i → ((n : ℕ) → HasParts d n → n < i) → KeepsMarked d e ms
swept_all d e ms i swept past = record {
  kept = λ n p is marked. swept.kept n p is (inl marked);
  was = swept.was;
  only = λ n p is. swept.only n p is (past n (p, swept.was n p is));
}
