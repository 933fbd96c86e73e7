-- Weights and outcomes of the integers over diagrams are those of the working vector that they show.
use Rattle.std.proofs.Common.{◌≡◌, ℕ, Bool, List, length, Option, sym, ◌∙◌, ap, subst}
use Rattle.diagram_model.specs.Stores.{Diagram}
use Rattle.circuit_model.specs.Working.{Scaled}
use Rattle.amp_dense.specs.Standing.{vector}
use Rattle.diagram_ops.specs.Diagrams.{StoreAndCache}
use Rattle.probabilities.specs.Weighing.{weight_at}
use Rattle.probabilities.specs.Possible.{IsNextOutcome, NoOutcomeAfter}
use Rattle.slice_quad.specs.declared.quad.SliceQuad.{SliceQuad}
use Rattle.slice_quad.specs.Vectors.{Stands}
use Rattle.slice_quad.specs.Walks.{entries_in}
use Rattle.slice_gates.specs.Shown.{Shows}
use Rattle.slice_weights.proofs.Sums.{same_weight}
use Rattle.state_update.specs.Kept.{State, standing_of}

module _ (d : Diagram) (q : SliceQuad) (w : Scaled) (n : ℕ) (shows : Shows d q w) (size : length d.order ≡ n) where
  entry_shown : (x : List Bool) → length x ≡ n → w.entries x ≡ entries_in d q.four x
  unfolding entries_in
  entry_shown x long = shows.entries x (long ∙ sym size)

  pub weight_shown : (p : List (Option Bool)) → length p ≡ n → weight_at (entries_in d q.four) p ≡ weight_at w.entries p
  weight_shown p len = same_weight p (entries_in d q.four) w.entries (λ x long fit. sym (entry_shown x (long ∙ len)))

  module _ (measured : List Bool) (given : Option (List Bool)) (len : length measured ≡ n) where
    pub outcome_shown : (y : List Bool) → IsNextOutcome measured (entries_in d q.four) given y → IsNextOutcome measured w.entries given y
    outcome_shown y h = record {
      long = h.long;
      after = h.after;
      possible = record {
        state = h.possible.state;
        long = h.possible.long;
        outcome = h.possible.outcome;
        nonzero = λ e. h.possible.nonzero (sym (entry_shown h.possible.state (h.possible.long ∙ len)) ∙ e);
      };
      first = λ z long after before x size is. entry_shown x (size ∙ len) ∙ h.first z long after before x size is;
    }

    pub none_shown : NoOutcomeAfter measured (entries_in d q.four) given → NoOutcomeAfter measured w.entries given
    none_shown h y long after x size is = entry_shown x (size ∙ len) ∙ h y long after x size is

-- the diagrams and the integers that are read of a state are those that show its vector
module _ (s : State) (d : StoreAndCache) (q : SliceQuad) (is_d : d ≡ s.diagrams) (is_q : q ≡ s.quad) (size : length s.diagrams.store.order ≡ length s.input) (shows : Shows s.diagrams.store s.quad (vector (standing_of s))) where
  pub read_size : length d.store.order ≡ length s.input
  read_size = ap (λ (e : StoreAndCache). length e.store.order) is_d ∙ size

  pub read_stands : Stands s.diagrams.store s.quad → Stands d.store q
  read_stands h = subst (λ (e : StoreAndCache). Stands e.store q) (sym is_d) (subst (Stands s.diagrams.store) (sym is_q) h)

  pub read_shows : Shows d.store q (vector (standing_of s))
  read_shows = subst (λ (e : StoreAndCache). Shows e.store q (vector (standing_of s))) (sym is_d) (subst (λ r. Shows s.diagrams.store r (vector (standing_of s))) (sym is_q) shows)

  pub read_weight : (p : List (Option Bool)) → length p ≡ length s.input → weight_at (entries_in d.store q.four) p ≡ weight_at (vector (standing_of s)).entries p
  read_weight p len = weight_shown d.store q (vector (standing_of s)) (length s.input) read_shows read_size p len

  pub read_outcome : (measured : List Bool) (given : Option (List Bool)) (y : List Bool) → length measured ≡ length s.input → IsNextOutcome measured (entries_in d.store q.four) given y
      → IsNextOutcome measured (vector (standing_of s)).entries given y
  read_outcome measured given y len h = outcome_shown d.store q (vector (standing_of s)) (length s.input) read_shows read_size measured given len y h

  pub read_none : (measured : List Bool) (given : Option (List Bool)) → length measured ≡ length s.input → NoOutcomeAfter measured (entries_in d.store q.four) given
      → NoOutcomeAfter measured (vector (standing_of s)).entries given
  read_none measured given len h = none_shown d.store q (vector (standing_of s)) (length s.input) read_shows read_size measured given len h
