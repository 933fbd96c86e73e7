-- What the walks over basis states and over outcomes find is what has a line.
use Rattle.std.proofs.Common.{◌≡◌, ◌≢◌, ℕ, Bool, true, false, List, length, Option, Some, None, IfSome, IfNone, refl, subst}
use Rattle.std.specs.Option.{ForSome}
use Rattle.ring_omega.specs.declared.quad.Quad.{Quad}
use Rattle.ring_omega.specs.declared.weight.Weight.{Weight}
use Rattle.ring_omega.specs.Ring.{is_zero, zero_quad}
use Rattle.ring_omega.proofs.RingLemmas.{Decides-is_zero}
use Rattle.circuit_model.specs.Working.{Scaled}
use Rattle.amp_dense.specs.Nonzero.{IsAfter, IsNextNonzero, NoneAfter}
use Rattle.probabilities.specs.Outcomes.{measured_count}
use Rattle.probabilities.specs.Possible.{IsNextOutcome, NoOutcomeAfter}
use Rattle.probabilities.proofs.PossibleLemmas.{impossible_weight, possible_weight}
use Rattle.outputs.specs.Listing.{has_no_entry}
use Rattle.outputs.specs.Outcomes.{has_no_weight}
use Rattle.outputs.proofs.WalkLemmas.{IsFirst, IsFound, state_of}

pub nonzero_test : (q : Quad) → q ≢ zero_quad → is_zero q ≡ false
nonzero_test q differs = chosen (is_zero q) refl
  where
    chosen : (b : Bool) → is_zero q ≡ b → b ≡ false
    chosen true e = absurd (differs ((Decides-is_zero q).0 e))
    chosen false e = refl

-- the next basis state whose entry isn't zero
pub found_state : (m n : ℕ) (w : Scaled) (given next : Option (List Bool)) → m ≡ n → ForSome given (λ y. length y ≡ n)
    → IfSome next (IsNextNonzero m w.entries given) → IfNone next (NoneAfter m w.entries given) → IsFound n (has_no_entry w) given next
found_state m n w given None size alike found none = record {
  alike = alike;
  found = tt;
  none = subst (λ k. (x : List Bool) → length x ≡ k → IsAfter given x → has_no_entry w x ≡ true) size (λ x long after. (Decides-is_zero (w.entries x)).1 (none x long after));
}
found_state m n w given (Some x) size alike found none = record {
  alike = alike;
  found = subst (λ k. IsFirst k (has_no_entry w) given x) size (record {
    long = found.long;
    after = found.after;
    shown = nonzero_test (w.entries x) found.nonzero;
    first = λ y long after before. (Decides-is_zero (w.entries y)).1 (found.first y long after before);
  });
  none = tt;
}

-- the same of a walk that gives the entry with it
pub found_walked : (m n : ℕ) (w : Scaled) (given : Option (List Bool)) (next : Option (List Bool × Quad)) → m ≡ n → ForSome given (λ y. length y ≡ n)
    → IfSome next (λ e. IsNextNonzero m w.entries given e.0) → IfNone next (NoneAfter m w.entries given) → IsFound n (has_no_entry w) given (state_of next)
found_walked m n w given None size alike found none = found_state m n w given None size alike tt none
found_walked m n w given (Some e) size alike found none = found_state m n w given (Some e.0) size alike found tt

pub some_for : {X : Type 0} (o : Option X) (P : X → Type 0) → IfSome o P → ForSome o P
some_for None P h = λ x e. cc
some_for (Some y) P h = λ x e. (let same : y ≡ x = cc in subst P same h)

-- the next outcome that is possible
pub found_outcome : (measured : List Bool) (w : Scaled) (given next : Option (List Bool)) → ForSome given (λ y. length y ≡ measured_count measured)
    → IfSome next (IsNextOutcome measured w.entries given) → IfNone next (NoOutcomeAfter measured w.entries given)
    → IsFound (measured_count measured) (has_no_weight measured w) given next
found_outcome measured w given None alike found none = record {
  alike = alike;
  found = tt;
  none = λ y long after. impossible_weight measured w.entries y long (none y long after);
}
found_outcome measured w given (Some x) alike found none = record {
  alike = alike;
  found = record {
    long = found.long;
    after = found.after;
    shown = possible_weight measured w.entries x found.long found.possible;
    first = λ y long after before. impossible_weight measured w.entries y long (found.first y long after before);
  };
  none = tt;
}

-- the same of a walk that gives the weight with it
pub found_weighed : (measured : List Bool) (w : Scaled) (given : Option (List Bool)) (next : Option (List Bool × Weight)) → ForSome given (λ y. length y ≡ measured_count measured)
    → IfSome next (λ e. IsNextOutcome measured w.entries given e.0) → IfNone next (NoOutcomeAfter measured w.entries given)
    → IsFound (measured_count measured) (has_no_weight measured w) given (state_of next)
found_weighed measured w given None alike found none = found_outcome measured w given None alike tt none
found_weighed measured w given (Some e) alike found none = found_outcome measured w given (Some e.0) alike found tt
