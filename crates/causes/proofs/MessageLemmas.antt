-- The variables of an order, one after another.
use Rattle.std.proofs.Common.{◌≡◌, ℕ, ◌+◌, ◌<◌, List, ◌++◌, length, get_or, take, codes, decimal, sym, ◌∙◌, ap}
use Rattle.std.proofs.Math.Seq.{take-length}
use Rattle.std.proofs.lemmas.List.{append_assoc}
use Rattle.causes.specs.Status.{order_text}
use Rattle.outputs.proofs.ListingLemmas.{flat_map-take_more}

-- one variable more
pub one_variable : (order : List ℕ) (i v : ℕ) (old line new : List ℕ) → i < length order → v ≡ get_or order i 0 → line ≡ old ++ order_text (take i order)
    → new ≡ line ++ codes " " ++ decimal v → new ≡ old ++ order_text (take (i + 1) order)
one_variable order i v old line new lt here so_far more =
    let text : ℕ → List ℕ = λ w. codes " " ++ decimal w in
    more ∙ append_assoc line (codes " ") (decimal v) ∙ ap (λ l. l ++ text v) so_far ∙ append_assoc old (order_text (take i order)) (text v)
    ∙ ap (λ t. old ++ t) (ap (λ w. order_text (take i order) ++ text w) here ∙ sym (flat_map-take_more text order i 0 lt))

-- all of them
pub all_variables : (order : List ℕ) (i : ℕ) (old new : List ℕ) → i ≡ length order → new ≡ old ++ order_text (take i order) → new ≡ old ++ order_text order
all_variables order i old new end e = e ∙ ap (λ l. old ++ order_text l) (ap (λ k. take k order) end ∙ take-length order)
