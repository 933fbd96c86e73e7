-- The order in force at a step.
use Rattle.std.proofs.Common.{◌≡◌, ℕ, List, length, inl, inr, refl, sym, ◌∙◌, ap, subst, arith}
use Rattle.std.proofs.lemmas.Bool.{cases_Bool, false≢true}
use Rattle.bit_lists.specs.Orders.{IsOrder}
use Rattle.diagram_model.specs.Functions.{Function}
use Rattle.sifting.proofs.SiftedOrders.{only_order, some_order, sifts_order}
use Rattle.step_upkeep.specs.Due.{is_due, IsInForce}

module _ (every gates : ℕ) (fs : List Function) (limit : ℕ) (order : List ℕ) where
  -- there is one
  pub one_in_force : (a b : List ℕ) → IsInForce every gates fs limit order a → IsInForce every gates fs limit order b → a ≡ b
  one_in_force a b x y =
      elim (cases_Bool (is_due every gates)) [
        | inl due ↦ only_order fs limit (length order) 0 order a b (x.sifted due) (y.sifted due)
        | inr not_due ↦ x.same not_due ∙ sym (y.same not_due)
      ]

  pub some_in_force : IsOrder order → (new : List ℕ) × IsInForce every gates fs limit order new
  some_in_force is =
      elim (cases_Bool (is_due every gates)) [
        | inl due ↦
            let r = some_order fs limit (length order) 0 order is (omega arith) in
            (r.0, record { sifted = λ _. r.1; same = λ not_due. absurd (false≢true (sym not_due ∙ due)) })
        | inr not_due ↦ (order, record { sifted = λ due. absurd (false≢true (sym not_due ∙ due)); same = λ _. refl })
      ]

  -- it is an order of as many variables
  pub is_in_force : (new : List ℕ) → IsOrder order → IsInForce every gates fs limit order new → IsOrder new × (length new ≡ length order)
  is_in_force new is x =
      elim (cases_Bool (is_due every gates)) [
        | inl due ↦ sifts_order fs limit (length order) 0 order new is (omega arith) (x.sifted due)
        | inr not_due ↦ (subst IsOrder (sym (x.same not_due)) is, ap length (x.same not_due))
      ]
