use Rattle.std.proofs.Common.{◌≡◌, ℕ, zero, ◌<◌, ◌≤◌, length, get_or, set, replicate, sym, ◌∙◌, ap, arith, refl, inl, inr}
use Rattle.std.proofs.lemmas.Bool.{cases_eq, cases_lt}
use Rattle.std.proofs.lemmas.List.{get_or-replicate, get_or-set_same, get_or-set_other, length-set, length-replicate}
use Rattle.std.proofs.Math.ListN.{get_or-eq_default}
use Rattle.bit_lists.proofs.Variables.{kept_natural, view-natural}
use Rattle.bit_lists.proofs.order.Order.natural.Goals as goal

past_end : (n k : ℕ) → n ≤ k → get_or {A = ℕ} (replicate {A = ℕ} n 0) k 0 ≡ zero
past_end n k past = get_or-eq_default (replicate n 0) 0 (omega (arith, length-replicate {A = ℕ} n 0))

all_zero : (n k : ℕ) → get_or {A = ℕ} (replicate {A = ℕ} n 0) k 0 ≡ zero
all_zero n k = elim (cases_lt k n) [ inl lt ↦ get_or-replicate n k 0 0 lt | inr past ↦ past_end n k past ]

pub loop-var-init : goal.loop-var-init
loop-var-init c = record {
  size = refl;
  same = λ k lt. absurd (omega arith);
  rest = λ k le. all_zero 128 k;
}

pub loop-var-preserved : goal.loop-var-preserved
loop-var-preserved c =
    let vs = c.loop-var.variables in
    let v = c.loop-var.var in
    let size : length vs ≡ 128 = c.loop-var.invariant.size in
    let lt : v < length vs = omega arith in
    record {
      size = length-set vs v v ∙ size;
      same = λ k below. elim (cases_eq k v) [
        | inl e ↦ ap (λ j. get_or (set vs v v) j 0) e ∙ get_or-set_same vs v v 0 lt ∙ sym e
        | inr ne ↦ get_or-set_other vs v k v 0 ne ∙ c.loop-var.invariant.same k (omega arith)
      ];
      rest = λ k past. get_or-set_other vs v k v 0 (λ e. absurd (omega arith)) ∙ c.loop-var.invariant.rest k (omega arith);
    }

pub invariant_of-result : goal.invariant_of-result
invariant_of-result c =
    kept_natural c.args.vars c.loop-var.variables c.requires c.loop-var.invariant.size
    (λ k lt. c.loop-var.invariant.same k (omega arith)) (λ k le. c.loop-var.invariant.rest k (omega arith))

pub returns : goal.returns
returns c =
    view-natural c.args.vars c.loop-var.variables c.requires c.loop-var.invariant.size (λ k lt. c.loop-var.invariant.same k (omega arith))
