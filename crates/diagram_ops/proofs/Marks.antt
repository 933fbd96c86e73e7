-- Results by the number of one node: after the next stamp there are none, and free places have none.
use Rattle.std.proofs.Common.{◌≡◌, ◌≢◌, ℕ, zero, suc, ◌+◌, ◌<◌, ◌≤◌, Bool, true, false, cond, eqb, List, [], ◌∷◌, ◌++◌, length, set, replicate, Option, Some, None, inl, inr, refl, sym, ◌∙◌, ap, arith, eq-eqb}
use Rattle.std.specs.Prelude.{All, ◌&&◌}
use Rattle.std.proofs.lemmas.Bool.{cond-true, cond-false, ne_eqb}
use Rattle.std.proofs.lemmas.List.{map-set, length-map, get_or-set_same, get_or-set_other}
use mathlib.Core.Path.{fun_ext}
use Rattle.diagram_ops.specs.declared.node_memo.Mark.{Mark}
use Rattle.diagram_ops.specs.declared.operands.Operands.{Operands}
use Rattle.diagram_ops.specs.Marks.{counted, results_of, result_for}
use Rattle.diagram_ops.specs.Operands.{alone}
use Rattle.diagram_model.specs.Stores.{Diagram}
use Rattle.diagram_ops.specs.Operations.{Operation, fixed_in, AreResults}
use Rattle.diagram_ops.proofs.Calls.{KeepsOthers, some_none}

-- a mark of another stamp has no result
other_none : (now : ℕ) (m : Mark) → m.stamp ≢ now → counted now m ≡ None
other_none now m ne = cond-false (eqb m.stamp now) (Some m.node) None (ne_eqb m.stamp now ne)

-- after the next stamp no result counts
pub past_none : (now : ℕ) (ms : List Mark) → All (λ (m : Mark). m.stamp ≤ now) ms → (n : ℕ) → result_for (results_of (now + 1) ms) n ≡ None
past_none now [] past n = refl
past_none now (m ∷ ms) past zero = let le = past 0 m (omega arith) in other_none (now + 1) m (λ e. omega (arith, e, le))
past_none now (m ∷ ms) past (suc n) = past_none now ms (λ k d lt. past (suc k) d (omega (arith, lt))) n

free_none : (now k : ℕ) (m : Mark) → m.stamp ≢ now → (n : ℕ) → result_for (results_of now (replicate k m)) n ≡ None
free_none now zero m ne n = refl
free_none now (suc k) m ne zero = other_none now m ne
free_none now (suc k) m ne (suc n) = free_none now k m ne n

-- free places after the others change no result
pub longer_same : (now k : ℕ) (m : Mark) (ms : List Mark) → m.stamp ≢ now → (n : ℕ) → result_for (results_of now (ms ++ replicate k m)) n ≡ result_for (results_of now ms) n
longer_same now k m [] ne n = free_none now k m ne n
longer_same now k m (l ∷ ms) ne zero = refl
longer_same now k m (l ∷ ms) ne (suc n) = longer_same now k m ms ne n

module _ (now : ℕ) (ms : List Mark) (p : ℕ) (m : Mark) where
  -- the result that was put
  pub put_here : p < length ms → m.stamp ≡ now → result_for (results_of now (set ms p m)) p ≡ Some m.node
  put_here lt is =
      ap (λ rs. result_for rs p) (map-set (counted now) ms p m)
      ∙ get_or-set_same (results_of now ms) p (counted now m) None (omega (arith, lt, length-map ms (counted now)))
      ∙ cond-true (eqb m.stamp now) (Some m.node) None (eq-eqb m.stamp now is)

  -- and the others
  pub put_others : (n : ℕ) → n ≢ p → result_for (results_of now (set ms p m)) n ≡ result_for (results_of now ms) n
  put_others n ne = ap (λ rs. result_for rs n) (map-set (counted now) ms p m) ∙ get_or-set_other (results_of now ms) p n (counted now m) None ne

-- nothing is kept where no node has a result
pub fixed_none : (rs : List (Option ℕ)) → ((n : ℕ) → result_for rs n ≡ None) → (at : Operands) → fixed_in rs at ≡ None
fixed_none rs none at = ap (λ o. cond (eqb at.g 0 && eqb at.h 0) o None) (none at.f) ∙ cond_none (eqb at.g 0 && eqb at.h 0)
  where
    cond_none : (b : Bool) → cond b (let o : Option ℕ = None in o) None ≡ None
    cond_none true = refl
    cond_none false = refl

-- what is kept for other triples stays where the results for other nodes stay
pub fixed_others : (old new : List (Option ℕ)) (f : ℕ) → ((m : ℕ) → m ≢ f → result_for new m ≡ result_for old m) → KeepsOthers (alone f) (fixed_in old) (fixed_in new)
fixed_others old new f same to (inl ne) = ap (λ o. cond (eqb to.g 0 && eqb to.h 0) o None) (same to.f ne)
fixed_others old new f same to (inr (inl ne)) =
    let off : (eqb to.g 0 && eqb to.h 0) ≡ false = ap (λ b. b && eqb to.h 0) (ne_eqb to.g 0 ne) in
    cond-false (eqb to.g 0 && eqb to.h 0) (result_for new to.f) None off ∙ sym (cond-false (eqb to.g 0 && eqb to.h 0) (result_for old to.f) None off)
fixed_others old new f same to (inr (inr ne)) =
    let off : (eqb to.g 0 && eqb to.h 0) ≡ false = ap (λ b. eqb to.g 0 && b) (ne_eqb to.h 0 ne) ∙ and_false (eqb to.g 0) in
    cond-false (eqb to.g 0 && eqb to.h 0) (result_for new to.f) None off ∙ sym (cond-false (eqb to.g 0 && eqb to.h 0) (result_for old to.f) None off)
  where
    and_false : (b : Bool) → (b && false) ≡ false
    and_false true = refl
    and_false false = refl

-- the same results for each node are the same results
pub fixed_same : (old new : List (Option ℕ)) → ((m : ℕ) → result_for new m ≡ result_for old m) → fixed_in new ≡ fixed_in old
fixed_same old new same = fun_ext (λ (to : Operands). ap (λ o. cond (eqb to.g 0 && eqb to.h 0) o None) (same to.f))

-- where no node has a result, each that is kept is right
pub none_right : (op : Operation) (d : Diagram) (rs : List (Option ℕ)) → ((n : ℕ) → result_for rs n ≡ None) → AreResults op d (fixed_in rs)
none_right op d rs none at n is = absurd (some_none (fixed_in rs at) n is (fixed_none rs none at))
