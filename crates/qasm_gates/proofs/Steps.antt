-- One angle, and one call, after the other.
use Rattle.std.proofs.Common.{◌≡◌, ◌∙◌, sym, ap, refl, subst, suc, List, [], ◌∷◌, ◌++◌, length, map, Result, Ok, Err, append_assoc}
use Rattle.std.specs.Result.{result_map_both}
use Rattle.qasm_lex.specs.declared.refusal.AngleRefusal.{AngleRefusal}
use Rattle.qasm_lex.specs.declared.value.Value.{Value}
use Rattle.qasm_lex.specs.declared.params.Bound.{Bound}
use Rattle.qasm_lex.specs.Expressions.{eval}
use Rattle.qasm_lex.specs.Values.{Outcome, values}
use Rattle.qasm_lex.specs.Angles.{IsOutcome, expression, given_by, value_by}
use Rattle.qasm_gates.specs.declared.table.Angle.{Angle}
use Rattle.qasm_gates.specs.Gates.{Meaning, led, all_of, call_on}
use Rattle.qasm_gates.specs.Bodies.{Call, joined, means_for, call_means}
use Rattle.qasm_gates.specs.Private.Counts.{Tally, added, capped, tally, after}
use Rattle.qasm_gates.specs.Private.Tables.{Store, symbols_at, tree_at, IsStored}
use Rattle.qasm_gates.proofs.Grown.{stored_symbols, stored_tree}
use Rattle.qasm_gates.proofs.Tallies.{capped_added, capped_once, added_assoc, tally_joined, tally_on}

-- the value of an angle that is stored
pub stored_outcome : (s : Store) (a : Angle) (given : List Value) → IsStored s a → IsOutcome given (symbols_at s a) (eval (values given) (tree_at s a))
stored_outcome s a given h =
    subst (λ symbols. IsOutcome given symbols (eval (values given) (tree_at s a))) (sym (stored_symbols s a h))
    (record { shape = Ok h.tree; is_shape = expression h.short h.tree h.expression refl; value = ap (eval (values given)) (stored_tree s a h) })

after_led : (vs : List Value) (v : Value) (rest : Result (List Value) AngleRefusal) → after vs (led (Ok v) rest) ≡ after (vs ++ v ∷ []) rest
after_led vs v (Ok more) = ap Ok (sym (append_assoc vs (v ∷ []) more))
after_led vs v (Err e) = refl

-- one value more
pub after_step : (vs : List Value) (v : Value) (o : Outcome) (rest : Result (List Value) AngleRefusal) → Ok v ≡ o → after vs (led o rest) ≡ after (vs ++ v ∷ []) rest
after_step vs v o rest e = ap (λ x. after vs (led x rest)) (sym e) ∙ after_led vs v rest

pub given_more : (xs : List Bound) (b : Bound) → given_by (xs ++ b ∷ []) ≡ given_by xs ++ value_by b.value ∷ []
given_more [] b = refl
given_more (x ∷ xs) b = ap (λ vs. value_by x.value ∷ vs) (given_more xs b)

capped_left : (a b : Tally) → capped (added (capped a) b) ≡ capped (added a b)
capped_left a b = sym (capped_added (capped a) b) ∙ ap (λ x. capped (added x (capped b))) (capped_once a) ∙ capped_added a b

capped_right : (a b : Tally) → capped (added a (capped b)) ≡ capped (added a b)
capped_right a b = sym (capped_added a (capped b)) ∙ ap (λ x. capped (added (capped a) x)) (capped_once b) ∙ capped_added a b

-- one call more
pub sum_step : (sum one new : Tally) (m more : Meaning) → one ≡ capped (tally m) → new ≡ capped (added sum one) → capped (added sum (tally (joined m more))) ≡ capped (added new (tally more))
sum_step sum one new m more e f =
    let g : new ≡ capped (added sum (tally m)) = f ∙ ap (λ x. capped (added sum x)) e ∙ capped_right sum (tally m) in
    ap (λ x. capped (added sum x)) (tally_joined m more) ∙ sym (ap capped (added_assoc sum (tally m) (tally more)))
    ∙ sym (capped_left (added sum (tally m)) (tally more)) ∙ sym (ap (λ x. capped (added x (tally more))) g)

-- what a call comes to, where its angles have values
pub call_tally : (c : Call) (given vs : List Value) → all_of (map (eval (values given)) c.angles) ≡ Ok vs → tally (call_means given c) ≡ tally (c.called.means vs)
call_tally c given vs e = ap (λ r. tally (result_map_both (map (call_on c.on)) (λ e. e) (means_for c.called r))) e ∙ tally_on c.on (c.called.means vs)

led_length : (o : Outcome) (rest : Result (List Value) AngleRefusal) (vs : List Value) → led o rest ≡ Ok vs → (more : List Value) × (rest ≡ Ok more) × (length vs ≡ suc (length more))
led_length (Ok v) (Ok more) vs e = let q : v ∷ more ≡ vs = cc e in (more, refl, sym (ap length q))
led_length (Ok v) (Err x) vs e = absurd cc
led_length (Err x) rest vs e = absurd cc

-- there are as many values as angles
pub all_length : (os : List Outcome) (vs : List Value) → all_of os ≡ Ok vs → length vs ≡ length os
all_length [] vs e = let q : [] ≡ vs = cc e in sym (ap length q)
all_length (o ∷ os) vs e = let p = led_length o (all_of os) vs e in p.2 ∙ ap suc (all_length os p.0 p.1)
