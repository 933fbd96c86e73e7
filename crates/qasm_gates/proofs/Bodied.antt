-- What a call of a built-in gate comes to, by one value.
use Rattle.std.proofs.Common.{◌≡◌, ◌∙◌, sym, ap, refl, ◌≤◌, ℕ, ◌+◌, ◌-◌, min, Bool, true, false, cond, nat_eq, nat_le, List, [], ◌∷◌, length, Option, Some, None, option_map, Result, Ok, Err, arith, subst}
use Rattle.std.specs.Result.{result_map_both}
use Rattle.std.proofs.lemmas.Bool.Decides.{nat_tests}
use Rattle.gate_set.specs.declared.kind.Kind.{Kind}
use Rattle.gate_set.specs.declared.kind.Kind.TheVariants.{Id}
use Rattle.qasm_lex.specs.declared.refusal.AngleRefusal.{AngleRefusal}
use Rattle.qasm_lex.specs.declared.value.Value.{Value}
use Rattle.qasm_lex.specs.declared.params.Bound.{Bound}
use Rattle.qasm_lex.specs.Fractions.{Ratio}
use Rattle.qasm_lex.specs.Values.{multiple_of}
use Rattle.qasm_lex.specs.Angles.{given_by, value_by}
use Rattle.qasm_gates.specs.Gates.{Base, gate, turn, phase, Builtin, Basic, base_arity, arity, up_to, builtin_gate, led}
use Rattle.gate_set.specs.Matrix.{arity_of, IsKind}
use Rattle.qasm_gates.proofs.Builtins.{IsSound}
use Rattle.qasm_gates.proofs.WholeTurns.{turns_below}
use Rattle.qasm_gates.specs.Private.Counts.{whole_turns, turn_body, phase_body, body_of, body_for, multiples, both_counts, tally, capped}

pub plain_body : (kind : Kind) (vs : List Bound) → length vs ≡ 0 → Ok (Some (kind, 1)) ≡ body_for (gate kind) (multiples (given_by vs))
plain_body kind [] e = refl
plain_body kind (v ∷ vs) e = absurd (omega arith)

module _ (base : Base) (one : Ratio → Option (Kind × ℕ)) (is : (q : Ratio) → one q ≡ body_of base (q ∷ [])) where
  by_one : (q : Result Ratio AngleRefusal) → result_map_both one (λ e. e) q ≡ body_for base (led q (Ok []))
  by_one (Ok q) = ap Ok (is q)
  by_one (Err e) = refl

  by_value : (vs : List Bound) (v : Bound) (more : List Bound) (r : Result (Option (Kind × ℕ)) AngleRefusal) → vs ≡ v ∷ more → length vs ≡ 1 → r ≡ result_map_both one (λ e. e) (multiple_of (Ok (value_by v.value)))
      → r ≡ body_for base (multiples (given_by vs))
  by_value vs v [] r e l h = h ∙ by_one (multiple_of (Ok (value_by v.value))) ∙ sym (ap (λ xs. body_for base (multiples (given_by xs))) e)
  by_value vs v (x ∷ more) r e l h = absurd (let n : length vs ≡ length (v ∷ x ∷ more) = ap length e in omega arith)

-- turns by the one value
pub turned_body : (forth back : Kind) (vs : List Bound) (v : Bound) (more : List Bound) (r : Result (Option (Kind × ℕ)) AngleRefusal) → vs ≡ v ∷ more → length vs ≡ 1
    → r ≡ result_map_both (λ q. option_map (turn_body forth back) (whole_turns 2 q)) (λ e. e) (multiple_of (Ok (value_by v.value))) → r ≡ body_for (turn forth back) (multiples (given_by vs))
turned_body forth back = by_value (turn forth back) (λ q. option_map (turn_body forth back) (whole_turns 2 q)) (λ q. refl)

-- a phase by the one value
pub phased_body : (vs : List Bound) (v : Bound) (more : List Bound) (r : Result (Option (Kind × ℕ)) AngleRefusal) → vs ≡ v ∷ more → length vs ≡ 1
    → r ≡ result_map_both (λ q. option_map phase_body (whole_turns 4 q)) (λ e. e) (multiple_of (Ok (value_by v.value))) → r ≡ body_for phase (multiples (given_by vs))
phased_body = by_value phase (λ q. option_map phase_body (whole_turns 4 q)) (λ q. refl)

turn_few : (forth back : Kind) (m : ℕ) → (turn_body forth back m).1 ≤ 8
turn_few forth back m = by (nat_eq m 0) refl (nat_le m 4) refl
  where
    by : (x : Bool) → nat_eq m 0 ≡ x → (y : Bool) → nat_le m 4 ≡ y → (turn_body forth back m).1 ≤ 8
    by true x y f = subst (λ (p : Kind × ℕ). p.1 ≤ 8) (sym (ap (λ z. cond z (Id, 1) (cond (nat_le m 4) (forth, m) (back, 8 - m))) x)) (omega arith)
    by false x true f =
        let h : m ≤ 4 = grind (arith, nat_tests) in
        subst (λ (p : Kind × ℕ). p.1 ≤ 8) (sym (ap (λ z. cond z (Id, 1) (cond (nat_le m 4) (forth, m) (back, 8 - m))) x ∙ ap (λ z. cond z (forth, m) (back, 8 - m)) f)) (omega arith)
    by false x false f =
        subst (λ (p : Kind × ℕ). p.1 ≤ 8) (sym (ap (λ z. cond z (Id, 1) (cond (nat_le m 4) (forth, m) (back, 8 - m))) x ∙ ap (λ z. cond z (forth, m) (back, 8 - m)) f)) (omega arith)

mapped_few : (f : ℕ → Kind × ℕ) → ((m : ℕ) → (f m).1 ≤ 8) → (x : Option ℕ) (p : Kind × ℕ) → option_map f x ≡ Some p → p.1 ≤ 8
mapped_few f h None p e = absurd cc
mapped_few f h (Some m) p e = let q : f m ≡ p = cc e in subst (λ (p : Kind × ℕ). p.1 ≤ 8) q (h m)

-- a call of a built-in gate comes to at most eight gates
pub body_few : (base : Base) (angles : List Ratio) (p : Kind × ℕ) → body_of base angles ≡ Some p → p.1 ≤ 8
body_few (gate kind) [] p e = let q : (kind, 1) ≡ p = cc e in subst (λ (p : Kind × ℕ). p.1 ≤ 8) q (omega arith)
body_few (gate kind) (q ∷ more) p e = absurd cc
body_few (turn forth back) [] p e = absurd cc
body_few (turn forth back) (q ∷ []) p e = mapped_few (turn_body forth back) (turn_few forth back) (whole_turns 2 q) p e
body_few (turn forth back) (q ∷ r ∷ more) p e = absurd cc
body_few phase [] p e = absurd cc
body_few phase (q ∷ []) p e = mapped_few phase_body (λ m. omega arith) (whole_turns 4 q) p e
body_few phase (q ∷ r ∷ more) p e = absurd cc

capped_body : (x : Option (Kind × ℕ)) → ((p : Kind × ℕ) → x ≡ Some p → p.1 ≤ 8) → capped (Ok (both_counts (option_map (λ p. p.1) x) (Some 0))) ≡ Ok (option_map (λ p. p.1) x)
capped_body None h = refl
capped_body (Some p) h = let l = h p refl in ap (λ n. Ok (Some n)) (least p.1 l)
  where
    least : (n : ℕ) → n ≤ 8 → min (n + 0) 1000001 ≡ n
    least n l = omega (arith, min)

tally_for : (b : Builtin) (r : Result (List Ratio) AngleRefusal)
    → capped (tally (result_map_both (λ angles. (let c : Basic = record { gate = b; angles = angles; on = up_to (arity b) } in c) ∷ []) (λ e. e) r)) ≡ result_map_both (option_map (λ p. p.1)) (λ e. e) (body_for b.base r)
tally_for b (Err e) = refl
tally_for b (Ok angles) = capped_body (body_of b.base angles) (body_few b.base angles)

-- how many gates a call of a built-in gate comes to
pub builtin_counts : (b : Builtin) (vs : List Value) → capped (tally ((builtin_gate b).means vs)) ≡ result_map_both (option_map (λ p. p.1)) (λ e. e) (body_for b.base (multiples vs))
builtin_counts b vs = tally_for b (multiples vs)

turn_kind : (forth back : Kind) (m : ℕ) → (arity_of forth ≡ 1) × (arity_of back ≡ 1) × IsKind forth × IsKind back → (arity_of (turn_body forth back m).0 ≡ 1) × IsKind (turn_body forth back m).0
turn_kind forth back m s = by (nat_eq m 0) (nat_le m 4)
  where
    IsTurn : Kind × ℕ → Type 0
    IsTurn p = (arity_of p.0 ≡ 1) × IsKind p.0

    by : (x y : Bool) → IsTurn (cond x (Id, 1) (cond y (forth, m) (back, 8 - m)))
    by true y = (refl, tt)
    by false true = (s.0, s.2)
    by false false = (s.1, s.3)

mapped_kind : (P : Kind × ℕ → Type 0) (f : ℕ → Kind × ℕ) (x : Option ℕ) (p : Kind × ℕ) → ((m : ℕ) → x ≡ Some m → P (f m)) → option_map f x ≡ Some p → P p
mapped_kind P f None p h e = absurd cc
mapped_kind P f (Some m) p h e = let q : f m ≡ p = cc e in subst P q (h m refl)

-- what a call comes to is gates on as many qubits as its base has
pub body_kind : (base : Base) → IsSound base → (angles : List Ratio) (p : Kind × ℕ) → body_of base angles ≡ Some p → (arity_of p.0 ≡ base_arity base) × IsKind p.0
body_kind (gate kind) s [] p e = let q : (kind, 1) ≡ p = cc e in subst (λ (p : Kind × ℕ). (arity_of p.0 ≡ arity_of kind) × IsKind p.0) q (refl, s)
body_kind (gate kind) s (q ∷ more) p e = absurd cc
body_kind (turn forth back) s [] p e = absurd cc
body_kind (turn forth back) s (q ∷ []) p e = mapped_kind (λ p. (arity_of p.0 ≡ 1) × IsKind p.0) (turn_body forth back) (whole_turns 2 q) p (λ m h. turn_kind forth back m s) e
body_kind (turn forth back) s (q ∷ r ∷ more) p e = absurd cc
body_kind phase s [] p e = absurd cc
body_kind phase s (q ∷ []) p e = mapped_kind (λ p. (arity_of p.0 ≡ 1) × IsKind p.0) phase_body (whole_turns 4 q) p (λ m h. (let l = turns_below 4 q m h in (refl, omega arith))) e
body_kind phase s (q ∷ r ∷ more) p e = absurd cc
