-- The descent in equations without a bound on the depth.
use Rattle.std.proofs.Common.{◌≡◌, ◌∙◌, sym, ap, refl, ◌≤◌, ◌<◌, ℕ, zero, suc, ◌+◌, ◌*◌, List, [], ◌∷◌, length, Option, Some, None, ℤ, arith}
use Rattle.qasm_lex.specs.declared.symbol.Symbol.{Symbol}
use Rattle.qasm_lex.specs.declared.symbol.Symbol.TheVariants.{Whole, Real, Pi, Param, Function, Plus, Minus, Times, Over, Caret, Open, Close}
use Rattle.qasm_lex.specs.declared.value.Value.{Value}
use Rattle.qasm_lex.specs.Values.{Outcome, values}
use Rattle.qasm_lex.specs.Private.Descent.{Goal, expr, terms, term, factors, factor, power, raise, atom, Found, next, close, step, parse, bound, parsed}

abbrev least : Goal Outcome → ℕ
least (terms v) = 0
least (factors v) = 0
least (raise v) = 0
least _ = 1

-- what is left is shorter, by at least a
abbrev Shrinks : ℕ → List Symbol → Found Outcome → Type 0
Shrinks a s None = Unit {0}
Shrinks a s (Some p) = length p.1 + a ≤ length s

bind_short : (a : ℕ) (s : List Symbol) (x : Found Outcome) → Shrinks a s x → (b : ℕ) (t : List Symbol) (f : Outcome → List Symbol → Found Outcome)
    → ((v : Outcome) (r : List Symbol) → length r + a ≤ length s → Shrinks b t (f v r)) → Shrinks b t (next x f)
bind_short a s None h b t f k = tt
bind_short a s (Some p) h b t f k = k p.0 p.1 h

widen : (a : ℕ) (s : List Symbol) (x : Found Outcome) → Shrinks a s x → (b : ℕ) (t : List Symbol) → length s + b ≤ length t + a → Shrinks b t x
widen a s None h b t k = tt
widen a s (Some p) h b t k = omega arith

close_short : (b : ℕ) (t : List Symbol) (v : Outcome) (r : List Symbol) → length r + b ≤ length t + 1 → Shrinks b t (close v r)
close_short b t v [] h = tt
close_short b t v (Close ∷ r) h = omega arith
close_short b t v (_ ∷ r) h = tt

next_same : (x y : Found Outcome) → x ≡ y → (a : ℕ) (s : List Symbol) → Shrinks a s x → (f g : Outcome → List Symbol → Found Outcome)
    → ((v : Outcome) (r : List Symbol) → length r + a ≤ length s → f v r ≡ g v r) → next x f ≡ next y g
next_same None y e a s h f g k = ap (λ z. next z g) e
next_same (Some p) y e a s h f g k = k p.0 p.1 h ∙ ap (λ z. next z g) e

shorter : (given : List Value) (n : ℕ) (g : Goal Outcome) (s : List Symbol) → Shrinks (least g) s (parse (values given) n g s)
unfolding parse
shorter given zero g s = tt
shorter given (suc n) expr s = bind_short 1 s (parse (values given) n term s) (shorter given n term s) 1 s (λ v r. parse (values given) n (terms v) r) (λ v r h. widen 0 r (parse (values given) n (terms v) r) (shorter given n (terms v) r) 1 s (omega arith))
shorter given (suc n) (terms v) [] = omega arith
shorter given (suc n) (terms v) (Plus ∷ s) = bind_short 1 s (parse (values given) n term s) (shorter given n term s) 0 (Plus ∷ s) (λ w r. parse (values given) n (terms ((values given).sum v w)) r) (λ w r h. widen 0 r (parse (values given) n (terms ((values given).sum v w)) r) (shorter given n (terms ((values given).sum v w)) r) 0 (Plus ∷ s) (omega arith))
shorter given (suc n) (terms v) (Minus ∷ s) = bind_short 1 s (parse (values given) n term s) (shorter given n term s) 0 (Minus ∷ s) (λ w r. parse (values given) n (terms ((values given).difference v w)) r) (λ w r h. widen 0 r (parse (values given) n (terms ((values given).difference v w)) r) (shorter given n (terms ((values given).difference v w)) r) 0 (Minus ∷ s) (omega arith))
shorter given (suc n) (terms v) (c ∷ s) = omega arith
shorter given (suc n) term s = bind_short 1 s (parse (values given) n factor s) (shorter given n factor s) 1 s (λ v r. parse (values given) n (factors v) r) (λ v r h. widen 0 r (parse (values given) n (factors v) r) (shorter given n (factors v) r) 1 s (omega arith))
shorter given (suc n) (factors v) [] = omega arith
shorter given (suc n) (factors v) (Times ∷ s) = bind_short 1 s (parse (values given) n factor s) (shorter given n factor s) 0 (Times ∷ s) (λ w r. parse (values given) n (factors ((values given).product v w)) r) (λ w r h. widen 0 r (parse (values given) n (factors ((values given).product v w)) r) (shorter given n (factors ((values given).product v w)) r) 0 (Times ∷ s) (omega arith))
shorter given (suc n) (factors v) (Over ∷ s) = bind_short 1 s (parse (values given) n factor s) (shorter given n factor s) 0 (Over ∷ s) (λ w r. parse (values given) n (factors ((values given).quotient v w)) r) (λ w r h. widen 0 r (parse (values given) n (factors ((values given).quotient v w)) r) (shorter given n (factors ((values given).quotient v w)) r) 0 (Over ∷ s) (omega arith))
shorter given (suc n) (factors v) (c ∷ s) = omega arith
shorter given (suc n) factor [] = shorter given n power []
shorter given (suc n) factor (Minus ∷ s) = bind_short 1 s (parse (values given) n factor s) (shorter given n factor s) 1 (Minus ∷ s) (λ v r. Some ((values given).negative v, r)) (λ v r h. omega arith)
shorter given (suc n) factor (c ∷ s) = shorter given n power (c ∷ s)
shorter given (suc n) power s = bind_short 1 s (parse (values given) n atom s) (shorter given n atom s) 1 s (λ v r. parse (values given) n (raise v) r) (λ v r h. widen 0 r (parse (values given) n (raise v) r) (shorter given n (raise v) r) 1 s (omega arith))
shorter given (suc n) (raise v) [] = omega arith
shorter given (suc n) (raise v) (Caret ∷ s) = bind_short 1 s (parse (values given) n factor s) (shorter given n factor s) 0 (Caret ∷ s) (λ w r. Some ((values given).power v w, r)) (λ w r h. omega arith)
shorter given (suc n) (raise v) (c ∷ s) = omega arith
shorter given (suc n) atom (Whole k ∷ s) = omega arith
shorter given (suc n) atom (Real ∷ s) = omega arith
shorter given (suc n) atom (Pi ∷ s) = omega arith
shorter given (suc n) atom (Param k ∷ s) = omega arith
shorter given (suc n) atom (Open ∷ s) = bind_short 1 s (parse (values given) n expr s) (shorter given n expr s) 1 (Open ∷ s) (λ v r. close ((values given).grouped v) r) (λ v r h. close_short 1 (Open ∷ s) ((values given).grouped v) r (omega arith))
shorter given (suc n) atom (Function ∷ Open ∷ s) = bind_short 1 s (parse (values given) n expr s) (shorter given n expr s) 1 (Function ∷ Open ∷ s) (λ v r. close ((values given).call v) r) (λ v r h. close_short 1 (Function ∷ Open ∷ s) ((values given).call v) r (omega arith))
shorter given (suc n) atom s = tt

bound_some : (g : Goal Outcome) → 0 < bound g
bound_some expr = omega arith
bound_some _ = omega arith

-- a step that reads parts alike, wherever they are smaller, gives the same
step_same : (given : List Value) (f k : Goal Outcome → List Symbol → Found Outcome) → ((g : Goal Outcome) (s : List Symbol) → Shrinks (least g) s (f g s)) → (g : Goal Outcome) (s : List Symbol)
    → ((h : Goal Outcome) (r : List Symbol) → 8 * length r + bound h < 8 * length s + bound g → f h r ≡ k h r) → step (values given) f g s ≡ step (values given) k g s
step_same given f k short expr s e = next_same (f term s) (k term s) (e term s (omega arith)) 1 s (short term s) (λ v. f (terms v)) (λ v. k (terms v)) (λ v r h. e (terms v) r (omega arith))
step_same given f k short (terms v) [] e = refl
step_same given f k short (terms v) (Plus ∷ s) e = next_same (f term s) (k term s) (e term s (omega arith)) 1 s (short term s) (λ w. f (terms ((values given).sum v w))) (λ w. k (terms ((values given).sum v w))) (λ w r h. e (terms ((values given).sum v w)) r (omega arith))
step_same given f k short (terms v) (Minus ∷ s) e = next_same (f term s) (k term s) (e term s (omega arith)) 1 s (short term s) (λ w. f (terms ((values given).difference v w))) (λ w. k (terms ((values given).difference v w))) (λ w r h. e (terms ((values given).difference v w)) r (omega arith))
step_same given f k short (terms v) (c ∷ s) e = refl
step_same given f k short term s e = next_same (f factor s) (k factor s) (e factor s (omega arith)) 1 s (short factor s) (λ v. f (factors v)) (λ v. k (factors v)) (λ v r h. e (factors v) r (omega arith))
step_same given f k short (factors v) [] e = refl
step_same given f k short (factors v) (Times ∷ s) e = next_same (f factor s) (k factor s) (e factor s (omega arith)) 1 s (short factor s) (λ w. f (factors ((values given).product v w))) (λ w. k (factors ((values given).product v w))) (λ w r h. e (factors ((values given).product v w)) r (omega arith))
step_same given f k short (factors v) (Over ∷ s) e = next_same (f factor s) (k factor s) (e factor s (omega arith)) 1 s (short factor s) (λ w. f (factors ((values given).quotient v w))) (λ w. k (factors ((values given).quotient v w))) (λ w r h. e (factors ((values given).quotient v w)) r (omega arith))
step_same given f k short (factors v) (c ∷ s) e = refl
step_same given f k short factor [] e = e power [] (omega arith)
step_same given f k short factor (Minus ∷ s) e = ap (λ x. next x (λ v r. Some ((values given).negative v, r))) (e factor s (omega arith))
step_same given f k short factor (c ∷ s) e = e power (c ∷ s) (omega arith)
step_same given f k short power s e = next_same (f atom s) (k atom s) (e atom s (omega arith)) 1 s (short atom s) (λ v. f (raise v)) (λ v. k (raise v)) (λ v r h. e (raise v) r (omega arith))
step_same given f k short (raise v) [] e = refl
step_same given f k short (raise v) (Caret ∷ s) e = ap (λ x. next x (λ w r. Some ((values given).power v w, r))) (e factor s (omega arith))
step_same given f k short (raise v) (c ∷ s) e = refl
step_same given f k short atom (Open ∷ s) e = ap (λ x. next x (λ v r. close ((values given).grouped v) r)) (e expr s (omega arith))
step_same given f k short atom (Function ∷ Open ∷ s) e = ap (λ x. next x (λ v r. close ((values given).call v) r)) (e expr s (omega arith))
step_same given f k short atom s e = refl

-- a larger bound gives the same
stable : (given : List Value) (n m : ℕ) (g : Goal Outcome) (s : List Symbol) → 8 * length s + bound g ≤ n → 8 * length s + bound g ≤ m → parse (values given) n g s ≡ parse (values given) m g s
unfolding parse
stable given zero m g s p q = let b = bound_some g in absurd (omega arith)
stable given (suc n) zero g s p q = let b = bound_some g in absurd (omega arith)
stable given (suc n) (suc m) g s p q = step_same given (parse (values given) n) (parse (values given) m) (shorter given n) g s (λ h r l. stable given n m h r (omega arith) (omega arith))

at : (given : List Value) (n : ℕ) (g : Goal Outcome) (s : List Symbol) → 8 * length s + bound g ≤ n → parse (values given) n g s ≡ parsed given g s
unfolding parsed
at given n g s h = stable given n (8 * length s + bound g) g s h (omega arith)

-- so the descent is a step that reads parts by the descent
pub one_step : (given : List Value) (g : Goal Outcome) (s : List Symbol) → parsed given g s ≡ step (values given) (parsed given) g s
unfolding parse
one_step given g s =
    let n : ℕ = 8 * length s + bound g in
    sym (at given (suc n) g s (omega arith)) ∙ step_same given (parse (values given) n) (parsed given) (shorter given n) g s (λ h r l. at given n h r (omega arith))

-- the steps
pub expr_step : (given : List Value) (s : List Symbol) → parsed given expr s ≡ next (parsed given term s) (λ v r. parsed given (terms v) r)
expr_step given s = one_step given expr s

pub terms_plus : (given : List Value) (v : Outcome) (s : List Symbol) → parsed given (terms v) (Plus ∷ s) ≡ next (parsed given term s) (λ w r. parsed given (terms ((values given).sum v w)) r)
terms_plus given v s = one_step given (terms v) (Plus ∷ s)

pub terms_minus : (given : List Value) (v : Outcome) (s : List Symbol) → parsed given (terms v) (Minus ∷ s) ≡ next (parsed given term s) (λ w r. parsed given (terms ((values given).difference v w)) r)
terms_minus given v s = one_step given (terms v) (Minus ∷ s)

pub terms_other : (given : List Value) (v : Outcome) (c : Symbol) (s : List Symbol) → (c ≡ Plus → ⊥) → (c ≡ Minus → ⊥) → parsed given (terms v) (c ∷ s) ≡ Some (v, c ∷ s)
terms_other given v Plus s h0 h1 = absurd (h0 refl)
terms_other given v Minus s h0 h1 = absurd (h1 refl)
terms_other given v c s h0 h1 = one_step given (terms v) (c ∷ s)

pub terms_empty : (given : List Value) (v : Outcome) (s : List Symbol) → length s ≡ 0 → parsed given (terms v) s ≡ Some (v, s)
terms_empty given v [] e = one_step given (terms v) []
terms_empty given v (c ∷ s) e = absurd (omega arith)

pub term_step : (given : List Value) (s : List Symbol) → parsed given term s ≡ next (parsed given factor s) (λ v r. parsed given (factors v) r)
term_step given s = one_step given term s

pub factors_times : (given : List Value) (v : Outcome) (s : List Symbol) → parsed given (factors v) (Times ∷ s) ≡ next (parsed given factor s) (λ w r. parsed given (factors ((values given).product v w)) r)
factors_times given v s = one_step given (factors v) (Times ∷ s)

pub factors_over : (given : List Value) (v : Outcome) (s : List Symbol) → parsed given (factors v) (Over ∷ s) ≡ next (parsed given factor s) (λ w r. parsed given (factors ((values given).quotient v w)) r)
factors_over given v s = one_step given (factors v) (Over ∷ s)

pub factors_other : (given : List Value) (v : Outcome) (c : Symbol) (s : List Symbol) → (c ≡ Times → ⊥) → (c ≡ Over → ⊥) → parsed given (factors v) (c ∷ s) ≡ Some (v, c ∷ s)
factors_other given v Times s h0 h1 = absurd (h0 refl)
factors_other given v Over s h0 h1 = absurd (h1 refl)
factors_other given v c s h0 h1 = one_step given (factors v) (c ∷ s)

pub factors_empty : (given : List Value) (v : Outcome) (s : List Symbol) → length s ≡ 0 → parsed given (factors v) s ≡ Some (v, s)
factors_empty given v [] e = one_step given (factors v) []
factors_empty given v (c ∷ s) e = absurd (omega arith)

pub factor_minus : (given : List Value) (s : List Symbol) → parsed given factor (Minus ∷ s) ≡ next (parsed given factor s) (λ v r. Some ((values given).negative v, r))
factor_minus given s = one_step given factor (Minus ∷ s)

pub factor_other : (given : List Value) (c : Symbol) (s : List Symbol) → (c ≡ Minus → ⊥) → parsed given factor (c ∷ s) ≡ parsed given power (c ∷ s)
factor_other given Minus s h = absurd (h refl)
factor_other given c s h = one_step given factor (c ∷ s)

pub factor_empty : (given : List Value) (s : List Symbol) → length s ≡ 0 → parsed given factor s ≡ parsed given power s
factor_empty given [] e = one_step given factor []
factor_empty given (c ∷ s) e = absurd (omega arith)

pub power_step : (given : List Value) (s : List Symbol) → parsed given power s ≡ next (parsed given atom s) (λ v r. parsed given (raise v) r)
power_step given s = one_step given power s

pub raise_caret : (given : List Value) (v : Outcome) (s : List Symbol) → parsed given (raise v) (Caret ∷ s) ≡ next (parsed given factor s) (λ w r. Some ((values given).power v w, r))
raise_caret given v s = one_step given (raise v) (Caret ∷ s)

pub raise_other : (given : List Value) (v : Outcome) (c : Symbol) (s : List Symbol) → (c ≡ Caret → ⊥) → parsed given (raise v) (c ∷ s) ≡ Some (v, c ∷ s)
raise_other given v Caret s h = absurd (h refl)
raise_other given v c s h = one_step given (raise v) (c ∷ s)

pub raise_empty : (given : List Value) (v : Outcome) (s : List Symbol) → length s ≡ 0 → parsed given (raise v) s ≡ Some (v, s)
raise_empty given v [] e = one_step given (raise v) []
raise_empty given v (c ∷ s) e = absurd (omega arith)

pub atom_open : (given : List Value) (s : List Symbol) → parsed given atom (Open ∷ s) ≡ next (parsed given expr s) (λ v r. close ((values given).grouped v) r)
atom_open given s = one_step given atom (Open ∷ s)

pub atom_function : (given : List Value) (s : List Symbol) → parsed given atom (Function ∷ Open ∷ s) ≡ next (parsed given expr s) (λ v r. close ((values given).call v) r)
atom_function given s = one_step given atom (Function ∷ Open ∷ s)

pub atom_whole : (given : List Value) (k : Option ℤ) (s : List Symbol) → parsed given atom (Whole k ∷ s) ≡ Some ((values given).of_whole k, s)
atom_whole given k s = one_step given atom (Whole k ∷ s)

pub atom_real : (given : List Value) (s : List Symbol) → parsed given atom (Real ∷ s) ≡ Some ((values given).of_real, s)
atom_real given s = one_step given atom (Real ∷ s)

pub atom_pi : (given : List Value) (s : List Symbol) → parsed given atom (Pi ∷ s) ≡ Some ((values given).of_pi, s)
atom_pi given s = one_step given atom (Pi ∷ s)

pub atom_param : (given : List Value) (k : ℕ) (s : List Symbol) → parsed given atom (Param k ∷ s) ≡ Some ((values given).of_param k, s)
atom_param given k s = one_step given atom (Param k ∷ s)

pub atom_other : (given : List Value) (c : Symbol) (s : List Symbol) → ((k : Option ℤ) → c ≡ Whole k → ⊥) → (c ≡ Real → ⊥) → (c ≡ Pi → ⊥) → ((k : ℕ) → c ≡ Param k → ⊥) → (c ≡ Open → ⊥) → (c ≡ Function → ⊥) → parsed given atom (c ∷ s) ≡ None
atom_other given (Whole k) s a b d p e f = absurd (a k refl)
atom_other given Real s a b d p e f = absurd (b refl)
atom_other given Pi s a b d p e f = absurd (d refl)
atom_other given (Param k) s a b d p e f = absurd (p k refl)
atom_other given Open s a b d p e f = absurd (e refl)
atom_other given Function s a b d p e f = absurd (f refl)
atom_other given c s a b d p e f = one_step given atom (c ∷ s)

pub atom_empty : (given : List Value) (s : List Symbol) → length s ≡ 0 → parsed given atom s ≡ None
atom_empty given [] e = one_step given atom []
atom_empty given (c ∷ s) e = absurd (omega arith)

pub called_other : (given : List Value) (c : Symbol) (s : List Symbol) → (c ≡ Open → ⊥) → parsed given atom (Function ∷ c ∷ s) ≡ None
called_other given Open s h = absurd (h refl)
called_other given c s h = one_step given atom (Function ∷ c ∷ s)

pub called_empty : (given : List Value) (s : List Symbol) → length s ≡ 0 → parsed given atom (Function ∷ s) ≡ None
called_empty given [] e = one_step given atom (Function ∷ [])
called_empty given (c ∷ s) e = absurd (omega arith)
