-- What a tree spells is read as its value, whatever may follow.
use Rattle.std.proofs.Common.{◌≡◌, ◌∙◌, sym, ap, refl, ◌≤◌, ◌<◌, ℕ, zero, suc, ◌+◌, ◌*◌, List, [], ◌∷◌, ◌++◌, length, Some, arith, append_assoc, length-append}
use Rattle.qasm_lex.specs.declared.symbol.Symbol.{Symbol}
use Rattle.qasm_lex.specs.declared.symbol.Symbol.TheVariants.{Whole, Real, Pi, Param, Function, Plus, Minus, Times, Over, Caret, Open, Close}
use Rattle.qasm_lex.specs.Expressions.{Tree, whole, real, pi, param, plus, minus, times, over, opposite, raised, called, group, spelling, rank, Formed, Algebra, eval}
use Rattle.qasm_lex.specs.Private.Descent.{Goal, expr, terms, term, factors, factor, power, raise, atom, next, close, parse}

-- what may follow: nothing that would go on
abbrev pub NoSum : List Symbol → Type 0
NoSum (Plus ∷ s) = ⊥
NoSum (Minus ∷ s) = ⊥
NoSum _ = Unit {0}

abbrev pub NoProduct : List Symbol → Type 0
NoProduct (Times ∷ s) = ⊥
NoProduct (Over ∷ s) = ⊥
NoProduct _ = Unit {0}

abbrev pub NoPower : List Symbol → Type 0
NoPower (Caret ∷ s) = ⊥
NoPower _ = Unit {0}

abbrev pub NoMinus : List Symbol → Type 0
NoMinus (Minus ∷ s) = ⊥
NoMinus _ = Unit {0}

-- at the end of a part
terms_end : {X : Type 0} (o : Algebra X) (m : ℕ) (v : X) (r : List Symbol) → NoSum r → 0 < m → parse o m (terms v) r ≡ Some (v, r)
unfolding parse
terms_end o zero v r h p = absurd (omega arith)
terms_end o (suc m) v [] h p = refl
terms_end o (suc m) v (Plus ∷ r) h p = absurd h
terms_end o (suc m) v (Minus ∷ r) h p = absurd h
terms_end o (suc m) v (_ ∷ r) h p = refl

factors_end : {X : Type 0} (o : Algebra X) (m : ℕ) (v : X) (r : List Symbol) → NoProduct r → 0 < m → parse o m (factors v) r ≡ Some (v, r)
unfolding parse
factors_end o zero v r h p = absurd (omega arith)
factors_end o (suc m) v [] h p = refl
factors_end o (suc m) v (Times ∷ r) h p = absurd h
factors_end o (suc m) v (Over ∷ r) h p = absurd h
factors_end o (suc m) v (_ ∷ r) h p = refl

raise_end : {X : Type 0} (o : Algebra X) (m : ℕ) (v : X) (r : List Symbol) → NoPower r → 0 < m → parse o m (raise v) r ≡ Some (v, r)
unfolding parse
raise_end o zero v r h p = absurd (omega arith)
raise_end o (suc m) v [] h p = refl
raise_end o (suc m) v (Caret ∷ r) h p = absurd h
raise_end o (suc m) v (_ ∷ r) h p = refl

factor_is : {X : Type 0} (o : Algebra X) (m : ℕ) (s : List Symbol) → NoMinus s → parse o (suc m) factor s ≡ parse o m power s
unfolding parse
factor_is o m [] h = refl
factor_is o m (Minus ∷ r) h = absurd h
factor_is o m (_ ∷ r) h = refl

-- the spelling s of something of value v, at each of the ranks
abbrev pub AtAtom : {X : Type 0} → Algebra X → List Symbol → X → Type 0
AtAtom o s v = (r : List Symbol) (n : ℕ) → 8 * length (s ++ r) + 1 ≤ n → parse o n atom (s ++ r) ≡ Some (v, r)

abbrev pub AtPower : {X : Type 0} → Algebra X → List Symbol → X → Type 0
AtPower o s v = (r : List Symbol) (n : ℕ) → NoPower r → 8 * length (s ++ r) + 2 ≤ n → parse o n power (s ++ r) ≡ Some (v, r)

abbrev pub AtFactor : {X : Type 0} → Algebra X → List Symbol → X → Type 0
AtFactor o s v = (r : List Symbol) (n : ℕ) → NoPower r → 8 * length (s ++ r) + 3 ≤ n → parse o n factor (s ++ r) ≡ Some (v, r)

-- after it the factors, or the terms, go on
pub record Onward {X : Type 0} (o : Algebra X) (n : ℕ) (g : Goal X) (s : List Symbol) (on : Goal X) (r : List Symbol) : Type 0 where
  pub left : ℕ
  pub enough : 8 * length r + 1 ≤ left
  pub goes : parse o n g (s ++ r) ≡ parse o left on r

abbrev pub AtTerm : {X : Type 0} → Algebra X → List Symbol → X → Type 0
AtTerm o s v = (r : List Symbol) (n : ℕ) → NoPower r → 8 * length (s ++ r) + 5 ≤ n → Onward o n term s (factors v) r

abbrev pub AtExpr : {X : Type 0} → Algebra X → List Symbol → X → Type 0
AtExpr o s v = (r : List Symbol) (n : ℕ) → NoPower r → NoProduct r → 8 * length (s ++ r) + 7 ≤ n → Onward o n expr s (terms v) r

power_from : {X : Type 0} (o : Algebra X) (s : List Symbol) (v : X) → AtAtom o s v → AtPower o s v
unfolding parse
power_from o s v h r zero f p = absurd (omega arith)
power_from o s v h r (suc n) f p =
    ap (λ x. next x (λ v r. parse o n (raise v) r)) (h r n (omega arith)) ∙ raise_end o n v r f (omega arith)

factor_from : {X : Type 0} (o : Algebra X) (s : List Symbol) (v : X) → ((r : List Symbol) → NoMinus (s ++ r)) → AtPower o s v → AtFactor o s v
factor_from o s v m h r zero f p = absurd (omega arith)
factor_from o s v m h r (suc n) f p = factor_is o n (s ++ r) (m r) ∙ h r n f (omega arith)

term_from : {X : Type 0} (o : Algebra X) (s : List Symbol) (v : X) → AtFactor o s v → AtTerm o s v
unfolding parse
term_from o s v h r zero f p = absurd (omega arith)
term_from o s v h r (suc n) f p =
    let size = length-append s r in
    record { left = n; enough = omega arith; goes = ap (λ x. next x (λ v r. parse o n (factors v) r)) (h r n f (omega arith)) }

term_ends : {X : Type 0} (o : Algebra X) (s : List Symbol) (v : X) → AtTerm o s v → (r : List Symbol) (n : ℕ) → NoPower r → NoProduct r → 8 * length (s ++ r) + 5 ≤ n → parse o n term (s ++ r) ≡ Some (v, r)
term_ends o s v h r n f g p =
    let on = h r n f p in
    let e = on.enough in
    on.goes ∙ factors_end o (on.left) v r g (omega arith)

expr_from : {X : Type 0} (o : Algebra X) (s : List Symbol) (v : X) → AtTerm o s v → AtExpr o s v
unfolding parse
expr_from o s v h r zero f g p = absurd (omega arith)
expr_from o s v h r (suc n) f g p =
    let size = length-append s r in
    record { left = n; enough = omega arith; goes = ap (λ x. next x (λ v r. parse o n (terms v) r)) (term_ends o s v h r n f g (omega arith)) }

pub expr_ends : {X : Type 0} (o : Algebra X) (s : List Symbol) (v : X) → AtExpr o s v → (r : List Symbol) (n : ℕ) → NoPower r → NoProduct r → NoSum r → 8 * length (s ++ r) + 7 ≤ n → parse o n expr (s ++ r) ≡ Some (v, r)
expr_ends o s v h r n f g k p =
    let on = h r n f g p in
    let e = on.enough in
    on.goes ∙ terms_end o (on.left) v r k (omega arith)

-- what holds of a spelling of this rank
pub record Ladder {X : Type 0} (o : Algebra X) (k : ℕ) (s : List Symbol) (v : X) : Type 0 where
  pub as_expr : AtExpr o s v
  pub as_term : 1 ≤ k → AtTerm o s v
  pub as_factor : 2 ≤ k → AtFactor o s v
  pub as_atom : 4 ≤ k → AtAtom o s v
  pub front : 3 ≤ k → (r : List Symbol) → NoMinus (s ++ r)

atom_ladder : {X : Type 0} (o : Algebra X) (s : List Symbol) (v : X) → ((r : List Symbol) → NoMinus (s ++ r)) → AtAtom o s v → Ladder o 4 s v
atom_ladder o s v m h =
    let f = factor_from o s v m (power_from o s v h) in
    record { as_expr = expr_from o s v (term_from o s v f); as_term = λ _. term_from o s v f; as_factor = λ _. f; as_atom = λ _. h; front = λ _. m }

power_ladder : {X : Type 0} (o : Algebra X) (s : List Symbol) (v : X) → ((r : List Symbol) → NoMinus (s ++ r)) → AtPower o s v → Ladder o 3 s v
power_ladder o s v m h =
    let f = factor_from o s v m h in
    record { as_expr = expr_from o s v (term_from o s v f); as_term = λ _. term_from o s v f; as_factor = λ _. f; as_atom = λ q. absurd (omega arith); front = λ _. m }

factor_ladder : {X : Type 0} (o : Algebra X) (s : List Symbol) (v : X) → AtFactor o s v → Ladder o 2 s v
factor_ladder o s v f =
    record { as_expr = expr_from o s v (term_from o s v f); as_term = λ _. term_from o s v f; as_factor = λ _. f; as_atom = λ q. absurd (omega arith); front = λ q. absurd (omega arith) }

term_ladder : {X : Type 0} (o : Algebra X) (s : List Symbol) (v : X) → AtTerm o s v → Ladder o 1 s v
term_ladder o s v t =
    record { as_expr = expr_from o s v t; as_term = λ _. t; as_factor = λ q. absurd (omega arith); as_atom = λ q. absurd (omega arith); front = λ q. absurd (omega arith) }

expr_ladder : {X : Type 0} (o : Algebra X) (s : List Symbol) (v : X) → AtExpr o s v → Ladder o 0 s v
expr_ladder o s v e =
    record { as_expr = e; as_term = λ q. absurd (omega arith); as_factor = λ q. absurd (omega arith); as_atom = λ q. absurd (omega arith); front = λ q. absurd (omega arith) }

-- the steps of the ladder
raised_power : {X : Type 0} (o : Algebra X) (l r : List Symbol) (v w : X) → AtAtom o l v → AtFactor o r w → AtPower o (l ++ (Caret ∷ r)) (o.power v w)
unfolding parse
raised_power o l r v w a f u zero k p = absurd (omega arith)
raised_power o l r v w a f u (suc zero) k p = absurd (omega arith)
raised_power o l r v w a f u (suc (suc n)) k p =
    let whole = length-append l (Caret ∷ (r ++ u)) in
    let size : length (l ++ (Caret ∷ (r ++ u))) ≡ length ((l ++ (Caret ∷ r)) ++ u) = ap length (sym (append_assoc l (Caret ∷ r) u)) in
    ap (λ x. parse o (suc (suc n)) power x) (append_assoc l (Caret ∷ r) u)
    ∙ ap (λ x. next x (λ v r. parse o (suc n) (raise v) r)) (a (Caret ∷ (r ++ u)) (suc n) (omega arith))
    ∙ ap (λ x. next x (λ w r. Some (o.power v w, r))) (f u n k (omega arith))

opposite_factor : {X : Type 0} (o : Algebra X) (s : List Symbol) (v : X) → AtFactor o s v → AtFactor o (Minus ∷ s) (o.negative v)
unfolding parse
opposite_factor o s v f u zero k p = absurd (omega arith)
opposite_factor o s v f u (suc n) k p = ap (λ x. next x (λ v r. Some (o.negative v, r))) (f u n k (omega arith))

-- a product or a quotient: after its symbol c a factor is read, and f joins it to what stood before
product_on : {X : Type 0} (o : Algebra X) (c : Symbol) (f : X → X → X) → ((n : ℕ) (v : X) (t : List Symbol) → parse o (suc n) (factors v) (c ∷ t) ≡ next (parse o n factor t) (λ w t. parse o n (factors (f v w)) t))
    → (s r : List Symbol) (v w : X) (u : List Symbol) (n : ℕ) → AtFactor o r w → NoPower u → (left : ℕ) → 8 * length (c ∷ (r ++ u)) + 1 ≤ left
    → parse o n term (s ++ u) ≡ parse o left (factors v) (c ∷ (r ++ u)) → Onward o n term s (factors (f v w)) u
product_on o c f step s r v w u n h k zero p e = absurd (omega arith)
product_on o c f step s r v w u n h k (suc left) p e =
    let size = length-append r u in
    record { left = left; enough = omega arith; goes = e ∙ step left v (r ++ u) ∙ ap (λ x. next x (λ w t. parse o left (factors (f v w)) t)) (h u left k (omega arith)) }

product_term : {X : Type 0} (o : Algebra X) (c : Symbol) (f : X → X → X) → ((n : ℕ) (v : X) (t : List Symbol) → parse o (suc n) (factors v) (c ∷ t) ≡ next (parse o n factor t) (λ w t. parse o n (factors (f v w)) t))
    → ((t : List Symbol) → NoPower (c ∷ t)) → (l r : List Symbol) (v w : X) → AtTerm o l v → AtFactor o r w → AtTerm o (l ++ (c ∷ r)) (f v w)
product_term o c f step no_power l r v w a h u n k p =
    let e = append_assoc l (c ∷ r) u in
    let size : length ((l ++ (c ∷ r)) ++ u) ≡ length (l ++ (c ∷ (r ++ u))) = ap length e in
    let on = a (c ∷ (r ++ u)) n (no_power (r ++ u)) (omega arith) in
    product_on o c f step (l ++ (c ∷ r)) r v w u n h k (on.left) (on.enough) (ap (λ x. parse o n term x) e ∙ on.goes)

-- a sum or a difference: a term is read
sum_on : {X : Type 0} (o : Algebra X) (c : Symbol) (f : X → X → X) → ((n : ℕ) (v : X) (t : List Symbol) → parse o (suc n) (terms v) (c ∷ t) ≡ next (parse o n term t) (λ w t. parse o n (terms (f v w)) t))
    → (s r : List Symbol) (v w : X) (u : List Symbol) (n : ℕ) → AtTerm o r w → NoPower u → NoProduct u → (left : ℕ) → 8 * length (c ∷ (r ++ u)) + 1 ≤ left
    → parse o n expr (s ++ u) ≡ parse o left (terms v) (c ∷ (r ++ u)) → Onward o n expr s (terms (f v w)) u
sum_on o c f step s r v w u n h k g zero p e = absurd (omega arith)
sum_on o c f step s r v w u n h k g (suc left) p e =
    let size = length-append r u in
    record { left = left; enough = omega arith; goes = e ∙ step left v (r ++ u) ∙ ap (λ x. next x (λ w t. parse o left (terms (f v w)) t)) (term_ends o r w h u left k g (omega arith)) }

sum_expr : {X : Type 0} (o : Algebra X) (c : Symbol) (f : X → X → X) → ((n : ℕ) (v : X) (t : List Symbol) → parse o (suc n) (terms v) (c ∷ t) ≡ next (parse o n term t) (λ w t. parse o n (terms (f v w)) t))
    → ((t : List Symbol) → NoPower (c ∷ t) × NoProduct (c ∷ t)) → (l r : List Symbol) (v w : X) → AtExpr o l v → AtTerm o r w → AtExpr o (l ++ (c ∷ r)) (f v w)
sum_expr o c f step no_more l r v w a h u n k g p =
    let e = append_assoc l (c ∷ r) u in
    let size : length ((l ++ (c ∷ r)) ++ u) ≡ length (l ++ (c ∷ (r ++ u))) = ap length e in
    let on = a (c ∷ (r ++ u)) n (no_more (r ++ u)).0 (no_more (r ++ u)).1 (omega arith) in
    sum_on o c f step (l ++ (c ∷ r)) r v w u n h k g (on.left) (on.enough) (ap (λ x. parse o n expr x) e ∙ on.goes)

-- an expression in parentheses, after a front of symbols
closed_atom : {X : Type 0} (o : Algebra X) (front : List Symbol) (f : X → X) → ((n : ℕ) (t : List Symbol) → parse o (suc n) atom (front ++ t) ≡ next (parse o n expr t) (λ v r. close (f v) r))
    → 0 < length front → (s : List Symbol) (v : X) → AtExpr o s v → AtAtom o (front ++ (s ++ (Close ∷ []))) (f v)
closed_atom o front f step some s v h u zero p = absurd (omega arith)
closed_atom o front f step some s v h u (suc n) p =
    let e : (front ++ (s ++ (Close ∷ []))) ++ u ≡ front ++ (s ++ (Close ∷ u)) = append_assoc front (s ++ (Close ∷ [])) u ∙ ap (λ x. front ++ x) (append_assoc s (Close ∷ []) u) in
    let size = ap length e in
    let more = length-append front (s ++ (Close ∷ u)) in
    ap (λ x. parse o (suc n) atom x) e ∙ step n (s ++ (Close ∷ u)) ∙ ap (λ x. next x (λ v r. close (f v) r)) (expr_ends o s v h (Close ∷ u) n tt tt tt (omega arith))

leaf_atom : {X : Type 0} (o : Algebra X) (s : Symbol) (v : X) → ((n : ℕ) (u : List Symbol) → parse o (suc n) atom (s ∷ u) ≡ Some (v, u)) → AtAtom o (s ∷ []) v
leaf_atom o s v h u zero p = absurd (omega arith)
leaf_atom o s v h u (suc n) p = h n u

no_minus_append : (s t : List Symbol) → ((r : List Symbol) → NoMinus (s ++ r)) → (r : List Symbol) → NoMinus ((s ++ t) ++ r)
no_minus_append s t h r = rw (append_assoc s t r) (h (t ++ r))

pub ladder : {X : Type 0} (o : Algebra X) (t : Tree) → Formed t → Ladder o (rank t) (spelling t) (eval o t)
unfolding parse
ladder o (whole n) f = atom_ladder o _ _ (λ r. tt) (leaf_atom o (Whole n) (o.of_whole n) (λ n u. refl))
ladder o real f = atom_ladder o _ _ (λ r. tt) (leaf_atom o Real (o.of_real) (λ n u. refl))
ladder o pi f = atom_ladder o _ _ (λ r. tt) (leaf_atom o Pi (o.of_pi) (λ n u. refl))
ladder o (param k) f = atom_ladder o _ _ (λ r. tt) (leaf_atom o (Param k) (o.of_param k) (λ n u. refl))
ladder o (plus l r) f = expr_ladder o _ _ (sum_expr o Plus o.sum (λ n v t. refl) (λ t. (tt, tt)) (spelling l) (spelling r) (eval o l) (eval o r) ((ladder o l f.0).as_expr) ((ladder o r f.1).as_term f.2))
ladder o (minus l r) f = expr_ladder o _ _ (sum_expr o Minus o.difference (λ n v t. refl) (λ t. (tt, tt)) (spelling l) (spelling r) (eval o l) (eval o r) ((ladder o l f.0).as_expr) ((ladder o r f.1).as_term f.2))
ladder o (times l r) f = term_ladder o _ _ (product_term o Times o.product (λ n v t. refl) (λ t. tt) (spelling l) (spelling r) (eval o l) (eval o r) ((ladder o l f.0).as_term f.1) ((ladder o r f.2).as_factor f.3))
ladder o (over l r) f = term_ladder o _ _ (product_term o Over o.quotient (λ n v t. refl) (λ t. tt) (spelling l) (spelling r) (eval o l) (eval o r) ((ladder o l f.0).as_term f.1) ((ladder o r f.2).as_factor f.3))
ladder o (opposite t) f = factor_ladder o _ _ (opposite_factor o (spelling t) (eval o t) ((ladder o t f.0).as_factor f.1))
ladder o (raised l r) f =
    let q = f.1 in
    power_ladder o _ _ (no_minus_append (spelling l) (Caret ∷ spelling r) ((ladder o l f.0).front (omega arith)))
    (raised_power o (spelling l) (spelling r) (eval o l) (eval o r) ((ladder o l f.0).as_atom f.1) ((ladder o r f.2).as_factor f.3))
ladder o (called t) f = atom_ladder o _ _ (λ r. tt) (closed_atom o (Function ∷ Open ∷ []) o.call (λ n t. refl) (omega arith) (spelling t) (eval o t) ((ladder o t f).as_expr))
ladder o (group t) f = atom_ladder o _ _ (λ r. tt) (closed_atom o (Open ∷ []) o.grouped (λ n t. refl) (omega arith) (spelling t) (eval o t) ((ladder o t f).as_expr))
