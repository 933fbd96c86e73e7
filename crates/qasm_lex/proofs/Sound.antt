-- What is read is spelled by a tree, of that value.
use Rattle.std.proofs.Common.{◌≡◌, ◌∙◌, sym, ap, refl, ◌≤◌, ℕ, zero, suc, List, [], ◌∷◌, ◌++◌, Some, None, arith, append_assoc}
use Rattle.qasm_lex.specs.declared.symbol.Symbol.{Symbol}
use Rattle.qasm_lex.specs.declared.symbol.Symbol.TheVariants.{Whole, Real, Pi, Param, Function, Plus, Minus, Times, Over, Caret, Open, Close}
use Rattle.qasm_lex.specs.Expressions.{Tree, whole, real, pi, param, plus, minus, times, over, opposite, raised, called, group, spelling, rank, Formed, Algebra, eval}
use Rattle.qasm_lex.specs.Private.Descent.{Goal, expr, terms, term, factors, factor, power, raise, atom, Found, next, close, parse}

-- a tree of this rank or a higher one spells the front, and has this value
pub record Spelled {X : Type 0} (o : Algebra X) (k : ℕ) (s : List Symbol) (v : X) (r : List Symbol) : Type 0 where
  pub tree : Tree
  pub formed : Formed tree
  pub ranked : k ≤ rank tree
  pub spelled : s ≡ spelling tree ++ r
  pub value : eval o tree ≡ v

-- what stands before goes on to a whole
abbrev pub GoesOn : {X : Type 0} → Algebra X → ℕ → ℕ → X → List Symbol → X → List Symbol → Type 0
GoesOn o least k acc s v r = (t : Tree) → Formed t → least ≤ rank t → eval o t ≡ acc → (all : List Symbol) → all ≡ spelling t ++ s → Spelled o k all v r

abbrev pub Good : {X : Type 0} → Algebra X → Goal X → List Symbol → X → List Symbol → Type 0
Good o expr s v r = Spelled o 0 s v r
Good o (terms acc) s v r = GoesOn o 0 0 acc s v r
Good o term s v r = Spelled o 1 s v r
Good o (factors acc) s v r = GoesOn o 1 1 acc s v r
Good o factor s v r = Spelled o 2 s v r
Good o power s v r = Spelled o 3 s v r
Good o (raise acc) s v r = GoesOn o 4 3 acc s v r
Good o atom s v r = Spelled o 4 s v r

abbrev pub GoodFound : {X : Type 0} → Algebra X → Goal X → List Symbol → Found X → Type 0
GoodFound o g s None = Unit {0}
GoodFound o g s (Some p) = Good o g s p.0 p.1

bind_good : {X : Type 0} (o : Algebra X) (g : Goal X) (s : List Symbol) (x : Found X) → GoodFound o g s x → (P : Found X → Type 0) → P None → (f : X → List Symbol → Found X)
    → ((v : X) (r : List Symbol) → Good o g s v r → P (f v r)) → P (next x f)
bind_good o g s None h P none f k = none
bind_good o g s (Some p) h P none f k = k p.0 p.1 h

map_good : {X : Type 0} (o : Algebra X) (g on : Goal X) (s r : List Symbol) (x : Found X) → GoodFound o on r x → ((v : X) (u : List Symbol) → Good o on r v u → Good o g s v u) → GoodFound o g s x
map_good o g on s r None h k = tt
map_good o g on s r (Some p) h k = k p.0 p.1 h

-- a tree itself
itself : {X : Type 0} (o : Algebra X) (least k : ℕ) → k ≤ least → (v : X) (s : List Symbol) → GoesOn o least k v s v s
itself o least k h v s t f q e all a = record { tree = t; formed = f; ranked = omega arith; spelled = a; value = e }

raise_rank : {X : Type 0} (o : Algebra X) (k j : ℕ) (s r : List Symbol) (v : X) → j ≤ k → Spelled o k s v r → Spelled o j s v r
raise_rank o k j s r v h p = let q = p.ranked in record { tree = p.tree; formed = p.formed; ranked = omega arith; spelled = p.spelled; value = p.value }

-- an operation with what stands before
joined : {X : Type 0} (o : Algebra X) (least k : ℕ) (symbol : Symbol) (make : Tree → Tree → Tree) (f : X → X → X) (acc : X) (need : ℕ) (s : List Symbol) (w : X) (r : List Symbol)
    → ((a b : Tree) → spelling (make a b) ≡ spelling a ++ (symbol ∷ spelling b)) → ((a b : Tree) → eval o (make a b) ≡ f (eval o a) (eval o b))
    → ((a b : Tree) → Formed a → least ≤ rank a → Formed b → need ≤ rank b → Formed (make a b)) → ((a b : Tree) → k ≤ rank (make a b))
    → Spelled o need s w r
    → (t : Tree) → Formed t → least ≤ rank t → eval o t ≡ acc → (all : List Symbol) → all ≡ spelling t ++ (symbol ∷ s) → Spelled o k all (f acc w) r
joined o least k symbol make f acc need s w r sp ev fo ra p t tf tr te all a = record {
  tree = make t p.tree;
  formed = fo t p.tree tf tr p.formed p.ranked;
  ranked = ra t p.tree;
  spelled = a ∙ ap (λ x. spelling t ++ (symbol ∷ x)) p.spelled ∙ sym (append_assoc (spelling t) (symbol ∷ spelling p.tree) r) ∙ ap (λ x. x ++ r) (sym (sp t p.tree));
  value = ev t p.tree ∙ ap (λ x. f x (eval o p.tree)) te ∙ ap (λ x. f acc x) p.value;
}

-- and on from there
onward : {X : Type 0} (o : Algebra X) (least k : ℕ) (acc now : X) (s r u : List Symbol) (v : X)
    → ((t : Tree) → Formed t → least ≤ rank t → eval o t ≡ acc → (all : List Symbol) → all ≡ spelling t ++ s → Spelled o least all now r)
    → GoesOn o least k now r v u → GoesOn o least k acc s v u
onward o least k acc now s r u v first rest t tf tr te all a =
    let p = first t tf tr te all a in
    rest p.tree p.formed p.ranked p.value all p.spelled

close_good : {X : Type 0} (o : Algebra X) (v : X) (s : List Symbol) (make : Tree → Tree) (front : List Symbol) (f : X → X)
    → ((t : Tree) → spelling (make t) ≡ front ++ (spelling t ++ (Close ∷ []))) → ((t : Tree) → eval o (make t) ≡ f (eval o t)) → ((t : Tree) → Formed t → Formed (make t)) → ((t : Tree) → 4 ≤ rank (make t))
    → (r : List Symbol) → Spelled o 0 s v r → GoodFound o atom (front ++ s) (close (f v) r)
close_good o v s make front f sp ev fo ra [] p = tt
close_good o v s make front f sp ev fo ra (Close ∷ r) p = record {
  tree = make p.tree;
  formed = fo p.tree p.formed;
  ranked = ra p.tree;
  spelled = ap (λ x. front ++ x) (p.spelled ∙ sym (append_assoc (spelling p.tree) (Close ∷ []) r)) ∙ sym (append_assoc front (spelling p.tree ++ (Close ∷ [])) r) ∙ ap (λ x. x ++ r) (sym (sp p.tree));
  value = ev p.tree ∙ ap f p.value;
}
close_good o v s make front f sp ev fo ra (_ ∷ r) p = tt

leaf : {X : Type 0} (o : Algebra X) (t : Tree) (s : Symbol) (r : List Symbol) → Formed t → 4 ≤ rank t → spelling t ≡ s ∷ [] → Spelled o 4 (s ∷ r) (eval o t) r
leaf o t s r f h e = record { tree = t; formed = f; ranked = h; spelled = ap (λ x. x ++ r) (sym e); value = refl }

opposite_good : {X : Type 0} (o : Algebra X) (s r : List Symbol) (v : X) → Spelled o 2 s v r → Spelled o 2 (Minus ∷ s) (o.negative v) r
opposite_good o s r v p = record { tree = opposite p.tree; formed = (p.formed, p.ranked); ranked = omega arith; spelled = ap (λ x. Minus ∷ x) p.spelled; value = ap (o.negative) p.value }

pub sound : {X : Type 0} (o : Algebra X) (n : ℕ) (g : Goal X) (s : List Symbol) → GoodFound o g s (parse o n g s)
unfolding parse
sound o zero g s = tt
sound o (suc n) expr s =
    bind_good o term s (parse o n term s) (sound o n term s) (λ x. GoodFound o expr s x) tt (λ v r. parse o n (terms v) r)
    (λ v r p. map_good o expr (terms v) s r (parse o n (terms v) r) (sound o n (terms v) r) (λ w u k. k p.tree p.formed (omega arith) p.value s p.spelled))
sound o (suc n) (terms v) [] = itself o 0 0 (omega arith) v []
sound o (suc n) (terms v) (Plus ∷ s) =
    bind_good o term s (parse o n term s) (sound o n term s) (λ x. GoodFound o (terms v) (Plus ∷ s) x) tt (λ w r. parse o n (terms (o.sum v w)) r)
    (λ w r p. map_good o (terms v) (terms (o.sum v w)) (Plus ∷ s) r (parse o n (terms (o.sum v w)) r) (sound o n (terms (o.sum v w)) r)
    (λ x u k. onward o 0 0 v (o.sum v w) (Plus ∷ s) r u x (joined o 0 0 Plus plus (o.sum) v 1 s w r (λ a b. refl) (λ a b. refl) (λ a b f q h y. (f, h, y)) (λ a b. omega arith) p) k))
sound o (suc n) (terms v) (Minus ∷ s) =
    bind_good o term s (parse o n term s) (sound o n term s) (λ x. GoodFound o (terms v) (Minus ∷ s) x) tt (λ w r. parse o n (terms (o.difference v w)) r)
    (λ w r p. map_good o (terms v) (terms (o.difference v w)) (Minus ∷ s) r (parse o n (terms (o.difference v w)) r) (sound o n (terms (o.difference v w)) r)
    (λ x u k. onward o 0 0 v (o.difference v w) (Minus ∷ s) r u x (joined o 0 0 Minus minus (o.difference) v 1 s w r (λ a b. refl) (λ a b. refl) (λ a b f q h y. (f, h, y)) (λ a b. omega arith) p) k))
sound o (suc n) (terms v) (c ∷ s) = itself o 0 0 (omega arith) v (c ∷ s)
sound o (suc n) term s =
    bind_good o factor s (parse o n factor s) (sound o n factor s) (λ x. GoodFound o term s x) tt (λ v r. parse o n (factors v) r)
    (λ v r p. map_good o term (factors v) s r (parse o n (factors v) r) (sound o n (factors v) r) (λ w u k. let q = p.ranked in k p.tree p.formed (omega arith) p.value s p.spelled))
sound o (suc n) (factors v) [] = itself o 1 1 (omega arith) v []
sound o (suc n) (factors v) (Times ∷ s) =
    bind_good o factor s (parse o n factor s) (sound o n factor s) (λ x. GoodFound o (factors v) (Times ∷ s) x) tt (λ w r. parse o n (factors (o.product v w)) r)
    (λ w r p. map_good o (factors v) (factors (o.product v w)) (Times ∷ s) r (parse o n (factors (o.product v w)) r) (sound o n (factors (o.product v w)) r)
    (λ x u k. onward o 1 1 v (o.product v w) (Times ∷ s) r u x (joined o 1 1 Times times (o.product) v 2 s w r (λ a b. refl) (λ a b. refl) (λ a b f q h y. (f, q, h, y)) (λ a b. omega arith) p) k))
sound o (suc n) (factors v) (Over ∷ s) =
    bind_good o factor s (parse o n factor s) (sound o n factor s) (λ x. GoodFound o (factors v) (Over ∷ s) x) tt (λ w r. parse o n (factors (o.quotient v w)) r)
    (λ w r p. map_good o (factors v) (factors (o.quotient v w)) (Over ∷ s) r (parse o n (factors (o.quotient v w)) r) (sound o n (factors (o.quotient v w)) r)
    (λ x u k. onward o 1 1 v (o.quotient v w) (Over ∷ s) r u x (joined o 1 1 Over over (o.quotient) v 2 s w r (λ a b. refl) (λ a b. refl) (λ a b f q h y. (f, q, h, y)) (λ a b. omega arith) p) k))
sound o (suc n) (factors v) (c ∷ s) = itself o 1 1 (omega arith) v (c ∷ s)
sound o (suc n) factor [] = map_good o factor power [] [] (parse o n power []) (sound o n power []) (λ v u p. raise_rank o 3 2 [] u v (omega arith) p)
sound o (suc n) factor (Minus ∷ s) =
    bind_good o factor s (parse o n factor s) (sound o n factor s) (λ x. GoodFound o factor (Minus ∷ s) x) tt (λ v r. Some (o.negative v, r))
    (λ v r p. opposite_good o s r v p)
sound o (suc n) factor (c ∷ s) = map_good o factor power (c ∷ s) (c ∷ s) (parse o n power (c ∷ s)) (sound o n power (c ∷ s)) (λ v u p. raise_rank o 3 2 (c ∷ s) u v (omega arith) p)
sound o (suc n) power s =
    bind_good o atom s (parse o n atom s) (sound o n atom s) (λ x. GoodFound o power s x) tt (λ v r. parse o n (raise v) r)
    (λ v r p. map_good o power (raise v) s r (parse o n (raise v) r) (sound o n (raise v) r) (λ w u k. k p.tree p.formed p.ranked p.value s p.spelled))
sound o (suc n) (raise v) [] = itself o 4 3 (omega arith) v []
sound o (suc n) (raise v) (Caret ∷ s) =
    bind_good o factor s (parse o n factor s) (sound o n factor s) (λ x. GoodFound o (raise v) (Caret ∷ s) x) tt (λ w r. Some (o.power v w, r))
    (λ w r p. joined o 4 3 Caret raised (o.power) v 2 s w r (λ a b. refl) (λ a b. refl) (λ a b f q h y. (f, q, h, y)) (λ a b. omega arith) p)
sound o (suc n) (raise v) (c ∷ s) = itself o 4 3 (omega arith) v (c ∷ s)
sound o (suc n) atom (Whole k ∷ s) = leaf o (whole k) (Whole k) s tt (omega arith) refl
sound o (suc n) atom (Real ∷ s) = leaf o real Real s tt (omega arith) refl
sound o (suc n) atom (Pi ∷ s) = leaf o pi Pi s tt (omega arith) refl
sound o (suc n) atom (Param k ∷ s) = leaf o (param k) (Param k) s tt (omega arith) refl
sound o (suc n) atom (Open ∷ s) =
    bind_good o expr s (parse o n expr s) (sound o n expr s) (λ x. GoodFound o atom (Open ∷ s) x) tt (λ v r. close (o.grouped v) r)
    (λ v r p. close_good o v s group (Open ∷ []) (o.grouped) (λ t. refl) (λ t. refl) (λ t f. f) (λ t. omega arith) r p)
sound o (suc n) atom (Function ∷ Open ∷ s) =
    bind_good o expr s (parse o n expr s) (sound o n expr s) (λ x. GoodFound o atom (Function ∷ Open ∷ s) x) tt (λ v r. close (o.call v) r)
    (λ v r p. close_good o v s called (Function ∷ Open ∷ []) (o.call) (λ t. refl) (λ t. refl) (λ t f. f) (λ t. omega arith) r p)
sound o (suc n) atom s = tt
