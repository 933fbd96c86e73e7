-- Orders that are put together by exchanges.
use Rattle.std.proofs.Common.{◌≡◌, ◌≢◌, ℕ, zero, suc, ◌<◌, ◌≤◌, List, [], ◌∷◌, length, take, get_or, refl, sym, ◌∙◌, ap, arith}
use Rattle.std.proofs.lemmas.Bool.{false≢true}
use Rattle.bit_lists.specs.Orders.{AreVars, exchanged}
use Rattle.bit_lists.proofs.Variables.{has_at}

pub length-exchanged : (o : List ℕ) (p : ℕ) → length (exchanged o p) ≡ length o
length-exchanged [] zero = refl
length-exchanged [] (suc p) = refl
length-exchanged (u ∷ []) zero = refl
length-exchanged (u ∷ v ∷ vs) zero = refl
length-exchanged (u ∷ []) (suc p) = ap suc (length-exchanged [] p)
length-exchanged (u ∷ v ∷ vs) (suc p) = ap suc (length-exchanged (v ∷ vs) p)

-- places above stay
pub front-exchanged : (o : List ℕ) (p k : ℕ) → k ≤ p → take k (exchanged o p) ≡ take k o
front-exchanged o p zero le = refl
front-exchanged [] zero (suc k) le = refl
front-exchanged [] (suc p) (suc k) le = refl
front-exchanged (u ∷ vs) zero (suc k) le = absurd (omega arith)
front-exchanged (u ∷ []) (suc p) (suc k) le = ap (λ l. u ∷ l) (front-exchanged [] p k (omega arith))
front-exchanged (u ∷ v ∷ vs) (suc p) (suc k) le = ap (λ l. u ∷ l) (front-exchanged (v ∷ vs) p k (omega arith))

-- the lower one comes up
pub here-exchanged : (o : List ℕ) (p : ℕ) → suc p < length o → get_or (exchanged o p) p 0 ≡ get_or o (suc p) 0
here-exchanged [] p lt = absurd (omega arith)
here-exchanged (u ∷ []) zero lt = absurd (omega arith)
here-exchanged (u ∷ v ∷ vs) zero lt = refl
here-exchanged (u ∷ []) (suc p) lt = absurd (omega arith)
here-exchanged (u ∷ v ∷ vs) (suc p) lt = here-exchanged (v ∷ vs) p (omega arith)

-- each variable is below their number
pub vars_below : (k : ℕ) (vs : List ℕ) (i : ℕ) → AreVars k vs → i < length vs → get_or vs i 0 < k
vars_below k [] i h lt = absurd (omega arith)
vars_below k (v ∷ vs) zero h lt = h.0
vars_below k (v ∷ vs) (suc i) h lt = vars_below k vs i h.2 (omega arith)

-- and stands once
pub vars_once : (k : ℕ) (vs : List ℕ) (i j : ℕ) → AreVars k vs → i < j → j < length vs → get_or vs i 0 ≢ get_or vs j 0
vars_once k [] i j h lt within e = omega arith
vars_once k (v ∷ vs) i zero h lt within e = omega arith
vars_once k (v ∷ vs) zero (suc j) h lt within e = false≢true (sym h.1 ∙ has_at vs v j (omega arith) (sym e))
vars_once k (v ∷ vs) (suc i) (suc j) h lt within e = vars_once k vs i j h.2 (omega arith) (omega arith) e
