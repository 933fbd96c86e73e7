-- Facts on results and lists that several files use.
use Rattle.std.proofs.Common.{◌≡◌, Bool, true, false, cond, List, ◌∷◌, refl, Result, Ok, Err}

-- what went on passed the test
pub passes : {A B : Type 0} (b : Bool) (w : B) (r : Result A B) (a : A) → cond b (Err w) r ≡ Ok a → (b ≡ false) × (r ≡ Ok a)
passes true w r a e = absurd cc
passes false w r a e = (refl, e)

-- lists that are the same begin with the same, and go on so
pub same_first : {X : Type 0} {x y : X} {xs ys : List X} → x ∷ xs ≡ y ∷ ys → x ≡ y
same_first e = cc

pub same_rest : {X : Type 0} {x y : X} {xs ys : List X} → x ∷ xs ≡ y ∷ ys → xs ≡ ys
same_rest e = cc
