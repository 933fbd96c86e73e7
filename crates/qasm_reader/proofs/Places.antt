-- Tests of the places below a number.
use Rattle.std.proofs.Common.{◌≡◌, ◌∙◌, ap, refl, ◌<◌, ℕ, suc, ◌+◌, Bool, true, false, ◌||◌, [], ◌∷◌, arith}
use Rattle.std.specs.Bool.{Decides}
use Rattle.std.specs.List.{list_any}
use Rattle.std.proofs.lemmas.Bool.{or_from}
use Rattle.std.proofs.lemmas.Bool.Decides.{Decides-below_or}
use Rattle.std.proofs.lemmas.List.Folds.{list_any-append}
use Rattle.std.proofs.Math.Bool.{or-false, or_comm}
use Rattle.qasm_gates.specs.Gates.{up_to}

any_next : (f : ℕ → Bool) (n : ℕ) → list_any f (up_to (suc n)) ≡ f n || list_any f (up_to n)
any_next f n = list_any-append f (up_to n) (n ∷ []) ∙ ap (λ b. list_any f (up_to n) || b) (or-false (f n)) ∙ or_comm (list_any f (up_to n)) (f n)

-- whether a test passes at some place
pub any_decides : (f : ℕ → Bool) (P : ℕ → Type 0) → ((place : ℕ) → Decides (f place) (P place)) → (n : ℕ) → Decides (list_any f (up_to n)) ((place : ℕ) × (place < n) × P place)
any_decides f P d n = Decides-below_or f P (λ n. list_any f (up_to n)) d refl (any_next f) n

-- one is there
pub any_there : (f : ℕ → Bool) (place n : ℕ) → place < n → f place ≡ true → list_any f (up_to n) ≡ true
any_there f place n h e = (any_decides f (λ p. f p ≡ true) (λ p. (λ e. e, λ e. e)) n).1 (place, h, e)

-- one more that doesn't pass
pub any_not : (f : ℕ → Bool) (place next : ℕ) → next ≡ place + 1 → list_any f (up_to place) ≡ false → f place ≡ false → list_any f (up_to next) ≡ false
any_not f place next e h g = let s : next ≡ suc place = omega arith in ap (λ n. list_any f (up_to n)) s ∙ any_next f place ∙ or_from (f place) _ g h
