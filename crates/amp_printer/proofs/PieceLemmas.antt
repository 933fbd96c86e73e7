-- Texts written piece by piece.
use Rattle.std.proofs.Common.{◌≡◌, List, ℕ, ◌++◌, ◌∙◌, ap, append_assoc}

-- p is o with the piece r at its end
pub record Wrote (o p r : List ℕ) : Type 0 where
  pub is : p ≡ o ++ r

-- one piece, and then another
pub then : {o p q r s : List ℕ} → Wrote o p r → Wrote p q s → Wrote o q (r ++ s)
then {o} {p} {q} {r} {s} e f = record { is = f.is ∙ ap (λ t. t ++ s) e.is ∙ append_assoc o r s }

-- a piece, known by an equal one
pub wrote : (o p r s : List ℕ) → p ≡ o ++ s → s ≡ r → Wrote o p r
wrote o p r s e f = record { is = e ∙ ap (λ t. o ++ t) f }
