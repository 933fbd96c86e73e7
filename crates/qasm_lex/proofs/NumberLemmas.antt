-- Numbers in decimal, digit by digit, and below a bound.
use Rattle.std.proofs.Common.{◌≡◌, ◌∙◌, sym, ap, refl, ◌≤◌, ◌<◌, ℕ, zero, suc, ◌+◌, ◌-◌, ◌*◌, ◌^◌, Bool, true, false, cond, nat_lt, List, [], ◌∷◌, length, arith, subst, Some, None, pos, to_z}
use Rattle.std.proofs.lemmas.Bool.{ltb-true, ltb-false}
use Rattle.std.proofs.lemmas.Bool.Decides.{nat_tests}
use Rattle.std.proofs.lemmas.Int.{to_z_pos}
use Rattle.std.specs.Int.{w64}
use Rattle.std.proofs.Math.Nat.{pow-suc, le-mul_of_pos_right}
use Rattle.qasm_lex.specs.Fractions.{most}
use Rattle.qasm_lex.specs.Symbols.{decimal, number_below, narrow_number}

ten_pos : (k : ℕ) → 0 < 10 ^ k
ten_pos zero = omega arith
ten_pos (suc k) = let p = ten_pos k in omega (arith, pow-suc 10 k)

-- one digit more
pub decimal_next : (value whole d : ℕ) (rest after : List ℕ) → rest ≡ d ∷ after → value * 10 ^ length rest + decimal rest ≡ whole
    → (value * 10 + (d - 48)) * 10 ^ length after + decimal after ≡ whole
unfolding decimal
decimal_next value whole d rest after e h =
    let g : value * 10 ^ suc (length after) + ((d - 48) * 10 ^ length after + decimal after) ≡ whole = subst (λ r. value * 10 ^ length r + decimal r ≡ whole) e h in
    let p = pow-suc 10 (length after) in
    let m : value * 10 ^ suc (length after) ≡ value * (10 ^ length after * 10) = ap (λ x. value * x) p in
    grind arith

pub decimal_end : (value whole : ℕ) (rest : List ℕ) → length rest ≡ 0 → value * 10 ^ length rest + decimal rest ≡ whole → value ≡ whole
unfolding decimal
decimal_end value whole [] e h = omega arith
decimal_end value whole (d ∷ rest) e h = absurd (omega arith)

-- great enough already
pub great_already : (value n k whole bound : ℕ) → bound ≤ value → value * 10 ^ k + n ≡ whole → bound ≤ whole
great_already value n k whole bound h e = let p = ten_pos k in let m : value ≤ value * 10 ^ k = le-mul_of_pos_right value p in omega arith

not_less : (n bound : ℕ) → bound ≤ n → nat_lt n bound ≡ false
not_less n bound h = grind (arith, nat_tests)

less : (n bound : ℕ) → n < bound → nat_lt n bound ≡ true
less n bound h = grind (arith, nat_tests)

pub none_below : (n bound : ℕ) → bound ≤ n → None ≡ number_below n bound
none_below n bound h = sym (ap (λ x. cond x (Some n) None) (not_less n bound h))

pub some_below : (value n bound : ℕ) → value ≡ n → value < bound → Some value ≡ number_below n bound
some_below value n bound e h = ap Some e ∙ sym (ap (λ x. cond x (Some n) None) (less n bound (let q = e in omega arith)))

-- what a number below a bound is
pub below_some : (n bound m : ℕ) → Some m ≡ number_below n bound → (m ≡ n) × (n < bound)
below_some n bound m e = by (nat_lt n bound) (ltb-true n bound) e
  where
    by : (b : Bool) → (b ≡ true → n < bound) → Some m ≡ cond b (Some n) None → (m ≡ n) × (n < bound)
    by true h e = (cc, h refl)
    by false h e = absurd cc

pub below_none : (n bound : ℕ) → None ≡ number_below n bound → bound ≤ n
below_none n bound e = by (nat_lt n bound) (ltb-false n bound) e
  where
    by : (b : Bool) → (b ≡ false → bound ≤ n) → None ≡ cond b (Some n) None → bound ≤ n
    by true h e = absurd cc
    by false h e = h refl

-- the number of an angle, by its cast
pub narrow_some : (n m : ℕ) → Some m ≡ number_below n 9223372036854775808 → Some (to_z w64 m) ≡ narrow_number n
narrow_some n m e = let p = below_some n 9223372036854775808 m e in ap Some (to_z_pos w64 m (omega arith) ∙ ap pos p.0) ∙ sym (narrow n (omega arith))
  where
    narrow : (n : ℕ) → n ≤ most → narrow_number n ≡ Some (pos n)
    narrow n h = grind arith

pub narrow_none : (n : ℕ) → None ≡ number_below n 9223372036854775808 → None ≡ narrow_number n
narrow_none n e = let h = below_none n 9223372036854775808 e in sym (wide n (omega arith))
  where
    wide : (n : ℕ) → most < n → narrow_number n ≡ None
    wide n h = grind arith
