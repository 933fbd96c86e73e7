-- Outcomes bit by bit: which qubits count, how many are measured, and the states with an outcome.
use Rattle.std.proofs.Common.{◌≡◌, ℕ, suc, ◌+◌, ◌<◌, ◌≤◌, ◌↔◌, ◌&&◌, Bool, true, false, ◌||◌, not, cond, List, [], ◌∷◌, ◌++◌, map, length, take, drop, set, get_or, Option, Some, None, refl, sym, ◌∙◌, ap, arith, append_assoc, drop-cons}
use Rattle.std.specs.List.{list_any}
use Rattle.std.proofs.Math.Path.{ap₂}
use Rattle.std.proofs.lemmas.List.{take_more_set, take_more, map-append, take-append-drop}
use Rattle.std.proofs.lemmas.List.Sums.{count_by_more_yes, count_by_more_no, sum_by-append}
use mathlib.Core.Bool.{beq}
use mir.Val.{bool_byte}
use Rattle.std.proofs.lemmas.Bool.{and_parts}
use Rattle.bit_lists.specs.Partials.{agrees}
use Rattle.probabilities.specs.Outcomes.{counted, measured_count, fixed_to, measured_bits}

-- ---- which qubits count
any_true : (xs : List Bool) → list_any (λ y. beq y true) xs ≡ list_any (λ c. c) xs
any_true [] = refl
any_true (true ∷ xs) = refl
any_true (false ∷ xs) = any_true xs

-- one flag more
pub counted_more : (xs flags : List Bool) (all v : Bool) (i : ℕ) → length flags ≡ length xs → i < length xs → v ≡ (get_or xs i false || all)
    → take i flags ≡ map (λ b. b || all) (take i xs) → take (i + 1) (set flags i v) ≡ map (λ b. b || all) (take (i + 1) xs)
counted_more xs flags all v i long lt is so_far =
    let within : i < length flags = omega arith in
    take_more_set flags i v within
    ∙ ap₂ (λ l b. l ++ b ∷ []) so_far is
    ∙ sym (ap (map (λ b. b || all)) (take_more xs i false lt) ∙ map-append (λ b. b || all) (take i xs) (get_or xs i false ∷ []))

pub counted_by : (xs : List Bool) (any : Bool) → any ≡ list_any (λ y. beq y true) xs → map (λ b. b || not any) xs ≡ counted xs
counted_by xs any is = ap (λ a. map (λ b. b || not a) xs) (is ∙ any_true xs)

-- ---- how many are measured
pub measured_more : (xs : List Bool) (i : ℕ) → i < length xs → measured_count (take (i + 1) xs) ≡ measured_count (take i xs) + bool_byte (get_or xs i false)
measured_more xs i lt = by (get_or xs i false) refl
  where
    by : (b : Bool) → get_or xs i false ≡ b → measured_count (take (i + 1) xs) ≡ measured_count (take i xs) + bool_byte b
    by true e = count_by_more_yes (λ b. b) xs i false lt e
    by false e = count_by_more_no (λ b. b) xs i false lt e ∙ omega arith

-- no more are measured among the first ones
pub measured_front : (xs : List Bool) (i : ℕ) → measured_count (take i xs) ≤ measured_count xs
measured_front xs i =
    let whole = ap measured_count (take-append-drop i xs) in
    omega (arith, whole, sum_by-append (λ b. cond b 1 0) (take i xs) (drop i xs))

-- ---- the states with an outcome
step_true : (ms y : List Bool) (i j : ℕ) → i < length ms → get_or ms i false ≡ true → j < length y
    → fixed_to (drop i ms) (drop j y) ≡ Some (get_or y j false) ∷ fixed_to (drop (i + 1) ms) (drop (j + 1) y)
step_true ms y i j lt flag within =
    let si : suc i ≡ i + 1 = omega arith in
    let sj : suc j ≡ j + 1 = omega arith in
    ap₂ fixed_to
    (drop-cons ms i false lt ∙ ap₂ (λ b k. b ∷ drop k ms) flag si)
    (drop-cons y j false within ∙ ap (λ k. get_or y j false ∷ drop k y) sj)

step_false : (ms y : List Bool) (i j : ℕ) → i < length ms → get_or ms i false ≡ false → fixed_to (drop i ms) (drop j y) ≡ None ∷ fixed_to (drop (i + 1) ms) (drop j y)
step_false ms y i j lt flag =
    let si : suc i ≡ i + 1 = omega arith in
    ap (λ l. fixed_to l (drop j y)) (drop-cons ms i false lt ∙ ap₂ (λ b k. b ∷ drop k ms) flag si)

-- one value more
pub fixed_more : (whole p : List (Option Bool)) (ms y : List Bool) (i j k : ℕ) (flag : Bool) (value : Option Bool) → i < length ms → length p ≡ length ms → flag ≡ get_or ms i false
    → (flag ≡ true → j < length y) → value ≡ cond flag (Some (get_or y j false)) None → k ≡ j + bool_byte flag
    → whole ≡ take i p ++ fixed_to (drop i ms) (drop j y) → whole ≡ take (i + 1) (set p i value) ++ fixed_to (drop (i + 1) ms) (drop k y)
fixed_more whole p ms y i j k flag value lt long is within chosen next so_far = by flag (sym is) within chosen next
  where
    grown : (o : Option Bool) (rest : List (Option Bool)) → value ≡ o → take i p ++ (o ∷ rest) ≡ take (i + 1) (set p i value) ++ rest
    grown o rest e =
        let room : i < length p = omega arith in
        sym (append_assoc (take i p) (o ∷ []) rest)
        ∙ ap (λ l. l ++ rest) (ap (λ v. take i p ++ v ∷ []) (sym e) ∙ sym (take_more_set p i value room))

    by : (b : Bool) → get_or ms i false ≡ b → (b ≡ true → j < length y) → value ≡ cond b (Some (get_or y j false)) None → k ≡ j + bool_byte b
        → whole ≡ take (i + 1) (set p i value) ++ fixed_to (drop (i + 1) ms) (drop k y)
    by true e inside chosen at =
        so_far ∙ ap (λ l. take i p ++ l) (step_true ms y i j lt e (inside refl))
        ∙ grown (Some (get_or y j false)) (fixed_to (drop (i + 1) ms) (drop (j + 1) y)) chosen
        ∙ ap (λ n. take (i + 1) (set p i value) ++ fixed_to (drop (i + 1) ms) (drop n y)) (let h : j + 1 ≡ k = omega arith in h)
    by false e inside chosen at =
        so_far ∙ ap (λ l. take i p ++ l) (step_false ms y i j lt e)
        ∙ grown None (fixed_to (drop (i + 1) ms) (drop j y)) chosen
        ∙ ap (λ n. take (i + 1) (set p i value) ++ fixed_to (drop (i + 1) ms) (drop n y)) (let h : j ≡ k = omega arith in h)

-- ---- a state and its outcome
pub measured-cons : (b : Bool) (ms : List Bool) → measured_count (b ∷ ms) ≡ cond b 1 0 + measured_count ms
measured-cons b ms = sum_by-append (λ c. cond c 1 0) (b ∷ []) ms ∙ omega arith

pub length-fixed_to : (ms y : List Bool) → length y ≡ measured_count ms → length (fixed_to ms y) ≡ length ms
length-fixed_to [] y count = refl
length-fixed_to (true ∷ ms) [] count = absurd (omega (arith, measured-cons true ms))
length-fixed_to (true ∷ ms) (b ∷ y) count = let rest = length-fixed_to ms y (omega (arith, measured-cons true ms)) in omega arith
length-fixed_to (false ∷ ms) y count = let rest = length-fixed_to ms y (omega (arith, measured-cons false ms)) in omega arith

same_bit : (a b : Bool) → beq a b ≡ true → a ≡ b
same_bit true true e = refl
same_bit false false e = refl
same_bit true false e = cc
same_bit false true e = cc

bit_same : (a : Bool) → beq a a ≡ true
bit_same true = refl
bit_same false = refl

-- a state agrees exactly where the bits of its measured qubits are the outcome
pub outcome_states : (ms x y : List Bool) → length x ≡ length ms → length y ≡ measured_count ms → (agrees (fixed_to ms y) x ≡ true) ↔ (measured_bits ms x ≡ y)
outcome_states [] x [] long count = (λ e. refl, λ e. refl)
outcome_states [] x (b ∷ y) long count = absurd (omega arith)
outcome_states (m ∷ ms) [] y long count = absurd (omega arith)
outcome_states (true ∷ ms) (c ∷ x) [] long count = absurd (omega (arith, measured-cons true ms))
outcome_states (true ∷ ms) (c ∷ x) (b ∷ y) long count =
    let rest = outcome_states ms x y (omega arith) (omega (arith, measured-cons true ms)) in (
      λ e. (let parts = and_parts (beq b c) (agrees (fixed_to ms y) x) e in ap₂ (λ d z. d ∷ z) (sym (same_bit b c parts.0)) (rest.0 parts.1)),
      λ e. (let first : c ≡ b = cc in let others : measured_bits ms x ≡ y = cc in
          ap₂ (λ p q. p && q) (ap (λ d. beq b d) first ∙ bit_same b) (rest.1 others)),
    )
outcome_states (false ∷ ms) (c ∷ x) y long count = outcome_states ms x y (omega arith) (omega (arith, measured-cons false ms))
