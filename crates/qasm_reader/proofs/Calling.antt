-- Statements carried out, by what the code has found.
use Rattle.std.proofs.Common.{◌≡◌, ◌∙◌, sym, ap, refl, ◌≤◌, ◌<◌, ℕ, zero, suc, ◌+◌, ◌*◌, min, take, Bool, true, false, ◌||◌, not, cond, nat_eq, nat_lt, List, [], ◌∷◌, length, Option, Some, None, Result, Ok, Err, arith}
use Rattle.std.specs.List.{list_any}
use Rattle.std.specs.Option.{option_map_or}
use Rattle.std.proofs.Math.Nat.{mul-zero, mul-suc}
use Rattle.std.proofs.lemmas.Bool.{cond-true, cond-false, ltb-false, eqb-true}
use Rattle.std.proofs.lemmas.Bool.Decides.{nat_tests, Decides-ltb}
use Rattle.std.proofs.lemmas.List.{take_all}
use Rattle.qasm_lex.specs.Lexemes.{Lexeme}
use Rattle.qasm_forms.specs.Statements.{Argument}
use Rattle.qasm_gates.specs.Gates.{Meaning, Named}
use Rattle.qasm_gates.specs.Private.Tables.{many_items}
use Rattle.qasm_reader.specs.declared.registers.Miss.{Miss}
use Rattle.qasm_reader.specs.declared.reason.Why.TheVariants.{UnknownRegister, WrongCount, SizesDiffer, RepeatedQubit}
use Rattle.qasm_reader.specs.Acts.{Register, Target, target, targets, wholes, place_count, qubit_at}
use Rattle.qasm_reader.specs.Reasons.{is_unknown, is_beyond}
use Rattle.qasm_reader.specs.Private.Meanings.{meaning_of}
use Rattle.qasm_reader.specs.Private.Scope.{found_as, find, both_found, many, differ, repeats, wrong_counts}
use Rattle.qasm_reader.specs.Private.Drafts.{Draft, IsDraft, itemed, judged, applied, gate_on}
use Rattle.qasm_reader.proofs.Looking.{length_targets}
use Rattle.qasm_reader.proofs.Placing.{qubit_below, many_repeat}

-- counts up to a most
same_count : (most n a : ℕ) → a < most → nat_eq (min n most) a ≡ nat_eq n a
same_count most n a h = grind (arith, nat_tests)

-- a gate has fewer than the most arguments and angles
pub counts_are : (called : Named) (a k n m : ℕ) → called.arity < many → called.angles < many → a ≡ min n many → k ≡ min m many
    → not (nat_eq a called.arity) || not (nat_eq k called.angles) ≡ wrong_counts called n m
counts_are called a k n m few some e f =
    ap (λ x. not (nat_eq x called.arity) || not (nat_eq k called.angles)) e ∙ ap (λ x. not (nat_eq (min n many) called.arity) || not (nat_eq x called.angles)) f
    ∙ ap (λ x. not x || not (nat_eq (min m many) called.angles)) (same_count many n called.arity few) ∙ ap (λ x. not (nat_eq n called.arity) || not x) (same_count many m called.angles some)

-- what is known of a call of which nothing misses
pub record Met (d : Draft) (all : List Argument) (ts : List Target) : Type 0 where
  pub known : list_any (is_unknown d.registers true) all ≡ false
  pub within : list_any (is_beyond d.registers) all ≡ false
  pub are : targets d.registers all ≡ Some ts

pub met : (d : Draft) (all : List Argument) (r : List (List ℕ × Register)) → r ≡ d.registers → (u b : Bool) → u ≡ list_any (is_unknown r true) all → (u ≡ false → b ≡ list_any (is_beyond r) all) → u ≡ false → b ≡ false
    → (ts : List Target) → targets r all ≡ Some ts → Met d all ts
met d all r regs u b unknown beyond fu fb ts e = record {
  known = ap (λ r. list_any (is_unknown r true) all) (sym regs) ∙ sym unknown ∙ fu;
  within = ap (λ r. list_any (is_beyond r) all) (sym regs) ∙ sym (beyond fu) ∙ fb;
  are = ap (λ r. targets r all) (sym regs) ∙ e;
}

module _ (d : Draft) (called : Named) (angles : List (List Lexeme)) (all : List Argument) (ts : List Target) (m : Met d all ts) where
  -- the tests that are left
  met_on : gate_on d called angles all ≡ cond (wrong_counts called (length all) (length angles)) (Err WrongCount) (applied d called (meaning_of called angles) ts)
  met_on =
      cond-false _ _ _ m.known ∙ cond-false _ _ _ m.within
      ∙ ap (λ x. cond (wrong_counts called (length all) (length angles)) (Err WrongCount) (option_map_or (applied d called (meaning_of called angles)) x (Err UnknownRegister))) m.are

  pub miscounted : wrong_counts called (length all) (length angles) ≡ true → Err WrongCount ≡ gate_on d called angles all
  miscounted e = sym (met_on ∙ cond-true _ _ _ e)

  module _ (counts : wrong_counts called (length all) (length angles) ≡ false) where
    counted : gate_on d called angles all ≡ applied d called (meaning_of called angles) ts
    counted = met_on ∙ cond-false _ _ _ counts

    pub differing : differ (wholes ts) ≡ true → Err SizesDiffer ≡ gate_on d called angles all
    differing e = sym (counted ∙ cond-true _ _ _ e)

    pub repeating : differ (wholes ts) ≡ false → repeats ts ≡ true → Err RepeatedQubit ≡ gate_on d called angles all
    repeating a e = sym (counted ∙ cond-false _ _ _ a ∙ cond-true _ _ _ e)

    pub going_on : differ (wholes ts) ≡ false → repeats ts ≡ false → itemed d (called.items * place_count ts) (meaning_of called angles) ts ≡ gate_on d called angles all
    going_on a e = sym (counted ∙ cond-false _ _ _ a ∙ cond-false _ _ _ e)

-- the test of repeats on the first 64 targets
pub repeats_are : (d : Draft) → IsDraft d → (all : List Argument) (ts : List Target) → Met d all ts → differ (wholes ts) ≡ false → (n : ℕ) → n ≡ min (length all) many → (first : List Target) → first ≡ take 64 ts
    → nat_lt 64 n || repeats first ≡ repeats ts
repeats_are d i all ts m a n e first f = by (nat_lt 64 n) refl
  where
    by : (b : Bool) → nat_lt 64 n ≡ b → b || repeats first ≡ repeats ts
    by true h = let l = (Decides-ltb 64 n).0 h in sym (many_repeat d i all ts m.known m.within m.are a (omega (arith, min)))
    by false h =
        let l = ltb-false 64 n h in let k = length_targets d.registers all ts m.are in
        ap repeats (f ∙ take_all 64 ts (omega (arith, min)))

-- all targets are among the first 64
pub all_first : (d : Draft) (all : List Argument) (ts : List Target) → Met d all ts → (n : ℕ) → n ≡ min (length all) many → (first : List Target) → first ≡ take 64 ts → nat_lt 64 n || repeats first ≡ false → first ≡ ts
all_first d all ts m n e first f h = by (nat_lt 64 n) refl h
  where
    by : (b : Bool) → nat_lt 64 n ≡ b → b || repeats first ≡ false → first ≡ ts
    by true g h = absurd cc
    by false g h = let l = ltb-false 64 n g in let k = length_targets d.registers all ts m.are in f ∙ take_all 64 ts (omega (arith, min))

right_first : (a b : Bool) → not a || not b ≡ false → a ≡ true
right_first true b e = refl
right_first false b e = absurd cc

right_last : (a b : Bool) → not a || not b ≡ false → b ≡ true
right_last true true e = refl
right_last true false e = absurd cc
right_last false b e = absurd cc

-- what the test of counts says
pub right_arity : (called : Named) (n k : ℕ) → wrong_counts called n k ≡ false → n ≡ called.arity
right_arity called n k e = eqb-true n called.arity (right_first _ _ e)

pub right_angles : (called : Named) (n k : ℕ) → wrong_counts called n k ≡ false → k ≡ called.angles
right_angles called n k e = eqb-true k called.angles (right_last (nat_eq n called.arity) _ e)

-- items that fit are counted as they are
pub items_fit : (have items all places : ℕ) → items ≡ min all many_items → have + items * places ≤ 4000000 → items * places ≡ all * places
items_fit have items all zero e h = let a = mul-zero items in let b = mul-zero all in omega arith
items_fit have items all (suc p) e h = let a = mul-suc items p in ap (λ n. n * suc p) (omega (arith, min))

pub itemed_is : (d : Draft) (n all places : ℕ) (m same : Meaning) (ts : List Target) → n ≡ all * places → nat_lt 4000000 (d.items + all * places) ≡ false → same ≡ m → judged d n same ts ≡ itemed d (all * places) m ts
itemed_is d n all places m same ts e f g = ap (λ n. judged d n same ts) e ∙ ap (λ m. judged d (all * places) m ts) g ∙ sym (cond-false _ _ _ f)

-- the first of two that are found
pub first_found : (u b : Bool) (x : Option Target) (r : Result Target Miss) (p : Target × Target) → both_found (found_as u b x) r ≡ Ok p → (u ≡ false) × (b ≡ false) × (x ≡ Some p.0)
first_found true b x r p e = absurd cc
first_found false true x (Ok y) p e = absurd cc
first_found false true x (Err m) p e = absurd cc
first_found false false None r p e = absurd cc
first_found false false (Some f) (Err m) p e = absurd cc
first_found false false (Some f) (Ok t) p e = let q : (f, t) ≡ p = cc in (refl, refl, ap (λ (x : Target × Target). Some x.0) q)

-- a qubit of it is one of the draft's
pub found_below : (d : Draft) → IsDraft d → (from : Argument) (other : Result Target Miss) (p : Target × Target) → both_found (find d.registers true from) other ≡ Ok p
    → (place : ℕ) → place < place_count (p.0 ∷ []) → qubit_at place p.0 < d.qubits
found_below d i from other p e place h =
    let f = first_found (is_unknown d.registers true from) (is_beyond d.registers from) (target d.registers from) other p e in
    qubit_below d.qubits d.registers i.registers_end from p.0 f.0 f.1 f.2 place h
