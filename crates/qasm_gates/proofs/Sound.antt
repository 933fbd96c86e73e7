-- What gates mean has positive denominators, where the values of their angles have: so it is sound.
use Rattle.std.proofs.Common.{◌≡◌, ◌≢◌, refl, subst, ◌<◌, ℕ, List, [], ◌∷◌, ◌++◌, length, map, All, Option, Some, None, option_map, Result, Ok, Err, pos, ◌≤ℤ◌}
use Rattle.std.specs.Prelude.{AllPairs}
use Rattle.std.specs.List.{AllByRecursion}
use Rattle.std.specs.Option.{option_or}
use Rattle.std.specs.Str.{bytes_eq}
use Rattle.std.specs.Map.{lookup}
use Rattle.std.proofs.lemmas.List.Elements.{All-nil, All-cons}
use Rattle.std.proofs.lemmas.Option.{same_Some}
use Rattle.qasm_lex.specs.declared.refusal.AngleRefusal.{AngleRefusal}
use Rattle.qasm_lex.specs.declared.value.Value.{Value}
use Rattle.qasm_lex.specs.Fractions.{Ratio}
use Rattle.qasm_lex.specs.Expressions.{Tree, eval}
use Rattle.qasm_lex.specs.Values.{values, multiple_of}
use Rattle.qasm_lex.proofs.Denominators.{Positive, MayBePositive, eval_positive, multiple_positive}
use Rattle.qasm_gates.specs.Gates.{Builtin, builtin, Basic, Named, led, all_of, builtin_gate, call_on, gate_in}
use Rattle.qasm_gates.specs.Bodies.{Call, means_for, call_means, body_means, defined}
use Rattle.qasm_gates.specs.Private.Proper.{IsPositive, HasPositive, GivesPositive, IsSound}
use Rattle.qasm_gates.proofs.Builtins.{found_holds}
use Rattle.qasm_gates.proofs.Good.{IsProperCall, ok_mapped, joined_ok, builtin_good, body_good}

pub led_ok : {A : Type 0} (r : Result A AngleRefusal) (rest : Result (List A) AngleRefusal) (xs : List A) → led r rest ≡ Ok xs → (a : A) × (more : List A) × (r ≡ Ok a) × (rest ≡ Ok more) × (a ∷ more ≡ xs)
led_ok (Ok a) (Ok more) xs e = (a, more, refl, refl, (let q : a ∷ more ≡ xs = cc e in q))
led_ok (Ok a) (Err x) xs e = absurd cc
led_ok (Err x) rest xs e = absurd cc

multiples_positive : (vs : List Value) (qs : List Ratio) → AllByRecursion IsPositive vs → all_of (map (λ v. multiple_of (Ok v)) vs) ≡ Ok qs → AllByRecursion (λ (q : Ratio). pos 1 ≤ℤ q.den) qs
multiples_positive [] qs a e = let q : [] ≡ qs = cc e in subst (AllByRecursion (λ (q : Ratio). pos 1 ≤ℤ q.den)) q tt
multiples_positive (v ∷ vs) qs a e =
    let l = led_ok (multiple_of (Ok v)) (all_of (map (λ v. multiple_of (Ok v)) vs)) qs e in
    subst (AllByRecursion (λ (q : Ratio). pos 1 ≤ℤ q.den)) l.4 (subst Positive l.2 (multiple_positive (Ok v) a.0), multiples_positive vs l.1 a.1 l.3)

pub builtin_positive : (b : Builtin) → GivesPositive (builtin_gate b)
builtin_positive b vs basics a e =
    let m = ok_mapped _ (all_of (map (λ v. multiple_of (Ok v)) vs)) basics e in
    subst (AllByRecursion HasPositive) m.2 (multiples_positive vs m.0 a m.1, tt)

-- the values of angles over parameters
pub values_positive : (given : List Value) → AllByRecursion IsPositive given → (trees : List Tree) (vs : List Value) → all_of (map (eval (values given)) trees) ≡ Ok vs → AllByRecursion IsPositive vs
values_positive given a [] vs e = let q : [] ≡ vs = cc e in subst (AllByRecursion IsPositive) q tt
values_positive given a (t ∷ trees) vs e =
    let l = led_ok (eval (values given) t) (all_of (map (eval (values given)) trees)) vs e in
    subst (AllByRecursion IsPositive) l.4 (subst MayBePositive l.2 (eval_positive given a t), values_positive given a trees l.1 l.3)

on_positive : (js : List ℕ) (basics : List Basic) → AllByRecursion HasPositive basics → AllByRecursion HasPositive (map (call_on js) basics)
on_positive js [] a = tt
on_positive js (c ∷ basics) a = (a.0, on_positive js basics a.1)

both_positive : (xs ys : List Basic) → AllByRecursion HasPositive xs → AllByRecursion HasPositive ys → AllByRecursion HasPositive (xs ++ ys)
both_positive [] ys a b = b
both_positive (x ∷ xs) ys a b = (a.0, both_positive xs ys a.1 b)

means_ok : (g : Named) (r : Result (List Value) AngleRefusal) (basics : List Basic) → means_for g r ≡ Ok basics → (vs : List Value) × (r ≡ Ok vs) × (g.means vs ≡ Ok basics)
means_ok g (Ok vs) basics e = (vs, refl, e)
means_ok g (Err x) basics e = absurd cc

-- a call, where the values of its angles may be refused
pub called_positive : (g : Named) (r : Result (List Value) AngleRefusal) (basics : List Basic) → GivesPositive g → ((vs : List Value) → r ≡ Ok vs → AllByRecursion IsPositive vs) → means_for g r ≡ Ok basics → AllByRecursion HasPositive basics
called_positive g r basics h a e = let v = means_ok g r basics e in h v.0 basics (a v.0 v.1) v.2

call_positive : (c : Call) → GivesPositive c.called → (given : List Value) (basics : List Basic) → AllByRecursion IsPositive given → call_means given c ≡ Ok basics → AllByRecursion HasPositive basics
call_positive c h given basics a e =
    let r = all_of (map (eval (values given)) c.angles) in
    let m = ok_mapped (map (call_on c.on)) (means_for c.called r) basics e in
    subst (AllByRecursion HasPositive) m.2 (on_positive c.on m.0 (called_positive c.called r m.0 h (λ vs q. values_positive given a c.angles vs q) m.1))

body_positive : (calls : List Call) → AllByRecursion (λ c. GivesPositive c.called) calls → (given : List Value) (basics : List Basic) → AllByRecursion IsPositive given → body_means given calls ≡ Ok basics → AllByRecursion HasPositive basics
body_positive [] h given basics a e = let q : [] ≡ basics = cc e in subst (AllByRecursion HasPositive) q tt
body_positive (c ∷ calls) h given basics a e =
    let j = joined_ok (call_means given c) (body_means given calls) basics e in
    subst (AllByRecursion HasPositive) j.4 (both_positive j.0 j.1 (call_positive c h.0 given j.0 a j.2) (body_positive calls h.1 given j.1 a j.3))

pub builtin_sound : (b : Builtin) → (name : List ℕ) × (builtin name ≡ Some b) → IsSound (builtin_gate b)
builtin_sound b named = record { good = builtin_good b named; positive = builtin_positive b }

-- a call in a body: of a sound gate, on as many different arguments of the one that is defined as it asks for
pub record IsSoundCall (n : ℕ) (c : Call) : Type 0 where
  pub called : IsSound c.called
  pub counted : length c.on ≡ c.called.arity
  pub below : All (λ k. k < n) c.on
  pub different : AllPairs (λ p q. p ≢ q) c.on

calls_proper : (n : ℕ) (calls : List Call) → AllByRecursion (IsSoundCall n) calls → All (IsProperCall n) calls
calls_proper n [] a = All-nil (IsProperCall n)
calls_proper n (c ∷ calls) a =
    All-cons (IsProperCall n) c calls (record { good = a.0.called.good; counted = a.0.counted; below = a.0.below; different = a.0.different }) (calls_proper n calls a.1)

calls_positive : (n : ℕ) (calls : List Call) → AllByRecursion (IsSoundCall n) calls → AllByRecursion (λ c. GivesPositive c.called) calls
calls_positive n [] a = tt
calls_positive n (c ∷ calls) a = (a.0.called.positive, calls_positive n calls a.1)

pub defined_sound : (params formals : ℕ) (calls : List Call) → AllByRecursion (IsSoundCall formals) calls → IsSound (defined params formals calls)
defined_sound params formals calls a = record {
  good = λ vs basics e. body_good formals calls vs basics (calls_proper formals calls a) e;
  positive = λ vs basics p e. body_positive calls (calls_positive formals calls a) vs basics p e;
}

-- the gate of a name, where those that are defined are sound
pub found_sound : (definitions : List (List ℕ × Named)) (name : List ℕ) (g : Named) → AllByRecursion (λ e. IsSound e.1) definitions → gate_in definitions name ≡ Some g → IsSound g
found_sound definitions name g a e = by (builtin name) refl e
  where
    by : (x : Option Builtin) → builtin name ≡ x → option_or (option_map builtin_gate x) (lookup (bytes_eq name) definitions) ≡ Some g → IsSound g
    by (Some b) h e = subst IsSound (same_Some (builtin_gate b) g e) (builtin_sound b (name, h))
    by None h e = found_holds IsSound (bytes_eq name) definitions g a e
