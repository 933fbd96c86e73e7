use Rattle.std.proofs.Common.{rules, ◌≡◌, ◌≢◌, ◌∙◌, ◌-◌, ℕ, zero, suc, nat_eq, List, [], ◌∷◌, length, Option, option_map, refl, sym, ap, arith}
use Rattle.std.specs.Str.{bytes_eq}
use Rattle.std.specs.Map.{lookup}
use Rattle.std.proofs.lemmas.Bool.{eq-eqb, ne_eqb, cond-true, cond-false}
use Rattle.qasm_gates.specs.Gates.{Builtin, based, bases, plainly, with_control}
use Rattle.qasm_gates.proofs.builtin.after_letter.Goals as goal

abbrev alone : List ℕ → Option Builtin
alone name = option_map plainly (lookup (bytes_eq name) bases)

none_left : (most : ℕ) (name : List ℕ) → most ≡ 0 → based most name ≡ alone name
unfolding based
none_left zero name e = refl
none_left (suc n) name e = absurd (omega arith)

nothing_there : (most : ℕ) (name : List ℕ) → length name ≡ 0 → based most name ≡ alone name
unfolding based
nothing_there zero name e = refl
nothing_there (suc n) [] e = refl
nothing_there (suc n) (b ∷ name) e = absurd (omega arith)

other_letter : (most b : ℕ) (rest : List ℕ) → b ≢ 99 → based most (b ∷ rest) ≡ alone (b ∷ rest)
unfolding based
other_letter zero b rest e = refl
other_letter (suc n) b rest e = cond-false (nat_eq b 99) _ _ (ne_eqb b 99 e)

one_letter : (most b : ℕ) (rest : List ℕ) → most ≢ 0 → b ≡ 99 → based most (b ∷ rest) ≡ option_map with_control (based (most - 1) rest)
unfolding based
one_letter zero b rest n e = absurd (n refl)
one_letter (suc n) b rest m e =
    let l : n ≡ suc n - 1 = omega arith in
    cond-true (nat_eq b 99) _ _ (eq-eqb b 99 e) ∙ ap (λ k. option_map with_control (based k rest)) l

pub returns-then-most-eq0 : goal.returns-then-most-eq0
returns-then-most-eq0 c = none_left c.args.most c.args.name.now c.if-most-eq0.true

pub returns-in_default : goal.returns-in_default
returns-in_default c = let e : length c.args.name.now ≡ 0 = search rules in nothing_there c.args.most c.args.name.now e

pub returns-then-first-eq99 : goal.returns-then-first-eq99
returns-then-first-eq99 c =
    let e : c.args.name.now ≡ c.in-Some.first.now ∷ c.in-Some.rest.now = search rules in
    (omega arith, ap (based c.args.most) e ∙ one_letter c.args.most c.in-Some.first.now c.in-Some.rest.now c.if-most-eq0.false c.if-first-eq99.true)

pub returns-else-first-eq99 : goal.returns-else-first-eq99
returns-else-first-eq99 c =
    let e : c.args.name.now ≡ c.in-Some.first.now ∷ c.in-Some.rest.now = search rules in
    ap (based c.args.most) e ∙ other_letter c.args.most c.in-Some.first.now c.in-Some.rest.now c.if-first-eq99.false ∙ ap alone (sym e)
