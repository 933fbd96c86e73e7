-- What calls do, as a list and as a count: what the functions tell, calls do, and they do nothing else.
use Rattle.std.proofs.Common.{◌≡◌, ◌∙◌, sym, ap, refl, subst, ℕ, ◌+◌, ◌-◌, min, Bool, true, false, cond, nat_eq, nat_le, List, [], ◌∷◌, ◌++◌, length, map, replicate, Option, Some, None, option_map, unwrap_or, Ok, Err, length-append, pos, ◌≤ℤ◌}
use Rattle.std.specs.List.{AllByRecursion}
use Rattle.std.proofs.lemmas.List.{length-map, length-replicate}
use Rattle.std.proofs.lemmas.Option.{same_Some}
use Rattle.gate_set.specs.declared.kind.Kind.{Kind}
use Rattle.gate_set.specs.declared.kind.Kind.TheVariants.{Id}
use Rattle.qasm_lex.specs.declared.refusal.AngleRefusal.{AngleRefusal}
use Rattle.qasm_lex.specs.Fractions.{Ratio}
use Rattle.qasm_gates.specs.Gates.{Item, Base, gate, turn, phase, Builtin, Gives, plain, turned, phased, Basic, Meaning, Do, one, turns, item_on}
use Rattle.qasm_gates.specs.Private.Seen.{items_of}
use Rattle.qasm_gates.specs.Private.Counts.{whole_turns, turn_body, phase_body, body_of, gate_count, both_counts, count_of, tally, capped, many, basic_items, items_done}
use Rattle.qasm_gates.specs.Private.Proper.{HasPositive}
use Rattle.qasm_gates.proofs.WholeTurns.{quarters_found, quarters_only, eighths_found, eighths_only}

mapped_some : {A B : Type 0} (f : A → B) (x : Option A) (b : B) → option_map f x ≡ Some b → (a : A) × (x ≡ Some a) × (f a ≡ b)
mapped_some f None b e = absurd cc
mapped_some f (Some a) b e = (a, refl, same_Some (f a) b e)

turn_items : (n : ℕ) (forth back : Kind) (m : ℕ) → items_of n (turn_body forth back m) ≡ turns n forth back m
turn_items n forth back m = by (nat_eq m 0) (nat_le m 4)
  where
    by : (x y : Bool) → items_of n (cond x (Id, 1) (cond y (forth, m) (back, 8 - m))) ≡ cond x (one n Id ∷ []) (cond y (replicate m (one n forth)) (replicate (8 - m) (one n back)))
    by true y = refl
    by false true = refl
    by false false = refl

-- what a built-in gate comes to, it gives
pub body_gives : (b : Builtin) (angles : List Ratio) (p : Kind × ℕ) → body_of b.base angles ≡ Some p → Gives b angles (items_of b.controls p)
body_gives b angles p e = by b.base angles refl refl e
  where
    by : (base : Base) (qs : List Ratio) → b.base ≡ base → angles ≡ qs → body_of base qs ≡ Some p → Gives b angles (items_of b.controls p)
    by (gate kind) [] h i e = plain kind h i (ap (items_of b.controls) (sym (same_Some (kind, 1) p e)))
    by (gate kind) (q ∷ more) h i e = absurd cc
    by (turn forth back) [] h i e = absurd cc
    by (turn forth back) (q ∷ []) h i e =
        let m = mapped_some (turn_body forth back) (whole_turns 2 q) p e in
        turned forth back q m.0 h i (quarters_found q m.0 m.1) (ap (items_of b.controls) (sym m.2) ∙ turn_items b.controls forth back m.0)
    by (turn forth back) (q ∷ r ∷ more) h i e = absurd cc
    by phase [] h i e = absurd cc
    by phase (q ∷ []) h i e = let m = mapped_some phase_body (whole_turns 4 q) p e in phased q m.0 h i (eighths_found q m.0 m.1) (ap (items_of b.controls) (sym m.2))
    by phase (q ∷ r ∷ more) h i e = absurd cc

-- and what it gives, it comes to
pub gives_only : (b : Builtin) (angles : List Ratio) (items : List Item) → AllByRecursion (λ (q : Ratio). pos 1 ≤ℤ q.den) angles → Gives b angles items
    → (p : Kind × ℕ) × (body_of b.base angles ≡ Some p) × (items ≡ items_of b.controls p)
gives_only b angles items a (plain kind h v i) = ((kind, 1), ap (λ x. body_of x angles) h ∙ ap (body_of (gate kind)) v, i)
gives_only b angles items a (turned forth back f m h v q i) =
    let p = subst (AllByRecursion (λ (q : Ratio). pos 1 ≤ℤ q.den)) v a in
    (turn_body forth back m, ap (λ x. body_of x angles) h ∙ ap (body_of (turn forth back)) v ∙ ap (option_map (turn_body forth back)) (quarters_only f m p.0 q), i ∙ sym (turn_items b.controls forth back m))
gives_only b angles items a (phased f m h v q i) =
    let p = subst (AllByRecursion (λ (q : Ratio). pos 1 ≤ℤ q.den)) v a in
    (phase_body m, ap (λ x. body_of x angles) h ∙ ap (body_of phase) v ∙ ap (option_map phase_body) (eighths_only f m p.0 q), i)

-- the gates of one call, by what it comes to
call_items : (c : Basic) (p : Kind × ℕ) → body_of c.gate.base c.angles ≡ Some p → basic_items c ≡ map (item_on c.on) (items_of c.gate.controls p)
call_items c p e = ap (λ x. map (item_on c.on) (unwrap_or (option_map (items_of c.gate.controls) x) [])) e

items_length : (on : List ℕ) (n : ℕ) (p : Kind × ℕ) → length (map (item_on on) (items_of n p)) ≡ p.1
items_length on n p = length-map (items_of n p) (item_on on) ∙ length-replicate p.1 (one n p.0)

both_some : (x y : Option ℕ) (n : ℕ) → both_counts x y ≡ Some n → (a b : ℕ) × (x ≡ Some a) × (y ≡ Some b) × (a + b ≡ n)
both_some (Some a) (Some b) n e = (a, b, refl, refl, same_Some (a + b) n e)
both_some (Some a) None n e = absurd cc
both_some None y n e = absurd cc

-- calls that have a count do their gates, so many
pub counted_does : (basics : List Basic) (n : ℕ) → count_of basics ≡ Some n → Do basics (items_done basics) × (length (items_done basics) ≡ n)
counted_does [] n e = (refl, same_Some 0 n e)
counted_does (c ∷ basics) n e =
    let s = both_some (gate_count c.gate c.angles) (count_of basics) n e in
    let p = mapped_some (λ (p : Kind × ℕ). p.1) (body_of c.gate.base c.angles) s.0 s.2 in
    let more = counted_does basics s.1 s.3 in
    let first = call_items c p.0 p.1 in
    let size : length (basic_items c) ≡ s.0 = ap length first ∙ items_length c.on c.gate.controls p.0 ∙ p.2 in (
      (items_of c.gate.controls p.0, items_done basics, body_gives c.gate c.angles p.0 p.1, more.0, ap (λ xs. xs ++ items_done basics) first),
      length-append (basic_items c) (items_done basics) ∙ ap (λ k. k + length (items_done basics)) size ∙ ap (λ k. s.0 + k) more.1 ∙ s.4,
    )

-- calls do nothing else, and are counted by what they do
pub does_only : (basics : List Basic) (items : List Item) → AllByRecursion HasPositive basics → Do basics items → (count_of basics ≡ Some (length items)) × (items ≡ items_done basics)
does_only [] items a d = (ap (λ (xs : List Item). Some (length xs)) (sym d), d)
does_only (c ∷ basics) items a d =
    let b = gives_only c.gate c.angles d.0 a.0 d.2 in
    let more = does_only basics d.1 a.1 d.3 in
    let first : map (item_on c.on) d.0 ≡ map (item_on c.on) (items_of c.gate.controls b.0) = ap (map (item_on c.on)) b.2 in
    let size : b.0.1 + length d.1 ≡ length items =
    sym (ap length d.4 ∙ length-append (map (item_on c.on) d.0) d.1 ∙ ap (λ k. k + length d.1) (ap length first ∙ items_length c.on c.gate.controls b.0)) in (
      ap (λ x. both_counts (option_map (λ (p : Kind × ℕ). p.1) x) (count_of basics)) b.1 ∙ ap (both_counts (Some b.0.1)) more.0 ∙ ap Some size,
      d.4 ∙ ap (λ xs. xs ++ d.1) (first ∙ sym (call_items c b.0 b.1)) ∙ ap (λ xs. basic_items c ++ xs) more.1,
    )

-- they do one list of gates
pub does_once : (basics : List Basic) (first more : List Item) → AllByRecursion HasPositive basics → Do basics first → Do basics more → first ≡ more
does_once basics first more a d e = (does_only basics first a d).1 ∙ sym ((does_only basics more a e).1)

-- calls that have no count do nothing: an angle is off its grid
pub uncounted_does_nothing : (basics : List Basic) (items : List Item) → AllByRecursion HasPositive basics → count_of basics ≡ None → Do basics items → ⊥
uncounted_does_nothing basics items a n d = let q : None ≡ Some (length items) = sym n ∙ (does_only basics items a d).0 in absurd cc

-- a meaning with a tally of gates: calls that have so many
pub tally_some : (m : Meaning) (n : ℕ) → tally m ≡ Ok (Some n) → (basics : List Basic) × (m ≡ Ok basics) × Do basics (items_done basics) × (length (items_done basics) ≡ n)
tally_some (Ok basics) n e = let d = counted_does basics n (let q : count_of basics ≡ Some n = cc e in q) in (basics, refl, d.0, d.1)
tally_some (Err x) n e = absurd cc

-- a judgement is that of a tally
pub judged_some : (m : Meaning) (k : ℕ) → Ok (Some k) ≡ capped (tally m) → (basics : List Basic) × (n : ℕ) × (m ≡ Ok basics) × (count_of basics ≡ Some n) × (k ≡ min n many)
judged_some (Err x) k e = absurd cc
judged_some (Ok basics) k e = let n = by (count_of basics) refl e in (basics, n.0, refl, n.1, n.2)
  where
    by : (x : Option ℕ) → count_of basics ≡ x → Ok (Some k) ≡ capped (Ok x) → (n : ℕ) × (count_of basics ≡ Some n) × (k ≡ min n many)
    by None h e = absurd cc
    by (Some n) h e = (n, h, (let q : k ≡ min n many = cc e in q))

pub judged_none : (m : Meaning) → Ok None ≡ capped (tally m) → (basics : List Basic) × (m ≡ Ok basics) × (count_of basics ≡ None)
judged_none (Err x) e = absurd cc
judged_none (Ok basics) e = (basics, refl, by (count_of basics) refl e)
  where
    by : (x : Option ℕ) → count_of basics ≡ x → Ok None ≡ capped (Ok x) → count_of basics ≡ None
    by None h e = h
    by (Some n) h e = absurd cc

pub judged_refused : (m : Meaning) (x : AngleRefusal) → Err x ≡ capped (tally m) → m ≡ Err x
judged_refused (Ok basics) x e = absurd cc
judged_refused (Err y) x e = let q : x ≡ y = cc e in ap Err (sym q)
