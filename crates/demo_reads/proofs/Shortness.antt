-- How long the text of `demo` is.
use Rattle.std.proofs.Common.{◌≡◌, ℕ, zero, suc, ◌*◌, ◌<◌, ◌≤◌, List, [], ◌∷◌, ◌++◌, map, length, min, codes, decimal, ◌∙◌, ap, arith, length-append}
use Rattle.std.specs.List.{AllByRecursion, range_with_len}
use Rattle.std.proofs.lemmas.Fmt.{length-decimal-le}
use Rattle.std.proofs.lemmas.List.{length-map}
use Rattle.std.proofs.lemmas.List.FromFn.{length-range_with_len}
use Rattle.gate_set.specs.declared.kind.Kind.{Kind}
use Rattle.gate_set.specs.declared.kind.Kind.TheVariants.{Cx, Cz, Swap, Ccx, Cswap}
use Rattle.gate_set.specs.Matrix.{arity_of}
use Rattle.qasm_gates.specs.Gates.{builtin}
use Rattle.demo_text.specs.Generator.{Call, call, name_at, kinds, drawn, place_text, places_text, line, first_calls, call_drawn, after_call, calls_drawn, head_text, demo_text}
use Rattle.demo_text.specs.Private.{more_places, lines}
use Rattle.demo_text.proofs.Writing.{demo_parted, places_is}
use Rattle.demo_reads.specs.Drawn.{kind_in}
use Rattle.demo_reads.proofs.Accepting.{IsCall}
use Rattle.demo_reads.proofs.Lines.{drawn_below, kinds_few}
use Rattle.demo_reads.proofs.Reading.{drawn_calls, first_are_calls, length_calls}

names_short : (k : ℕ) → k < 13 → length (name_at k) ≤ 5
unfolding name_at
names_short zero lt = omega arith
names_short (suc zero) lt = omega arith
names_short (suc (suc zero)) lt = omega arith
names_short (suc (suc (suc zero))) lt = omega arith
names_short (suc (suc (suc (suc zero)))) lt = omega arith
names_short (suc (suc (suc (suc (suc zero))))) lt = omega arith
names_short (suc (suc (suc (suc (suc (suc zero)))))) lt = omega arith
names_short (suc (suc (suc (suc (suc (suc (suc zero))))))) lt = omega arith
names_short (suc (suc (suc (suc (suc (suc (suc (suc zero)))))))) lt = omega arith
names_short (suc (suc (suc (suc (suc (suc (suc (suc (suc zero))))))))) lt = omega arith
names_short (suc (suc (suc (suc (suc (suc (suc (suc (suc (suc zero)))))))))) lt = omega arith
names_short (suc (suc (suc (suc (suc (suc (suc (suc (suc (suc (suc zero))))))))))) lt = omega arith
names_short (suc (suc (suc (suc (suc (suc (suc (suc (suc (suc (suc (suc zero)))))))))))) lt = omega arith
names_short (suc (suc (suc (suc (suc (suc (suc (suc (suc (suc (suc (suc (suc k))))))))))))) lt = absurd (omega arith)

arity_small : (k : Kind) → arity_of k ≤ 3
arity_small Cx = omega arith
arity_small Cz = omega arith
arity_small Swap = omega arith
arity_small Ccx = omega arith
arity_small Cswap = omega arith
arity_small _ = omega arith

place_short : (i : ℕ) → i < 64 → length (place_text i) ≤ 5
unfolding place_text
place_short i lt =
    let digits : length (decimal i) ≤ 2 = length-decimal-le 2 i (omega arith) (omega (arith, lt)) (omega (arith, lt)) in
    omega (arith, digits, length-append (decimal i) (codes "]"))

more_short : (is : List ℕ) → AllByRecursion (λ i. i < 64) is → length (more_places is) ≤ 6 * length is
unfolding more_places
more_short [] h = omega arith
more_short (i ∷ is) h = omega (arith, length-append (place_text i) (more_places is), place_short i h.0, more_short is h.1)

places_short : (is : List ℕ) → AllByRecursion (λ i. i < 64) is → length (places_text is) ≤ 6 * length is
unfolding places_text
places_short [] h = omega arith
places_short (i ∷ is) h = omega (arith, ap length (places_is i is), length-append (place_text i) (more_places is), place_short i h.0, more_short is h.1)

below_64 : (q : ℕ) (is : List ℕ) → q ≤ 64 → AllByRecursion (λ i. i < q) is → AllByRecursion (λ i. i < 64) is
below_64 q [] le h = tt
below_64 q (i ∷ is) le h = (omega (arith, le, h.0), below_64 q is le h.1)

line_short : (q : ℕ) (c : Call) → q ≤ 64 → IsCall q c → length c.name ≤ 5 → length (line c) ≤ 26
unfolding line
line_short q c le h short =
    omega (arith, length-append c.name (codes " " ++ (places_text c.on ++ codes ";\n")), length-append (places_text c.on) (codes ";\n"), places_short c.on (below_64 q c.on le h.below), h.count, arity_small (kind_in (builtin c.name)), short)

lines_short : (q : ℕ) (cs : List Call) → q ≤ 64 → AllByRecursion (IsCall q) cs → AllByRecursion (λ (c : Call). length c.name ≤ 5) cs → length (lines cs) ≤ 26 * length cs
lines_short q [] le h short = omega arith
lines_short q (c ∷ cs) le h short = omega (arith, length-append (line c) (lines cs), line_short q c le h.0 short.0, lines_short q cs le h.1 short.1)

drawn_short : (q n s : ℕ) → AllByRecursion (λ (c : Call). length c.name ≤ 5) (calls_drawn q n s)
unfolding calls_drawn call_drawn
drawn_short q zero s = tt
drawn_short q (suc n) s =
    let few = kinds_few q in
    (names_short (drawn (kinds q) s) (omega (arith, drawn_below (kinds q) s few.0, few.1)), drawn_short q n (after_call q s))

hadamards_short : (is : List ℕ) → AllByRecursion (λ (c : Call). length c.name ≤ 5) (map (λ i. call (codes "h") (i ∷ [])) is)
hadamards_short [] = tt
hadamards_short (i ∷ is) = (omega arith, hadamards_short is)

head_short : (q : ℕ) → q ≤ 64 → length (head_text q) ≤ 100
unfolding head_text
head_short q le =
    let digits : length (decimal q) ≤ 2 = length-decimal-le 2 q (omega arith) (omega (arith, le)) (omega (arith, le)) in
    omega (arith, digits, length-append (decimal q) (codes "];\n"))

pub demo_short : (q n seed : ℕ) → 1 ≤ q → q ≤ 64 → n ≤ 500000 → length (demo_text q n seed) ≤ 16777216
demo_short q n seed some le few =
    let first = lines_short q (first_calls q) le (first_are_calls q le) (hadamards_short (range_with_len 0 (min q 4))) in
    let more = lines_short q (calls_drawn q n seed) le (drawn_calls q n seed some le) (drawn_short q n seed) in
    let four : length (first_calls q) ≡ min q 4 = length-map (range_with_len 0 (min q 4)) (λ i. call (codes "h") (i ∷ [])) ∙ length-range_with_len 0 (min q 4) in
    omega (arith, ap length (demo_parted q n seed), length-append (head_text q) (lines (first_calls q) ++ lines (calls_drawn q n seed)), length-append (lines (first_calls q)) (lines (calls_drawn q n seed)), head_short q le, first, more, four, length_calls q n seed, few)
