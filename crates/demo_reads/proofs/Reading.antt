-- The text of `demo` reads as the circuit of its calls.
use Rattle.std.proofs.Common.{◌≡◌, ◌≢◌, ℕ, zero, suc, ◌+◌, ◌-◌, ◌*◌, ◌<◌, ◌≤◌, ◌^◌, Bool, true, false, cond, nat_eq, nat_lt, List, [], ◌∷◌, ◌++◌, map, length, get_or, min, codes, decimal, Some, None, inl, inr, refl, sym, ◌∙◌, ap, subst, arith, rules, length-append, replicate}
use Rattle.std.specs.Prelude.{◌||◌}
use Rattle.std.specs.List.{AllByRecursion, list_any, range_with_len, remove}
use Rattle.std.specs.Int.Digits.{digits_of, number_from_digits_after}
use Rattle.std.proofs.Math.Nat.{pow-suc}
use Rattle.std.proofs.lemmas.Bool.{cases_eq, cases_Bool, cond-true, cond-false, ne_eqb}
use Rattle.std.proofs.lemmas.Int.Digits.{number_digits_of}
use Rattle.std.proofs.lemmas.Fmt.{decimal-digits_of, decimal_digit}
use Rattle.std.proofs.lemmas.List.{length-map, map-append, replicate-append-replicate}
use Rattle.std.proofs.lemmas.List.Edits.{length-remove}
use Rattle.std.proofs.lemmas.List.FromFn.{length-range_with_len}
use Rattle.gate_set.specs.declared.gate.Gate.{Gate as GateOf}
use Rattle.gate_set.specs.Circuits.{Circuit}
use Rattle.gate_set.specs.Matrix.{arity_of}
use Rattle.qasm_lex.specs.Symbols.{decimal as read_decimal}
use Rattle.qasm_forms.specs.Statements.{Statement, version, include, qubits, is_name}
use Rattle.qasm_reader.specs.Profile.{leaves}
use Rattle.qasm_reader.specs.Parts.{Has}
use Rattle.qasm_gates.specs.Gates.{up_to, gate, plainly, based, builtin}
use Rattle.qasm_reader.specs.Acts.{Act, nothing, declares, qubit_count, gates, measured, is_among, circuit_of}
use Rattle.qasm_reader.specs.Calls.{Does}
use Rattle.qasm_reader.specs.Reasons.{no_size}
use Rattle.qasm_reader.specs.Private.Scope.{has_twice}
use Rattle.qasm_reader.specs.Reading.{Accepts, AllAccepted, Reads, ReadsAs, circuit}
use Rattle.demo_text.specs.Generator.{Call, call, name_at, kinds, drawn, next, arity, qubits_drawn, call_drawn, after_call, calls_drawn, first_calls, demo_calls, demo_text}
use Rattle.demo_reads.specs.Drawn.{kind_in, gate_of, drawn_circuit}
use Rattle.demo_reads.proofs.Acting.{closed_part, demo_statements, head_acts, demo_acts, HasStatements}
use Rattle.demo_reads.proofs.Accepting.{Harmless, free_of, Known, IsCall, accept_calls, known_calls}
use Rattle.demo_reads.proofs.Lines.{all_at, drawn_below, kinds_few}

-- the names are those of gates
record NameOk (bs : List ℕ) (n : ℕ) : Type 0 where
  name : is_name bs ≡ true
  kept : leaves [] bs ≡ false
  gate : builtin bs ≡ Some (plainly (gate (kind_in (builtin bs))))
  count : arity_of (kind_in (builtin bs)) ≡ n

names_ok : (k : ℕ) → k < 13 → NameOk (name_at k) (arity k)
unfolding name_at is_name based builtin
names_ok zero lt = record { name = refl; kept = refl; gate = refl; count = refl }
names_ok (suc zero) lt = record { name = refl; kept = refl; gate = refl; count = refl }
names_ok (suc (suc zero)) lt = record { name = refl; kept = refl; gate = refl; count = refl }
names_ok (suc (suc (suc zero))) lt = record { name = refl; kept = refl; gate = refl; count = refl }
names_ok (suc (suc (suc (suc zero)))) lt = record { name = refl; kept = refl; gate = refl; count = refl }
names_ok (suc (suc (suc (suc (suc zero))))) lt = record { name = refl; kept = refl; gate = refl; count = refl }
names_ok (suc (suc (suc (suc (suc (suc zero)))))) lt = record { name = refl; kept = refl; gate = refl; count = refl }
names_ok (suc (suc (suc (suc (suc (suc (suc zero))))))) lt = record { name = refl; kept = refl; gate = refl; count = refl }
names_ok (suc (suc (suc (suc (suc (suc (suc (suc zero)))))))) lt = record { name = refl; kept = refl; gate = refl; count = refl }
names_ok (suc (suc (suc (suc (suc (suc (suc (suc (suc zero))))))))) lt = record { name = refl; kept = refl; gate = refl; count = refl }
names_ok (suc (suc (suc (suc (suc (suc (suc (suc (suc (suc zero)))))))))) lt = record { name = refl; kept = refl; gate = refl; count = refl }
names_ok (suc (suc (suc (suc (suc (suc (suc (suc (suc (suc (suc zero))))))))))) lt = record { name = refl; kept = refl; gate = refl; count = refl }
names_ok (suc (suc (suc (suc (suc (suc (suc (suc (suc (suc (suc (suc zero)))))))))))) lt = record { name = refl; kept = refl; gate = refl; count = refl }
names_ok (suc (suc (suc (suc (suc (suc (suc (suc (suc (suc (suc (suc (suc k))))))))))))) lt = absurd (omega arith)

h_ok : NameOk (codes "h") 1
unfolding is_name based builtin
h_ok = record { name = refl; kept = refl; gate = refl; count = refl }

-- lists without repetition
abbrev Lacks : ℕ → List ℕ → Type 0
Lacks x xs = AllByRecursion (λ y. x ≢ y) xs

Distinct : List ℕ → Type 0
Distinct [] = Unit {0}
Distinct (x ∷ xs) = Lacks x xs × Distinct xs

all_remove : (P : ℕ → Type 0) (xs : List ℕ) (i : ℕ) → AllByRecursion P xs → AllByRecursion P (remove xs i)
all_remove P [] zero h = tt
all_remove P [] (suc i) h = tt
all_remove P (x ∷ xs) zero h = h.1
all_remove P (x ∷ xs) (suc i) h = (h.0, all_remove P xs i h.1)

distinct_remove : (xs : List ℕ) (i : ℕ) → Distinct xs → Distinct (remove xs i)
unfolding Distinct
distinct_remove [] zero h = tt
distinct_remove [] (suc i) h = tt
distinct_remove (x ∷ xs) zero h = h.1
distinct_remove (x ∷ xs) (suc i) h = (all_remove (λ y. x ≢ y) xs i h.0, distinct_remove xs i h.1)

lacks_removed : (xs : List ℕ) (i : ℕ) → Distinct xs → i < length xs → Lacks (get_or xs i 0) (remove xs i)
unfolding Distinct
lacks_removed [] i h lt = absurd (omega arith)
lacks_removed (x ∷ xs) zero h lt = h.0
lacks_removed (x ∷ xs) (suc i) h lt =
    let other : x ≢ get_or xs i 0 = all_at (λ y. x ≢ y) xs i 0 h.0 (omega arith) in
    (λ e. other (sym e), lacks_removed xs i h.1 (omega arith))

left_length : (free : List ℕ) (n i : ℕ) → suc n ≤ length free → i < length free → n ≤ length (remove free i)
left_length free n i le lt = omega (arith, length-remove free i lt, le)

index_below : (n : ℕ) (free : List ℕ) (s : ℕ) → suc n ≤ length free → drawn (length free) s < length free
index_below n free s le = drawn_below (length free) s (omega (arith, le))

all_drawn : (P : ℕ → Type 0) (n : ℕ) (free : List ℕ) (s : ℕ) → AllByRecursion P free → n ≤ length free → AllByRecursion P (qubits_drawn n free s)
unfolding qubits_drawn
all_drawn P zero free s h le = tt
all_drawn P (suc n) free s h le =
    let i = drawn (length free) s in
    let lt = index_below n free s le in
    (all_at P free i 0 h lt, all_drawn P n (remove free i) (next s) (all_remove P free i h) (left_length free n i le lt))

distinct_drawn : (n : ℕ) (free : List ℕ) (s : ℕ) → Distinct free → n ≤ length free → Distinct (qubits_drawn n free s)
unfolding qubits_drawn Distinct
distinct_drawn zero free s h le = tt
distinct_drawn (suc n) free s h le =
    let i = drawn (length free) s in
    let lt = index_below n free s le in
    let left = left_length free n i le lt in
    (all_drawn (λ y. get_or free i 0 ≢ y) n (remove free i) (next s) (lacks_removed free i h lt) left, distinct_drawn n (remove free i) (next s) (distinct_remove free i h) left)

length_drawn : (n : ℕ) (free : List ℕ) (s : ℕ) → length (qubits_drawn n free s) ≡ n
unfolding qubits_drawn
length_drawn zero free s = refl
length_drawn (suc n) free s = ap suc (length_drawn n (remove free (drawn (length free) s)) (next s))

lacks_among : (x : ℕ) (xs : List ℕ) → Lacks x xs → is_among xs x ≡ false
lacks_among x [] h = refl
lacks_among x (y ∷ ys) h = ap (λ b. b || list_any (nat_eq x) ys) (ne_eqb x y h.0) ∙ lacks_among x ys h.1

once_of : (xs : List ℕ) → Distinct xs → has_twice xs ≡ false
unfolding Distinct
once_of [] h = refl
once_of (x ∷ xs) h = ap (λ b. b || has_twice xs) (lacks_among x xs h.0) ∙ once_of xs h.1

range_lacks : (a b n : ℕ) → a < b → Lacks a (range_with_len b n)
range_lacks a b zero lt = tt
range_lacks a b (suc n) lt = (λ e. absurd (omega (arith, lt, e)), range_lacks a (b + 1) n (omega (arith, lt)))

range_distinct : (a n : ℕ) → Distinct (range_with_len a n)
unfolding Distinct
range_distinct a zero = tt
range_distinct a (suc n) = (range_lacks a (a + 1) n (omega arith), range_distinct (a + 1) n)

range_below : (q a n : ℕ) → a + n ≤ q → AllByRecursion (λ i. i < q) (range_with_len a n)
range_below q a zero le = tt
range_below q a (suc n) le = (omega (arith, le), range_below q (a + 1) n (omega (arith, le)))

-- decimal digits read back
place_sum : (n d p r : ℕ) → (n * 10 + d) * p + r ≡ n * (10 * p) + (d * p + r)
place_sum n d p r = grind arith

after_is : (n : ℕ) (ds : List ℕ) → number_from_digits_after 10 n ds ≡ n * 10 ^ length ds + read_decimal (map (λ d. 48 + d) ds)
unfolding read_decimal
after_is n [] = omega arith
after_is n (d ∷ ds) =
    let rest = read_decimal (map (λ e. 48 + e) ds) in
    let less : (48 + d) - 48 ≡ d = omega arith in
    after_is (n * 10 + d) ds ∙ place_sum n d (10 ^ length ds) rest
    ∙ ap (λ p. n * p + (d * 10 ^ length ds + rest)) (sym (pow-suc 10 (length ds) ∙ times_ten (10 ^ length ds)))
    ∙ ap (λ e. n * 10 ^ suc (length ds) + (e * 10 ^ length ds + rest)) (sym less)
    ∙ ap (λ l. n * 10 ^ suc (length ds) + (((48 + d) - 48) * 10 ^ l + rest)) (sym (length-map ds (λ e. 48 + e)))
  where
    times_ten : (p : ℕ) → p * 10 ≡ 10 * p
    times_ten p = omega arith

decimal_back : (n : ℕ) → n < 2 ^ 64 → read_decimal (decimal n) ≡ n
unfolding read_decimal
decimal_back n lt =
    elim (cases_eq n 0) [
      | inl e ↦ ap (λ k. read_decimal (decimal k)) e ∙ ap read_decimal (decimal_digit 0 (omega arith)) ∙ sym e
      | inr ne ↦
          let whole : number_from_digits_after 10 0 (digits_of 10 n) ≡ n = number_digits_of 10 n (omega arith) in
          ap read_decimal (decimal-digits_of n (omega (arith, ne)) lt) ∙ drop_zero (10 ^ length (digits_of 10 n)) (read_decimal (map (λ d. 48 + d) (digits_of 10 n))) (number_from_digits_after 10 0 (digits_of 10 n)) (after_is 0 (digits_of 10 n)) ∙ whole
    ]
  where
    drop_zero : (p r x : ℕ) → x ≡ 0 * p + r → r ≡ x
    drop_zero p r x e = sym (e ∙ omega arith)

reads_below : (q : ℕ) (is : List ℕ) → q ≤ 64 → AllByRecursion (λ i. i < q) is → AllByRecursion (λ i. read_decimal (decimal i) ≡ i) is
reads_below q [] le h = tt
reads_below q (i ∷ is) le h = (decimal_back i (omega (arith, le, h.0)), reads_below q is le h.1)

-- the calls
arity_fits : (q k : ℕ) → 1 ≤ q → k < kinds q → (1 ≤ arity k) × (arity k ≤ q)
arity_fits q k some lt =
    elim (cases_Bool (nat_lt k 8)) [
      | inl e ↦ let a : arity k ≡ 1 = cond-true (nat_lt k 8) 1 (cond (nat_lt k 11) 2 3) e in (omega (arith, a), omega (arith, a, some))
      | inr e ↦
          let big : 8 ≤ k = search rules in
          elim (cases_Bool (nat_lt k 11)) [
            | inl f ↦ let a : arity k ≡ 2 = cond-false (nat_lt k 8) 1 (cond (nat_lt k 11) 2 3) e ∙ cond-true (nat_lt k 11) 2 3 f in (omega (arith, a), omega (arith, a, two q k some lt big))
            | inr f ↦
                let huge : 11 ≤ k = search rules in
                let a : arity k ≡ 3 = cond-false (nat_lt k 8) 1 (cond (nat_lt k 11) 2 3) e ∙ cond-false (nat_lt k 11) 2 3 f in (omega (arith, a), omega (arith, a, three q k some lt huge))
          ]
    ]
  where
    two : (q k : ℕ) → 1 ≤ q → k < kinds q → 8 ≤ k → 2 ≤ q
    two zero k some lt big = absurd (omega arith)
    two (suc zero) k some lt big = absurd (omega arith)
    two (suc (suc q)) k some lt big = omega arith

    three : (q k : ℕ) → 1 ≤ q → k < kinds q → 11 ≤ k → 3 ≤ q
    three zero k some lt big = absurd (omega arith)
    three (suc zero) k some lt big = absurd (omega arith)
    three (suc (suc zero)) k some lt big = absurd (omega arith)
    three (suc (suc (suc q))) k some lt big = omega arith

drawn_call : (q s : ℕ) → 1 ≤ q → q ≤ 64 → IsCall q (call_drawn q s)
unfolding call_drawn
drawn_call q s some le =
    let few = kinds_few q in
    let k = drawn (kinds q) s in
    let lt = drawn_below (kinds q) s few.0 in
    let name = names_ok k (omega (arith, lt, few.1)) in
    let fits = arity_fits q k some lt in
    let free = range_with_len 0 q in
    let room : arity k ≤ length free = omega (arith, fits.1, length-range_with_len 0 q) in
    let below = all_drawn (λ i. i < q) (arity k) free (next s) (range_below q 0 q (omega arith)) room in
    record {
      name = name.name;
      kept = name.kept;
      gate = name.gate;
      some = omega (arith, length_drawn (arity k) free (next s), fits.0);
      count = length_drawn (arity k) free (next s) ∙ sym name.count;
      below = below;
      once = once_of (qubits_drawn (arity k) free (next s)) (distinct_drawn (arity k) free (next s) (range_distinct 0 q) room);
      reads = reads_below q (qubits_drawn (arity k) free (next s)) le below;
    }

pub drawn_calls : (q n s : ℕ) → 1 ≤ q → q ≤ 64 → AllByRecursion (IsCall q) (calls_drawn q n s)
unfolding calls_drawn
drawn_calls q zero s some le = tt
drawn_calls q (suc n) s some le = (drawn_call q s some le, drawn_calls q n (after_call q s) some le)

hadamard_calls : (q : ℕ) (is : List ℕ) → q ≤ 64 → AllByRecursion (λ i. i < q) is → AllByRecursion (IsCall q) (map (λ i. call (codes "h") (i ∷ [])) is)
hadamard_calls q [] le h = tt
hadamard_calls q (i ∷ is) le h = (
  record { name = h_ok.name; kept = h_ok.kept; gate = h_ok.gate; some = omega arith; count = sym h_ok.count; below = (h.0, tt); once = refl; reads = (decimal_back i (omega (arith, le, h.0)), tt) },
  hadamard_calls q is le h.1,
)

pub first_are_calls : (q : ℕ) → q ≤ 64 → AllByRecursion (IsCall q) (first_calls q)
first_are_calls q le = hadamard_calls q (range_with_len 0 (min q 4)) le (range_below q 0 (min q 4) (omega arith))

calls_append : (q : ℕ) (cs ds : List Call) → AllByRecursion (IsCall q) cs → AllByRecursion (IsCall q) ds → AllByRecursion (IsCall q) (cs ++ ds)
calls_append q [] ds a b = b
calls_append q (c ∷ cs) ds a b = (a.0, calls_append q cs ds a.1 b)

pub length_calls : (q n s : ℕ) → length (calls_drawn q n s) ≡ n
unfolding calls_drawn
length_calls q zero s = refl
length_calls q (suc n) s = ap suc (length_calls q n (after_call q s))

-- each line of the text is a call
every_call : (q n seed : ℕ) → 1 ≤ q → q ≤ 64 → AllByRecursion (IsCall q) (demo_calls q n seed)
every_call q n seed some le =
    calls_append q (first_calls q) (calls_drawn q n seed) (hadamard_calls q (range_with_len 0 (min q 4)) le (range_below q 0 (min q 4) (omega arith))) (drawn_calls q n seed some le)

count_calls : (q n seed : ℕ) → n ≤ 500000 → 0 + length (demo_calls q n seed) ≤ 1000000
count_calls q n seed le =
    let first : length (first_calls q) ≡ min q 4 = length-map (range_with_len 0 (min q 4)) (λ i. call (codes "h") (i ∷ [])) ∙ length-range_with_len 0 (min q 4) in
    omega (arith, length-append (first_calls q) (calls_drawn q n seed), first, length_calls q n seed, le)

-- the head
accept : (limit : ℕ) (before : List Act) (s : Statement) (act : Act) → Harmless limit before s → Has before (closed_part s) s → Does before s act → Accepts limit before (closed_part s) act
accept limit before s act h has does = record { free = free_of limit before s h has; statement = s; has = has; does = does }

version_has : Has [] (closed_part version) version
version_has = record { closed = refl; spelled = refl; statement = record { formed = tt; tried = refl }; first = λ e. refl }

accept_version : Accepts 64 [] (closed_part version) nothing
accept_version = accept 64 [] version nothing (record {
  started = λ e. refl;
  profile = refl;
  name = refl;
  fresh = λ d. d;
  register = refl;
  range = refl;
  count = refl;
  sizes = λ d. d;
  once = λ d. d;
  deep = omega arith;
  items = λ n e. absurd (cc);
  angle = λ e d. d;
  grid = λ d. d;
  gone = λ d. d;
  qubits = λ act does. rw does (omega arith);
  gates = λ act does. rw does (omega arith);
}) version_has refl

abbrev file : List ℕ
file = codes "\"qelib1.inc\""

accept_include : Accepts 64 (nothing ∷ []) (closed_part (include file)) nothing
accept_include = accept 64 (nothing ∷ []) (include file) nothing (record {
  started = λ e. absurd (cc);
  profile = refl;
  name = refl;
  fresh = λ d. d;
  register = refl;
  range = refl;
  count = refl;
  sizes = λ d. d;
  once = λ d. d;
  deep = omega arith;
  items = λ n e. absurd (cc);
  angle = λ e d. d;
  grid = λ d. d;
  gone = λ d. d;
  qubits = λ act does. rw does (omega arith);
  gates = λ act does. rw does (omega arith);
}) (record { closed = refl; spelled = refl; statement = record { formed = tt; tried = refl }; first = λ e. absurd (cc) }) refl

size_ok : (q : ℕ) → 1 ≤ q → q ≤ 64 → (no_size q || (false || false)) ≡ false
size_ok q some le =
    let first : nat_eq q 0 ≡ false = ne_eqb q 0 (λ e. absurd (omega (arith, some, e))) in
    let second : nat_lt 1000000 q ≡ false = search rules in
    ap (λ b. (b || nat_lt 1000000 q) || (false || false)) first ∙ ap (λ b. b || (false || false)) second

accept_register : (q : ℕ) → 1 ≤ q → q ≤ 64 → Accepts 64 (nothing ∷ nothing ∷ []) (closed_part (qubits (codes "q") (decimal q))) (declares true (codes "q") q)
unfolding is_name
accept_register q some le =
    let back = decimal_back q (omega (arith, le)) in
    accept 64 (nothing ∷ nothing ∷ []) (qubits (codes "q") (decimal q)) (declares true (codes "q") q) (record {
      started = λ e. absurd (cc);
      profile = refl;
      name = refl;
      fresh = λ e. (let q : false ≡ true = e in absurd (cc));
      register = refl;
      range = ap (λ n. no_size n || (false || false)) back ∙ size_ok q some le;
      count = refl;
      sizes = λ d. d;
      once = λ d. d;
      deep = omega arith;
      items = λ n e. absurd (cc);
      angle = λ e d. d;
      grid = λ d. d;
      gone = λ d. d;
      qubits = λ act does. rw does (omega (arith, back, le));
      gates = λ act does. rw does (omega arith);
    }) (record { closed = refl; spelled = refl; statement = record { formed = refl; tried = refl }; first = λ e. absurd (cc) }) (ap (declares true (codes "q")) (sym back))

-- what is known before the first call
known_start : (q : ℕ) → Known q [] (head_acts q)
known_start q = record { some = λ e. absurd (cc); registers = refl; measured = refl; qubits = omega arith; gates = refl; defined = refl; items = refl }

all_accepted : (q n seed : ℕ) → 1 ≤ q → q ≤ 64 → n ≤ 500000 → AllAccepted 64 [] (map closed_part (demo_statements q n seed)) (demo_acts q n seed)
all_accepted q n seed some le few =
    let rest = accept_calls 64 q [] (head_acts q) (demo_calls q n seed) (known_start q) (every_call q n seed some le) le (count_calls q n seed few) in
    (accept_version, (accept_include, (accept_register q some le, rest)))

-- no qubit is among none
none_measured : (q : ℕ) → map (is_among []) (up_to q) ≡ replicate q false
none_measured zero = refl
none_measured (suc q) =
    let one : q + 1 ≡ suc q = omega arith in
    map-append (is_among []) (up_to q) (q ∷ []) ∙ ap (λ l. l ++ false ∷ []) (none_measured q)
    ∙ replicate-append-replicate q 1 false ∙ ap (λ k. replicate k false) one

-- what the statements do is the circuit of the calls
acts_circuit : (q n seed : ℕ) → 1 ≤ q → q ≤ 64 → circuit_of (demo_acts q n seed) ≡ drawn_circuit q n seed
acts_circuit q n seed some le =
    let acts = demo_acts q n seed in
    let k = known_calls q [] (head_acts q) (demo_calls q n seed) (known_start q) (every_call q n seed some le) in
    let flags : map (is_among (measured acts)) (up_to (qubit_count acts)) ≡ replicate q false =
    ap (λ m. map (is_among m) (up_to (qubit_count acts))) k.measured ∙ ap (λ c. map (is_among []) (up_to c)) k.qubits ∙ none_measured q in
    same_parts (qubit_count acts) q (gates acts) (map gate_of (demo_calls q n seed)) (map (is_among (measured acts)) (up_to (qubit_count acts))) (replicate q false) k.qubits k.gates flags
  where
    same_parts : (a b : ℕ) (gs hs : List GateOf) (ms ns : List Bool) → a ≡ b → gs ≡ hs → ms ≡ ns → (let c : Circuit = record { qubits = a; gates = gs; measured = ms } in c) ≡ record { qubits = b; gates = hs; measured = ns }
    same_parts a b gs hs ms ns e f g = cc

pub demo_reads : (q n seed : ℕ) → 1 ≤ q → q ≤ 64 → n ≤ 500000 → HasStatements (demo_text q n seed) (demo_statements q n seed) → ReadsAs (demo_text q n seed) 64 (circuit (drawn_circuit q n seed))
demo_reads q n seed some le few h =
    record {
      lexemes = h.lexemes;
      bad = None;
      are_lexemes = h.are_lexemes;
      reads = subst (λ ps. Reads 64 ps (circuit (drawn_circuit q n seed))) (sym h.are_parts) (demo_acts q n seed, all_accepted q n seed some le few, sym (acts_circuit q n seed some le));
    }
