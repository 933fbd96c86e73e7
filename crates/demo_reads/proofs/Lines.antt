-- The lines of the text of `demo`, piece by piece.
use Prim.Native.Char.{code}
use Rattle.std.proofs.Common.{◌≡◌, ℕ, zero, suc, ◌+◌, ◌<◌, ◌≤◌, ◌/◌, ◌^◌, ◌==◌, true, cond, List, [], ◌∷◌, ◌++◌, map, length, get_or, take, drop, min, codes, decimal, None, inl, inr, refl, sym, ◌∙◌, ap, subst, arith}
use Rattle.std.specs.List.{AllByRecursion, range_with_len, remove}
use Rattle.std.proofs.lemmas.List.{append_assoc}
use Rattle.std.proofs.lemmas.Bool.Decides.{nat_tests}
use Rattle.std.proofs.lemmas.Bool.{cases_eq, cases_Bool, cond-true, cond-false}
use Rattle.std.proofs.lemmas.Int.Digits.{all_below_base_digits_of}
use Rattle.std.specs.Int.Digits.{AllBelowBase, digits_of}
use Rattle.std.proofs.lemmas.Fmt.{decimal-digits_of, decimal_digit, decimal_nonempty}
use Rattle.std.proofs.Math.Nat.{mod-lt}
use Rattle.qasm_lex.specs.declared.pieces.Form.TheVariants.{Token as OfKind}
use Rattle.qasm_lex.specs.declared.token.TokenKind.TheVariants.{Whole, Real, Text}
use Rattle.qasm_lex.specs.Bytes.{is_digit}
use Rattle.qasm_lex.specs.Private.Classes.{class_of}
use Rattle.qasm_lex.specs.Lexemes.{Begins, IsRun, IsWhole, AreLexemes}
use Rattle.qasm_lex.specs.Private.Scan.{run, exponent, number, quoted, piece_of}
use Rattle.qasm_lex.proofs.Front.{begins}
use Rattle.demo_text.specs.Generator.{Call, call, names, name_at, kinds, drawn, next, arity, qubits_drawn, call_drawn, after_call, calls_drawn, place_text, places_text, line, first_calls, head_text, demo_text}
use Rattle.demo_text.specs.Private.{more_places, lines}
use Rattle.demo_text.proofs.Writing.{demo_parted, places_is}
use Rattle.demo_reads.proofs.Spelled.{Spelled, text_of, AreFronts, lexemes}
use Rattle.demo_reads.proofs.Pieces.{place_pieces, more_pieces, places_pieces, line_end, line_pieces, lines_pieces, head_pieces, demo_pieces}
use Rattle.demo_reads.proofs.Cutting.{spelled_lexemes}
use Rattle.demo_reads.proofs.Fronts.{IsWord, word_front, mark_front, blank_front, feed_front, whole_front}

-- digits
digit_byte : (d : ℕ) → d < 10 → is_digit (48 + d) ≡ true
digit_byte d lt = grind (arith, nat_tests)

digit_run : (ds : List ℕ) → AllBelowBase 10 ds → IsRun is_digit (map (λ d. 48 + d) ds)
digit_run [] h = tt
digit_run (d ∷ ds) h = (digit_byte d h.0, digit_run ds h.1)

decimal_run : (n : ℕ) → n < 2 ^ 64 → IsRun is_digit (decimal n)
decimal_run n lt =
    elim (cases_eq n 0) [
      | inl e ↦
          let one : decimal n ≡ 48 ∷ [] = ap decimal e ∙ decimal_digit 0 (omega arith) in
          subst (IsRun is_digit) (sym one) (digit_byte 0 (omega arith), tt)
      | inr ne ↦ subst (IsRun is_digit) (sym (decimal-digits_of n (omega (arith, ne)) lt)) (digit_run (digits_of 10 n) (all_below_base_digits_of 10 n (omega arith)))
    ]

decimal_is : (n : ℕ) → n < 2 ^ 64 → IsWhole (decimal n)
decimal_is n lt = (decimal_nonempty n lt, decimal_run n lt)

-- pieces one after the other
text_append : (xs ys : List Spelled) → text_of (xs ++ ys) ≡ text_of xs ++ text_of ys
unfolding text_of
text_append [] ys = refl
text_append (x ∷ xs) ys = ap (λ t. x.bytes ++ t) (text_append xs ys) ∙ sym (append_assoc x.bytes (text_of xs) (text_of ys))

fronts_append : (xs ys : List Spelled) (after : List ℕ) → AreFronts xs (text_of ys ++ after) → AreFronts ys after → AreFronts (xs ++ ys) after
unfolding AreFronts
fronts_append [] ys after hx hy = hy
fronts_append (x ∷ xs) ys after hx hy =
    let same : text_of xs ++ (text_of ys ++ after) ≡ text_of (xs ++ ys) ++ after = sym (ap (λ t. t ++ after) (text_append xs ys) ∙ append_assoc (text_of xs) (text_of ys) after) in
    (subst (λ t. Begins (x.bytes ++ t) x.form (length x.bytes)) same hx.0, fronts_append xs ys after hx.1 hy)

-- `q[I]`
q_word : IsWord (codes "q")
q_word = record { first = 113; more = []; is = refl; letter = refl; run = tt }

h_word : IsWord (codes "h")
h_word = record { first = 104; more = []; is = refl; letter = refl; run = tt }

place_fronts : (i : ℕ) (after : List ℕ) → i < 2 ^ 64 → AreFronts (place_pieces i) after
unfolding AreFronts text_of class_of
place_fronts i after lt = (word_front (codes "q") _ q_word refl, (mark_front (code "[") _ refl, (subst (λ t. Begins (decimal i ++ t) (OfKind Whole) (length (decimal i))) refl (whole_front (decimal i) (code "]") after (decimal_is i lt) refl), (mark_front (code "]") _ refl, tt))))

abbrev Small : ℕ → Type 0
Small i = i < 2 ^ 64

abbrev AreSmall : List ℕ → Type 0
AreSmall is = AllByRecursion Small is

more_fronts : (is : List ℕ) (after : List ℕ) → AreSmall is → AreFronts (more_pieces is) after
unfolding more_pieces AreFronts class_of
more_fronts [] after h = tt
more_fronts (i ∷ is) after h = (mark_front (code ",") _ refl, fronts_append (place_pieces i) (more_pieces is) after (place_fronts i _ h.0) (more_fronts is after h.1))

places_fronts : (is : List ℕ) (after : List ℕ) → AreSmall is → AreFronts (places_pieces is) after
unfolding places_pieces AreFronts
places_fronts [] after h = tt
places_fronts (i ∷ is) after h = fronts_append (place_pieces i) (more_pieces is) after (place_fronts i _ h.0) (more_fronts is after h.1)

end_fronts : (after : List ℕ) → AreFronts line_end after
unfolding AreFronts text_of class_of
end_fronts after = (mark_front (code ";") _ refl, (feed_front (code "\n") _ refl, tt))

record IsLine (c : Call) : Type 0 where
  name : IsWord c.name
  on : AreSmall c.on

line_fronts : (c : Call) (after : List ℕ) → IsLine c → AreFronts (line_pieces c) after
unfolding line_pieces AreFronts text_of class_of
line_fronts c after h = (word_front c.name _ h.name refl, (blank_front (code " ") _ refl, fronts_append (places_pieces c.on) line_end after (places_fronts c.on _ h.on) (end_fronts after)))

lines_fronts : (cs : List Call) (after : List ℕ) → AllByRecursion IsLine cs → AreFronts (lines_pieces cs) after
unfolding lines_pieces AreFronts
lines_fronts [] after h = tt
lines_fronts (c ∷ cs) after h = fronts_append (line_pieces c) (lines_pieces cs) after (line_fronts c _ h.0) (lines_fronts cs after h.1)

-- the bytes
place_bytes : (i : ℕ) → text_of (place_pieces i) ≡ place_text i
unfolding text_of place_text
place_bytes i = refl

more_bytes : (is : List ℕ) → text_of (more_pieces is) ≡ more_places is
unfolding more_pieces more_places text_of
more_bytes [] = refl
more_bytes (i ∷ is) = ap (λ t. code "," ∷ t) (text_append (place_pieces i) (more_pieces is) ∙ ap (λ t. t ++ text_of (more_pieces is)) (place_bytes i) ∙ ap (λ t. place_text i ++ t) (more_bytes is))

places_bytes : (is : List ℕ) → text_of (places_pieces is) ≡ places_text is
unfolding places_pieces places_text text_of
places_bytes [] = refl
places_bytes (i ∷ is) = text_append (place_pieces i) (more_pieces is) ∙ ap (λ t. t ++ text_of (more_pieces is)) (place_bytes i) ∙ ap (λ t. place_text i ++ t) (more_bytes is) ∙ sym (places_is i is)

line_bytes : (c : Call) → text_of (line_pieces c) ≡ line c
unfolding line_pieces line text_of
line_bytes c = ap (λ t. c.name ++ (code " " ∷ t)) (text_append (places_pieces c.on) line_end ∙ ap (λ t. t ++ codes ";\n") (places_bytes c.on))

lines_bytes : (cs : List Call) → text_of (lines_pieces cs) ≡ lines cs
unfolding lines_pieces text_of
lines_bytes [] = refl
lines_bytes (c ∷ cs) = text_append (line_pieces c) (lines_pieces cs) ∙ ap (λ t. t ++ text_of (lines_pieces cs)) (line_bytes c) ∙ ap (λ t. line c ++ t) (lines_bytes cs)

head_bytes : (q : ℕ) → text_of (head_pieces q) ≡ head_text q
unfolding head_pieces head_text text_of
head_bytes q = refl

-- the names
pub all_at : {X : Type 0} (P : X → Type 0) (xs : List X) (i : ℕ) (d : X) → AllByRecursion P xs → i < length xs → P (get_or xs i d)
all_at P [] i d h lt = absurd (omega arith)
all_at P (x ∷ xs) zero d h lt = h.0
all_at P (x ∷ xs) (suc i) d h lt = all_at P xs i d h.1 (omega arith)

each_name : AllByRecursion IsWord names
each_name = (record { first = 105; more = 100 ∷ []; is = refl; letter = refl; run = (refl, tt) }, (record { first = 120; more = []; is = refl; letter = refl; run = tt }, (record { first = 121; more = []; is = refl; letter = refl; run = tt }, (record { first = 122; more = []; is = refl; letter = refl; run = tt }, (record { first = 115; more = []; is = refl; letter = refl; run = tt }, (record { first = 115; more = 100 ∷ 103 ∷ []; is = refl; letter = refl; run = (refl, (refl, tt)) }, (record { first = 116; more = []; is = refl; letter = refl; run = tt }, (record { first = 116; more = 100 ∷ 103 ∷ []; is = refl; letter = refl; run = (refl, (refl, tt)) }, (record { first = 99; more = 120 ∷ []; is = refl; letter = refl; run = (refl, tt) }, (record { first = 99; more = 122 ∷ []; is = refl; letter = refl; run = (refl, tt) }, (record { first = 115; more = 119 ∷ 97 ∷ 112 ∷ []; is = refl; letter = refl; run = (refl, (refl, (refl, tt))) }, (record { first = 99; more = 99 ∷ 120 ∷ []; is = refl; letter = refl; run = (refl, (refl, tt)) }, (record { first = 99; more = 115 ∷ 119 ∷ 97 ∷ 112 ∷ []; is = refl; letter = refl; run = (refl, (refl, (refl, (refl, tt)))) }, tt)))))))))))))

pub kinds_few : (q : ℕ) → (0 < kinds q) × (kinds q ≤ 13)
kinds_few q =
    elim (cases_Bool (q == 1)) [
      | inl e ↦ let k : kinds q ≡ 8 = cond-true (q == 1) 8 (cond (q == 2) 11 13) e in (omega (arith, k), omega (arith, k))
      | inr e ↦ elim (cases_Bool (q == 2)) [
        | inl f ↦ let k : kinds q ≡ 11 = cond-false (q == 1) 8 (cond (q == 2) 11 13) e ∙ cond-true (q == 2) 11 13 f in (omega (arith, k), omega (arith, k))
        | inr f ↦ let k : kinds q ≡ 13 = cond-false (q == 1) 8 (cond (q == 2) 11 13) e ∙ cond-false (q == 2) 11 13 f in (omega (arith, k), omega (arith, k))
      ]
    ]

pub drawn_below : (m s : ℕ) → 0 < m → drawn m s < m
unfolding drawn
drawn_below m s some = mod-lt (next s / 2 ^ 33) some

name_word : (q s : ℕ) → IsWord (name_at (drawn (kinds q) s))
unfolding name_at
name_word q s =
    let few = kinds_few q in
    let lt : drawn (kinds q) s < 13 = omega (arith, drawn_below (kinds q) s few.0, few.1) in
    all_at IsWord names (drawn (kinds q) s) [] each_name lt

-- the qubits
small_or : (xs : List ℕ) (i : ℕ) → AreSmall xs → Small (get_or xs i 0)
small_or [] i h = omega arith
small_or (x ∷ xs) zero h = h.0
small_or (x ∷ xs) (suc i) h = small_or xs i h.1

small_append : (xs ys : List ℕ) → AreSmall xs → AreSmall ys → AreSmall (xs ++ ys)
small_append [] ys hx hy = hy
small_append (x ∷ xs) ys hx hy = (hx.0, small_append xs ys hx.1 hy)

small_take : (n : ℕ) (xs : List ℕ) → AreSmall xs → AreSmall (take n xs)
small_take zero xs h = tt
small_take (suc n) [] h = tt
small_take (suc n) (x ∷ xs) h = (h.0, small_take n xs h.1)

small_drop : (n : ℕ) (xs : List ℕ) → AreSmall xs → AreSmall (drop n xs)
small_drop zero xs h = h
small_drop (suc n) [] h = tt
small_drop (suc n) (x ∷ xs) h = small_drop n xs h.1

small_drawn : (n : ℕ) (free : List ℕ) (s : ℕ) → AreSmall free → AreSmall (qubits_drawn n free s)
unfolding qubits_drawn
small_drawn zero free s h = tt
small_drawn (suc n) free s h =
    let i = drawn (length free) s in
    (small_or free i h, small_drawn n (remove free i) (next s) (small_append (take i free) (drop (suc i) free) (small_take i free h) (small_drop (suc i) free h)))

small_range : (a n : ℕ) → a + n ≤ 64 → AreSmall (range_with_len a n)
small_range a zero le = tt
small_range a (suc n) le = (omega (arith, le), small_range (a + 1) n (omega (arith, le)))

drawn_lines : (q n s : ℕ) → q ≤ 64 → AllByRecursion IsLine (calls_drawn q n s)
unfolding calls_drawn call_drawn
drawn_lines q zero s le = tt
drawn_lines q (suc n) s le = (
  record { name = name_word q s; on = small_drawn (arity (drawn (kinds q) s)) (range_with_len 0 q) (next s) (small_range 0 q (omega (arith, le))) },
  drawn_lines q n (after_call q s) le,
)

hadamards : (is : List ℕ) → AreSmall is → AllByRecursion IsLine (map (λ i. call (codes "h") (i ∷ [])) is)
hadamards [] h = tt
hadamards (i ∷ is) h = (record { name = h_word; on = (h.0, tt) }, hadamards is h.1)

first_lines : (q : ℕ) → q ≤ 64 → AllByRecursion IsLine (first_calls q)
first_lines q le = hadamards (range_with_len 0 (min q 4)) (small_range 0 (min q 4) (omega (arith, le)))

-- the head
qasm_word : IsWord (codes "OPENQASM")
qasm_word = record { first = 79; more = 80 ∷ 69 ∷ 78 ∷ 81 ∷ 65 ∷ 83 ∷ 77 ∷ []; is = refl; letter = refl; run = (refl, (refl, (refl, (refl, (refl, (refl, (refl, tt))))))) }

include_word : IsWord (codes "include")
include_word = record { first = 105; more = 110 ∷ 99 ∷ 108 ∷ 117 ∷ 100 ∷ 101 ∷ []; is = refl; letter = refl; run = (refl, (refl, (refl, (refl, (refl, (refl, tt)))))) }

qreg_word : IsWord (codes "qreg")
qreg_word = record { first = 113; more = 114 ∷ 101 ∷ 103 ∷ []; is = refl; letter = refl; run = (refl, (refl, (refl, tt))) }

version_front : (after : List ℕ) → Begins (codes "2.0" ++ (code ";" ∷ after)) (OfKind Real) 3
unfolding piece_of number run exponent class_of
version_front after = begins (codes "2.0" ++ (code ";" ∷ after)) (OfKind Real) 3 refl

file_front : (after : List ℕ) → Begins (codes "\"qelib1.inc\"" ++ (code ";" ∷ after)) (OfKind Text) 12
unfolding piece_of quoted run class_of
file_front after = begins (codes "\"qelib1.inc\"" ++ (code ";" ∷ after)) (OfKind Text) 12 refl

head_fronts : (q : ℕ) (after : List ℕ) → q < 2 ^ 64 → AreFronts (head_pieces q) after
unfolding head_pieces AreFronts text_of class_of
head_fronts q after lt = (
  word_front (codes "OPENQASM") _ qasm_word refl,
  (
    blank_front (code " ") _ refl,
    (
      version_front _,
      (
        mark_front (code ";") _ refl,
        (
          feed_front (code "\n") _ refl,
          (
            word_front (codes "include") _ include_word refl,
            (
              blank_front (code " ") _ refl,
              (
                file_front _,
                (
                  mark_front (code ";") _ refl,
                  (
                    feed_front (code "\n") _ refl,
                    (
                      word_front (codes "qreg") _ qreg_word refl,
                      (blank_front (code " ") _ refl, fronts_append (place_pieces q) line_end after (place_fronts q _ lt) (end_fronts after)),
                    ),
                  ),
                ),
              ),
            ),
          ),
        ),
      ),
    ),
  ),
)

demo_bytes : (q n seed : ℕ) → text_of (demo_pieces q n seed) ≡ demo_text q n seed
unfolding demo_pieces
demo_bytes q n seed =
    let a = lines_pieces (first_calls q) in
    let b = lines_pieces (calls_drawn q n seed) in
    text_append (head_pieces q) (a ++ b) ∙ ap (λ t. text_of (head_pieces q) ++ t) (text_append a b)
    ∙ ap (λ t. t ++ (text_of a ++ text_of b)) (head_bytes q)
    ∙ ap (λ t. head_text q ++ (t ++ text_of b)) (lines_bytes (first_calls q))
    ∙ ap (λ t. head_text q ++ (lines (first_calls q) ++ t)) (lines_bytes (calls_drawn q n seed))
    ∙ sym (demo_parted q n seed)

demo_fronts : (q n seed : ℕ) → q ≤ 64 → AreFronts (demo_pieces q n seed) []
unfolding demo_pieces
demo_fronts q n seed le =
    let a = lines_pieces (first_calls q) in
    let b = lines_pieces (calls_drawn q n seed) in
    fronts_append (head_pieces q) (a ++ b) [] (head_fronts q _ (omega (arith, le))) (fronts_append a b [] (lines_fronts (first_calls q) _ (first_lines q le)) (lines_fronts (calls_drawn q n seed) [] (drawn_lines q n seed le)))

pub demo_has : (q n seed : ℕ) → 1 ≤ q → q ≤ 64 → AreLexemes (demo_text q n seed) (lexemes (demo_pieces q n seed)) None
demo_has q n seed some le = subst (λ t. AreLexemes t (lexemes (demo_pieces q n seed)) None) (demo_bytes q n seed) (spelled_lexemes (demo_pieces q n seed) (demo_fronts q n seed le))
