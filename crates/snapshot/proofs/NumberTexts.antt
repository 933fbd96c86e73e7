-- The numbers of a sheet's text.
use Rattle.std.proofs.Common.{◌≡◌, ℕ, ◌+◌, ◌*◌, ◌<◌, ◌≤◌, Bool, true, false, not, ◌&&◌, nat_le, List, [], ◌∷◌, ◌++◌, map, length, flat_map, codes, decimal, Option, Some, None, inl, inr, refl, sym, ◌∙◌, ap, arith, append_assoc, append-nil}
use Rattle.std.specs.Int.Digits.{AllBelowBase, digits_of, number_from_digits_after}
use Rattle.std.proofs.lemmas.Int.Digits.{number_after_ge, number_digits_of, all_below_base_digits_of}
use Rattle.std.proofs.lemmas.Fmt.{decimal-digits_of, decimal_digit}
use Rattle.std.proofs.lemmas.Bool.{cases_eq, cond-true, cond-false, and_parts, le-leb, not-true}
use Rattle.snapshot.specs.Numbers.{NodeLine}
use Rattle.snapshot.specs.Sheets.{Sheet, list_text, node_text, head_text, bits_line, bits_text, sheet_text}
use Rattle.snapshot.specs.Reading.{is_digit, with_digit, so_far, numerals_from, numerals, node_numbers}

-- ---- one number
digit_byte : (d : ℕ) → d < 10 → is_digit (48 + d) ≡ true
digit_byte d lt = omega_and (nat_le 48 (48 + d)) (nat_le (48 + d) 57) (le-leb 48 (48 + d) (omega arith)) (le-leb (48 + d) 57 (omega (arith, lt)))
  where
    omega_and : (a b : Bool) → a ≡ true → b ≡ true → (a && b) ≡ true
    omega_and a b ea eb = rw (ea, eb) refl

-- digits that follow those of a number
digits_read : (ds : List ℕ) (n : ℕ) (rest : List ℕ) → AllBelowBase 10 ds → number_from_digits_after 10 n ds ≤ 4294967295 → numerals_from (Some n) (map (λ d. 48 + d) ds ++ rest) ≡ numerals_from (Some (number_from_digits_after 10 n ds)) rest
unfolding numerals_from
digits_read [] n rest small le = refl
digits_read (d ∷ ds) n rest small le =
    let whole : n * 10 + d ≤ number_from_digits_after 10 (n * 10 + d) ds = number_after_ge 10 (n * 10 + d) ds (omega arith) in
    let next : with_digit n (48 + d) ≡ n * 10 + d = omega (arith, whole, le) in
    cond-true (is_digit (48 + d)) (numerals_from (Some (with_digit n (48 + d))) (map (λ e. 48 + e) ds ++ rest)) (n ∷ numerals_from None (map (λ e. 48 + e) ds ++ rest)) (digit_byte d small.0)
    ∙ ap (λ m. numerals_from (Some m) (map (λ e. 48 + e) ds ++ rest)) next
    ∙ digits_read ds (n * 10 + d) rest small.1 le

-- whether a text begins with a digit
unfoldable begins_digit : List ℕ → Bool
begins_digit [] = false
begins_digit (c ∷ cs) = is_digit c

number_ends : (n : ℕ) (rest : List ℕ) → begins_digit rest ≡ false → numerals_from (Some n) rest ≡ n ∷ numerals_from None rest
unfolding numerals_from begins_digit
number_ends n [] e = refl
number_ends n (c ∷ cs) e =
    cond-false (is_digit c) (numerals_from (Some (with_digit n c)) cs) (n ∷ numerals_from None cs) e
    ∙ ap (λ l. n ∷ l) (sym (cond-false (is_digit c) (numerals_from (Some (with_digit 0 c)) cs) (numerals_from None cs) e))

first_digit : (ds : List ℕ) (rest : List ℕ) → AllBelowBase 10 ds → 0 < length ds → numerals_from None (map (λ d. 48 + d) ds ++ rest) ≡ numerals_from (Some 0) (map (λ d. 48 + d) ds ++ rest)
unfolding numerals_from
first_digit [] rest small some = absurd (omega arith)
first_digit (d ∷ ds) rest small some =
    cond-true (is_digit (48 + d)) (numerals_from (Some (with_digit 0 (48 + d))) (map (λ e. 48 + e) ds ++ rest)) (numerals_from None (map (λ e. 48 + e) ds ++ rest)) (digit_byte d small.0)
    ∙ sym (cond-true (is_digit (48 + d)) (numerals_from (Some (with_digit 0 (48 + d))) (map (λ e. 48 + e) ds ++ rest)) (0 ∷ numerals_from None (map (λ e. 48 + e) ds ++ rest)) (digit_byte d small.0))

digits_number : (ds : List ℕ) (n : ℕ) (rest : List ℕ) → AllBelowBase 10 ds → 0 < length ds → number_from_digits_after 10 0 ds ≡ n → n ≤ 4294967295 → begins_digit rest ≡ false → numerals (map (λ d. 48 + d) ds ++ rest) ≡ n ∷ numerals rest
digits_number ds n rest small some e le ends =
    first_digit ds rest small some ∙ digits_read ds 0 rest small (omega (arith, e, le)) ∙ ap (λ m. numerals_from (Some m) rest) e ∙ number_ends n rest ends

some_digits : (n : ℕ) → 0 < n → 0 < length (digits_of 10 n)
some_digits n pos = some (digits_of 10 n) (number_digits_of 10 n (omega arith)) pos
  where
    some : (ds : List ℕ) → number_from_digits_after 10 0 ds ≡ n → 0 < n → 0 < length ds
    some [] e lt = absurd (omega (arith, e, lt))
    some (d ∷ ds) e lt = omega arith

-- a number in decimal digits, with no digit behind it
decimal_number : (n : ℕ) (rest : List ℕ) → n ≤ 4294967295 → begins_digit rest ≡ false → numerals (decimal n ++ rest) ≡ n ∷ numerals rest
decimal_number n rest le ends =
    elim (cases_eq n 0) [
      | inl e ↦
          ap (λ t. numerals (t ++ rest)) (ap decimal e ∙ decimal_digit 0 (omega arith))
          ∙ digits_number (0 ∷ []) n rest (omega arith, tt) (omega arith) (sym e) le ends
      | inr ne ↦
          ap (λ t. numerals (t ++ rest)) (decimal-digits_of n (omega (arith, ne)) (omega (arith, le)))
          ∙ digits_number (digits_of 10 n) n rest (all_below_base_digits_of 10 n (omega arith)) (some_digits n (omega (arith, ne))) (number_digits_of 10 n (omega arith)) le ends
    ]

-- ---- texts
-- whatever comes behind, the numbers of the text are ns
abbrev Opens : List ℕ → List ℕ → Type 0
Opens text ns = (more : List ℕ) → numerals (text ++ more) ≡ ns ++ numerals more

-- the same where no digit comes behind
abbrev Closes : List ℕ → List ℕ → Type 0
Closes text ns = (more : List ℕ) → begins_digit more ≡ false → numerals (text ++ more) ≡ ns ++ numerals more

closed : (text ns : List ℕ) → Opens text ns → Closes text ns
closed text ns h more e = h more

-- no digit
unfoldable no_digits : List ℕ → Bool
no_digits [] = true
no_digits (c ∷ cs) = not (is_digit c) && no_digits cs

word_none : (word more : List ℕ) → no_digits word ≡ true → numerals (word ++ more) ≡ numerals more
unfolding numerals_from no_digits
word_none [] more h = refl
word_none (c ∷ cs) more h =
    let parts = and_parts (not (is_digit c)) (no_digits cs) h in
    cond-false (is_digit c) (numerals_from (Some (with_digit 0 c)) (cs ++ more)) (numerals_from None (cs ++ more)) (not-true (is_digit c) parts.0) ∙ word_none cs more parts.1

word_begins : (c : ℕ) (cs more : List ℕ) → no_digits (c ∷ cs) ≡ true → begins_digit ((c ∷ cs) ++ more) ≡ false
unfolding no_digits begins_digit
word_begins c cs more h = not-true (is_digit c) (and_parts (not (is_digit c)) (no_digits cs) h).0

-- a word behind a text
then_word : (text ns : List ℕ) (c : ℕ) (cs : List ℕ) → no_digits (c ∷ cs) ≡ true → Closes text ns → Opens (text ++ (c ∷ cs)) ns
then_word text ns c cs none h more =
    ap numerals (append_assoc text (c ∷ cs) more) ∙ h ((c ∷ cs) ++ more) (word_begins c cs more none) ∙ ap (λ l. ns ++ l) (word_none (c ∷ cs) more none)

-- a number behind a text
then_number : (text ns : List ℕ) (n : ℕ) → n ≤ 4294967295 → Opens text ns → Closes (text ++ decimal n) (ns ++ n ∷ [])
then_number text ns n le h more e =
    ap numerals (append_assoc text (decimal n) more) ∙ h (decimal n ++ more) ∙ ap (λ l. ns ++ l) (decimal_number n more le e) ∙ sym (append_assoc ns (n ∷ []) (numerals more))

abbrev pub AllSmall : List ℕ → Type 0
AllSmall [] = Unit {0}
AllSmall (n ∷ ns) = (n ≤ 4294967295) × AllSmall ns

-- numbers behind blanks
then_list : (text ns ms : List ℕ) → AllSmall ms → Closes text ns → Closes (text ++ list_text ms) (ns ++ ms)
unfolding list_text no_digits
then_list text ns [] small h more e =
    ap (λ t. numerals (t ++ more)) (append-nil text) ∙ h more e ∙ ap (λ l. l ++ numerals more) (sym (append-nil ns))
then_list text ns (m ∷ ms) small h more e =
    let one : Closes ((text ++ codes " ") ++ decimal m) (ns ++ m ∷ []) = then_number (text ++ codes " ") ns m small.0 (then_word text ns 32 [] refl h) in
    let rest = flat_map (λ n. codes " " ++ decimal n) ms in
    ap (λ t. numerals (t ++ more)) (sym (append_assoc text (codes " " ++ decimal m) rest) ∙ ap (λ t. t ++ rest) (sym (append_assoc text (codes " ") (decimal m))))
    ∙ then_list ((text ++ codes " ") ++ decimal m) (ns ++ m ∷ []) ms small.1 one more e
    ∙ ap (λ l. l ++ numerals more) (append_assoc ns (m ∷ []) ms)

-- ---- lines
-- pieces behind a text, one by one
grouped : (t a b c d e f : List ℕ) → t ++ (a ++ b ++ c ++ d ++ e ++ f) ≡ t ++ a ++ b ++ c ++ d ++ e ++ f
grouped t a b c d e f =
    sym (append_assoc t (a ++ b ++ c ++ d ++ e) f) ∙ ap (λ x. x ++ f) (
    sym (append_assoc t (a ++ b ++ c ++ d) e) ∙ ap (λ x. x ++ e) (
    sym (append_assoc t (a ++ b ++ c) d) ∙ ap (λ x. x ++ d) (
    sym (append_assoc t (a ++ b) c) ∙ ap (λ x. x ++ c) (sym (append_assoc t a b)))))

three : (ns : List ℕ) (v l h : ℕ) → ns ++ v ∷ [] ++ l ∷ [] ++ h ∷ [] ≡ ns ++ (v ∷ l ∷ h ∷ [])
three ns v l h = ap (λ x. x ++ h ∷ []) (append_assoc ns (v ∷ []) (l ∷ [])) ∙ append_assoc ns (v ∷ l ∷ []) (h ∷ [])

-- the numbers of a line fit
pub record IsSmallLine (l : NodeLine) : Type 0 where
  pub var : l.var ≤ 4294967295
  pub low : l.low ≤ 4294967295
  pub high : l.high ≤ 4294967295

then_node : (text ns : List ℕ) (l : NodeLine) → IsSmallLine l → Opens text ns → Opens (text ++ node_text l) (ns ++ node_numbers l)
unfolding node_text no_digits
then_node text ns l small h more =
    let c1 = then_number text ns l.var small.var h in
    let o2 = then_word (text ++ decimal l.var) (ns ++ l.var ∷ []) 32 [] refl c1 in
    let c3 = then_number (text ++ decimal l.var ++ codes " ") (ns ++ l.var ∷ []) l.low small.low o2 in
    let o4 = then_word (text ++ decimal l.var ++ codes " " ++ decimal l.low) (ns ++ l.var ∷ [] ++ l.low ∷ []) 32 [] refl c3 in
    let c5 = then_number (text ++ decimal l.var ++ codes " " ++ decimal l.low ++ codes " ") (ns ++ l.var ∷ [] ++ l.low ∷ []) l.high small.high o4 in
    let o6 = then_word (text ++ decimal l.var ++ codes " " ++ decimal l.low ++ codes " " ++ decimal l.high) (ns ++ l.var ∷ [] ++ l.low ∷ [] ++ l.high ∷ []) 10 [] refl c5 in
    ap (λ t. numerals (t ++ more)) (grouped text (decimal l.var) (codes " ") (decimal l.low) (codes " ") (decimal l.high) (codes "\n"))
    ∙ o6 more ∙ ap (λ x. x ++ numerals more) (three ns l.var l.low l.high)

abbrev pub AllSmallLines : List NodeLine → Type 0
AllSmallLines [] = Unit {0}
AllSmallLines (l ∷ ls) = IsSmallLine l × AllSmallLines ls

then_nodes : (text ns : List ℕ) (ls : List NodeLine) → AllSmallLines ls → Opens text ns → Opens (text ++ flat_map node_text ls) (ns ++ flat_map node_numbers ls)
then_nodes text ns [] small h more = ap (λ t. numerals (t ++ more)) (append-nil text) ∙ h more ∙ ap (λ l. l ++ numerals more) (sym (append-nil ns))
then_nodes text ns (l ∷ ls) small h more =
    ap (λ t. numerals (t ++ more)) (sym (append_assoc text (node_text l) (flat_map node_text ls)))
    ∙ then_nodes (text ++ node_text l) (ns ++ node_numbers l) ls small.1 (then_node text ns l small.0 h) more
    ∙ ap (λ x. x ++ numerals more) (append_assoc ns (node_numbers l) (flat_map node_numbers ls))

-- ---- the whole text
first_words : Opens (codes "SLIQSTATE 1\nqubits ") (1 ∷ [])
unfolding numerals_from
first_words more = refl

then_head : (order : List ℕ) (exponent width nodes : ℕ) → AllSmall order → length order ≤ 4294967295 → exponent ≤ 4294967295 → width ≤ 4294967295 → nodes ≤ 4294967295
    → Opens (head_text order exponent width nodes) (1 ∷ [] ++ length order ∷ [] ++ order ++ exponent ∷ [] ++ width ∷ [] ++ nodes ∷ [])
unfolding head_text no_digits
then_head order exponent width nodes small le_n le_k le_w le_m =
    let o1 : Opens (codes "SLIQSTATE 1\nqubits ") (1 ∷ []) = first_words in
    let t2 = codes "SLIQSTATE 1\nqubits " ++ decimal (length order) in
    let n2 = 1 ∷ [] ++ length order ∷ [] in
    let c2 : Closes t2 n2 = then_number (codes "SLIQSTATE 1\nqubits ") (1 ∷ []) (length order) le_n o1 in
    let t3 = t2 ++ codes "\norder" in
    let o3 : Opens t3 n2 = then_word t2 n2 10 (codes "order") refl c2 in
    let t4 = t3 ++ list_text order in
    let n4 = n2 ++ order in
    let c4 : Closes t4 n4 = then_list t3 n2 order small (closed t3 n2 o3) in
    let t5 = t4 ++ codes "\nexponent " in
    let o5 : Opens t5 n4 = then_word t4 n4 10 (codes "exponent ") refl c4 in
    let t6 = t5 ++ decimal exponent in
    let n6 = n4 ++ exponent ∷ [] in
    let c6 : Closes t6 n6 = then_number t5 n4 exponent le_k o5 in
    let t7 = t6 ++ codes "\nwidth " in
    let o7 : Opens t7 n6 = then_word t6 n6 10 (codes "width ") refl c6 in
    let t8 = t7 ++ decimal width in
    let n8 = n6 ++ width ∷ [] in
    let c8 : Closes t8 n8 = then_number t7 n6 width le_w o7 in
    let t9 = t8 ++ codes "\nnodes " in
    let o9 : Opens t9 n8 = then_word t8 n8 10 (codes "nodes ") refl c8 in
    let t10 = t9 ++ decimal nodes in
    let n10 = n8 ++ nodes ∷ [] in
    let c10 : Closes t10 n10 = then_number t9 n8 nodes le_m o9 in
    then_word t10 n10 10 [] refl c10

then_line : (text ns : List ℕ) (c : ℕ) (ms : List ℕ) → no_digits (c ∷ []) ≡ true → AllSmall ms → Closes text ns → Opens (text ++ bits_line (c ∷ []) ms) (ns ++ ms)
unfolding bits_line no_digits
then_line text ns c ms none small h more =
    let o1 = then_word text ns c [] none h in
    let c2 = then_list (text ++ c ∷ []) ns ms small (closed (text ++ c ∷ []) ns o1) in
    let o3 = then_word (text ++ c ∷ [] ++ list_text ms) (ns ++ ms) 10 [] refl c2 in
    ap (λ t. numerals (t ++ more)) (sym (append_assoc text (c ∷ [] ++ list_text ms) (codes "\n")) ∙ ap (λ x. x ++ codes "\n") (sym (append_assoc text (c ∷ []) (list_text ms)))) ∙ o3 more

five : (t a b c d e : List ℕ) → t ++ (a ++ b ++ c ++ d ++ e) ≡ t ++ a ++ b ++ c ++ d ++ e
five t a b c d e =
    sym (append_assoc t (a ++ b ++ c ++ d) e) ∙ ap (λ x. x ++ e) (
    sym (append_assoc t (a ++ b ++ c) d) ∙ ap (λ x. x ++ d) (
    sym (append_assoc t (a ++ b) c) ∙ ap (λ x. x ++ c) (sym (append_assoc t a b))))

then_bits : (text ns a b c d : List ℕ) → AllSmall a → AllSmall b → AllSmall c → AllSmall d → Opens text ns → Opens (text ++ bits_text a b c d) (ns ++ a ++ b ++ c ++ d)
unfolding bits_text no_digits
then_bits text ns a b c d sa sb sc sd h more =
    let la = bits_line (codes "a") a in
    let lb = bits_line (codes "b") b in
    let lc = bits_line (codes "c") c in
    let ld = bits_line (codes "d") d in
    let o1 = then_line text ns 97 a refl sa (closed text ns h) in
    let o2 = then_line (text ++ la) (ns ++ a) 98 b refl sb (closed (text ++ la) (ns ++ a) o1) in
    let o3 = then_line (text ++ la ++ lb) (ns ++ a ++ b) 99 c refl sc (closed (text ++ la ++ lb) (ns ++ a ++ b) o2) in
    let o4 = then_line (text ++ la ++ lb ++ lc) (ns ++ a ++ b ++ c) 100 d refl sd (closed (text ++ la ++ lb ++ lc) (ns ++ a ++ b ++ c) o3) in
    let o5 = then_word (text ++ la ++ lb ++ lc ++ ld) (ns ++ a ++ b ++ c ++ d) 101 (codes "nd\n") refl (closed (text ++ la ++ lb ++ lc ++ ld) (ns ++ a ++ b ++ c ++ d) o4) in
    ap (λ t. numerals (t ++ more)) (five text la lb lc ld (codes "end\n")) ∙ o5 more

-- the numbers of a sheet fit
pub record IsSmallSheet (s : Sheet) : Type 0 where
  pub order : AllSmall s.order
  pub long : length s.order ≤ 4294967295
  pub exponent : s.exponent ≤ 4294967295
  pub width : s.width ≤ 4294967295
  pub count : length s.nodes ≤ 4294967295
  pub nodes : AllSmallLines s.nodes
  pub a : AllSmall s.a
  pub b : AllSmall s.b
  pub c : AllSmall s.c
  pub d : AllSmall s.d

-- the numbers in the order of the text
abbrev pub told : Sheet → List ℕ
told s = (1 ∷ [] ++ length s.order ∷ [] ++ s.order ++ s.exponent ∷ [] ++ s.width ∷ [] ++ length s.nodes ∷ []) ++ flat_map node_numbers s.nodes ++ s.a ++ s.b ++ s.c ++ s.d

-- the numbers in a sheet's text are those of the sheet
pub sheet_told : (s : Sheet) → IsSmallSheet s → numerals (sheet_text s) ≡ told s
unfolding sheet_text numerals_from
sheet_told s h =
    let head = head_text s.order s.exponent s.width (length s.nodes) in
    let hs = 1 ∷ [] ++ length s.order ∷ [] ++ s.order ++ s.exponent ∷ [] ++ s.width ∷ [] ++ length s.nodes ∷ [] in
    let o1 : Opens head hs = then_head s.order s.exponent s.width (length s.nodes) h.order h.long h.exponent h.width h.count in
    let o2 = then_nodes head hs s.nodes h.nodes o1 in
    let o3 = then_bits (head ++ flat_map node_text s.nodes) (hs ++ flat_map node_numbers s.nodes) s.a s.b s.c s.d h.a h.b h.c h.d o2 in
    ap numerals (sym (append-nil (sheet_text s))) ∙ o3 [] ∙ append-nil (told s)

-- ---- byte by byte
pub digit_step : (r : Option ℕ) (c : ℕ) (cs : List ℕ) → is_digit c ≡ true → numerals_from (Some (with_digit (so_far r) c)) cs ≡ numerals_from r (c ∷ cs)
unfolding numerals_from
digit_step None c cs h = sym (cond-true (is_digit c) (numerals_from (Some (with_digit 0 c)) cs) (numerals_from None cs) h)
digit_step (Some n) c cs h = sym (cond-true (is_digit c) (numerals_from (Some (with_digit n c)) cs) (n ∷ numerals_from None cs) h)

pub gap_step : (r : Option ℕ) (c : ℕ) (cs : List ℕ) → is_digit c ≡ false → numerals_from r [] ++ numerals_from None cs ≡ numerals_from r (c ∷ cs)
unfolding numerals_from
gap_step None c cs h = sym (cond-false (is_digit c) (numerals_from (Some (with_digit 0 c)) cs) (numerals_from None cs) h)
gap_step (Some n) c cs h = sym (cond-false (is_digit c) (numerals_from (Some (with_digit n c)) cs) (n ∷ numerals_from None cs) h)
