-- Symbols that are kept as codes are read back.
use Rattle.std.proofs.Common.{◌≡◌, ◌∙◌, sym, ap, refl, ◌≤◌, ◌<◌, ℕ, suc, ◌+◌, List, [], ◌∷◌, ◌++◌, append_assoc, length, length-append, map, take, get_or, Some, None, true, false, arith, ℤ, pos}
use Rattle.std.proofs.lemmas.Bool.{cond-true, cond-false}
use Rattle.std.proofs.lemmas.List.{append-nil, map-append, take_more}
use Rattle.std.proofs.lemmas.Grind.{flat_map-append}
use Rattle.std.specs.List.{flat_map}
use Rattle.qasm_lex.specs.declared.symbol.Symbol.{Symbol}
use Rattle.qasm_lex.specs.declared.symbol.Symbol.TheVariants.{Whole, Real, Pi, Param, Function, Plus, Minus, Times, Over, Caret, Open, Close, Other}
use Rattle.qasm_gates.specs.declared.codes.Code.{Code}
use Rattle.qasm_gates.specs.declared.codes.Code.TheVariants.{End}
use Rattle.qasm_gates.specs.Private.Codes.{code_in, numbers_in, is_end, symbol_by, rest_numbers, unpacked}

one_back : (s : Symbol) (codes : List Code) (numbers : List ℤ) → unpacked (code_in s ∷ codes) (numbers_in s ++ numbers) ≡ s ∷ unpacked codes numbers
unfolding unpacked
one_back (Whole (Some n)) codes numbers = refl
one_back (Whole None) codes numbers = refl
one_back Real codes numbers = refl
one_back Pi codes numbers = refl
one_back (Param n) codes numbers = refl
one_back Function codes numbers = refl
one_back Plus codes numbers = refl
one_back Minus codes numbers = refl
one_back Times codes numbers = refl
one_back Over codes numbers = refl
one_back Caret codes numbers = refl
one_back Open codes numbers = refl
one_back Close codes numbers = refl
one_back Other codes numbers = refl

pub symbols_back : (symbols : List Symbol) (codes : List Code) (numbers : List ℤ) → unpacked (map code_in symbols ++ (End ∷ codes)) (flat_map numbers_in symbols ++ numbers) ≡ symbols
unfolding unpacked
symbols_back [] codes numbers = refl
symbols_back (s ∷ symbols) codes numbers =
    ap (unpacked (code_in s ∷ (map code_in symbols ++ (End ∷ codes)))) (append_assoc (numbers_in s) (flat_map numbers_in symbols) numbers)
    ∙ one_back s (map code_in symbols ++ (End ∷ codes)) (flat_map numbers_in symbols ++ numbers)
    ∙ ap (λ r. s ∷ r) (symbols_back symbols codes numbers)

-- a symbol more is read
pub one_more : (symbols : List Symbol) (code : Code) (codes : List Code) (numbers : List ℤ) → is_end code ≡ false
    → symbols ++ unpacked (code ∷ codes) numbers ≡ (symbols ++ symbol_by code (get_or numbers 0 (pos 0)) ∷ []) ++ unpacked codes (rest_numbers code numbers)
unfolding unpacked
one_more symbols code codes numbers e = ap (λ r. symbols ++ r) (cond-false (is_end code) _ _ e) ∙ sym (append_assoc symbols (symbol_by code (get_or numbers 0 (pos 0)) ∷ []) (unpacked codes (rest_numbers code numbers)))

pub room : (symbols : List Symbol) (code : Code) (codes : List Code) (numbers : List ℤ) → is_end code ≡ false → length (symbols ++ unpacked (code ∷ codes) numbers) ≤ 64 → length symbols < 64
unfolding unpacked
room symbols code codes numbers e h =
    let l = length-append symbols (unpacked (code ∷ codes) numbers) in
    let m : length (unpacked (code ∷ codes) numbers) ≡ suc (length (unpacked codes (rest_numbers code numbers))) = ap length (cond-false (is_end code) _ _ e) in
    omega arith

pub at_end : (symbols : List Symbol) (code : Code) (codes : List Code) (numbers : List ℤ) → is_end code ≡ true → symbols ++ unpacked (code ∷ codes) numbers ≡ symbols
unfolding unpacked
at_end symbols code codes numbers e = ap (λ r. symbols ++ r) (cond-true (is_end code) _ _ e) ∙ append-nil symbols

pub none_left : (symbols : List Symbol) (codes : List Code) (numbers : List ℤ) → length codes ≡ 0 → symbols ++ unpacked codes numbers ≡ symbols
unfolding unpacked
none_left symbols [] numbers e = append-nil symbols
none_left symbols (code ∷ codes) numbers e = absurd (omega arith)

-- one more of a list that is kept
pub map_next : {X Y : Type 0} (f : X → Y) (xs : List X) (i : ℕ) (d : X) → i < length xs → map f (take (i + 1) xs) ≡ map f (take i xs) ++ f (get_or xs i d) ∷ []
map_next f xs i d h = ap (map f) (take_more xs i d h) ∙ map-append f (take i xs) (get_or xs i d ∷ [])

pub flat_map_next : {X Y : Type 0} (f : X → List Y) (xs : List X) (i : ℕ) (d : X) → i < length xs → flat_map f (take (i + 1) xs) ≡ flat_map f (take i xs) ++ f (get_or xs i d)
flat_map_next f xs i d h = ap (flat_map f) (take_more xs i d h) ∙ flat_map-append f (take i xs) (get_or xs i d ∷ []) ∙ ap (λ r. flat_map f (take i xs) ++ r) (append-nil (f (get_or xs i d)))
