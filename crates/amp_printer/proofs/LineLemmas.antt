-- Lines of states, and bits written over others from the last one back.
use Rattle.std.proofs.Common.{◌≡◌, ℕ, ◌+◌, ◌-◌, ◌*◌, ◌/◌, ◌%◌, ◌<◌, ◌≤◌, ◌≢◌, zero, suc, List, [], ◌∷◌, ◌++◌, Bool, true, false, length, get_or, set, take, drop, codes, ap, sym, ◌∙◌, arith, append_assoc, append-nil, length-append}
use Rattle.std.proofs.lemmas.List.{length-map, length-take-le, take-append-drop, take_more, drop_more, take_all, drop_all, map-append, set_at, take_at}
use Rattle.ring_omega.specs.declared.quad.Quad.{Quad}
use Rattle.bit_lists.specs.Lists.{bit_value, place_of, bits_text}
use Rattle.bit_lists.proofs.OrderLemmas.{place_of-last, same_place}
use Rattle.amp_printer.specs.Texts.{entry_text, state_line}
use Rattle.amp_printer.specs.Private.{line_with}

-- the first i bits of x, and the others of y
abbrev pub mixed : ℕ → List Bool → List Bool → List Bool
mixed i x y = take i x ++ drop i y

shifted : (bar front : List ℕ) (b : ℕ) (behind rest t : List ℕ) → t ≡ front ++ b ∷ behind → bar ++ t ++ rest ≡ bar ++ front ++ b ∷ (behind ++ rest)
shifted bar front b behind rest t e =
    ap (λ (s : List ℕ). bar ++ s ++ rest) e ∙ ap (λ (s : List ℕ). s ++ rest) (sym (append_assoc bar front (b ∷ behind))) ∙ append_assoc (bar ++ front) (b ∷ behind) rest

-- one bit more of y is written
one_more : (x y : List Bool) (rest : List ℕ) (i : ℕ) → i < length x → i < length y → set (line_with (mixed (i + 1) x y) rest) (i + 1) (48 + bit_value (get_or y i false)) ≡ line_with (mixed i x y) rest
one_more x y rest i hx hy =
    let bar : List ℕ = codes "|" in
    let front = bits_text (take i x) in
    let old = 48 + bit_value (get_or x i false) in
    let new = 48 + bit_value (get_or y i false) in
    let behind = bits_text (drop (i + 1) y) in
    let long : length (bar ++ front) ≡ i + 1 = omega (arith, length-append bar front, length-map (take i x) (λ b. 48 + bit_value b), length-take-le i x (omega arith)) in
    let before : bits_text (mixed (i + 1) x y) ≡ front ++ old ∷ behind =
    ap (λ t. bits_text (t ++ drop (i + 1) y)) (take_more x i false hx)
    ∙ ap bits_text (append_assoc (take i x) (get_or x i false ∷ []) (drop (i + 1) y))
    ∙ map-append (λ b. 48 + bit_value b) (take i x) (get_or x i false ∷ drop (i + 1) y) in
    let after : bits_text (mixed i x y) ≡ front ++ new ∷ behind =
    ap (λ t. bits_text (take i x ++ t)) (drop_more y i false hy)
    ∙ map-append (λ b. 48 + bit_value b) (take i x) (get_or y i false ∷ drop (i + 1) y) in
    ap (λ t. set t (i + 1) new) (shifted bar front old behind rest (bits_text (mixed (i + 1) x y)) before)
    ∙ set_at (bar ++ front) old (behind ++ rest) new (i + 1) long ∙ sym (shifted bar front new behind rest (bits_text (mixed i x y)) after)

pub one_written : (x y : List Bool) (rest t : List ℕ) (i k digit : ℕ) → i ≡ k + 1 → k < length x → k < length y → digit ≡ 48 + bit_value (get_or y k false) → t ≡ line_with (mixed i x y) rest → set t i digit ≡ line_with (mixed k x y) rest
one_written x y rest t i k digit e hx hy is at =
    ap (λ s. set s i digit) at ∙ ap (λ n. set (line_with (mixed n x y) rest) n digit) e ∙ ap (λ d. set (line_with (mixed (k + 1) x y) rest) (k + 1) d) is ∙ one_more x y rest k hx hy

-- all bits of x stand at first
pub none_written : (x y : List Bool) (rest : List ℕ) (i : ℕ) → length x ≡ i → length y ≡ i → line_with x rest ≡ line_with (mixed i x y) rest
none_written x y rest i ex ey =
    ap (λ t. line_with t rest) (sym (ap (λ t. t ++ drop i y) (take_all i x (omega arith)) ∙ ap (λ t. x ++ t) (drop_all i y (omega arith)) ∙ append-nil x))

-- the others are the same already
pub rest_written : (x y : List Bool) (rest : List ℕ) (i : ℕ) → length x ≡ length y → i ≤ length x → place_of (take i x) ≡ place_of (take i y) → line_with (mixed i x y) rest ≡ line_with y rest
rest_written x y rest i same few at =
    let front : take i x ≡ take i y = same_place (take i x) (take i y) (length-take-le i x few ∙ sym (length-take-le i y (omega arith))) at in
    ap (λ t. line_with t rest) (ap (λ t. t ++ drop i y) front ∙ take-append-drop i y)

bit_value-below : (b : Bool) → bit_value b < 2
bit_value-below false = omega arith
bit_value-below true = omega arith

-- where the places of the first bits differ, there are some
pub some_first : (x y : List Bool) (a b i : ℕ) → a ≡ place_of (take i x) → b ≡ place_of (take i y) → a ≢ b → i ≡ i - 1 + 1
some_first x y a b zero ea eb other = absurd (other (ea ∙ sym eb))
some_first x y a b (suc k) ea eb other = omega arith

-- the place of the first bits, halved, and the last one of them
place_of-more : (x : List Bool) (i k : ℕ) → i ≡ k + 1 → k < length x → place_of (take i x) ≡ place_of (take k x) * 2 + bit_value (get_or x k false)
place_of-more x i k e h = ap (λ n. place_of (take n x)) e ∙ ap place_of (take_more x k false h) ∙ place_of-last (take k x) (get_or x k false)

pub halved_place : (x : List Bool) (p i k : ℕ) → p ≡ place_of (take i x) → i ≡ k + 1 → k < length x → p / 2 ≡ place_of (take k x)
halved_place x p i k at e h = omega (arith, place_of-more x i k e h, bit_value-below (get_or x k false))

pub last_bit : (x : List Bool) (p i k : ℕ) → p ≡ place_of (take i x) → i ≡ k + 1 → k < length x → p % 2 ≡ bit_value (get_or x k false)
last_bit x p i k at e h = omega (arith, place_of-more x i k e h, bit_value-below (get_or x k false))

-- what stands behind the bits of a state's line
pub state_rest : (x : List Bool) (q : Quad) (k : ℕ) → state_line x q k ≡ line_with x (codes "> " ++ entry_text q k ++ codes "\n")
unfolding state_line
state_rest x q k =
    append_assoc (codes "|" ++ bits_text x ++ codes "> ") (entry_text q k) (codes "\n") ∙ append_assoc (codes "|" ++ bits_text x) (codes "> ") (entry_text q k ++ codes "\n")
    ∙ ap (λ (t : List ℕ). codes "|" ++ bits_text x ++ t) (sym (append_assoc (codes "> ") (entry_text q k) (codes "\n")))

-- what stands before the amplitude
pub state_front : (x : List Bool) (q : Quad) (k n : ℕ) → n ≡ length x + 3 → take n (state_line x q k) ≡ codes "|" ++ bits_text x ++ codes "> "
unfolding state_line
state_front x q k n e =
    let bar : List ℕ = codes "|" in
    let end : List ℕ = codes "> " in
    let front = bar ++ bits_text x ++ end in
    let long : length front ≡ n = omega (arith, length-append (bar ++ bits_text x) end, length-append bar (bits_text x), length-map x (λ b. 48 + bit_value b)) in
    ap (take n) (append_assoc front (entry_text q k) (codes "\n")) ∙ take_at front (entry_text q k ++ codes "\n") n long

-- a line is longer than its bits
pub state_longer : (x : List Bool) (q : Quad) (k : ℕ) → length x < length (state_line x q k)
state_longer x q k =
    let bar : List ℕ = codes "|" in
    let rest : List ℕ = codes "> " ++ entry_text q k ++ codes "\n" in
    omega (arith, ap length (state_rest x q k), length-append (bar ++ bits_text x) rest, length-append bar (bits_text x), length-map x (λ b. 48 + bit_value b))

-- another amplitude behind the bits
pub entry_written : (x : List Bool) (q p : Quad) (k j n : ℕ) (old cut new last : List ℕ) → n ≡ length x + 3 → old ≡ state_line x q k → cut ≡ take n old → new ≡ cut ++ entry_text p j → last ≡ new ++ codes "\n" → last ≡ state_line x p j
unfolding state_line
entry_written x q p k j n old cut new last long is ecut enew elast =
    let front : cut ≡ codes "|" ++ bits_text x ++ codes "> " = ecut ∙ ap (take n) is ∙ state_front x q k n long in
    elast ∙ ap (λ (t : List ℕ). t ++ codes "\n") (enew ∙ ap (λ (t : List ℕ). t ++ entry_text p j) front)

-- other bits before the amplitude
pub bits_changed : (x y : List Bool) (q : Quad) (k : ℕ) (old new : List ℕ) → ((rest : List ℕ) → old ≡ line_with x rest → new ≡ line_with y rest) → old ≡ state_line x q k → new ≡ state_line y q k
bits_changed x y q k old new changes is = changes (codes "> " ++ entry_text q k ++ codes "\n") (is ∙ state_rest x q k) ∙ sym (state_rest y q k)
