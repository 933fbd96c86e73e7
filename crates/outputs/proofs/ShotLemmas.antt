-- Shots one after another: the words that a shot reads, and the lines of the first shots.
use Rattle.std.proofs.Common.{◌≡◌, ℕ, zero, suc, ◌+◌, ◌-◌, ◌*◌, ◌^◌, ◌<◌, ◌≤◌, Bool, true, false, List, [], ◌∷◌, ◌++◌, length, map, flat_map, replicate, Option, Some, None, refl, sym, ◌∙◌, ap, subst, arith, append-nil, append_assoc}
use Rattle.std.specs.Prelude.{slice_set}
use Rattle.std.specs.List.{range_with_len}
use Rattle.std.proofs.Math.Nat.{suc-mul}
use Rattle.std.proofs.Math.Numerals.{suc-eq-add-one}
use Rattle.std.proofs.Math.Path.{ap₂}
use Rattle.std.proofs.lemmas.Grind.{flat_map-append}
use Rattle.std.proofs.lemmas.List.Folds.{flat_map-map}
use Rattle.std.proofs.lemmas.List.FromFn.{map-range_with_len_more}
use Rattle.std.proofs.lemmas.Nat.{mul-le}
use Rattle.ring_omega.specs.declared.quad.Quad.{Quad}
use Rattle.outside.specs.Buffering.{SentSome}
use Rattle.outside.proofs.BufferingLemmas.{some_front}
use Rattle.amp_printer.specs.Texts.{outcome_text}
use Rattle.probabilities.specs.Outcomes.{measured_count}
use Rattle.probabilities.proofs.OutcomeLemmas.{measured-cons}
use Rattle.sampler.specs.Draws.{bit_drawn, drawn_from, drawn}
use Rattle.sampler.specs.Words.{random_word, FromWord}
use Rattle.outputs.specs.Shots.{shot_line, shot_lines}

-- ---- the words of a shot
-- so many words are read, one for each measured qubit
drawn-same : (v : List Bool → Quad) (words others : ℕ → ℕ) (p : List (Option Bool)) (q i : ℕ) (ms : List Bool) → ((j : ℕ) → i ≤ j → j < i + measured_count ms → words j ≡ others j)
    → drawn_from v words p q i ms ≡ drawn_from v others p q i ms
unfolding drawn_from
drawn-same v words others p q i [] same = refl
drawn-same v words others p q i (false ∷ ms) same = drawn-same v words others p (q + 1) i ms (λ j le lt. same j le (omega (arith, lt, measured-cons false ms)))
drawn-same v words others p q i (true ∷ ms) same =
    let more = measured-cons true ms in
    let first : words i ≡ others i = same i (omega arith) (omega (arith, more)) in
    ap (λ r. bit_drawn v p q r ∷ drawn_from v words (slice_set p q (Some (bit_drawn v p q r))) (q + 1) (i + 1) ms) first
    ∙ ap (λ l. bit_drawn v p q (others i) ∷ l)
    (drawn-same v words others (slice_set p q (Some (bit_drawn v p q (others i)))) (q + 1) (i + 1) ms (λ j le lt. same j (omega (arith, le)) (omega (arith, lt, more))))

pub drawn_by : (v : List Bool → Quad) (words others : ℕ → ℕ) (ms : List Bool) → ((i : ℕ) → i < measured_count ms → words i ≡ others i) → drawn v words ms ≡ drawn v others ms
drawn_by v words others ms same = drawn-same v words others (replicate (length ms) None) 0 0 ms (λ j le lt. same j (omega (arith, lt)))

-- and so many bits are drawn
length-drawn_from : (v : List Bool → Quad) (words : ℕ → ℕ) (p : List (Option Bool)) (q i : ℕ) (ms : List Bool) → length (drawn_from v words p q i ms) ≡ measured_count ms
unfolding drawn_from
length-drawn_from v words p q i [] = refl
length-drawn_from v words p q i (false ∷ ms) = length-drawn_from v words p (q + 1) i ms ∙ (let more = measured-cons false ms in omega (arith, more))
length-drawn_from v words p q i (true ∷ ms) =
    let rest = length-drawn_from v words (slice_set p q (Some (bit_drawn v p q (words i)))) (q + 1) (i + 1) ms in
    omega (arith, rest, measured-cons true ms)

pub length-drawn : (v : List Bool → Quad) (words : ℕ → ℕ) (ms y : List Bool) → y ≡ drawn v words ms → length y ≡ measured_count ms
length-drawn v words ms y is = ap length is ∙ length-drawn_from v words (replicate (length ms) None) 0 0 ms

-- the number of a shot's first word
pub few_words : (s shots m : ℕ) → s < shots → shots ≤ 1000000 → m ≤ 64 → s * m < 2 ^ 59
few_words s shots m less few narrow = omega (arith, mul-le s m 1000000 64 (omega (arith, less, few)) narrow)

-- ---- the lines of the first shots
module _ (ms : List Bool) (words : ℕ → ℕ) (v : List Bool → Quad) where
  abbrev line : ℕ → List ℕ
  line = shot_line ms words v

  abbrev same : ℕ → ℕ
  same x = x

  -- one shot more
  pub shots_more : (s : ℕ) → shot_lines ms (s + 1) words v ≡ shot_lines ms s words v ++ line s
  shots_more s =
      sym (flat_map-map line same (range_with_len 0 (s + 1)))
      ∙ ap (flat_map line) (map-range_with_len_more same 0 s s (let e : 0 + s ≡ s = omega arith in e))
      ∙ flat_map-append line (map same (range_with_len 0 s)) (s ∷ [])
      ∙ ap₂ (λ a b. a ++ b) (flat_map-map line same (range_with_len 0 s)) (append-nil (line s))

  -- they are a front of the lines of more shots
  shots_front : (k s shots : ℕ) → shots ≡ s + k → (rest : List ℕ) × (shot_lines ms s words v ++ rest ≡ shot_lines ms shots words v)
  shots_front zero s shots e = ([], append-nil (shot_lines ms s words v) ∙ ap (λ n. shot_lines ms n words v) (let f : s ≡ shots = omega (arith, e) in f))
  shots_front (suc k) s shots e =
      let further = shots_front k (s + 1) shots (omega (arith, e)) in
      (line s ++ further.0, sym (append_assoc (shot_lines ms s words v) (line s) further.0) ∙ ap (λ l. l ++ further.0) (sym (shots_more s)) ∙ further.1)

  -- some of them is some of the whole
  pub some_shots : {old new : Option (List ℕ)} {waited : List ℕ} (s shots : ℕ) → s ≤ shots → SentSome old waited new (shot_lines ms s words v) → SentSome old waited new (shot_lines ms shots words v)
  some_shots {old} {new} {waited} s shots le some =
      let front = shots_front (shots - s) s shots (omega (arith, le)) in
      subst (λ b. SentSome old waited new b) front.1 (some_front front.0 some)

-- the line of the outcome that the words from this one on draw
pub line_drawn : (ms : List Bool) (v : List Bool → Quad) (s seed : ℕ) (y : List Bool) (from : FromWord) → from ≡ record { seed = seed; number = s * measured_count ms }
    → y ≡ drawn v (λ i. random_word from.seed (from.number + i)) ms → outcome_text y ≡ shot_line ms (random_word seed) v s
line_drawn ms v s seed y from is drew = ap outcome_text drew ∙ ap (λ (w : FromWord). outcome_text (drawn v (λ i. random_word w.seed (w.number + i)) ms)) is

-- the words of the first shot
pub words_begin : (ms : List Bool) (seed : ℕ) (from : FromWord) → from ≡ record { seed = seed; number = 0 } → from ≡ record { seed = seed; number = 0 * measured_count ms }
words_begin ms seed from is = let none : 0 ≡ 0 * measured_count ms = omega arith in is ∙ ap (λ (n : ℕ). let f : FromWord = record { seed = seed; number = n } in f) none

-- and those behind a shot's
pub words_behind : (ms : List Bool) (s seed : ℕ) (from next : FromWord) → from ≡ record { seed = seed; number = s * measured_count ms }
    → next ≡ record { seed = from.seed; number = from.number + measured_count ms } → next ≡ record { seed = seed; number = (s + 1) * measured_count ms }
words_behind ms s seed from next is behind =
    let number : s * measured_count ms + measured_count ms ≡ (s + 1) * measured_count ms = sym (suc-mul s (measured_count ms)) ∙ ap (λ k. k * measured_count ms) (suc-eq-add-one s) in
    behind ∙ ap (λ (w : FromWord). let f : FromWord = record { seed = w.seed; number = w.number + measured_count ms } in f) is
    ∙ ap (λ (n : ℕ). let f : FromWord = record { seed = seed; number = n } in f) number
