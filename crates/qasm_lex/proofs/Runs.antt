-- Runs of bytes.
use Rattle.std.proofs.Common.{◌≡◌, ◌∙◌, ap, refl, ◌≤◌, ◌<◌, ℕ, zero, suc, ◌+◌, Bool, true, false, cond, List, [], ◌∷◌, ◌++◌, length, get_or, drop, take, arith, add-one}
use Rattle.std.proofs.Math.Seq.{drop-cons}
use Rattle.qasm_lex.specs.Private.Scan.{run}
use Rattle.qasm_lex.specs.Lexemes.{IsRun}

pub run_more : (is : ℕ → Bool) (b : ℕ) (bs : List ℕ) → is b ≡ true → run is (b ∷ bs) ≡ run is bs + 1
unfolding run
run_more is b bs h = rw h refl

pub run_none : (is : ℕ → Bool) (b : ℕ) (bs : List ℕ) → is b ≡ false → run is (b ∷ bs) ≡ 0
unfolding run
run_none is b bs h = rw h refl

pub run_here : (is : ℕ → Bool) (bs : List ℕ) (i : ℕ) → i < length bs → is (get_or bs i 0) ≡ true
    → run is (drop i bs) ≡ run is (drop (i + 1) bs) + 1
run_here is bs i lt h =
    let e : suc i ≡ i + 1 = omega arith in
    rw (drop-cons bs i 0) (run_more is (get_or bs i 0) (drop (suc i) bs) h ∙ ap (λ k. run is (drop k bs) + 1) e)

pub run_stops : (is : ℕ → Bool) (bs : List ℕ) (i : ℕ) → i < length bs → is (get_or bs i 0) ≡ false
    → run is (drop i bs) ≡ 0
run_stops is bs i lt h = rw (drop-cons bs i 0) (run_none is (get_or bs i 0) (drop (suc i) bs) h)

pub run_past : (is : ℕ → Bool) (bs : List ℕ) (i : ℕ) → length bs ≤ i → run is (drop i bs) ≡ 0
unfolding run
run_past is [] zero h = refl
run_past is [] (suc i) h = refl
run_past is (b ∷ bs) zero h = absurd (omega arith)
run_past is (b ∷ bs) (suc i) h = run_past is bs i (omega arith)

run_is_step : (is : ℕ → Bool) (b : ℕ) (bs : List ℕ) → IsRun is (take (run is bs) bs) → (t : Bool) → is b ≡ t
    → IsRun is (take (cond t (run is bs + 1) 0) (b ∷ bs))
run_is_step is b bs rest true e = rw add-one (e, rest)
run_is_step is b bs rest false e = tt

pub run_is : (is : ℕ → Bool) (bs : List ℕ) → IsRun is (take (run is bs) bs)
unfolding run
run_is is [] = tt
run_is is (b ∷ bs) = run_is_step is b bs (run_is is bs) (is b) refl

pub run_append : (is : ℕ → Bool) (x y : List ℕ) → IsRun is x → IsRun is y → IsRun is (x ++ y)
run_append is [] y h g = g
run_append is (b ∷ x) y h g = (h.0, run_append is x y h.1 g)

pub run_parts : (is : ℕ → Bool) (x y : List ℕ) → IsRun is (x ++ y) → IsRun is x × IsRun is y
run_parts is [] y h = (tt, h)
run_parts is (b ∷ x) y h = let r = run_parts is x y h.1 in ((h.0, r.0), r.1)

-- a run that bytes begin with is no longer than what `run` finds
pub run_reaches : (is : ℕ → Bool) (w u : List ℕ) → IsRun is w → length w ≤ run is (w ++ u)
run_reaches is [] u h = omega arith
run_reaches is (b ∷ w) u h = omega (arith, run_more is b (w ++ u) h.0, run_reaches is w u h.1)

-- the next byte, if there is one, fails the test
abbrev pub Stops : (ℕ → Bool) → List ℕ → Type 0
Stops is [] = Unit {0}
Stops is (b ∷ bs) = is b ≡ false

pub run_exact : (is : ℕ → Bool) (w u : List ℕ) → IsRun is w → Stops is u → run is (w ++ u) ≡ length w
unfolding run
run_exact is [] [] h s = refl
run_exact is [] (b ∷ u) h s = run_none is b u s
run_exact is (b ∷ w) u h s = omega (arith, run_more is b (w ++ u) h.0, run_exact is w u h.1 s)

run_within_step : (is : ℕ → Bool) (b : ℕ) (bs : List ℕ) → run is bs ≤ length bs → (t : Bool) → cond t (run is bs + 1) 0 ≤ suc (length bs)
run_within_step is b bs h true = omega arith
run_within_step is b bs h false = omega arith

pub run_within : (is : ℕ → Bool) (bs : List ℕ) → run is bs ≤ length bs
unfolding run
run_within is [] = omega arith
run_within is (b ∷ bs) = run_within_step is b bs (run_within is bs) (is b)
