-- The words of a run, parted into the command's name and the words after it.
use Rattle.std.proofs.Common.{◌≡◌, ◌≢◌, ℕ, suc, ◌-◌, ◌≤◌, ◌==◌, true, false, List, [], ◌∷◌, map, length, take, drop, get_or, Some, None, Result, Err, option_and_then, refl, sym, ◌∙◌, ap, arith}
use Rattle.std.proofs.lemmas.Bool.{cond-true, cond-false, ne_eqb}
use Rattle.std.proofs.Math.Seq.{take-length}
use Rattle.clap.specs.Words.{Text, Row, Kinds}
use Rattle.sliq_words.specs.declared.form.Form.{Form}
use Rattle.sliq_words.specs.declared.reading.AskStop.{AskStop}
use Rattle.sliq_words.specs.Forms.{form_of, faults, rows_for}
use Rattle.sliq_words.specs.Asked.{asked_of, request_in, asked_after}

parted : {X : Type 0} (f : X → Text) (b : X) (rest : List X) (n : ℕ) → n ≡ length rest → map f (take n rest) ≡ map f rest
parted f b rest n e = ap (λ k. map f (take k rest)) e ∙ ap (map f) (take-length rest)

-- what is asked by words of which the second names a command
pub asked_by : {X : Type 0} (f : X → Text) (ws : List X) (x : X) (form : Form) → 2 ≤ length ws → x ≡ get_or ws 1 x → form_of (f x) ≡ Some form → asked_of (map f ws) ≡ asked_after form (map f (take (length ws - 2) (drop 2 ws)))
asked_by f [] x form le at is = absurd (omega arith)
asked_by f (a ∷ []) x form le at is = absurd (omega arith)
asked_by f (a ∷ b ∷ rest) x form le at is =
    let named : form_of (f b) ≡ Some form = ap (λ y. form_of (f y)) (sym at) ∙ is in
    let count : length (a ∷ b ∷ rest) - 2 ≡ length rest = omega arith in
    ap (option_and_then (λ k. asked_after k (map f rest))) named ∙ ap (asked_after form) (sym (parted f b rest (length (a ∷ b ∷ rest) - 2) count))

some_kinds : (ks : Kinds) → ks ≢ [] → (length ks == 0) ≡ false
some_kinds [] ne = absurd (ne refl)
some_kinds (k ∷ ks) ne = ne_eqb (suc (length ks)) 0 (λ e. absurd (omega (arith, e)))

no_kinds : (ks : Kinds) → ks ≡ [] → (length ks == 0) ≡ true
no_kinds ks e = ap (λ (l : Kinds). length l == 0) e

pub after_fault : (form : Form) (words : List Text) → faults form words ≢ [] → asked_after form words ≡ None
unfolding asked_after
after_fault form words ne = cond-false (length (faults form words) == 0) (request_in form (rows_for form words)) None (some_kinds (faults form words) ne)

pub after_read : (form : Form) (words : List Text) (rows : List Row) → faults form words ≡ [] → rows ≡ rows_for form words → asked_after form words ≡ request_in form rows
unfolding asked_after
after_read form words rows none same =
    cond-true (length (faults form words) == 0) (request_in form (rows_for form words)) None (no_kinds (faults form words) none) ∙ ap (request_in form) (sym same)

pub same_stop : {T : Type 0} (s t : AskStop) → (let r : Result T AskStop = Err s in r) ≡ Err t → s ≡ t
same_stop s t e = cc
