-- What holds of each command of the table.
use Rattle.std.proofs.Common.{◌≡◌, ℕ, ◌+◌, ◌<◌, ◌≤◌, suc, true, false, Bool, cond, List, [], ◌∷◌, ◌++◌, map, flat_map, slice_get, length, drop, get_or, Option, Some, None, IfSome, inl, inr, refl, sym, ◌∙◌, ap, subst, add-one}
use Rattle.std.specs.List.{AllByRecursion}
use Rattle.std.specs.Str.{bytes_eq}
use Rattle.std.proofs.lemmas.Bool.{cases_Bool, cond-true, cond-false}
use Rattle.std.proofs.Math.ListN.{drop_of_length-le}
use Rattle.std.proofs.Math.Seq.{drop-cons}
use Rattle.clap.specs.Words.{is_simple, is_simple_and_free}
use Rattle.clap.proofs.OnLiterals.{clap_on_literals}
use Rattle.sliq_words.specs.declared.form.Form.{Form}
use Rattle.sliq_words.specs.declared.form.Word.{Word}
use Rattle.sliq_words.specs.declared.form.Word.TheVariants.{File}
use Rattle.sliq_words.specs.declared.form.TheConstants.{COMMANDS}
use Rattle.sliq_words.specs.Forms.{form_of, app_for, IsCommand, IsWithin}
use Rattle.sliq_words.specs.Asked.{InRange, file_count, filled}

-- ---- the search by name
-- those that pass a test
abbrev pub called : {X : Type 0} → (X → Bool) → (X → Form) → List X → List Form
called test f xs = flat_map (λ x. cond (test x) (f x ∷ []) []) xs

module _ {X : Type 0} (test : X → Bool) (f : X → Form) where
  passing : (x : X) (xs : List X) → test x ≡ true → called test f (x ∷ xs) ≡ f x ∷ called test f xs
  passing x xs h = ap (λ l. l ++ called test f xs) (cond-true (test x) (f x ∷ []) [] h)

  failing : (x : X) (xs : List X) → test x ≡ false → called test f (x ∷ xs) ≡ called test f xs
  failing x xs h = ap (λ l. l ++ called test f xs) (cond-false (test x) (f x ∷ []) [] h)

  -- what comes first is of the list
  of_called : (P : Form → Type 0) (xs : List X) (form : Form) → AllByRecursion P (map f xs) → slice_get (called test f xs) 0 ≡ Some form → P form
  of_called P [] form all e = absurd (let none : None ≡ Some form = e in cc)
  of_called P (x ∷ xs) form all e = elim (cases_Bool (test x)) [
    | inl h ↦ let some : Some (f x) ≡ Some form = sym (ap (λ l. slice_get l 0) (passing x xs h)) ∙ e in let same : f x ≡ form = cc in subst P same all.0
    | inr h ↦ of_called P xs form all.1 (sym (ap (λ l. slice_get l 0) (failing x xs h)) ∙ e)
  ]

  -- the item of a place comes first, or the others do
  pub called_here : (xs : List X) (i : ℕ) (d : X) → i < length xs → test (get_or xs i d) ≡ true → slice_get (called test f (drop i xs)) 0 ≡ Some (f (get_or xs i d))
  called_here xs i d less h = ap (λ l. slice_get (called test f l) 0) (drop-cons xs i d less) ∙ ap (λ l. slice_get l 0) (passing (get_or xs i d) (drop (suc i) xs) h)

  pub called_behind : (xs : List X) (i : ℕ) (d : X) → i < length xs → test (get_or xs i d) ≡ false → called test f (drop (i + 1) xs) ≡ called test f (drop i xs)
  called_behind xs i d less h =
      ap (λ k. called test f (drop k xs)) (add-one i)
      ∙ sym (ap (called test f) (drop-cons xs i d less) ∙ failing (get_or xs i d) (drop (suc i) xs) h)

  -- none is left behind the last
  pub called_past : (xs : List X) (i : ℕ) → length xs ≤ i → called test f (drop i xs) ≡ []
  called_past xs i past = ap (called test f) (drop_of_length-le xs past)

-- ---- the table
-- how many files a word is
abbrev pub files_at : Option Word → ℕ
files_at (Some File) = 1
files_at word = 0

-- its command line is such as `clap` speaks of; its task has as many files as its words; and values within the ranges of the words are in the ranges of its task
pub record IsSound (form : Form) : Type 0 where
  pub simple : is_simple (app_for form) ≡ true
  pub free : is_simple_and_free (app_for form) ≡ true
  pub files : (a b c : ℕ) (input : Option (List Bool)) → file_count (filled form.kind a b c input) ≡ files_at form.first + files_at form.second + files_at form.third
  pub values : (a b c : ℕ) (input : Option (List Bool)) → IsWithin form.first a → IsWithin form.second b → IsWithin form.third c → IfSome input (λ bits. length bits ≤ 64)
      → InRange (filled form.kind a b c input)

each_sound : AllByRecursion IsSound (map (λ command. command.1) COMMANDS)
unfolding clap_on_literals app_for
each_sound = (
  record { simple = refl; free = refl; files = λ a b c input. refl; values = λ a b c input in_a in_b in_c short. short },
  (
    record { simple = refl; free = refl; files = λ a b c input. refl; values = λ a b c input in_a in_b in_c short. tt },
    (
      record { simple = refl; free = refl; files = λ a b c input. refl; values = λ a b c input in_a in_b in_c short. tt },
      (
        record { simple = refl; free = refl; files = λ a b c input. refl; values = λ a b c input in_a in_b in_c short. (in_a.0, in_a.1, in_b.1) },
        (
          record { simple = refl; free = refl; files = λ a b c input. refl; values = λ a b c input in_a in_b in_c short. in_b.1 },
          (
            record { simple = refl; free = refl; files = λ a b c input. refl; values = λ a b c input in_a in_b in_c short. tt },
            tt,
          ),
        ),
      ),
    ),
  ),
)

pub sound : (form : Form) → IsCommand form → IsSound form
unfolding form_of
sound form command = of_called (λ entry. bytes_eq command.0 entry.0.now) (λ entry. entry.1) IsSound COMMANDS form each_sound command.1
