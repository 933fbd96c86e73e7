-- Words that are left out unless a gate has them as its name.
use Rattle.std.proofs.Common.{◌≡◌, ◌∙◌, sym, ap, refl, subst, ℕ, Bool, true, false, ◌||◌, ◌&&◌, not, List, [], ◌∷◌, is_some, Option, Some, None, option_map}
use Rattle.std.specs.List.{list_any, AllByRecursion}
use Rattle.std.specs.Option.{option_or}
use Rattle.std.specs.Str.{bytes_eq}
use Rattle.std.specs.Map.{lookup}
use Rattle.std.proofs.lemmas.Slice.Eq.{bytes_eq-Decides}
use Rattle.qasm_gates.specs.Gates.{Named, based, builtin, builtin_gate, gate_in}
use Rattle.qasm_reader.specs.Profile.{words_left_out, words_undefined}
use Rattle.qasm_reader.specs.Private.Scope.{leaves_by}

-- what holds of all words holds of one of them
any_holds : (P : List ℕ → Type 0) (first : List ℕ) (ws : List (List ℕ)) → AllByRecursion P ws → list_any (bytes_eq first) ws ≡ true → P first
any_holds P first [] a e = absurd cc
any_holds P first (w ∷ ws) a e = by (bytes_eq first w) refl (any_holds P first ws a.1) e
  where
    by : (b : Bool) → bytes_eq first w ≡ b → (list_any (bytes_eq first) ws ≡ true → P first) → b || list_any (bytes_eq first) ws ≡ true → P first
    by true h more e = subst P (sym ((bytes_eq-Decides first w).0 h)) a.0
    by false h more e = more e

none_built : AllByRecursion (λ w. builtin w ≡ None) words_undefined
unfolding based builtin
none_built = (refl, (refl, (refl, (refl, (refl, tt)))))

there : {X Y : Type 0} (f : X → Y) (x : Option X) → is_some (option_map f x) ≡ is_some x
there f None = refl
there f (Some x) = refl

-- a word that stands for no gate of its own is left out where nothing is found of it
pub left_undefined : (definitions : List (List ℕ × Named)) (first : List ℕ) {X : Type 0} (f : X → Named) (x : Option X) → list_any (bytes_eq first) words_left_out ≡ false → list_any (bytes_eq first) words_undefined ≡ true
    → option_map f x ≡ gate_in definitions first → not (is_some x) ≡ leaves_by definitions first
left_undefined definitions first f x a b e =
    let none = any_holds (λ w. builtin w ≡ None) first words_undefined none_built b in
    ap not (sym (there f x) ∙ ap is_some e ∙ ap (λ g. is_some (option_or (option_map builtin_gate g) (lookup (bytes_eq first) definitions))) none)
    ∙ ap (λ z. z && not (is_some (lookup (bytes_eq first) definitions))) (sym b)
    ∙ ap (λ z. z || (list_any (bytes_eq first) words_undefined && not (is_some (lookup (bytes_eq first) definitions)))) (sym a)
