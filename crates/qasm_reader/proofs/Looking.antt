-- What arguments mean, looked up one after the other.
use Rattle.std.proofs.Common.{◌≡◌, ◌∙◌, sym, ap, refl, ◌≤◌, ℕ, suc, ◌+◌, Bool, true, false, ◌||◌, not, cond, min, nat_lt, take, List, [], ◌∷◌, ◌++◌, length, append_assoc, append-nil, length-append, Option, Some, None, is_some, option_map, option_and_then, Result, Ok, Err, arith}
use Rattle.std.specs.List.{list_any, cons_option}
use Rattle.std.specs.Option.{option_or}
use Rattle.std.proofs.Math.Bool.{or-false, or_assoc}
use Rattle.std.proofs.lemmas.Bool.{or_parts, or_right, ltb-false}
use Rattle.std.proofs.lemmas.List.{take_all}
use Rattle.std.proofs.Math.Seq.{take-append_seam}
use Rattle.std.proofs.lemmas.Option.{same_Some}
use Rattle.std.proofs.lemmas.Bool.Decides.{nat_tests, Decides-ltb}
use Rattle.qasm_lex.specs.Lexemes.{Lexeme}
use Rattle.qasm_forms.specs.Statements.{Argument}
use Rattle.qasm_reader.specs.declared.registers.Miss.{Miss}
use Rattle.qasm_reader.specs.declared.registers.Miss.TheVariants.{Unknown, Beyond}
use Rattle.qasm_reader.specs.Acts.{Register, Target, register, index_of, place_in, target, targets, wholes}
use Rattle.qasm_reader.specs.Reasons.{same_sort, is_unknown, is_beyond}
use Rattle.qasm_reader.specs.Private.Scope.{found_as, find, Found, many, next_count, other_size, noted, other_than, differ}

-- what is known of arguments, noted one after the other
abbrev pub nothing_found : Found
nothing_found = record { targets = []; count = 0; unknown = false; beyond = false; size = None; differ = false }

abbrev pub look : List (List ℕ × Register) → Found → List Argument → Found
look all f [] = f
look all f (a ∷ more) = look all (noted f (find all true a)) more

-- whether one of the sizes differs from the first of all
abbrev pub differs_from : Option ℕ → List ℕ → Bool
differs_from None sizes = differ sizes
differs_from (Some n) sizes = list_any (other_than n) sizes

none_differs : (size : Option ℕ) → differs_from size [] ≡ false
none_differs None = refl
none_differs (Some n) = refl

sized : (s t : Option ℕ) (sizes : List ℕ) → other_size s t || differs_from (option_or s t) sizes ≡ differs_from s (cons_option t sizes)
sized None None sizes = refl
sized None (Some m) sizes = refl
sized (Some n) None sizes = refl
sized (Some n) (Some m) sizes = refl

full : (xs ys : List Target) → length xs ≡ 64 → take 64 (xs ++ ys) ≡ xs
full xs ys n = ap (λ k. take k (xs ++ ys)) (sym n) ∙ take-append_seam xs ys

-- the first 64 of targets, one after the other
kept : (xs : List Target) (t : Target) (ts : List Target) → length xs ≤ 64 → (b : Bool) → nat_lt (length xs) 64 ≡ b
    → (take 64 (cond b (xs ++ t ∷ []) xs ++ ts) ≡ take 64 (xs ++ (t ∷ ts))) × (length (cond b (xs ++ t ∷ []) xs) ≤ 64)
kept xs t ts h true e = let l = (Decides-ltb (length xs) 64).0 e in (ap (take 64) (append_assoc xs (t ∷ []) ts), omega (arith, length-append xs (t ∷ [])))
kept xs t ts h false e = let l = ltb-false (length xs) 64 e in let n : length xs ≡ 64 = omega arith in (full xs ts n ∙ sym (full xs (t ∷ ts) n), h)

-- a target before others
abbrev pub and_first : Option Target → Option (List Target) → Option (List Target)
and_first x xs = option_and_then (λ t. option_map (λ ts. t ∷ ts) xs) x

both_some : (x : Option Target) (xs : Option (List Target)) (t : Target) (ts : List Target) → x ≡ Some t → xs ≡ Some ts → and_first x xs ≡ Some (t ∷ ts)
both_some x xs t ts e f = ap (λ x. and_first x xs) e ∙ ap (and_first (Some t)) f

pub with_first : (x : Option Target) (xs : Option (List Target)) (ts : List Target) → and_first x xs ≡ Some ts → (t : Target) × (us : List Target) × (x ≡ Some t) × (xs ≡ Some us) × (t ∷ us ≡ ts)
with_first (Some t) (Some us) ts e = (t, us, refl, refl, same_Some (t ∷ us) ts e)
with_first (Some t) None ts e = absurd cc
with_first None xs ts e = absurd cc

-- one more of a count up to the most
next_is : (n : ℕ) → n ≤ many → next_count n ≡ min (n + 1) many
next_is n h = grind (arith, nat_tests)

-- one angle more
pub counted_more : (count : ℕ) (xs : List (List Lexeme)) (rest : List (List Lexeme)) (a : List Lexeme) → count ≤ many → xs ≡ a ∷ rest → (min (next_count count + length rest) many ≡ min (count + length xs) many) × (next_count count ≤ many)
counted_more count xs rest a h e =
    let n = next_is count h in
    let l : length xs ≡ suc (length rest) = ap length e in
    (omega (arith, min), omega (arith, min))

noted_unknown : (f : Found) (u b : Bool) (x : Option Target) → (u ≡ false → is_some x ≡ true) → (noted f (found_as u b x)).unknown ≡ f.unknown || u
noted_unknown f true b x k = sym (or_right f.unknown true refl)
noted_unknown f false true x k = sym (or-false f.unknown)
noted_unknown f false false (Some t) k = sym (or-false f.unknown)
noted_unknown f false false None k = absurd (let q : false ≡ true = k refl in cc)

noted_beyond : (f : Found) (b : Bool) (x : Option Target) → is_some x ≡ true → (noted f (found_as false b x)).beyond ≡ f.beyond || b
noted_beyond f true x k = sym (or_right f.beyond true refl)
noted_beyond f false (Some t) k = sym (or-false f.beyond)
noted_beyond f false None k = absurd cc

noted_count : (f : Found) (r : Result Target Miss) → (noted f r).count ≡ next_count f.count
noted_count f (Ok t) = refl
noted_count f (Err Unknown) = refl
noted_count f (Err Beyond) = refl

module _ (all : List (List ℕ × Register)) where
  -- where the register is known the argument means something
  pub target_known : (quantum : Bool) (a : Argument) → is_unknown all quantum a ≡ false → (t : Target) × (target all a ≡ Some t)
  target_known quantum a u = by quantum (register all a.name) refl u
    where
      by : (q : Bool) (x : Option Register) → register all a.name ≡ x → is_unknown all q a ≡ false → (t : Target) × (target all a ≡ Some t)
      by q (Some r) e u = (place_in r (index_of a.index), ap (option_map (λ r. place_in r (index_of a.index))) e)
      by true None e u = absurd (let z : true ≡ false = sym (ap (λ x. not (same_sort true x)) e) ∙ u in cc)
      by false None e u = absurd (let z : true ≡ false = sym (ap (λ x. not (same_sort false x)) e) ∙ u in cc)

  pub has_target : (quantum : Bool) (a : Argument) → is_unknown all quantum a ≡ false → is_some (target all a) ≡ true
  has_target quantum a u = ap is_some (target_known quantum a u).1

  pub look_unknown : (f : Found) (arguments : List Argument) → (look all f arguments).unknown ≡ f.unknown || list_any (is_unknown all true) arguments
  look_unknown f [] = sym (or-false f.unknown)
  look_unknown f (a ∷ more) =
      look_unknown (noted f (find all true a)) more
      ∙ ap (λ b. b || list_any (is_unknown all true) more) (noted_unknown f (is_unknown all true a) (is_beyond all a) (target all a) (has_target true a))
      ∙ or_assoc f.unknown (is_unknown all true a) (list_any (is_unknown all true) more)

  pub look_beyond : (f : Found) (arguments : List Argument) → list_any (is_unknown all true) arguments ≡ false → (look all f arguments).beyond ≡ f.beyond || list_any (is_beyond all) arguments
  look_beyond f [] n = sym (or-false f.beyond)
  look_beyond f (a ∷ more) n =
      let p = or_parts (is_unknown all true a) (list_any (is_unknown all true) more) n in
      look_beyond (noted f (find all true a)) more p.1
      ∙ ap (λ b. b || list_any (is_beyond all) more) (ap (λ u. (noted f (found_as u (is_beyond all a) (target all a))).beyond) p.0 ∙ noted_beyond f (is_beyond all a) (target all a) (has_target true a p.0))
      ∙ or_assoc f.beyond (is_beyond all a) (list_any (is_beyond all) more)

  pub look_count : (f : Found) (arguments : List Argument) → f.count ≤ many → (look all f arguments).count ≡ min (f.count + length arguments) many
  look_count f [] h = omega arith
  look_count f (a ∷ more) h =
      let e = noted_count f (find all true a) in
      let n = next_is f.count h in
      let m = look_count (noted f (find all true a)) more (omega arith) in
      omega arith

  pub targets_known : (arguments : List Argument) → list_any (is_unknown all true) arguments ≡ false → (ts : List Target) × (targets all arguments ≡ Some ts)
  targets_known [] u = ([], refl)
  targets_known (a ∷ more) u =
      let p = or_parts (is_unknown all true a) (list_any (is_unknown all true) more) u in
      let t = target_known true a p.0 in
      let ts = targets_known more p.1 in
      (t.0 ∷ ts.0, both_some (target all a) (targets all more) t.0 ts.0 t.1 ts.1)

  pub look_targets : (f : Found) (arguments : List Argument) → list_any (is_unknown all true) arguments ≡ false → list_any (is_beyond all) arguments ≡ false → length f.targets ≤ 64
      → (ts : List Target) × (targets all arguments ≡ Some ts) × ((look all f arguments).targets ≡ take 64 (f.targets ++ ts)) × ((look all f arguments).differ ≡ f.differ || differs_from f.size (wholes ts))
  look_targets f [] u b h = ([], refl, sym (take_all 64 (f.targets ++ []) (let e = ap length (append-nil f.targets) in omega arith) ∙ append-nil f.targets), sym (ap (λ x. f.differ || x) (none_differs f.size) ∙ or-false f.differ))
  look_targets f (a ∷ more) u b h =
      let p = or_parts (is_unknown all true a) (list_any (is_unknown all true) more) u in
      let q = or_parts (is_beyond all a) (list_any (is_beyond all) more) b in
      let t = target_known true a p.0 in
      let e : find all true a ≡ Ok t.0 = ap (λ x. found_as x (is_beyond all a) (target all a)) p.0 ∙ ap (λ x. found_as false x (target all a)) q.0 ∙ ap (found_as false false) t.1 in
      let r = look_targets (noted f (Ok t.0)) more p.1 q.1 (kept f.targets t.0 [] h (nat_lt (length f.targets) 64) refl).1 in (
        t.0 ∷ r.0,
        both_some (target all a) (targets all more) t.0 r.0 t.1 r.1,
        ap (λ x. (look all (noted f x) more).targets) e ∙ r.2 ∙ (kept f.targets t.0 r.0 h (nat_lt (length f.targets) 64) refl).0,
        ap (λ x. (look all (noted f x) more).differ) e ∙ r.3 ∙ or_assoc f.differ (other_size f.size t.0.size) (differs_from (option_or f.size t.0.size) (wholes r.0))
            ∙ ap (λ x. f.differ || x) (sized f.size t.0.size (wholes r.0)),
      )

  -- the arguments of a statement
  pub all_targets : (arguments : List Argument) → list_any (is_unknown all true) arguments ≡ false → list_any (is_beyond all) arguments ≡ false
      → (ts : List Target) × (targets all arguments ≡ Some ts) × ((look all nothing_found arguments).targets ≡ take 64 ts) × ((look all nothing_found arguments).differ ≡ differ (wholes ts))
  all_targets arguments u b = look_targets nothing_found arguments u b (omega arith)

-- as many targets as arguments
pub length_targets : (all : List (List ℕ × Register)) (arguments : List Argument) (ts : List Target) → targets all arguments ≡ Some ts → length ts ≡ length arguments
length_targets all [] ts e = sym (ap length (same_Some [] ts e))
length_targets all (a ∷ more) ts e =
    let p = with_first (target all a) (targets all more) ts e in sym (ap length p.4) ∙ ap suc (length_targets all more p.1 p.3)
