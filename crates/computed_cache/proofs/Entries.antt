-- For callers: what a look and a put leave of the entries.
use Rattle.std.proofs.Common.{◌≡◌, ℕ, ◌+◌, ◌-◌, ◌≤◌, true, cond, List, [], ◌∷◌, take, length, Option, Some, None, is_some, inl, inr, refl, sym, ◌∙◌, ap, arith}
use Rattle.std.specs.Option.{option_map_or}
use Rattle.std.proofs.lemmas.Bool.{cases_Bool, cond-true, cond-false, false≢true}
use Rattle.std.proofs.lemmas.List.{length-take}
use Rattle.computed_cache.specs.declared.key.Key.{Key}
use Rattle.computed_cache.specs.Entries.{same_key, value_at, without, touched, kept}

touched_by : (es : List (Key × ℕ)) (k : Key) (n : ℕ) (o : Option ℕ) → o ≡ Some n → option_map_or (λ v. (k, v) ∷ without es k) o es ≡ (k, n) ∷ cond (is_some o) (without es k) (take 0 es)
touched_by es k n None e = absurd (cc)
touched_by es k n (Some m) e = let same : m ≡ n = cc in ap (λ v. (k, v) ∷ without es k) same

kept_by : (es : List (Key × ℕ)) (cap : ℕ) (k : Key) (n : ℕ) (o : Option ℕ) → o ≡ Some n → (let r : List (Key × ℕ) = (k, n) ∷ cond (is_some o) (without es k) (take (cap - 1) es) in r) ≡ (k, n) ∷ without es k
kept_by es cap k n None e = absurd (cc)
kept_by es cap k n (Some m) e = refl

-- a look at a key that is there is a put of its value
pub touched_kept : (es : List (Key × ℕ)) (cap : ℕ) (k : Key) (n : ℕ) → value_at es k ≡ Some n → touched es k ≡ kept cap es k n
touched_kept es cap k n is = touched_by es k n (value_at es k) is ∙ first (value_at es k) is ∙ sym (kept_by es cap k n (value_at es k) is)
  where
    first : (o : Option ℕ) → o ≡ Some n → (let r : List (Key × ℕ) = (k, n) ∷ cond (is_some o) (without es k) (take 0 es) in r) ≡ (k, n) ∷ without es k
    first None e = absurd (cc)
    first (Some m) e = refl

untouched : (es : List (Key × ℕ)) (k : Key) (o : Option ℕ) → o ≡ None → option_map_or (λ v. (k, v) ∷ without es k) o es ≡ es
untouched es k None e = refl
untouched es k (Some m) e = absurd (cc)

-- a look at a key that isn't there changes nothing
pub touched_none : (es : List (Key × ℕ)) (k : Key) → value_at es k ≡ None → touched es k ≡ es
touched_none es k is = untouched es k (value_at es k) is

one_less : (es : List (Key × ℕ)) (k : Key) → is_some (value_at es k) ≡ true → length (without es k) + 1 ≡ length es
one_less [] k is = absurd (false≢true is)
one_less (e ∷ es) k is =
    elim (cases_Bool (same_key k e.0)) [
      | inl h ↦ let l = ap length (cond-true (same_key k e.0) es (e ∷ without es k) h) in omega (arith, l)
      | inr h ↦
          let l = ap length (cond-false (same_key k e.0) es (e ∷ without es k) h) in
          let rest = one_less es k (ap is_some (sym (cond-false (same_key k e.0) (Some e.1) (value_at es k) h)) ∙ is) in
          omega (arith, l, rest)
    ]

-- a put never lowers the number of entries, where there are no more than may be
pub kept_longer : (es : List (Key × ℕ)) (cap : ℕ) (k : Key) (v : ℕ) → length es ≤ cap → length es ≤ length (kept cap es k v)
kept_longer es cap k v few =
    elim (cases_Bool (is_some (value_at es k))) [
      | inl h ↦ let l = ap length (cond-true (is_some (value_at es k)) (without es k) (take (cap - 1) es) h) in omega (arith, l, one_less es k h)
      | inr h ↦ let l = ap length (cond-false (is_some (value_at es k)) (without es k) (take (cap - 1) es) h) in omega (arith, l, few, length-take (cap - 1) es)
    ]
