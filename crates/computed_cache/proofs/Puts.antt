-- The entries of a cache against those of the list under it.
use Rattle.std.proofs.Common.{◌≡◌, ℕ, ◌-◌, true, cond, eqb, ◌&&◌, List, [], ◌∷◌, take, Option, Some, None, is_some, inl, inr, refl, sym, ◌∙◌, ap}
use Rattle.std.specs.Map.{lookup_entry}
use Rattle.std.specs.Option.{option_map, option_map_or}
use Rattle.std.proofs.lemmas.Bool.{cases_Bool, cond-true, cond-false, eqb-true, and_parts}
use Rattle.lru.specs.LruCache.{promoted, put_entries, lru_cache}
use Rattle.computed_cache.specs.declared.key.Key.{Key}
use Rattle.computed_cache.specs.Entries.{same_key, value_at, without, touched, kept}

-- keys that pass for the same are
pub same_is : (k l : Key) → same_key k l ≡ true → l ≡ k
same_is k l h =
    let a = and_parts (eqb k.table l.table) (eqb k.f l.f && (eqb k.g l.g && eqb k.h l.h)) h in
    let b = and_parts (eqb k.f l.f) (eqb k.g l.g && eqb k.h l.h) a.1 in
    let c = and_parts (eqb k.g l.g) (eqb k.h l.h) b.1 in
    let build = λ (t : ℕ) (f : ℕ) (g : ℕ) (h : ℕ). let r : Key = record { table = t; f = f; g = g; h = h } in r in
    sym (ap (λ t. build t k.f k.g k.h) (eqb-true k.table l.table a.0) ∙ ap (λ f. build l.table f k.g k.h) (eqb-true k.f l.f b.0)
    ∙ ap (λ g. build l.table l.f g k.h) (eqb-true k.g l.g c.0) ∙ ap (λ h. build l.table l.f l.g h) (eqb-true k.h l.h c.1))

-- the entry of a key is the key with its value
pub entry_is : (es : List (Key × ℕ)) (k : Key) → lookup_entry (same_key k) es ≡ option_map (λ v. (k, v)) (value_at es k)
entry_is [] k = refl
entry_is (e ∷ es) k =
    elim (cases_Bool (same_key k e.0)) [
      | inl h ↦
          let here : (e.0, e.1) ≡ (k, e.1) = ap (λ (l : Key). let r : Key × ℕ = (l, e.1) in r) (same_is k e.0 h) in
          cond-true (same_key k e.0) (Some e) (lookup_entry (same_key k) es) h ∙ ap (λ (r : Key × ℕ). Some r) here
          ∙ ap (option_map (λ v. (k, v))) (sym (cond-true (same_key k e.0) (Some e.1) (value_at es k) h))
      | inr h ↦
          cond-false (same_key k e.0) (Some e) (lookup_entry (same_key k) es) h ∙ entry_is es k
          ∙ ap (option_map (λ v. (k, v))) (sym (cond-false (same_key k e.0) (Some e.1) (value_at es k) h))
    ]

mapped_or : (o : Option ℕ) (k : Key) (f : (Key × ℕ) → List (Key × ℕ)) (d : List (Key × ℕ)) → option_map_or f (option_map (λ v. (k, v)) o) d ≡ option_map_or (λ v. f (k, v)) o d
mapped_or None k f d = refl
mapped_or (Some v) k f d = refl

pub promoted_is : (es : List (Key × ℕ)) (k : Key) → promoted (same_key k) es ≡ touched es k
promoted_is es k =
    ap (λ o. option_map_or (λ (e : Key × ℕ). e ∷ without es k) o es) (entry_is es k) ∙ mapped_or (value_at es k) k (λ e. e ∷ without es k) es

put_cases : (o : Option ℕ) (k : Key) (v : ℕ) (rest more : List (Key × ℕ)) → option_map_or (λ _. (k, v) ∷ rest) o ((k, v) ∷ more) ≡ (k, v) ∷ cond (is_some o) rest more
put_cases None k v rest more = refl
put_cases (Some w) k v rest more = refl

pub put_is : (es : List (Key × ℕ)) (cap : ℕ) (k : Key) (v : ℕ) → put_entries same_key (lru_cache es cap) k v ≡ kept cap es k v
put_is es cap k v =
    ap (λ o. option_map_or (λ (e : Key × ℕ). let r : Key × ℕ = (e.0, v) in r ∷ without es k) o ((k, v) ∷ take (cap - 1) es)) (entry_is es k)
    ∙ mapped_or (value_at es k) k (λ e. let r : Key × ℕ = (e.0, v) in r ∷ without es k) ((k, v) ∷ take (cap - 1) es)
    ∙ put_cases (value_at es k) k v (without es k) (take (cap - 1) es)
