-- The places of a memo.
use Rattle.std.proofs.Common.{◌≡◌, ◌≢◌, ◌⊎◌, ℕ, ◌+◌, ◌<◌, ◌≤◌, Bool, true, false, eqb, ◌&&◌, List, length, set, take, None, inl, inr, refl, sym, ◌∙◌, ap, arith, get_or}
use Rattle.std.proofs.lemmas.Bool.{cases_eq, cases_lt, cond-true, cond-false, and_parts, and_from, eqb-true, eq-eqb, ne_eqb, and_left, and_right}
use Rattle.std.proofs.lemmas.List.{get_or_default, get_or_past}
use Rattle.std.specs.Prelude.{All}
use Rattle.memos.specs.declared.memo.Place.{Place}
use Rattle.memos.specs.Memo.{Triple, found}
use Rattle.memos.specs.MemoPlaces.{slot_of, slots_of, home, Puts, SameFound}
use Rattle.tables.specs.Probing.{free, holds, entries_of, at, IsProbed, IsFirstFree}
use Rattle.tables.proofs.Probing.{held}
use Rattle.tables.proofs.Searching.{IsTestOf, at_slots}
use Rattle.tables.proofs.Writing.{add_here, add_others}
use Rattle.tables.proofs.Copying.{PutsEntry}
use Rattle.tables.proofs.Copying as copying

abbrev pub is_key : ℕ → ℕ → ℕ → Triple → Bool
is_key f g h k = (eqb f k.0 && eqb g k.1) && eqb h k.2

triple_of : (f g h : ℕ) (k : Triple) → is_key f g h k ≡ true → k ≡ (f, g, h)
triple_of f g h k e =
    let p = and_parts (eqb f k.0 && eqb g k.1) (eqb h k.2) e in
    let q = and_parts (eqb f k.0) (eqb g k.1) p.0 in
    let x = eqb-true f k.0 q.0 in
    let y = eqb-true g k.1 q.1 in
    let z = eqb-true h k.2 p.1 in
    sym (ap (λ t. (t, g, h)) x ∙ ap (λ t. (k.0, t, h)) y ∙ ap (λ t. (k.0, k.1, t)) z)

pub key_test : (f g h : ℕ) → IsTestOf (is_key f g h) (f, g, h)
key_test f g h = record {
  its = and_from (eqb f f && eqb g g) (eqb h h) (and_from (eqb f f) (eqb g g) (eq-eqb f f refl) (eq-eqb g g refl)) (eq-eqb h h refl);
  only = λ j e. triple_of f g h j e;
}

not_key : (f g h a b c : ℕ) → (a ≢ f) ⊎ ((b ≢ g) ⊎ (c ≢ h)) → is_key a b c (f, g, h) ≡ false
not_key f g h a b c (inl ne) = and_left (eqb a f && eqb b g) (eqb c h) (and_left (eqb a f) (eqb b g) (ne_eqb a f ne))
not_key f g h a b c (inr (inl ne)) = and_left (eqb a f && eqb b g) (eqb c h) (and_right (eqb a f) (eqb b g) (ne_eqb b g ne))
not_key f g h a b c (inr (inr ne)) = and_right (eqb a f && eqb b g) (eqb c h) (ne_eqb c h ne)

-- other arguments differ in one of the three
unequal : (f g h : ℕ) (j : Triple) → j ≢ (f, g, h) → (j.0 ≢ f) ⊎ ((j.1 ≢ g) ⊎ (j.2 ≢ h))
unequal f g h j ne =
    elim (cases_eq j.0 f) [
      | inl a ↦ elim (cases_eq j.1 g) [
        | inl b ↦ elim (cases_eq j.2 h) [
          | inl c ↦ absurd (ne (ap (λ t. (t, j.1, j.2)) a ∙ ap (λ t. (f, t, j.2)) b ∙ ap (λ t. (f, g, t)) c))
          | inr c ↦ inr (inr c)
        ]
        | inr b ↦ inr (inl b)
      ]
      | inr a ↦ inl a
    ]

-- a place that doesn't count
abbrev pub blank : ℕ → Place
blank now = record { f = 0; g = 0; h = 0; node = 0; stamp = now + 1 }

pub blank_free : (now : ℕ) → slot_of now (blank now) ≡ free
blank_free now = cond-false (eqb (now + 1) now) (holds (0, 0, 0) 0) free (ne_eqb (now + 1) now (λ e. omega (arith, e)))

pub at_within : (now : ℕ) (ps : List Place) (i : ℕ) (d p : Place) → i < length ps → get_or ps i d ≡ p → at (slots_of now ps) i ≡ slot_of now p
at_within now ps i d p lt is = at_slots (slot_of now) (blank now) (blank_free now) ps i ∙ ap (λ q. slot_of now q) (get_or_default ps i (blank now) d lt ∙ is)

pub slot_here : (now : ℕ) (p : Place) → p.stamp ≡ now → slot_of now p ≡ holds (p.f, p.g, p.h) p.node
slot_here now p e = cond-true (eqb p.stamp now) (holds (p.f, p.g, p.h) p.node) free (eq-eqb p.stamp now e)

pub slot_past : (now : ℕ) (p : Place) → p.stamp ≢ now → slot_of now p ≡ free
slot_past now p ne = cond-false (eqb p.stamp now) (holds (p.f, p.g, p.h) p.node) free (ne_eqb p.stamp now ne)

-- a place with other arguments is passed
pub passes : (now : ℕ) (ps : List Place) (f g h i : ℕ) (d : Place) → i < length ps → (get_or ps i d).stamp ≡ now → (f ≢ (get_or ps i d).f) ⊎ ((g ≢ (get_or ps i d).g) ⊎ (h ≢ (get_or ps i d).h)) → (at (slots_of now ps) i ≢ free) × ((v : ℕ) → at (slots_of now ps) i ≢ holds (f, g, h) v)
passes now ps f g h i d lt stamp ne =
    let p = get_or ps i d in
    let e : at (slots_of now ps) i ≡ holds (p.f, p.g, p.h) p.node = at_within now ps i d p lt refl ∙ slot_here now p stamp in (
      (λ x. absurd (cc)),
      (λ v x.
          let k : (p.f, p.g, p.h) ≡ (f, g, h) = cc in
          elim ne [ inl a ↦ a (sym (ap (λ (q : Triple). q.0) k)) | inr more ↦ elim more [ inl b ↦ b (sym (ap (λ (q : Triple). q.1) k)) | inr c ↦ c (sym (ap (λ (q : Triple). q.2) k)) ] ]),
    )

-- a result is written to the free place where its search ended
pub add_puts : (now : ℕ) (ps : List Place) (q : Place) (i : ℕ) → q.stamp ≡ now → IsProbed (home (length ps)) (slots_of now ps) → IsFirstFree (slots_of now ps) (q.f, q.g, q.h) (home (length ps) (q.f, q.g, q.h)) i → Puts (entries_of (slots_of now ps)) (entries_of (slots_of now (set ps i q))) q.f q.g q.h q.node
add_puts now ps q i is p first = record {
  here = add_here home (slot_of now) ps q (q.f, q.g, q.h) q.node i (slot_here now q is) p first (is_key q.f q.g q.h) (key_test q.f q.g q.h);
  others = λ a b c ne. add_others home (slot_of now) ps q (q.f, q.g, q.h) q.node i (slot_here now q is) p first (is_key a b c) (not_key q.f q.g q.h a b c ne);
}

abbrev key_at : Triple → Triple → Bool
key_at k = is_key k.0 k.1 k.2

key_tests : (k : Triple) → IsTestOf (key_at k) k
key_tests k = key_test k.0 k.1 k.2

-- how many entries one more place makes
pub count_more : (now : ℕ) (ps : List Place) (i : ℕ) (d : Place) → i < length ps → length (entries_of (slots_of now (take (i + 1) ps))) ≡ length (entries_of (slots_of now (take i ps))) + held (slot_of now (get_or ps i d))
count_more now ps i d lt =
    copying.count_more (slot_of now) (blank now) (blank_free now) ps i lt
    ∙ ap (λ q. length (entries_of (slots_of now (take i ps))) + held (slot_of now q)) (get_or_default ps i (blank now) d lt)

-- the slot of a place within the list, whatever stands for a place past its end
pub within : (now : ℕ) (ps : List Place) (i : ℕ) (d : Place) → i < length ps → slot_of now (get_or ps i (blank now)) ≡ slot_of now (get_or ps i d)
within now ps i d lt = ap (λ q. slot_of now q) (get_or_default ps i (blank now) d lt)

pub copies_held : (now : ℕ) (es fs : List (Triple × ℕ)) (ps : List Place) (i f g h node : ℕ) (d : Place) → i < length ps → slot_of now (get_or ps i d) ≡ holds (f, g, h) node → SameFound (entries_of (slots_of now (take i ps))) es → found es f g h ≡ None → Puts es fs f g h node → SameFound (entries_of (slots_of now (take (i + 1) ps))) fs
copies_held now es fs ps i f g h node d lt is same none puts a b c =
    let put : PutsEntry key_at es fs (f, g, h) node = record { here = puts.here; others = λ j ne. puts.others j.0 j.1 j.2 (unequal f g h j ne) } in
    copying.copies_held (slot_of now) (blank now) (blank_free now) key_at key_tests es fs ps i (f, g, h) node lt (within now ps i d lt ∙ is) (λ k. same k.0 k.1 k.2) none put (a, b, c)

pub copies_free : (now : ℕ) (es : List (Triple × ℕ)) (ps : List Place) (i : ℕ) (d : Place) → i < length ps → slot_of now (get_or ps i d) ≡ free → SameFound (entries_of (slots_of now (take i ps))) es → SameFound (entries_of (slots_of now (take (i + 1) ps))) es
copies_free now es ps i d lt is same a b c =
    copying.copies_none (slot_of now) (blank now) (blank_free now) key_at es ps i lt (ap (λ s. held s) (within now ps i d lt ∙ is)) (λ k. same k.0 k.1 k.2) (a, b, c)

-- places of earlier calls are free
pub all_past : (now : ℕ) (ps : List Place) → All (λ (p : Place). p.stamp ≤ now) ps → (i : ℕ) → at (slots_of (now + 1) ps) i ≡ free
all_past now ps past i =
    elim (cases_lt i (length ps)) [
      | inl lt ↦
          let le = past i (blank (now + 1)) lt in
          at_slots (slot_of (now + 1)) (blank (now + 1)) (blank_free (now + 1)) ps i ∙ slot_past (now + 1) (get_or ps i (blank (now + 1))) (λ e. omega (arith, e, le))
      | inr ge ↦ at_slots (slot_of (now + 1)) (blank (now + 1)) (blank_free (now + 1)) ps i ∙ ap (λ q. slot_of (now + 1) q) (get_or_past ps i (blank (now + 1)) ge) ∙ blank_free (now + 1)
    ]
