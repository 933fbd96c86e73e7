-- A run on a shelf that tells its texts has one end, but for faults of the shelf.
use Rattle.std.proofs.Common.{◌≡◌, inl, inr, ℕ, ◌+◌, ◌<◌, ◌≤◌, List, [], ◌∷◌, length, Option, Some, None, IfSome, IsSome, Result, Ok, Err, refl, sym, ◌∙◌, ap, subst, arith}
use Rattle.std.specs.List.{AllByRecursion}
use Rattle.outside.specs.Outside.{Shelf, SameTexts}
use Rattle.phases.specs.Phases.{◌>>=◌, HandsOn, OnStop, Agree, HasOneEnd}
use Rattle.phases.proofs.Ends.{agree_after, one_hands_on}
use Rattle.causes.specs.declared.cause.Cause.{Cause}
use Rattle.causes.specs.declared.cause.Cause.TheVariants.{ReadFault, TooLong}
use Rattle.sliq_words.specs.Asked.{Request, asked_of}
use Rattle.sliq_engine.specs.Taking.{TakesFile, Takes}
use Rattle.sliq_engine.specs.Comes.{Asks, CarriesOut, Comes}
use Rattle.run_laws.specs.Laws.{IsSureOf}
use Rattle.run_laws.proofs.CommandLaws.{laws_of}

-- two texts that are the told one
same_told : (a b : Option (List ℕ)) (t u : List ℕ) → b ≡ a → IsSome a → IfSome a (λ x. t ≡ x) → IfSome b (λ x. u ≡ x) → t ≡ u
same_told None b t u e some p q = absurd (let h = some in cc)
same_told (Some x) b t u e some p q = p ∙ sym (subst (λ o. IfSome o (λ x. u ≡ x)) e q)

-- a told text isn't both
not_both : (a b : Option (List ℕ)) (t : List ℕ) → b ≡ a → IsSome a → IfSome a (λ x. 16777216 < length x) → IfSome b (λ x. t ≡ x) → length t ≤ 16777216 → ⊥
not_both None b t e some p q short = absurd (let h = some in cc)
not_both (Some x) b t e some p q short =
    let same : t ≡ x = subst (λ o. IfSome o (λ x. t ≡ x)) e q in
    let long : 16777216 < length x = p in
    absurd (omega (arith, ap length same, long, short))

module _ {S : Type 0} (shelf : Shelf S) where
  -- the texts of these names are told
  abbrev pub AreTold : List (List ℕ) → S → Type 0
  AreTold names s = AllByRecursion (λ name. IsSome (shelf.text s name)) names

  -- what is told stays told
  told_after : (names : List (List ℕ)) (old new : S) → SameTexts (shelf.text old) (shelf.text new) → AreTold names old → AreTold names new
  told_after [] old new same h = tt
  told_after (n ∷ names) old new same h = (subst (λ o. IsSome o) (sym (same n)) h.0, told_after names old new same h.1)

module _ {S : Type 0} (shelf : Shelf S) (Sure : Cause → Type 0) (told_sure : Sure ReadFault → ⊥) where
  -- a sure stop is that of a file that is too long
  stops_long : (file : ℕ) (name : List ℕ) (old new : S) (cause : Cause) → TakesFile shelf file name old new (Err cause) → Sure cause
      → (cause ≡ TooLong file) × IfSome (shelf.text old name) (λ t. 16777216 < length t)
  stops_long file name old new cause (inl fault) sure = absurd (told_sure (subst Sure fault.0 sure))
  stops_long file name old new cause (inr long) sure = (long.0, long.1.told)

  -- told files are taken in one way
  pub one_taking : (file : ℕ) (names : List (List ℕ)) (old also new other : S) (a b : Result (List (List ℕ)) Cause) → SameTexts (shelf.text old) (shelf.text also) → AreTold shelf names old
      → Takes shelf file names old new a → Takes shelf file names also other b → OnStop Sure a → OnStop Sure b → a ≡ b
  one_taking file [] old also new other a b same told p q s t = p.1 ∙ sym q.1
  one_taking file (n ∷ names) old also new other a b same told p q s t =
      by p q (λ m k same' told' c d u v x y. one_taking (file + 1) names m k new other c d same' told' u v x y)
    where
      sure : (r : Result (List (List ℕ)) Cause) (c : Cause) → r ≡ Err c → OnStop Sure r → Sure c
      sure r c e h = subst (OnStop Sure) e h

      by : Takes shelf file (n ∷ names) old new a → Takes shelf file (n ∷ names) also other b
          → ((m k : S) → SameTexts (shelf.text m) (shelf.text k) → AreTold shelf names m → Agree Sure (Takes shelf (file + 1) names m new) (Takes shelf (file + 1) names k other)) → a ≡ b
      by (inl x) (inl y) more =
          x.2 ∙ ap Err ((stops_long file n old new x.0 x.1 (sure a x.0 x.2 s)).0 ∙ sym (stops_long file n also other y.0 y.1 (sure b y.0 y.2 t)).0) ∙ sym y.2
      by (inl x) (inr y) more =
          absurd (not_both (shelf.text old n) (shelf.text also n) y.1 (same n) told.0 (stops_long file n old new x.0 x.1 (sure a x.0 x.2 s)).1 y.2.told y.2.short)
      by (inr x) (inl y) more =
          absurd (not_both (shelf.text also n) (shelf.text old n) x.1 (sym (same n)) (subst (λ o. IsSome o) (sym (same n)) told.0)
          (stops_long file n also other y.0 y.1 (sure b y.0 y.2 t)).1 x.2.told x.2.short)
      by (inr x) (inr y) more =
          let text : x.1 ≡ y.1 = same_told (shelf.text old n) (shelf.text also n) x.1 y.1 (same n) told.0 x.2.told y.2.told in
          let between : SameTexts (shelf.text x.0) (shelf.text y.0) = λ name. y.2.texts name ∙ same name ∙ sym (x.2.texts name) in
          let second = subst (λ u. (Takes shelf (file + 1) names y.0 other >>= (λ ts. HandsOn (u ∷ ts))) b) (sym text) y.3 in
          agree_after Sure (Takes shelf (file + 1) names x.0 new) (Takes shelf (file + 1) names y.0 other) (λ ts. HandsOn (x.1 ∷ ts)) (λ ts. HandsOn (x.1 ∷ ts))
          (more x.0 y.0 between (told_after shelf names old x.0 x.2.texts told.1)) (λ ts u. one_hands_on Sure (x.1 ∷ ts)) a b x.3 second s t

  -- words ask for one thing
  one_asking : (words : List (List ℕ)) (old new other : S) → Agree Sure (Asks words old new) (Asks words old other)
  one_asking words old new other (Ok x) (Ok y) p q s t = let e : Some x ≡ Some y = sym p ∙ q in let l : x ≡ y = cc in ap Ok l
  one_asking words old new other (Ok x) (Err d) p q s t = absurd (let e : Some x ≡ None = sym p ∙ q.0 in cc)
  one_asking words old new other (Err c) (Ok y) p q s t = absurd (let e : Some y ≡ None = sym q ∙ p.0 in cc)
  one_asking words old new other (Err c) (Err d) p q s t = ap Err (p.2 ∙ sym q.2)

-- no fault of the shelf is sure
unsure : (asked : Option Request) → IsSureOf asked ReadFault → ⊥
unsure None sure = sure
unsure (Some asked) sure = sure

-- a run comes to one end
pub one_run : {S : Type 0} (shelf : Shelf S) (words : List (List ℕ)) (old new other : S) → ((asked : Request) → asked_of words ≡ Some asked → AreTold shelf asked.files old)
    → Agree (IsSureOf (asked_of words)) (Comes shelf words old new) (Comes shelf words old other)
one_run shelf words old new other told =
    let Sure = IsSureOf (asked_of words) in
    agree_after Sure (Asks words old new) (Asks words old other) _ _ (one_asking shelf Sure (unsure (asked_of words)) words old new other)
    (λ asked p. agree_after Sure (Takes shelf 1 asked.files old new) (Takes shelf 1 asked.files old other) _ _
    (λ a b. one_taking shelf Sure (unsure (asked_of words)) 1 asked.files old old new other a b (λ name. refl) (told asked p))
    (λ texts u. subst (λ (o : Option Request). HasOneEnd (IsSureOf o) (CarriesOut asked.task asked.rules texts)) (sym p) (laws_of asked.task asked.rules texts).one))
