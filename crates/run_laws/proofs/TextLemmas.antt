-- A run on a shelf that has the texts of its files comes to what the command comes to on these texts, but for faults of the shelf.
use Rattle.std.proofs.Common.{◌≡◌, ◌⊎◌, inl, inr, ℕ, ◌+◌, ◌<◌, ◌≤◌, List, [], ◌∷◌, length, map, Option, Some, None, IfSome, Result, Ok, Err, sym, ◌∙◌, ap, subst, arith}
use Rattle.std.specs.List.{AllByRecursion}
use mathlib.Core.Path.{fun_ext}
use Rattle.outside.specs.Outside.{Shelf, SameTexts}
use Rattle.phases.specs.Phases.{GoesOn, ◌>>=◌, HandsOn}
use Rattle.sliq_words.specs.Asked.{Request, asked_of}
use Rattle.causes.specs.declared.cause.Cause.{Cause}
use Rattle.causes.specs.declared.cause.Cause.TheVariants.{ReadFault}
use Rattle.sliq_engine.specs.Steps.{Output}
use Rattle.sliq_engine.specs.Taking.{TakesFile, Takes}
use Rattle.sliq_engine.specs.Comes.{Asks, CarriesOut, Comes}

-- no text of these is longer than a text may be
abbrev AreShort : List (List ℕ) → Type 0
AreShort texts = AllByRecursion (λ t. length t ≤ 16777216) texts

-- a fault stops all
abbrev Faulted : {X : Type 0} → Result X Cause → Type 0
Faulted end = end ≡ Err ReadFault

module _ {S : Type 0} (shelf : Shelf S) where
  -- the shelf tells these texts
  abbrev Tells : S → List (List ℕ) → List (List ℕ) → Type 0
  Tells s names texts = map (shelf.text s) names ≡ map (λ t. Some t) texts

  tells_on : (old mid : S) (names texts : List (List ℕ)) → SameTexts (shelf.text old) (shelf.text mid) → Tells old names texts → Tells mid names texts
  tells_on old mid names texts same told = ap (λ (f : List ℕ → Option (List ℕ)). map f names) (fun_ext (λ name. same name)) ∙ told

  stops_by_fault : (file : ℕ) (name text : List ℕ) (old new : S) (cause : Cause) → shelf.text old name ≡ Some text → length text ≤ 16777216 → TakesFile shelf file name old new (Err cause) → cause ≡ ReadFault
  stops_by_fault file name text old new cause told short (inl fault) = fault.0
  stops_by_fault file name text old new cause told short (inr long) =
      absurd (let more : 16777216 < length text = subst (λ o. IfSome o (λ t. 16777216 < length t)) told long.1.told in omega (arith, more, short))

  -- told files are taken with these texts, or a fault comes
  takes_told : (file : ℕ) (names texts : List (List ℕ)) (old new : S) (end : Result (List (List ℕ)) Cause) → Tells old names texts → AreShort texts → Takes shelf file names old new end → (end ≡ Ok texts) ⊎ Faulted end
  takes_told file [] [] old new end told short h = inl h.1
  takes_told file [] (t ∷ texts) old new end told short h = absurd (cc)
  takes_told file (n ∷ names) [] old new end told short h = absurd (cc)
  takes_told file (n ∷ names) (t ∷ texts) old new end told short h =
      let here : shelf.text old n ≡ Some t = cc in
      let rest : Tells old names texts = cc in
      by here rest h (λ mid at told' k. takes_told (file + 1) names texts mid new at told' short.1 k)
    where
      More : Type 0
      More = (mid : S) (at : Result (List (List ℕ)) Cause) → Tells mid names texts → Takes shelf (file + 1) names mid new at → (at ≡ Ok texts) ⊎ Faulted at

      -- behind the first file
      later : (text : List ℕ) (at : Result (List (List ℕ)) Cause) → text ≡ t → (at ≡ Ok texts) ⊎ Faulted at → GoesOn (λ ts. HandsOn (text ∷ ts)) at end → (end ≡ Ok (t ∷ texts)) ⊎ Faulted end
      later text (Ok ts) same (inl e) goes = let tail : ts ≡ texts = cc in inl (cc)
      later text (Ok ts) same (inr e) goes = absurd (cc)
      later text (Err cause) same (inl e) goes = absurd (cc)
      later text (Err cause) same (inr e) goes = let fault : cause ≡ ReadFault = cc in inr (cc)

      by : shelf.text old n ≡ Some t → Tells old names texts → Takes shelf file (n ∷ names) old new end → More → (end ≡ Ok (t ∷ texts)) ⊎ Faulted end
      by here rest (inl x) more =
          let fault = stops_by_fault file n t old new x.0 here short.0 x.1 in
          inr (x.2 ∙ ap (λ c. let r : Result (List (List ℕ)) Cause = Err c in r) fault)
      by here rest (inr x) more =
          let same : x.1 ≡ t = subst (λ o. IfSome o (λ u. x.1 ≡ u)) here x.2.told in
          later x.1 x.3.0 same (more x.0 x.3.0 (tells_on old x.0 names texts x.2.texts rest) x.3.1) x.3.2

  module _ (words : List (List ℕ)) (asked : Request) (texts : List (List ℕ)) (old new : S) (asks : asked_of words ≡ Some asked) (told : Tells old asked.files texts) (short : AreShort texts) where
    -- behind the files
    carried : (end : Result Output Cause) (at : Result (List (List ℕ)) Cause) → (at ≡ Ok texts) ⊎ Faulted at → GoesOn (λ ts. CarriesOut asked.task asked.rules ts) at end
        → CarriesOut asked.task asked.rules texts end ⊎ Faulted end
    carried end (Ok ts) (inl e) goes = let same : ts ≡ texts = cc in inl (subst (λ l. CarriesOut asked.task asked.rules l end) same goes)
    carried end (Ok ts) (inr e) goes = absurd (cc)
    carried end (Err cause) (inl e) goes = absurd (cc)
    carried end (Err cause) (inr e) goes = let fault : cause ≡ ReadFault = cc in inr (cc)

    -- behind the words
    taken : (end : Result Output Cause) → (Takes shelf 1 asked.files old new >>= (λ ts. CarriesOut asked.task asked.rules ts)) end → CarriesOut asked.task asked.rules texts end ⊎ Faulted end
    taken end h = carried end h.0 (takes_told 1 asked.files texts old new h.0 told short h.1) h.2

    pub comes_on_texts : (end : Result Output Cause) → Comes shelf words old new end → CarriesOut asked.task asked.rules texts end ⊎ Faulted end
    comes_on_texts end h = by h.0 h.1 h.2
      where
        by : (at : Result Request Cause) → Asks words old new at → GoesOn (λ a. Takes shelf 1 a.files old new >>= (λ ts. CarriesOut a.task a.rules ts)) at end
            → CarriesOut asked.task asked.rules texts end ⊎ Faulted end
        by (Ok a) p goes =
            let some : Some a ≡ Some asked = sym p ∙ asks in
            let same : a ≡ asked = cc in
            taken end (subst (λ (r : Request). (Takes shelf 1 r.files old new >>= (λ ts. CarriesOut r.task r.rules ts)) end) same goes)
        by (Err cause) p goes = absurd (let none : Some asked ≡ None = sym asks ∙ p.0 in cc)
