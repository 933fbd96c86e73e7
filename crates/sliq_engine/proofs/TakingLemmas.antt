-- Files taken one after the other.
use Rattle.std.proofs.Common.{◌≡◌, inl, inr, ℕ, ◌+◌, List, [], ◌∷◌, ◌++◌, length, Result, Ok, Err, refl, ap, subst, arith, map, take, drop, get_or, ◌<◌, sym, ◌∙◌, suc}
use Rattle.std.proofs.Math.Seq.{split_at}
use Rattle.std.proofs.lemmas.List.{map_more, map-append, length-map, length-take-le}
use Rattle.outside.specs.Outside.{Shelf}
use Rattle.phases.specs.Phases.{GoesOn, HandsOn}
use Rattle.causes.specs.declared.cause.Cause.{Cause}
use Rattle.sliq_engine.specs.Taking.{Took, TakesFile, Takes}
use Rattle.sliq_engine.specs.Ending.{MayStopBy}
use Rattle.sliq_engine.proofs.Endings.{stops_also}

module _ {S : Type 0} (shelf : Shelf S) (name : List ℕ) (mid new : S) where
  -- one file more
  pub takes_more : (text : List ℕ) → Took shelf name text mid new → (file : ℕ) (front : List (List ℕ)) (old : S) (texts : List (List ℕ)) → Takes shelf file front old mid (Ok texts)
      → Takes shelf file (front ++ name ∷ []) old new (Ok (texts ++ text ∷ []))
  takes_more text took file [] old texts h =
      let none : texts ≡ [] = let e = h.1 in cc in
      inr (new, text, subst (λ s. Took shelf name text s new) h.0 took, (Ok [], (refl, refl), ap (λ l. Ok (l ++ text ∷ [])) none))
  takes_more text took file (n ∷ front) old texts h = by h (λ m ts. takes_more text took (file + 1) front m ts)
    where
      rest : (m : S) (t : List ℕ) → Took shelf n t old m → (end : Result (List (List ℕ)) Cause) → Takes shelf (file + 1) front m mid end
          → GoesOn (λ ts. HandsOn (t ∷ ts)) end (Ok texts)
          → ((m : S) (ts : List (List ℕ)) → Takes shelf (file + 1) front m mid (Ok ts) → Takes shelf (file + 1) (front ++ name ∷ []) m new (Ok (ts ++ text ∷ [])))
          → Takes shelf file (n ∷ (front ++ name ∷ [])) old new (Ok (texts ++ text ∷ []))
      rest m t first (Ok ts) takes goes more =
          let same : texts ≡ t ∷ ts = let e = goes in cc in
          inr (m, t, first, (Ok (ts ++ text ∷ []), more m ts takes, ap (λ l. Ok (l ++ text ∷ [])) same))
      rest m t first (Err cause) takes goes more = absurd (let none : Ok texts ≡ Err cause = goes in cc)

      by : Takes shelf file (n ∷ front) old mid (Ok texts)
          → ((m : S) (ts : List (List ℕ)) → Takes shelf (file + 1) front m mid (Ok ts) → Takes shelf (file + 1) (front ++ name ∷ []) m new (Ok (ts ++ text ∷ [])))
          → Takes shelf file (n ∷ (front ++ name ∷ [])) old new (Ok (texts ++ text ∷ []))
      by (inl s) more = absurd (let none : Ok texts ≡ Err s.0 = s.2 in cc)
      by (inr s) more = rest s.0 s.1 s.2 s.3.0 s.3.1 s.3.2 more

  -- the next file can't be taken
  halts : (cause : Cause) (rest : List (List ℕ)) (file number : ℕ) (front : List (List ℕ)) (old : S) (texts : List (List ℕ)) → Takes shelf file front old mid (Ok texts)
      → number ≡ file + length front → TakesFile shelf number name mid new (Err cause) → Takes shelf file (front ++ name ∷ rest) old new (Err cause)
  halts cause rest file number [] old texts h count stops =
      let here : number ≡ file = omega arith in
      let there = subst (λ s. TakesFile shelf number name s new (Err cause)) h.0 stops in
      inl (cause, subst (λ (k : ℕ). TakesFile shelf k name old new (Err cause)) here there, refl)
  halts cause rest file number (n ∷ front) old texts h count stops = by h (λ m ts takes. halts cause rest (file + 1) number front m ts takes (omega arith) stops)
    where
      further : (m : S) (t : List ℕ) → Took shelf n t old m → (end : Result (List (List ℕ)) Cause) → Takes shelf (file + 1) front m mid end
          → GoesOn (λ ts. HandsOn (t ∷ ts)) end (Ok texts)
          → ((m : S) (ts : List (List ℕ)) → Takes shelf (file + 1) front m mid (Ok ts) → Takes shelf (file + 1) (front ++ name ∷ rest) m new (Err cause))
          → Takes shelf file (n ∷ (front ++ name ∷ rest)) old new (Err cause)
      further m t first (Ok ts) takes goes more = inr (m, t, first, (Err cause, more m ts takes, refl))
      further m t first (Err other) takes goes more = absurd (let none : Ok texts ≡ Err other = goes in cc)

      by : Takes shelf file (n ∷ front) old mid (Ok texts)
          → ((m : S) (ts : List (List ℕ)) → Takes shelf (file + 1) front m mid (Ok ts) → Takes shelf (file + 1) (front ++ name ∷ rest) m new (Err cause))
          → Takes shelf file (n ∷ (front ++ name ∷ rest)) old new (Err cause)
      by (inl s) more = absurd (let none : Ok texts ≡ Err s.0 = s.2 in cc)
      by (inr s) more = further s.0 s.1 s.2 s.3.0 s.3.1 s.3.2 more

  -- the next file can't be taken, or memory is wanted
  pub takes_stops : (cause : Cause) (rest : List (List ℕ)) (file number : ℕ) (front : List (List ℕ)) (old : S) (texts : List (List ℕ)) → Takes shelf file front old mid (Ok texts)
      → number ≡ file + length front → MayStopBy (TakesFile shelf number name mid new) cause → MayStopBy (Takes shelf file (front ++ name ∷ rest) old new) cause
  takes_stops cause rest file number front old texts h count stops =
      stops_also (TakesFile shelf number name mid new) (Takes shelf file (front ++ name ∷ rest) old new) (λ why halt. halts why rest file number front old texts h count halt) cause stops

-- ---- the names before a place, and the one there
module _ {S N : Type 0} (shelf : Shelf S) (bytes : N → List ℕ) (files : List N) (i : ℕ) (name : N) (within : i < length files) (here : name ≡ get_or files i name) where
  -- the first names, and the next one
  names_more : map bytes (take (i + 1) files) ≡ map bytes (take i files) ++ bytes name ∷ []
  names_more = map_more bytes files i name within ∙ ap (λ (n : N). map bytes (take i files) ++ bytes n ∷ []) (sym here)

  -- all names, split at this one
  names_split : map bytes files ≡ map bytes (take i files) ++ bytes name ∷ map bytes (drop (suc i) files)
  names_split =
      ap (map bytes) (split_at files i name within ∙ ap (λ (n : N). take i files ++ n ∷ drop (suc i) files) (sym here))
      ∙ map-append bytes (take i files) (name ∷ drop (suc i) files)

  -- one file more is taken
  pub taken_on : (old mid new : S) (texts : List (List ℕ)) (text : List ℕ) → Takes shelf 1 (map bytes (take i files)) old mid (Ok texts) → Took shelf (bytes name) text mid new
      → Takes shelf 1 (map bytes (take (i + 1) files)) old new (Ok (texts ++ text ∷ []))
  taken_on old mid new texts text takes took =
      subst (λ l. Takes shelf 1 l old new (Ok (texts ++ text ∷ []))) (sym names_more) (takes_more shelf (bytes name) mid new text took 1 (map bytes (take i files)) old texts takes)

  -- the taking stops at this file
  pub taking_stops : (old mid new : S) (texts : List (List ℕ)) (number : ℕ) (cause : Cause) → Takes shelf 1 (map bytes (take i files)) old mid (Ok texts) → number ≡ i + 1
      → MayStopBy (TakesFile shelf number (bytes name) mid new) cause → MayStopBy (Takes shelf 1 (map bytes files) old new) cause
  taking_stops old mid new texts number cause takes count stops =
      let before : length (map bytes (take i files)) ≡ i = length-map (take i files) bytes ∙ length-take-le i files (omega arith) in
      subst (λ l. MayStopBy (Takes shelf 1 l old new) cause) (sym names_split)
      (takes_stops shelf (bytes name) mid new cause (map bytes (drop (suc i) files)) 1 number (map bytes (take i files)) old texts takes (omega (arith, before)) stops)
