-- How a run ends, exit by exit.
use Rattle.std.proofs.Common.{◌≡◌, inl, ℕ, List, Option, Some, None, Ok, refl}
use Rattle.causes.specs.declared.cause.Cause.{Cause}
use Rattle.causes.specs.declared.cause.Cause.TheVariants.{BadWords, OutOfMemory}
use Rattle.sliq_words.specs.Asked.{Request, asked_of}
use Rattle.outside.specs.Outside.{Shelf}
use Rattle.sliq_engine.specs.Taking.{Takes}
use Rattle.sliq_engine.specs.Comes.{CarriesOut, Asks, Comes}
use Rattle.sliq_engine.specs.Ending.{MayEnd, MayStopBy}
use Rattle.sliq_engine.proofs.Endings.{ends_first, ends_after}

-- the words ask for nothing
pub run_bad : {S : Type 0} (shelf : Shelf S) (words : List (List ℕ)) (old : S) (out : Option (List ℕ)) → asked_of words ≡ None
    → MayEnd (Comes shelf words old old) BadWords out out
run_bad shelf words old out none = ends_first (Asks words old old) _ BadWords out (none, refl, refl)

-- memory is wanted for the words
pub run_starved : {S : Type 0} (shelf : Shelf S) (words : List (List ℕ)) (old : S) (out : Option (List ℕ)) → MayEnd (Comes shelf words old old) OutOfMemory out out
run_starved shelf words old out = inl refl

module _ {S : Type 0} (shelf : Shelf S) (words : List (List ℕ)) (asked : Request) (old new : S) (asks : asked_of words ≡ Some asked) where
  -- a file can't be taken
  pub run_untaken : (cause : Cause) (out : Option (List ℕ)) → MayStopBy (Takes shelf 1 asked.files old new) cause → MayEnd (Comes shelf words old new) cause out out
  run_untaken cause out h = ends_after (Asks words old new) _ asked cause out out asks (ends_first (Takes shelf 1 asked.files old new) _ cause out h)

  -- the files are taken, and the command ends so
  pub run_taken : (texts : List (List ℕ)) (cause : Cause) (before now : Option (List ℕ)) → Takes shelf 1 asked.files old new (Ok texts)
      → MayEnd (CarriesOut asked.task asked.rules texts) cause before now → MayEnd (Comes shelf words old new) cause before now
  run_taken texts cause before now takes h =
      ends_after (Asks words old new) _ asked cause before now asks (ends_after (Takes shelf 1 asked.files old new) _ texts cause before now takes h)
