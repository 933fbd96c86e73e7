-- A run over a shelf whose counts of faults stay 0 comes to no read fault.
use Rattle.std.proofs.Common.{◌≡◌, ◌≢◌, inl, inr, ℕ, ◌+◌, List, [], ◌∷◌, Option, Result, Ok, Err, subst, arith}
use Rattle.outside.specs.Outside.{Shelf, Rose}
use Rattle.phases.specs.Phases.{Phase, GoesOn, ◌>>=◌, HandsOn}
use Rattle.causes.specs.declared.cause.Cause.{Cause}
use Rattle.causes.specs.declared.cause.Cause.TheVariants.{ReadFault}
use Rattle.causes.specs.Stops.{cause_of}
use Rattle.amp_dense.specs.Rules.{Settings}
use Rattle.amp_dense.specs.declared.stop.Stop.{Stop}
use Rattle.amp_dense.specs.declared.stop.Stop.TheVariants as stops
use Rattle.sliq_words.specs.declared.reading.Task.{Task}
use Rattle.sliq_words.specs.declared.reading.Task.TheVariants as task
use Rattle.sliq_engine.specs.Steps.{Reads, SameQubits}
use Rattle.sliq_engine.specs.Taking.{TakesFile, Takes}
use Rattle.sliq_engine.specs.Comes.{Asks, CarriesOut, Comes}
use Rattle.sliq_engine.specs.Ending.{MayEnd}

-- a phase stops by no read fault
abbrev Calm : {X : Type 0} → Phase X Cause → Type 0
Calm phase = ¬ phase (Err ReadFault)

-- so it is with a chain whose phases are so
calm_after : {X Y : Type 0} (first : Phase X Cause) (next : X → Phase Y Cause) → Calm first → ((x : X) → Calm (next x)) → Calm (first >>= next)
calm_after {X} {Y} first next f n h = by h.0 h.1 h.2
  where
    by : (at : Result X Cause) → first at → GoesOn next at (Err ReadFault) → ⊥
    by (Ok x) p goes = n x goes
    by (Err cause) p goes = let same : cause ≡ ReadFault = cc in f (subst (λ c. first (Err c)) same p)

calm_reads : (file : ℕ) (text : List ℕ) → Calm (Reads file text)
calm_reads file text h = let e = h.2 in cc

calm_qubits : (first second : ℕ) → Calm (SameQubits first second)
calm_qubits first second h = let e = h.1 in cc

calm_hands : {X : Type 0} (x : X) → Calm (HandsOn x)
calm_hands x h = cc

-- no stop of a gate or a step is told as one
no_fault : (stop : Stop) → ReadFault ≡ cause_of stop → ⊥
no_fault (stops.Width gate) e = cc
no_fault (stops.Nodes gate order held) e = cc
no_fault stops.OutOfMemory e = cc

-- each command, on any texts
calm_command : (t : Task) (rules : Settings) (texts : List (List ℕ)) → Calm (CarriesOut t rules texts)
calm_command (task.Sim bits) rules texts =
    calm_after _ _ (calm_reads 1 _) (λ c. calm_after _ _ (calm_qubits _ _) (λ u. calm_after _ _ (λ h. no_fault h.0 h.2) (λ s. calm_hands _)))
calm_command task.Prob rules texts =
    calm_after _ _ (calm_reads 1 _) (λ c. calm_after _ _ (λ h. no_fault h.0 h.2) (λ s. calm_after _ _ (λ h. let e = h.1 in cc) (λ u. calm_hands _)))
calm_command task.Eq rules texts =
    calm_after _ _ (calm_reads 1 _) (λ u. calm_after _ _ (calm_reads 2 _) (λ v. calm_after _ _ (calm_qubits _ _) (λ w. calm_after _ _ (λ h. no_fault h.0 h.2) (λ s. λ h. let e = h.2 in cc))))
calm_command (task.Demo qubits gates seed) rules texts =
    calm_after _ _ (calm_reads 1 _) (λ c. calm_after _ _ (λ h. no_fault h.0 h.2) (λ s. calm_hands _))
calm_command (task.Sample shots seed) rules texts =
    calm_after _ _ (calm_reads 1 _) (λ c. calm_after _ _ (λ h. no_fault h.0 h.2) (λ s. calm_after _ _ (λ h. let e = h.1 in cc) (λ u. calm_hands _)))
calm_command task.Fidelity rules texts =
    calm_after _ _ (calm_reads 1 _) (λ u. calm_after _ _ (calm_reads 2 _) (λ v. calm_after _ _ (calm_qubits _ _) (λ w. calm_after _ _ (λ h. no_fault h.0 h.2) (λ s. calm_after _ _ (λ h. let e = h.1 in cc) (λ t. calm_hands _)))))

module _ {S : Type 0} (shelf : Shelf S) (none : (s : S) (name : List ℕ) → shelf.faults s name ≡ 0) where
  calm_file : (file : ℕ) (name : List ℕ) (old new : S) → Calm (TakesFile shelf file name old new)
  calm_file file name old new (inl fault) =
      let rose : Rose 0 0 = subst (λ n. Rose n 0) (none old name) (subst (λ n. Rose (shelf.faults old name) n) (none new name) fault.1) in
      omega (arith, rose)
  calm_file file name old new (inr long) = let e = long.0 in cc

  calm_taking : (file : ℕ) (names : List (List ℕ)) (old new : S) → Calm (Takes shelf file names old new)
  calm_taking file [] old new h = let e = h.1 in cc
  calm_taking file (name ∷ names) old new (inl h) =
      let same : h.0 ≡ ReadFault = let e = h.2 in cc in
      calm_file file name old new (subst (λ c. TakesFile shelf file name old new (Err c)) same h.1)
  calm_taking file (name ∷ names) old new (inr h) =
      calm_after (Takes shelf (file + 1) names h.0 new) (λ ts. HandsOn (h.1 ∷ ts)) (calm_taking (file + 1) names h.0 new) (λ ts. calm_hands (h.1 ∷ ts)) h.3

  calm_run : (words : List (List ℕ)) (old new : S) → ¬ Comes shelf words old new (Err ReadFault)
  calm_run words old new =
      calm_after (Asks words old new) _ (λ h. let e = h.2 in cc) (λ asked. calm_after (Takes shelf 1 asked.files old new) _ (calm_taking 1 asked.files old new) (λ texts. calm_command asked.task asked.rules texts))

  -- so no run on it ends by one
  pub calm_end : (words : List (List ℕ)) (old new : S) (cause : Cause) (before after : Option (List ℕ)) → MayEnd (Comes shelf words old new) cause before after → cause ≢ ReadFault
  calm_end words old new cause before after ends e = calm_run words old new (subst (λ c. MayEnd (Comes shelf words old new) c before after) e ends).0
