use Rattle.std.proofs.Common.{◌≡◌, ◌<◌, ℕ, List, [], Option, Result, Vec, Global, IfErr, length, get_or, sym, ◌∙◌, ap, subst, arith}
use Rattle.std.proofs.lemmas.List.{get_or-map}
use Rattle.amp_dense.specs.Rules.{Settings}
use Rattle.causes.specs.declared.cause.Cause.{Cause}
use Rattle.sliq_words.specs.declared.reading.Task.{Task}
use Rattle.sliq_words.specs.declared.reading.Task.TheVariants as task
use Rattle.sliq_words.specs.Asked.{file_count}
use Rattle.sliq_engine.specs.Eq.{Compares}
use Rattle.sliq_engine.specs.Fidelity.{Overlaps}
use Rattle.sliq_engine.specs.Comes.{CarriesOut}
use Rattle.sliq_engine.specs.Ending.{MayEnd}
use Rattle.sliq_engine.specs.Private.{bytes_of}
use Rattle.sliq_engine.proofs.perform.perform.Goals as goal

-- what is said of the two texts is said of the task
carried : {T : Type 0} (it : Task) (rules : Settings) (texts : List (List ℕ)) (one two : List ℕ) (r : Result T Cause) (old new : Option (List ℕ)) → it ≡ task.Eq
    → one ≡ get_or texts 0 [] → two ≡ get_or texts 1 [] → IfErr r (λ cause. MayEnd (Compares rules one two) cause old new)
    → IfErr r (λ cause. MayEnd (CarriesOut it rules texts) cause old new)
carried it rules texts one two r old new is first second h =
    let P : List ℕ → List ℕ → Type 0 = λ a b. IfErr r (λ cause. MayEnd (Compares rules a b) cause old new) in
    let Q : Task → Type 0 = λ t. IfErr r (λ cause. MayEnd (CarriesOut t rules texts) cause old new) in
    subst Q (sym is) (subst (λ b. P (get_or texts 0 []) b) second (subst (λ a. P a two) first h))

overlapped : {T : Type 0} (it : Task) (rules : Settings) (texts : List (List ℕ)) (one two : List ℕ) (r : Result T Cause) (old new : Option (List ℕ)) → it ≡ task.Fidelity
    → one ≡ get_or texts 0 [] → two ≡ get_or texts 1 [] → IfErr r (λ cause. MayEnd (Overlaps rules one two) cause old new)
    → IfErr r (λ cause. MayEnd (CarriesOut it rules texts) cause old new)
overlapped it rules texts one two r old new is first second h =
    let P : List ℕ → List ℕ → Type 0 = λ a b. IfErr r (λ cause. MayEnd (Overlaps rules a b) cause old new) in
    let Q : Task → Type 0 = λ t. IfErr r (λ cause. MayEnd (CarriesOut t rules texts) cause old new) in
    subst Q (sym is) (subst (λ b. P (get_or texts 0 []) b) second (subst (λ a. P a two) first h))

pub returns-in-Eq-clause-stop : goal.returns-in-Eq-clause-stop
returns-in-Eq-clause-stop g c =
    let texts = c.args.texts.now in
    let items : Vec ℕ Global → List ℕ = λ v. v.items in
    let count : length texts ≡ 2 = c.requires.files ∙ ap file_count c.in-Eq.is in
    let some : 0 < length texts = omega arith in
    let more : 1 < length texts = omega arith in
    let first : c.deref-in-Eq.result.now ≡ get_or (bytes_of texts) 0 [] = c.deref-in-Eq.ensures.value ∙ ap items c.index-texts-0-in-Eq.is ∙ sym (get_or-map items texts 0 _ [] some) in
    let second : c.deref-in-Eq-2.result.now ≡ get_or (bytes_of texts) 1 [] = c.deref-in-Eq-2.ensures.value ∙ ap items c.index-texts-1.is ∙ sym (get_or-map items texts 1 _ [] more) in
    carried c.args.task c.args.rules.now (bytes_of texts) c.deref-in-Eq.result.now c.deref-in-Eq-2.result.now c.eq.result _ _ c.in-Eq.is first second c.eq.ensures.stop

pub returns-in-Fidelity-clause-stop : goal.returns-in-Fidelity-clause-stop
returns-in-Fidelity-clause-stop g c =
    let texts = c.args.texts.now in
    let items : Vec ℕ Global → List ℕ = λ v. v.items in
    let count : length texts ≡ 2 = c.requires.files ∙ ap file_count c.in-Fidelity.is in
    let some : 0 < length texts = omega arith in
    let more : 1 < length texts = omega arith in
    let first : c.deref-in-Fidelity.result.now ≡ get_or (bytes_of texts) 0 [] = c.deref-in-Fidelity.ensures.value ∙ ap items c.index-texts-0-in-Fidelity.is ∙ sym (get_or-map items texts 0 _ [] some) in
    let second : c.deref-in-Fidelity-2.result.now ≡ get_or (bytes_of texts) 1 [] = c.deref-in-Fidelity-2.ensures.value ∙ ap items c.index-texts-1-in-Fidelity.is ∙ sym (get_or-map items texts 1 _ [] more) in
    overlapped c.args.task c.args.rules.now (bytes_of texts) c.deref-in-Fidelity.result.now c.deref-in-Fidelity-2.result.now c.overlaps.result _ _ c.in-Fidelity.is first second c.overlaps.ensures.stop
