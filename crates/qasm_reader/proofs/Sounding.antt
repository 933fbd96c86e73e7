-- What statements define is sound.
use Rattle.std.proofs.Common.{◌≡◌, ◌∙◌, sym, ap, refl, subst, List, [], ◌∷◌, ◌++◌, ℕ}
use Rattle.std.proofs.lemmas.List.{append-nil}
use Rattle.qasm_forms.specs.Statements.{Statement, measure, call, definition}
use Rattle.qasm_reader.specs.declared.reason.Why.TheVariants.{OutOfProfile}
use Rattle.qasm_reader.specs.Acts.{Act, definitions, defined_in}
use Rattle.qasm_reader.specs.Calls.{Does}
use Rattle.qasm_reader.specs.Parts.{Part, Has}
use Rattle.qasm_reader.specs.Reasons.{IsFree}
use Rattle.qasm_reader.specs.Reading.{Accepts}
use Rattle.qasm_reader.specs.Private.Drafts.{AreSound}
use Rattle.qasm_reader.proofs.Growing.{definitions_more}

-- gates that are sound, and no more
same_sound : (before : List Act) (act : Act) → defined_in act ≡ [] → AreSound (definitions before) → AreSound (definitions (before ++ act ∷ []))
same_sound before act e h = subst AreSound (sym (definitions_more before act ∙ ap (λ r. definitions before ++ r) e ∙ append-nil (definitions before))) h

does_sound : (limit : ℕ) (before : List Act) (part : Part) → IsFree limit before part → AreSound (definitions before) → (s : Statement) → Has before part s → (act : Act) → Does before s act → AreSound (definitions (before ++ act ∷ []))
does_sound limit before part free h (measure from to) has act d = same_sound before act (ap defined_in d.2) h
does_sound limit before part free h (call name angles all) has act d = same_sound before act (ap defined_in d.does) h
does_sound limit before part free h (definition name params formals lines) has act d = absurd (free OutOfProfile (definition name params formals lines, has, refl))
does_sound limit before part free h _ has act d = same_sound before act (ap defined_in d) h

-- after a statement that is accepted the gates are sound
pub accepted_sound : (limit : ℕ) (before : List Act) (part : Part) (act : Act) → AreSound (definitions before) → Accepts limit before part act → AreSound (definitions (before ++ act ∷ []))
accepted_sound limit before part act h a = does_sound limit before part a.free h a.statement a.has act a.does
