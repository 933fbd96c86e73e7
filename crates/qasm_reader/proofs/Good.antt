-- The reasons before the form of a statement is known.
use Rattle.std.proofs.Common.{◌≡◌, ◌≢◌, ◌∙◌, sym, ap, refl, ◌<◌, ◌⊎◌, inl, inr, ℕ, Bool, true, false, nat_eq, List, [], ◌∷◌, length, Some, None, arith}
use Rattle.std.proofs.lemmas.Bool.Decides.{nat_tests}
use Rattle.std.proofs.lemmas.Option.{none-some, same_Some}
use Rattle.qasm_reader.specs.declared.reason.Why.{Why}
use Rattle.qasm_reader.specs.declared.reason.Why.TheVariants.{BadByte, NoVersion, NotAStatement}
use Rattle.qasm_forms.specs.Statements.{Statement, version}
use Rattle.qasm_forms.proofs.Exact.{statements_same}
use Rattle.qasm_reader.specs.Profile.{leaves}
use Rattle.qasm_reader.specs.Acts.{Act}
use Rattle.qasm_reader.specs.Parts.{Part, Has}
use Rattle.qasm_reader.specs.Reasons.{Holds, Refuses, order}

-- a part is at most one statement
pub has_one : (before : List Act) (part : Part) (s t : Statement) → Has before part s → Has before part t → s ≡ t
has_one before part s t a b = statements_same (leaves before) s t a.statement b.statement (sym a.spelled ∙ b.spelled)

-- whether nothing was done before
abbrev pub is_first : List Act → Bool
is_first before = nat_eq (length before) 0

pub no_acts : (before : List Act) → true ≡ is_first before → before ≡ []
no_acts [] e = refl
no_acts (a ∷ before) e = absurd (grind (arith, nat_tests))

pub some_more : (a : Act) (before : List Act) → a ∷ before ≢ []
some_more a before h = cc

pub some_acts : (before : List Act) → false ≡ is_first before → before ≢ []
some_acts [] e = absurd cc
some_acts (a ∷ before) e = some_more a before

-- a bad place comes first
pub bad_refuses : (limit : ℕ) (before : List Act) (part : Part) (place : ℕ) → part.bad ≡ Some place → Refuses limit before part (BadByte place)
bad_refuses limit before part place e = record { holds = e; first = first }
  where
    first : (o : Why) → Holds limit before part o → (o ≡ BadByte place) ⊎ (order (BadByte place) < order o)
    first (BadByte other) h = inl (ap BadByte (same_Some other place (sym h ∙ e)))
    first _ h = inr (omega arith)

-- then a version that is missing
pub version_refuses : (limit : ℕ) (before : List Act) (part : Part) → part.bad ≡ None → before ≡ [] → (Has before part version → ⊥) → Refuses limit before part NoVersion
version_refuses limit before part e b n = record { holds = (b, n); first = first }
  where
    first : (o : Why) → Holds limit before part o → (o ≡ NoVersion) ⊎ (order NoVersion < order o)
    first (BadByte other) h = absurd (none-some other (sym e ∙ h))
    first NoVersion h = inl refl
    first _ h = inr (omega arith)

-- then what is no statement
pub form_refuses : (limit : ℕ) (before : List Act) (part : Part) → part.bad ≡ None → before ≢ [] → ((s : Statement) → Has before part s → ⊥) → Refuses limit before part NotAStatement
form_refuses limit before part e b n = record { holds = n; first = first }
  where
    first : (o : Why) → Holds limit before part o → (o ≡ NotAStatement) ⊎ (order NotAStatement < order o)
    first (BadByte other) h = absurd (none-some other (sym e ∙ h))
    first NoVersion h = absurd (b h.0)
    first NotAStatement h = inl refl
    first _ h = inr (omega arith)

-- one reason refuses a statement
pub one_refusal : (limit : ℕ) (before : List Act) (part : Part) (v w : Why) → Refuses limit before part v → Refuses limit before part w → v ≡ w
one_refusal limit before part v w a b = by (a.first w b.holds) (b.first v a.holds)
  where
    by : (w ≡ v) ⊎ (order v < order w) → (v ≡ w) ⊎ (order w < order v) → v ≡ w
    by x (inl q) = q
    by (inl p) (inr q) = sym p
    by (inr p) (inr q) = absurd (omega arith)
