-- What each phase of a command keeps, and a phase behind a phase does.
use Rattle.std.proofs.Common.{◌≡◌, ◌↔◌, ◌⊎◌, ◌≤◌, List, [], ◌∷◌, Result, Ok, Err, refl, sym, ap, subst}
use Rattle.phases.specs.Phases.{Phase, GoesOn, ◌>>=◌, HandsOn, StopsWhere, Told, Through, OnStop, HasOneEnd, HasSomeEnd}
use Rattle.phases.proofs.Ends.{one_hands_on, one_stops_where, agree_after, some_hands_on, some_stops_where}
use Rattle.amp_dense.specs.Rules.{Settings}
use Rattle.causes.specs.declared.cause.Cause.{Cause}
use Rattle.causes.specs.declared.cause.Cause.TheVariants.{Nodes, OutOfMemory}
use Rattle.run_laws.specs.Laws.{EachHas, IsNoFault}

-- ---- phases whose stops are all of one sort
abbrev pub StopsBy : {X C : Type 0} → (C → Type 0) → Phase X C → Type 0
StopsBy {X} {C} S phase = (cause : C) → phase (Err cause) → S cause

-- there is none
abbrev pub NeverStops : {X C : Type 0} → Phase X C → Type 0
NeverStops {X} {C} phase = StopsBy (λ (cause : C). ⊥) phase

-- what is handed on is no stop
pub by_handing_on : {X C : Type 0} (S : C → Type 0) (x : X) → StopsBy S (HandsOn {C = C} x)
by_handing_on S x cause e = absurd (cc)

pub by_telling : {X D C : Type 0} (S : C → Type 0) (f : D → C) (phase : Phase X D) → StopsBy (λ d. S (f d)) phase → StopsBy S (Told f phase)
by_telling S f phase h cause t = subst S (sym t.2) (h t.0 t.1)

-- a phase behind a phase, which knows that the first one handed on what it goes on with
pub by_both : {X Y C : Type 0} (S : C → Type 0) (first : Phase X C) (next : X → Phase Y C) → StopsBy S first → ((x : X) → first (Ok x) → StopsBy S (next x)) → StopsBy S (first >>= next)
by_both {X} {Y} {C} S first next f n cause h = by h.0 h.1 h.2
  where
    by : (at : Result X C) → first at → GoesOn next at (Err cause) → S cause
    by (Ok x) p goes = n x p cause goes
    by (Err stop) p e = let same : stop ≡ cause = cc in subst S same (f stop p)

-- items in a row that each have what they need
pub each_stops : {X G C : Type 0} (S : C → Type 0) (Needs : X → G → Type 0) (phase : X → G → Phase X C) → ((x : X) (g : G) → Needs x g → StopsBy S (phase x g))
    → (x : X) (gs : List G) → EachHas Needs phase x gs → StopsBy S (Through phase x gs)
each_stops S Needs phase stops_by x [] has = by_handing_on S x
each_stops S Needs phase stops_by x (g ∷ gs) has = by_both S (phase x g) (λ y. Through phase y gs) (stops_by x g has.0) (λ y a. each_stops S Needs phase stops_by y gs (has.1 y a))

-- any cause but a want of nodes or of memory, of which the second is none of a phase
abbrev pub IsOther : Cause → Type 0
IsOther (Nodes step order held) = ⊥
IsOther OutOfMemory = ⊥
IsOther cause = Unit {0}

-- ---- all together
-- some end, behind a phase that handed on what it goes on with
some_behind : {X Y C : Type 0} (S : C → Type 0) (first : Phase X C) (next : X → Phase Y C) → HasSomeEnd S first → ((x : X) → first (Ok x) → HasSomeEnd S (next x))
    → HasSomeEnd S (first >>= next)
some_behind {X} {Y} {C} S first next f n = by f.0 f.1 f.2
  where
    by : (at : Result X C) → first at → OnStop S at → HasSomeEnd S (first >>= next)
    by (Ok x) p s = ((n x p).0, (Ok x, p, (n x p).1), (n x p).2)
    by (Err cause) p s = (Err cause, (Err cause, p, refl), s)

-- but for stops that aren't sure it has one end; under rules that let coefficients have two bits it has some end; where nodes are enough it stops for no want of
-- them; and where all is in order it doesn't stop
pub record IsLawful {X : Type 0} (Sure : Cause → Type 0) (rules : Settings) (Enough Ordered : Type 0) (phase : Phase X Cause) : Type 0 where
  pub one : HasOneEnd Sure phase
  pub some : 2 ≤ rules.width → HasSomeEnd IsNoFault phase
  pub fed : Enough → StopsBy IsOther phase
  pub passed : Ordered → NeverStops phase

module _ {Sure : Cause → Type 0} {rules : Settings} {Enough Ordered : Type 0} where
  -- a phase behind a phase
  pub behind : {X Y : Type 0} {first : Phase X Cause} {next : X → Phase Y Cause} → IsLawful Sure rules Enough Ordered first → ((x : X) → first (Ok x) → IsLawful Sure rules Enough Ordered (next x))
      → IsLawful Sure rules Enough Ordered (first >>= next)
  behind {X} {Y} {first} {next} f n = record {
    one = agree_after Sure first first next next f.one (λ x p. (n x p).one);
    some = λ wide. some_behind IsNoFault first next (f.some wide) (λ x p. (n x p).some wide);
    fed = λ enough. by_both IsOther first next (f.fed enough) (λ x p. (n x p).fed enough);
    passed = λ ordered. by_both (λ cause. ⊥) first next (f.passed ordered) (λ x p. (n x p).passed ordered);
  }

  -- what is handed on
  pub hands_on : {X : Type 0} (x : X) → IsLawful Sure rules Enough Ordered (HandsOn x)
  hands_on x = record { one = one_hands_on Sure x; some = λ wide. some_hands_on IsNoFault x; fed = λ enough. by_handing_on IsOther x; passed = λ ordered. by_handing_on (λ cause. ⊥) x }

  -- a test whose answer is known
  pub tests : (P : Type 0) (own : Cause) → IsNoFault own → IsOther own → P ⊎ (¬ P) → (Ordered → ¬ P) → IsLawful Sure rules Enough Ordered (StopsWhere P own)
  tests P own told other known fails = record {
    one = one_stops_where Sure P own;
    some = λ wide. some_stops_where IsNoFault P own told known;
    fed = λ enough cause h. subst IsOther (sym h.1) other;
    passed = λ ordered cause h. fails ordered h.0;
  }

  -- where all is in order it hands something on
  pub handed_on : {X : Type 0} {phase : Phase X Cause} → IsLawful Sure rules Enough Ordered phase → 2 ≤ rules.width → Ordered → (x : X) × phase (Ok x)
  handed_on {X} {phase} laws wide ordered = by (laws.some wide)
    where
      by : HasSomeEnd IsNoFault phase → (x : X) × phase (Ok x)
      by (Ok x, h, s) = (x, h)
      by (Err cause, h, s) = absurd (laws.passed ordered cause h)

  -- and comes to one output, where it hands on no other
  pub comes_to : {X : Type 0} {phase : Phase X Cause} (x : X) → IsLawful Sure rules Enough Ordered phase → 2 ≤ rules.width → Ordered → ((y : X) → phase (Ok y) → y ≡ x)
      → (end : Result X Cause) → phase end ↔ (end ≡ Ok x)
  comes_to {X} {phase} x laws wide ordered only end = (to end, λ e. subst phase (sym e) there)
    where
      there : phase (Ok x)
      there = let some = handed_on laws wide ordered in subst (λ y. phase (Ok y)) (only some.0 some.1) some.1

      to : (at : Result X Cause) → phase at → at ≡ Ok x
      to (Ok y) h = ap Ok (only y h)
      to (Err cause) h = absurd (laws.passed ordered cause h)

-- what was handed on along a chain
pub from : {X Y C : Type 0} (first : Phase X C) (next : X → Phase Y C) (y : Y) → (first >>= next) (Ok y) → (x : X) × first (Ok x) × next x (Ok y)
from {X} {Y} {C} first next y h = by h.0 h.1 h.2
  where
    by : (at : Result X C) → first at → GoesOn next at (Ok y) → (x : X) × first (Ok x) × next x (Ok y)
    by (Ok x) p goes = (x, p, goes)
    by (Err cause) p e = absurd (cc)
