-- What names of gates stand for: calls of built-in gates, by the values of their angles.
use Rattle.std.specs.Prelude.{◌≡◌, ℕ, zero, suc, ◌+◌, ◌-◌, cond, nat_eq, nat_le, List, [], ◌∷◌, ◌++◌, map, get_or, replicate, Option, Some, None, option_map, Result, Ok, Err, codes}
use Rattle.std.specs.Option.{option_map_or, option_or}
use Rattle.std.specs.Result.{result_map_both}
use Rattle.std.specs.Str.{bytes_eq}
use Rattle.std.specs.Map.{lookup}
use Rattle.gate_set.specs.declared.kind.Kind.{Kind}
use Rattle.gate_set.specs.declared.kind.Kind.TheVariants.{Id, X, Y, Z, H, S, Sdg, T, Tdg, RxP, RxM, RyP, RyM, Cx, Cz, Swap, Ccx, Cswap, Phase}
use Rattle.gate_set.specs.declared.gate.Gate.{Gate}
use Rattle.gate_set.specs.Matrix.{arity_of}
use Rattle.qasm_lex.specs.declared.refusal.AngleRefusal.{AngleRefusal}
use Rattle.qasm_lex.specs.declared.value.Value.{Value}
use Rattle.qasm_lex.specs.Fractions.{Ratio}
use Rattle.qasm_lex.specs.Values.{multiple_of}
use Rattle.qasm_lex.specs.Quarters.{IsQuarters, IsEighths}

-- a gate of what a call does: its kind, and the numbers of the arguments that are its further controls, and its qubits, counted from 0
pub record Item : Type 0 where
  pub kind : Kind
  pub extra : List ℕ
  pub on : List ℕ

-- what a name without letters c before it stands for: one gate, quarter turns about an axis, forth and back, or eighths of a turn of phase
pub data Base : Type 0 where
  gate : Kind → Base
  turn : Kind → Kind → Base
  phase : Base

-- what the name of a built-in gate stands for: that of its base, with so many further controls
pub record Builtin : Type 0 where
  pub controls : ℕ
  pub base : Base

-- names that stand for themselves: identities, and gates with their own controls
abbrev pub own : List (List ℕ × Base)
own = (codes "id", gate Id) ∷ (codes "cx", gate Cx) ∷ (codes "cz", gate Cz) ∷ (codes "ccx", gate Ccx) ∷ (codes "cswap", gate Cswap) ∷ []

-- names that letters c may stand before, each for one further control
abbrev pub bases : List (List ℕ × Base)
bases =
    (codes "x", gate X) ∷ (codes "y", gate Y) ∷ (codes "z", gate Z) ∷ (codes "h", gate H)
    ∷ (codes "s", gate S) ∷ (codes "sdg", gate Sdg) ∷ (codes "t", gate T) ∷ (codes "tdg", gate Tdg)
    ∷ (codes "rx", turn RxP RxM) ∷ (codes "ry", turn RyP RyM) ∷ (codes "swap", gate Swap) ∷ (codes "u1", phase) ∷ []

abbrev pub plainly : Base → Builtin
plainly b = record { controls = 0; base = b }

abbrev pub with_control : Builtin → Builtin
with_control n = record { controls = suc n.controls; base = n.base }

-- the gate of a base's name with up to n letters c before it. 99 is the letter c
unfoldable pub based : ℕ → List ℕ → Option Builtin
based zero name = option_map plainly (lookup (bytes_eq name) bases)
based (suc n) [] = None
based (suc n) (b ∷ name) = cond (nat_eq b 99) (option_map with_control (based n name)) (option_map plainly (lookup (bytes_eq (b ∷ name)) bases))

-- the gate of a name that is built in
unfoldable pub builtin : List ℕ → Option Builtin
builtin name = option_map_or (λ b. Some (plainly b)) (lookup (bytes_eq name) own) (based 8 name)

-- how many arguments a base has
abbrev pub base_arity : Base → ℕ
base_arity (gate kind) = arity_of kind
base_arity (turn forth back) = 1
base_arity phase = 1

-- and a gate: its further controls come first
abbrev pub arity : Builtin → ℕ
arity n = n.controls + base_arity n.base

-- how many angles it has
abbrev pub base_angles : Base → ℕ
base_angles (gate kind) = 0
base_angles (turn forth back) = 1
base_angles phase = 1

abbrev pub angle_count : Builtin → ℕ
angle_count n = base_angles n.base

-- 0 up to n - 1
abbrev pub up_to : ℕ → List ℕ
up_to zero = []
up_to (suc n) = up_to n ++ n ∷ []

-- one gate of the kind on all its arguments, the first n of which are further controls
abbrev pub one : ℕ → Kind → Item
one n kind = record { kind = kind; extra = up_to n; on = map (λ i. n + i) (up_to (arity_of kind)) }

-- m quarter turns, m below 8: up to a full turn they are done forth, and beyond that back; none at all is one identity
abbrev pub turns : ℕ → Kind → Kind → ℕ → List Item
turns n forth back m = cond (nat_eq m 0) (one n Id ∷ []) (cond (nat_le m 4) (replicate m (one n forth)) (replicate (8 - m) (one n back)))

-- what a built-in gate does, by its angles as multiples of π. An angle for which it does nothing isn't on its grid
pub data Gives (built : Builtin) (angles : List Ratio) (items : List Item) : Type 0 where
  plain : (kind : Kind) → built.base ≡ gate kind → angles ≡ [] → items ≡ one built.controls kind ∷ [] → Gives built angles items
  turned : (forth back : Kind) (f : Ratio) (m : ℕ) → built.base ≡ turn forth back → angles ≡ f ∷ [] → IsQuarters f m → items ≡ turns built.controls forth back m → Gives built angles items
  phased : (f : Ratio) (m : ℕ) → built.base ≡ phase → angles ≡ f ∷ [] → IsEighths f m → items ≡ one built.controls (Phase m) ∷ [] → Gives built angles items

-- a call of a built-in gate: its angles as multiples of π, and the numbers of the arguments that it is done on
pub record Basic : Type 0 where
  pub gate : Builtin
  pub angles : List Ratio
  pub on : List ℕ

-- what a call means: calls of built-in gates, or the refusal of an angle
abbrev pub Meaning : Type 0
Meaning = Result (List Basic) AngleRefusal

-- a gate that can be called: how many arguments and angles it has, how deep it calls others, how many items it has, and what a call of it
-- means by the values of its angles
pub record Named : Type 0 where
  pub arity : ℕ
  pub angles : ℕ
  pub depth : ℕ
  pub items : ℕ
  pub means : List Value → Meaning

-- one that comes first, if it wasn't refused, and then others
abbrev pub led : {A : Type 0} → Result A AngleRefusal → Result (List A) AngleRefusal → Result (List A) AngleRefusal
led (Ok a) (Ok more) = Ok (a ∷ more)
led (Ok a) (Err e) = Err e
led (Err e) more = Err e

-- all of them, or the first refusal
abbrev pub all_of : {A : Type 0} → List (Result A AngleRefusal) → Result (List A) AngleRefusal
all_of [] = Ok []
all_of (r ∷ rs) = led r (all_of rs)

-- a built-in gate gets multiples of π
abbrev pub builtin_gate : Builtin → Named
builtin_gate b = record {
  arity = arity b;
  angles = angle_count b;
  depth = 0;
  items = 0;
  means = λ values. result_map_both (λ angles. record { gate = b; angles = angles; on = up_to (arity b) } ∷ []) (λ e. e) (all_of (map (λ v. multiple_of (Ok v)) values));
}

-- a call on some of the arguments
abbrev pub call_on : List ℕ → Basic → Basic
call_on on c = record c { on = map (λ n. get_or on n 0) c.on }

-- a gate on some of the arguments
abbrev pub item_on : List ℕ → Item → Item
item_on on i = record { kind = i.kind; extra = map (λ n. get_or on n 0) i.extra; on = map (λ n. get_or on n 0) i.on }

-- the gates of calls, one call after the other
abbrev pub Do : List Basic → List Item → Type 0
Do [] items = items ≡ []
Do (c ∷ calls) items = (first more : List Item) × Gives c.gate c.angles first × Do calls more × (items ≡ map (item_on c.on) first ++ more)

-- a gate on those of the qubits that it names by their numbers
abbrev pub placed : List ℕ → Item → Gate
placed qubits i = record { kind = i.kind; on = map (λ n. get_or qubits n 0) i.on; extra = map (λ n. get_or qubits n 0) i.extra }

-- the gate of a name: one that is built in, or one that is defined
abbrev pub gate_in : List (List ℕ × Named) → List ℕ → Option Named
gate_in definitions name = option_or (option_map builtin_gate (builtin name)) (lookup (bytes_eq name) definitions)
