-- The reasons for which a statement is refused, and their order.
use Rattle.std.specs.Prelude.{◌≡◌, ◌≢◌, ◌⊎◌, ℕ, ◌+◌, ◌*◌, ◌<◌, Bool, true, false, ◌||◌, not, nat_eq, nat_le, nat_lt, List, [], ◌∷◌, ◌++◌, length, flat_map, All, AllPairs, is_some, Option, Some, None, option_map, option_and_then, Result, Ok, Err, codes}
use Rattle.std.specs.List.{list_any, AllZip, filter_map}
use Rattle.std.specs.Str.{bytes_eq}
use Rattle.qasm_lex.specs.declared.refusal.AngleRefusal.{AngleRefusal}
use Rattle.qasm_lex.specs.Lexemes.{Lexeme}
use Rattle.qasm_lex.specs.Symbols.{decimal, symbols_in, param_of}
use Rattle.qasm_lex.specs.Expressions.{Tree}
use Rattle.qasm_lex.specs.Angles.{IsShape}
use Rattle.qasm_forms.specs.Statements.{Statement, version, include, qubits, bits, barrier, measure, call, definition, left_out, Argument, Line, fence, calls}
use Rattle.qasm_reader.specs.declared.reason.Why.{Why}
use Rattle.qasm_reader.specs.declared.reason.Why.TheVariants.{BadByte, NoVersion, NotAStatement, OutOfProfile, UnknownName, Redeclared, UnknownRegister, IndexOutOfRange, WrongCount, SizesDiffer, RepeatedQubit, TooDeep, TooManyItems, AngleRefused, OffGrid, Measured, TooManyQubits, TooManyGates}
use Rattle.qasm_gates.specs.Gates.{Item, Named, Basic, all_of, Do}
use Rattle.qasm_gates.specs.Bodies.{greatest}
use Rattle.qasm_reader.specs.Acts.{Act, Register, Target, register, registers, index_of, target, targets, wholes, place_count, qubits_at, measured, qubit_count, item_count, gates}
use Rattle.qasm_reader.specs.Calls.{gate_named, listed, Means, Does}
use Rattle.qasm_reader.specs.Profile.{leaves}
use Rattle.qasm_reader.specs.Parts.{Part, Has}

-- a call as it is written, in a statement or in a body: a name, and how many arguments and angles there are
pub record Calling : Type 0 where
  pub name : List ℕ
  pub arguments : ℕ
  pub angles : ℕ

-- a line's call, its angles, and what it is on
abbrev pub callings_in : Line → List Calling
callings_in (fence on) = []
callings_in (calls name angles on) = record { name = name; arguments = length on; angles = length (listed angles) } ∷ []

abbrev pub line_angles : Line → List (List Lexeme)
line_angles (fence on) = []
line_angles (calls name angles on) = listed angles

abbrev pub line_on : Line → List (List ℕ)
line_on (fence on) = on
line_on (calls name angles on) = on

-- the calls of a statement: its own, or those of its body
abbrev pub callings : Statement → List Calling
callings (call name angles arguments) = record { name = name; arguments = length arguments; angles = length (listed angles) } ∷ []
callings (definition name params formals lines) = flat_map callings_in lines
callings _ = []

-- what is left out, also the definition of a gate, or the include of another file
abbrev pub is_outside : Statement → Bool
is_outside (left_out name more end) = true
is_outside (definition name params formals lines) = true
is_outside (include text) = not (bytes_eq text (codes "\"qelib1.inc\""))
is_outside _ = false

abbrev pub out_of_profile : List Act → Statement → Bool
out_of_profile before s = is_outside s || list_any (λ c. leaves before c.name) (callings s)

-- a call of a name that no gate has
abbrev pub unknown_name : List Act → Statement → Bool
unknown_name before s = list_any (λ c. not (is_some (gate_named before c.name))) (callings s)

abbrev pub is_declared : List (List ℕ × Register) → List ℕ → Bool
is_declared all name = is_some (register all name)

-- two that are equal
abbrev pub Repeats : {A : Type 0} → List A → Type 0
Repeats all = AllPairs (λ p q. p ≢ q) all → ⊥

-- a declaration of a name that is declared, a definition of a name that a gate has, or two equal names of parameters and formal arguments
abbrev pub Redeclares : List Act → Statement → Type 0
Redeclares before (qubits name size) = is_declared (registers before) name ≡ true
Redeclares before (bits name size) = is_declared (registers before) name ≡ true
Redeclares before (definition name params formals lines) = (is_some (gate_named before name) ≡ true) ⊎ Repeats (listed params ++ formals)
Redeclares before _ = ⊥

-- the arguments that are qubits, and those that are bits
abbrev pub qubit_arguments : Statement → List Argument
qubit_arguments (barrier arguments) = arguments
qubit_arguments (measure from to) = from ∷ []
qubit_arguments (call name angles arguments) = arguments
qubit_arguments _ = []

abbrev pub bit_arguments : Statement → List Argument
bit_arguments (measure from to) = to ∷ []
bit_arguments _ = []

abbrev pub same_sort : Bool → Option Register → Bool
same_sort true (Some r) = r.quantum
same_sort false (Some r) = not r.quantum
same_sort quantum None = false

-- no register of the sort has the argument's name
abbrev pub is_unknown : List (List ℕ × Register) → Bool → Argument → Bool
is_unknown all quantum a = not (same_sort quantum (register all a.name))

-- what the lines of a definition are on that is no formal argument of it
abbrev pub unknown_formal : Statement → Bool
unknown_formal (definition name params formals lines) = list_any (λ n. not (is_some (param_of formals n))) (flat_map line_on lines)
unknown_formal _ = false

abbrev pub unknown_register : List (List ℕ × Register) → Statement → Bool
unknown_register all s = unknown_formal s || list_any (is_unknown all true) (qubit_arguments s) || list_any (is_unknown all false) (bit_arguments s)

abbrev pub reaches : Option Register → Option ℕ → Bool
reaches (Some r) (Some i) = nat_le r.size i
reaches (Some r) None = false
reaches None index = false

-- the argument's index isn't below the size of its register
abbrev pub is_beyond : List (List ℕ × Register) → Argument → Bool
is_beyond all a = reaches (register all a.name) (index_of a.index)

-- 0, or more than 1,000,000
abbrev pub no_size : ℕ → Bool
no_size n = nat_eq n 0 || nat_lt 1000000 n

abbrev pub bad_size : Statement → Bool
bad_size (qubits name size) = no_size (decimal size)
bad_size (bits name size) = no_size (decimal size)
bad_size _ = false

abbrev pub out_of_range : List (List ℕ × Register) → Statement → Bool
out_of_range all s = bad_size s || (list_any (is_beyond all) (qubit_arguments s) || list_any (is_beyond all) (bit_arguments s))

-- another number of arguments or of angles than the gate has
abbrev pub miscounts : Option Named → Calling → Bool
miscounts None c = false
miscounts (Some gate) c = not (nat_eq c.arguments gate.arity) || not (nat_eq c.angles gate.angles)

abbrev pub wrong_count : List Act → Statement → Bool
wrong_count before s = list_any (λ c. miscounts (gate_named before c.name) c) (callings s)

-- sizes that aren't all equal
abbrev pub AreUnequal : List ℕ → Type 0
AreUnequal sizes = AllPairs (λ m n. m ≡ n) sizes → ⊥

-- two whole registers of a call differ in size, or the two sides of a measure, where a single place has size 1
abbrev pub DifferInSize : List (List ℕ × Register) → Statement → Type 0
DifferInSize all (call name angles arguments) = (ts : List Target) × (targets all arguments ≡ Some ts) × AreUnequal (wholes ts)
DifferInSize all (measure from to) = (f t : Target) × (target all from ≡ Some f) × (target all to ≡ Some t) × (place_count (f ∷ []) ≢ place_count (t ∷ []))
DifferInSize all _ = ⊥

-- at some place of a call its qubits have the property
abbrev pub AtSomePlace : List (List ℕ × Register) → (List ℕ → Type 0) → Statement → Type 0
AtSomePlace all P (call name angles arguments) = (ts : List Target) × (targets all arguments ≡ Some ts) × (place : ℕ) × (place < place_count ts) × P (qubits_at ts place)
AtSomePlace all P _ = ⊥

abbrev pub OnceEach : Line → Type 0
OnceEach (fence on) = Unit {0}
OnceEach (calls name angles on) = AllPairs (λ p q. p ≢ q) on

-- a gate on the same qubit twice: at some place of a call, or a call in a body with a formal argument twice
abbrev pub IsRepeated : List (List ℕ × Register) → Statement → Type 0
IsRepeated all (definition name params formals lines) = All (λ l. OnceEach l) lines → ⊥
IsRepeated all s = AtSomePlace all Repeats s

-- some qubit is one of those that are gone
abbrev pub Meets : List ℕ → List ℕ → Type 0
Meets gone qs = All (λ q. All (λ p. q ≢ p) gone) qs → ⊥

-- the first angle that is refused is refused so: in a call by its value, at any depth; in a definition by its shape
abbrev pub IsAngleRefused : List Act → Statement → AngleRefusal → Type 0
IsAngleRefused before (call name angles arguments) e = (called : Named) × (gate_named before name ≡ Some called) × Means called (listed angles) (Err e)
IsAngleRefused before (definition name params formals lines) e =
    (shapes : List (Result Tree AngleRefusal)) × AllZip (λ a shape. IsShape (symbols_in (listed params) a) shape) (flat_map line_angles lines) shapes × (all_of shapes ≡ Err e)
IsAngleRefused before _ e = ⊥

-- some built-in gate does nothing for its angles
abbrev pub IsOffGrid : List Act → Statement → Type 0
IsOffGrid before (call name angles arguments) =
    (called : Named) × (basics : List Basic) × (gate_named before name ≡ Some called) × Means called (listed angles) (Ok basics) × ((items : List Item) → Do basics items → ⊥)
IsOffGrid before _ = ⊥

-- the depth of a definition, by the gates that it calls
abbrev pub depth_of : List Act → Statement → ℕ
depth_of before (definition name params formals lines) = 1 + greatest (filter_map (λ c. option_map (λ g. g.depth) (gate_named before c.name)) (flat_map callings_in lines))
depth_of before _ = 0

-- the items of a call, at all its places
abbrev pub items_of : List Act → Statement → Option ℕ
items_of before (call name angles arguments) = option_and_then (λ called. option_map (λ ts. called.items * place_count ts) (targets (registers before) arguments)) (gate_named before name)
items_of before _ = None

-- a statement breaks a rule of its meaning, given what was done before it
abbrev pub Breaks : ℕ → List Act → Statement → Why → Type 0
Breaks limit before s OutOfProfile = out_of_profile before s ≡ true
Breaks limit before s UnknownName = unknown_name before s ≡ true
Breaks limit before s Redeclared = Redeclares before s
Breaks limit before s UnknownRegister = unknown_register (registers before) s ≡ true
Breaks limit before s IndexOutOfRange = out_of_range (registers before) s ≡ true
Breaks limit before s WrongCount = wrong_count before s ≡ true
Breaks limit before s SizesDiffer = DifferInSize (registers before) s
Breaks limit before s RepeatedQubit = IsRepeated (registers before) s
Breaks limit before s TooDeep = 32 < depth_of before s
Breaks limit before s TooManyItems = (n : ℕ) × (items_of before s ≡ Some n) × (4000000 < item_count before + n)
Breaks limit before s (AngleRefused e) = IsAngleRefused before s e
Breaks limit before s OffGrid = IsOffGrid before s
Breaks limit before s Measured = AtSomePlace (registers before) (Meets (measured before)) s
Breaks limit before s TooManyQubits = (act : Act) × Does before s act × (limit < qubit_count (before ++ act ∷ []))
Breaks limit before s TooManyGates = (act : Act) × Does before s act × (1000000 < length (gates (before ++ act ∷ [])))
Breaks limit before s _ = ⊥

-- the reason holds for a statement of a text, given what was done before it
abbrev pub Holds : ℕ → List Act → Part → Why → Type 0
Holds limit before part (BadByte place) = part.bad ≡ Some place
Holds limit before part NoVersion = (before ≡ []) × (Has before part version → ⊥)
Holds limit before part NotAStatement = (s : Statement) → Has before part s → ⊥
Holds limit before part why = (s : Statement) × Has before part s × Breaks limit before s why

-- the order in which reasons are told
abbrev pub order : Why → ℕ
order (BadByte place) = 0
order NoVersion = 1
order NotAStatement = 2
order OutOfProfile = 3
order UnknownName = 4
order Redeclared = 5
order UnknownRegister = 6
order IndexOutOfRange = 7
order WrongCount = 8
order SizesDiffer = 9
order RepeatedQubit = 10
order TooDeep = 11
order TooManyItems = 12
order (AngleRefused e) = 13
order OffGrid = 14
order Measured = 15
order TooManyQubits = 16
order TooManyGates = 17

-- the reason holds, and each other one that holds is later
pub record Refuses (limit : ℕ) (before : List Act) (part : Part) (why : Why) : Type 0 where
  pub holds : Holds limit before part why
  pub first : (other : Why) → Holds limit before part other → (other ≡ why) ⊎ (order why < order other)

-- no reason holds
abbrev pub IsFree : ℕ → List Act → Part → Type 0
IsFree limit before part = (why : Why) → Holds limit before part why → ⊥
