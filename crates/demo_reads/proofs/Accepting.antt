-- Each statement of the text of `demo` is accepted.
use Rattle.std.proofs.Common.{◌≡◌, ◌≢◌, ℕ, suc, ◌+◌, ◌<◌, ◌≤◌, Bool, true, false, not, nat_eq, nat_le, List, [], ◌∷◌, ◌++◌, map, get_or, length, codes, decimal, Option, Some, None, refl, sym, ◌∙◌, ap, subst, arith, rules, is_some, length-append, flat_map, All}
use Rattle.std.specs.Prelude.{◌||◌, ◌*◌, option_map, option_and_then, Ok, Err}
use Rattle.std.specs.List.{AllByRecursion, list_any}
use Rattle.std.specs.Option.{option_or}
use Rattle.std.specs.Str.{bytes_eq}
use Rattle.std.specs.Map.{lookup}
use Rattle.std.proofs.lemmas.Bool.{false≢true}
use Rattle.std.proofs.lemmas.List.Elements.{All-nil, All-cons}
use Rattle.std.proofs.lemmas.List.{append-nil, append_assoc, take_all}
use Rattle.gate_set.specs.declared.kind.Kind.{Kind}
use Rattle.gate_set.specs.declared.gate.Gate.{Gate as GateOf}
use Rattle.gate_set.specs.Matrix.{arity_of}
use Rattle.qasm_lex.specs.declared.refusal.AngleRefusal.{AngleRefusal}
use Rattle.qasm_lex.specs.Symbols.{decimal as read_decimal}
use Rattle.qasm_forms.specs.Statements.{Statement, version, is_name, IsArgument}
use Rattle.qasm_reader.specs.declared.reason.Why.{Why}
use Rattle.qasm_reader.specs.declared.reason.Why.TheVariants.{BadByte, NoVersion, NotAStatement, OutOfProfile, UnknownName, Redeclared, UnknownRegister, IndexOutOfRange, WrongCount, SizesDiffer, RepeatedQubit, TooDeep, TooManyItems, AngleRefused, OffGrid, Measured, TooManyQubits, TooManyGates}
use Rattle.qasm_reader.specs.Profile.{leaves}
use Rattle.qasm_reader.specs.Parts.{Has}
use Rattle.qasm_gates.specs.Gates.{up_to, Builtin, gate, plainly, builtin, one, plain, placed, Item, Basic, Meaning, Named, builtin_gate, item_on, Do}
use Rattle.qasm_reader.specs.Acts.{Act, Register, Target, registers, measured, gates, qubit_count, item_count, definitions, targets, wholes, place_count, qubits_at, product}
use Rattle.qasm_reader.specs.Calls.{gate_named, Means, Does}
use Rattle.qasm_reader.specs.Reasons.{Calling, out_of_profile, unknown_name, Redeclares, unknown_register, out_of_range, wrong_count, AreUnequal, DifferInSize, Repeats, Meets, AtSomePlace, IsRepeated, depth_of, items_of, IsAngleRefused, IsOffGrid, Holds, IsFree, is_beyond, is_unknown, miscounts}
use Rattle.qasm_reader.specs.Reading.{Accepts, AllAccepted}
use Rattle.qasm_reader.specs.Private.Meanings.{meaning_of}
use Rattle.qasm_reader.specs.Private.Scope.{has_twice, leaves_by}
use Rattle.qasm_reader.specs.Private.Drafts.{AreSound}
use Rattle.qasm_gates.proofs.Good.{up_to_length}
use Rattle.qasm_gates.proofs.Placed.{placed_all, picked_past}
use Rattle.qasm_reader.proofs.Meanings.{means_is, means_one}
use Rattle.qasm_reader.proofs.Tests.{pairs_none, different}
use Rattle.qasm_reader.proofs.Good.{has_one}
use Rattle.qasm_reader.proofs.Growing.{qubit_count_more, registers_more, gates_more, measured_more, item_count_more, definitions_more}
use Rattle.qasm_reader.proofs.Looking.{and_first}
use Rattle.qasm_reader.proofs.OneReading.{does_one}
use Rattle.demo_text.specs.Generator.{Call}
use Rattle.demo_reads.specs.Drawn.{kind_in, gate_of}
use Rattle.demo_reads.proofs.Acting.{place_argument, line_statement, closed_part, spot, line_act}

-- no rule of its meaning is broken by the statement
pub record Harmless (limit : ℕ) (before : List Act) (s : Statement) : Type 0 where
  pub started : before ≡ [] → s ≡ version
  pub profile : out_of_profile before s ≡ false
  pub name : unknown_name before s ≡ false
  pub fresh : Redeclares before s → ⊥
  pub register : unknown_register (registers before) s ≡ false
  pub range : out_of_range (registers before) s ≡ false
  pub count : wrong_count before s ≡ false
  pub sizes : DifferInSize (registers before) s → ⊥
  pub once : IsRepeated (registers before) s → ⊥
  pub deep : depth_of before s ≤ 32
  pub items : (n : ℕ) → items_of before s ≡ Some n → item_count before + n ≤ 4000000
  pub angle : (e : AngleRefusal) → IsAngleRefused before s e → ⊥
  pub grid : IsOffGrid before s → ⊥
  pub gone : AtSomePlace (registers before) (Meets (measured before)) s → ⊥
  pub qubits : (act : Act) → Does before s act → qubit_count (before ++ act ∷ []) ≤ limit
  pub gates : (act : Act) → Does before s act → length (gates (before ++ act ∷ [])) ≤ 1000000

clash : (b : Bool) → b ≡ false → b ≡ true → ⊥
clash b f t = false≢true (sym f ∙ t)

pub free_of : (limit : ℕ) (before : List Act) (s : Statement) → Harmless limit before s → Has before (closed_part s) s → IsFree limit before (closed_part s)
free_of limit before s h has why broken = go why broken
  where
    same : (t : Statement) → Has before (closed_part s) t → t ≡ s
    same t other = has_one before (closed_part s) t s other has

    go : (w : Why) → Holds limit before (closed_part s) w → ⊥
    go (BadByte place) b = let q : None ≡ Some place = b in absurd (cc)
    go NoVersion b = b.1 (subst (λ t. Has before (closed_part s) t) (h.started b.0) has)
    go NotAStatement b = b s has
    go OutOfProfile b = clash (out_of_profile before s) h.profile (subst (λ t. out_of_profile before t ≡ true) (same b.0 b.1) b.2)
    go UnknownName b = clash (unknown_name before s) h.name (subst (λ t. unknown_name before t ≡ true) (same b.0 b.1) b.2)
    go Redeclared b = h.fresh (subst (λ t. Redeclares before t) (same b.0 b.1) b.2)
    go UnknownRegister b = clash (unknown_register (registers before) s) h.register (subst (λ t. unknown_register (registers before) t ≡ true) (same b.0 b.1) b.2)
    go IndexOutOfRange b = clash (out_of_range (registers before) s) h.range (subst (λ t. out_of_range (registers before) t ≡ true) (same b.0 b.1) b.2)
    go WrongCount b = clash (wrong_count before s) h.count (subst (λ t. wrong_count before t ≡ true) (same b.0 b.1) b.2)
    go SizesDiffer b = h.sizes (subst (λ t. DifferInSize (registers before) t) (same b.0 b.1) b.2)
    go RepeatedQubit b = h.once (subst (λ t. IsRepeated (registers before) t) (same b.0 b.1) b.2)
    go TooDeep b = let le = h.deep in let lt = subst (λ t. 32 < depth_of before t) (same b.0 b.1) b.2 in absurd (omega (arith, le, lt))
    go TooManyItems b = let le = h.items b.2.0 (subst (λ t. items_of before t ≡ Some b.2.0) (same b.0 b.1) b.2.1) in let lt = b.2.2 in absurd (omega (arith, le, lt))
    go (AngleRefused e) b = h.angle e (subst (λ t. IsAngleRefused before t e) (same b.0 b.1) b.2)
    go OffGrid b = h.grid (subst (λ t. IsOffGrid before t) (same b.0 b.1) b.2)
    go Measured b = h.gone (subst (λ t. AtSomePlace (registers before) (Meets (measured before)) t) (same b.0 b.1) b.2)
    go TooManyQubits b = let le = h.qubits b.2.0 (subst (λ t. Does before t b.2.0) (same b.0 b.1) b.2.1) in let lt = b.2.2 in absurd (omega (arith, le, lt))
    go TooManyGates b = let le = h.gates b.2.0 (subst (λ t. Does before t b.2.0) (same b.0 b.1) b.2.1) in let lt = b.2.2 in absurd (omega (arith, le, lt))

abbrev pub reg : ℕ → Register
reg q = record { quantum = true; first = 0; size = q }

abbrev pub one_register : ℕ → List (List ℕ × Register)
one_register q = (codes "q", reg q) ∷ []

-- what was done before a call: one register of q qubits, and these gates
pub record Known (q : ℕ) (done : List GateOf) (before : List Act) : Type 0 where
  pub some : before ≢ []
  pub registers : registers before ≡ one_register q
  pub measured : measured before ≡ []
  pub qubits : qubit_count before ≡ q
  pub gates : gates before ≡ done
  pub defined : definitions before ≡ []
  pub items : item_count before ≡ 0

-- a call of a gate on different qubits below q
pub record IsCall (q : ℕ) (c : Call) : Type 0 where
  pub name : is_name c.name ≡ true
  pub kept : leaves [] c.name ≡ false
  pub gate : builtin c.name ≡ Some (plainly (gate (kind_in (builtin c.name))))
  pub some : 0 < length c.on
  pub count : length c.on ≡ arity_of (kind_in (builtin c.name))
  pub below : AllByRecursion (λ i. i < q) c.on
  pub once : has_twice c.on ≡ false
  pub reads : AllByRecursion (λ i. read_decimal (decimal i) ≡ i) c.on

targets_are : (q : ℕ) (is : List ℕ) → AllByRecursion (λ i. read_decimal (decimal i) ≡ i) is → targets (one_register q) (map place_argument is) ≡ Some (map spot is)
targets_are q [] h = refl
targets_are q (i ∷ is) h =
    let same : 0 + read_decimal (decimal i) ≡ i = omega (arith, h.0) in
    ap (λ k. and_first (Some (spot k)) (targets (one_register q) (map place_argument is))) same ∙ ap (λ ts. and_first (Some (spot i)) ts) (targets_are q is h.1)

wholes_none : (is : List ℕ) → wholes (map spot is) ≡ []
wholes_none [] = refl
wholes_none (i ∷ is) = wholes_none is

qubits_are : (place : ℕ) (is : List ℕ) → qubits_at (map spot is) place ≡ is
qubits_are place [] = refl
qubits_are place (i ∷ is) = ap (λ l. i ∷ l) (qubits_are place is)

le_out : (a b : ℕ) → b < a → nat_le a b ≡ false
le_out a b h = search rules

none_beyond : (q : ℕ) (is : List ℕ) → AllByRecursion (λ i. i < q) is → AllByRecursion (λ i. read_decimal (decimal i) ≡ i) is → list_any (is_beyond (one_register q)) (map place_argument is) ≡ false
none_beyond q [] h r = refl
none_beyond q (i ∷ is) h r =
    ap (λ k. nat_le q k || list_any (is_beyond (one_register q)) (map place_argument is)) r.0
    ∙ ap (λ b. b || list_any (is_beyond (one_register q)) (map place_argument is)) (le_out q i h.0) ∙ none_beyond q is h.1 r.1

none_unknown : (q : ℕ) (is : List ℕ) → list_any (is_unknown (one_register q) true) (map place_argument is) ≡ false
none_unknown q [] = refl
none_unknown q (i ∷ is) = none_unknown q is

or_none : (b : Bool) → b ≡ false → (b || false) ≡ false
or_none b e = ap (λ x. x || false) e

length-args : (is : List ℕ) → length (map place_argument is) ≡ length is
length-args [] = refl
length-args (i ∷ is) = ap suc (length-args is)

eq_true : (a b : ℕ) → a ≡ b → nat_eq a b ≡ true
eq_true a b e = search rules

args_each : (is : List ℕ) → AllByRecursion IsArgument (map place_argument is)
unfolding is_name
args_each [] = tt
args_each (i ∷ is) = (refl, args_each is)

-- what a gate without angles means
abbrev plain_gate : Kind → Builtin
plain_gate kind = plainly (gate kind)

abbrev plain_basic : Kind → Basic
plain_basic kind = record { gate = plain_gate kind; angles = []; on = up_to (arity_of kind) }

from_none : (xs : List ℕ) → map (λ i. 0 + i) xs ≡ xs
from_none [] = refl
from_none (x ∷ xs) = ap (λ y. y ∷ map (λ i. 0 + i) xs) (omega arith) ∙ ap (λ r. x ∷ r) (from_none xs)

none_before : (n : ℕ) → 0 + n ≡ n
none_before n = omega arith

-- a gate on all its arguments
own_item : (kind : Kind) → item_on (up_to (arity_of kind)) (one 0 kind) ≡ one 0 kind
own_item kind =
    let n = arity_of kind in
    let whole : map (λ k. get_or (up_to n) k 0) (map (λ i. 0 + i) (up_to n)) ≡ map (λ i. 0 + i) (up_to n) =
    picked_past (up_to n) 0 n (omega (arith, up_to_length n)) ∙ take_all n (up_to n) (omega (arith, up_to_length n)) ∙ sym (from_none (up_to n)) in
    ap (λ on. (let i : Item = record { kind = kind; extra = []; on = on } in i)) whole

plain_does : (kind : Kind) → Do (plain_basic kind ∷ []) (one 0 kind ∷ [])
plain_does kind = (one 0 kind ∷ [], [], plain kind refl refl refl, refl, ap (λ i. i ∷ []) (sym (own_item kind)))

plain_meant : (kind : Kind) → meaning_of (builtin_gate (plain_gate kind)) [] ≡ Ok (plain_basic kind ∷ [])
plain_meant kind = ap (λ n. (let m : Meaning = Ok (record { gate = plain_gate kind; angles = []; on = up_to n } ∷ []) in m)) (none_before (arity_of kind))

same_gate : (a b : Named) → Some a ≡ Some b → a ≡ b
same_gate a b e = cc

same_basics : (a b : List Basic) → ◌≡◌ {A = Meaning} (Ok a) (Ok b) → a ≡ b
same_basics a b e = cc

never_refused : (basics : List Basic) (e : AngleRefusal) → ◌≡◌ {A = Meaning} (Ok basics) (Err e) → ⊥
never_refused basics e h = cc

-- the gate of a kind
abbrev pub one_gate : Kind → List ℕ → GateOf
one_gate kind on = record { kind = kind; on = on; extra = [] }

-- at one place a call makes one gate
product_is : (kind : Kind) (on : List ℕ) → length on ≡ arity_of kind → product (one 0 kind ∷ []) (map spot on) ≡ one_gate kind on ∷ []
product_is kind on count =
    ap (λ w. gates_at (up_to (get_or w 0 1))) (wholes_none on) ∙ ap (λ qs. map (placed qs) (one 0 kind ∷ [])) (qubits_are 0 on) ∙ placed_all 0 kind 1 on (omega arith)
  where
    gates_at : List ℕ → List GateOf
    gates_at all = flat_map (λ place. map (placed (qubits_at (map spot on) place)) (one 0 kind ∷ [])) all

-- what the arguments of a call mean
call_means : (q : ℕ) (done : List GateOf) (before : List Act) (c : Call) → Known q done before → IsCall q c → targets (registers before) (map place_argument c.on) ≡ Some (map spot c.on)
call_means q done before c k h = ap (λ r. targets r (map place_argument c.on)) k.registers ∙ targets_are q c.on h.reads

same_targets : (a b : List Target) → Some a ≡ Some b → a ≡ b
same_targets a b e = cc

-- the gate of a call
call_named : (q : ℕ) (done : List GateOf) (before : List Act) (c : Call) → Known q done before → IsCall q c → gate_named before c.name ≡ Some (builtin_gate (plain_gate (kind_in (builtin c.name))))
call_named q done before c k h = ap (λ x. option_or (option_map builtin_gate x) (lookup (bytes_eq c.name) (definitions before))) h.gate

-- and its name
call_kept : (q : ℕ) (done : List GateOf) (before : List Act) (c : Call) → Known q done before → IsCall q c → leaves before c.name ≡ false
call_kept q done before c k h = ap (λ ds. leaves_by ds c.name) k.defined ∙ h.kept

call_meant : (before : List Act) (c : Call) (called : Named) (m : Meaning) → gate_named before c.name ≡ Some (builtin_gate (plain_gate (kind_in (builtin c.name)))) → gate_named before c.name ≡ Some called → Means called [] m
    → Ok (plain_basic (kind_in (builtin c.name)) ∷ []) ≡ m
call_meant before c called m own named means =
    let kind = kind_in (builtin c.name) in
    sym (plain_meant kind) ∙ ap (λ g. meaning_of g []) (same_gate (builtin_gate (plain_gate kind)) called (sym own ∙ named)) ∙ means_one called [] m means

-- what a call does
call_does : (q : ℕ) (done : List GateOf) (before : List Act) (c : Call) → Known q done before → IsCall q c → Does before (line_statement c) (line_act c)
call_does q done before c k h = record {
  called = builtin_gate (plain_gate (kind_in (builtin c.name)));
  basics = plain_basic (kind_in (builtin c.name)) ∷ [];
  items = one 0 (kind_in (builtin c.name)) ∷ [];
  on = map spot c.on;
  named = call_named q done before c k h;
  meant = means_is (builtin_gate (plain_gate (kind_in (builtin c.name)))) [] (Ok (plain_basic (kind_in (builtin c.name)) ∷ [])) (plain_meant (kind_in (builtin c.name)));
  done = plain_does (kind_in (builtin c.name));
  means = call_means q done before c k h;
  does = refl;
}

-- a call adds its gate
call_gates : (q : ℕ) (done : List GateOf) (before : List Act) (c : Call) → Known q done before → IsCall q c → gates (before ++ line_act c ∷ []) ≡ done ++ gate_of c ∷ []
call_gates q done before c k h =
    gates_more before (line_act c) ∙ ap (λ l. l ++ product (one 0 (kind_in (builtin c.name)) ∷ []) (map spot c.on)) k.gates
    ∙ ap (λ l. done ++ l) (product_is (kind_in (builtin c.name)) c.on h.count)

-- one gate more
one_more : (done : List GateOf) (g : GateOf) → length (done ++ g ∷ []) ≡ length done + 1
one_more done g = length-append done (g ∷ [])

-- no qubit is among none
none_meets : (qs : List ℕ) → All (λ q. All (λ p. q ≢ p) []) qs
none_meets [] = All-nil (λ q. All (λ p. q ≢ p) [])
none_meets (q ∷ qs) = All-cons (λ r. All (λ p. r ≢ p) []) q qs (All-nil (λ p. q ≢ p)) (none_meets qs)

-- the arguments of a call are single qubits
call_sizes : (q : ℕ) (done : List GateOf) (before : List Act) (c : Call) → Known q done before → IsCall q c → DifferInSize (registers before) (line_statement c) → ⊥
call_sizes q done before c k h d =
    let same : d.0 ≡ map spot c.on = same_targets d.0 (map spot c.on) (sym d.1 ∙ call_means q done before c k h) in
    let none : wholes d.0 ≡ [] = ap wholes same ∙ wholes_none c.on in
    subst (λ w. AreUnequal w) none d.2 (pairs_none (λ m n. m ≡ n))

-- the qubits of a call, at each place
call_places : (q : ℕ) (done : List GateOf) (before : List Act) (c : Call) → Known q done before → IsCall q c → (P : List ℕ → Type 0) → AtSomePlace (registers before) P (line_statement c) → P c.on
call_places q done before c k h P d =
    let same : d.0 ≡ map spot c.on = same_targets d.0 (map spot c.on) (sym d.1 ∙ call_means q done before c k h) in
    let qubits : qubits_at d.0 d.2 ≡ c.on = ap (λ ts. qubits_at ts d.2) same ∙ qubits_are d.2 c.on in
    subst P qubits d.4

same_count : (m n : ℕ) → Some m ≡ Some n → m ≡ n
same_count m n e = cc

-- no reason of a refusal holds of a call's line
call_harmless : (limit q : ℕ) (done : List GateOf) (before : List Act) (c : Call) → Known q done before → IsCall q c → q ≤ limit → length done < 1000000 → Harmless limit before (line_statement c)
call_harmless limit q done before c k h le few =
    let args = map place_argument c.on in
    let all = one_register q in
    let kind = kind_in (builtin c.name) in
    let written : Calling = record { name = c.name; arguments = length args; angles = 0 } in
    let named = call_named q done before c k h in
    let at : registers before ≡ all = k.registers in
    let same : (act : Act) → Does before (line_statement c) act → act ≡ line_act c = λ act does. does_one before (subst AreSound (sym k.defined) tt) (line_statement c) act (line_act c) does (call_does q done before c k h) in
    record {
      started = λ e. absurd (k.some e);
      profile = ap (λ b. b || false) (call_kept q done before c k h);
      name = ap (λ o. not (is_some o) || false) named;
      fresh = λ d. d;
      register = ap (λ r. list_any (is_unknown r true) args || false) at ∙ or_none (list_any (is_unknown all true) args) (none_unknown q c.on);
      range = ap (λ r. list_any (is_beyond r) args || false) at ∙ or_none (list_any (is_beyond all) args) (none_beyond q c.on h.below h.reads);
      count = ap (λ o. miscounts o written || false) named ∙ ap (λ b. (not b || false) || false) (eq_true (length args) (0 + arity_of kind) (omega (arith, length-args c.on, h.count)));
      sizes = call_sizes q done before c k h;
      once = λ d. call_places q done before c k h Repeats d (different c.on h.once);
      deep = omega arith;
      items = λ n e. (let m = same_count _ n (sym (ap (λ g. option_and_then (λ called. option_map (λ ts. called.items * place_count ts) (targets (registers before) args)) g) named
          ∙ ap (option_map (λ ts. 0 * place_count ts)) (call_means q done before c k h)) ∙ e) in omega (arith, m, k.items));
      angle = λ e p. never_refused (plain_basic kind ∷ []) e (call_meant before c p.0 (Err e) named p.1 p.2);
      grid = λ p. p.4 (one 0 kind ∷ []) (subst (λ bs. Do bs (one 0 kind ∷ [])) (same_basics (plain_basic kind ∷ []) p.1 (call_meant before c p.0 (Ok p.1) named p.2 p.3)) (plain_does kind));
      gone = λ d. subst (λ g. Meets g c.on) k.measured (call_places q done before c k h (Meets (measured before)) d) (none_meets c.on);
      qubits = λ act does. let count : qubit_count (before ++ act ∷ []) ≡ q + 0 = ap (λ a. qubit_count (before ++ a ∷ [])) (same act does) ∙ qubit_count_more before (line_act c) ∙ ap (λ n. n + 0) k.qubits in omega (arith, count, le);
      gates = λ act does. let count : length (gates (before ++ act ∷ [])) ≡ length done + 1 = ap (λ a. length (gates (before ++ a ∷ []))) (same act does) ∙ ap length (call_gates q done before c k h) ∙ one_more done (gate_of c) in omega (arith, count, few);
    }

call_has : (q : ℕ) (done : List GateOf) (before : List Act) (c : Call) → Known q done before → IsCall q c → Has before (closed_part (line_statement c)) (line_statement c)
call_has q done before c k h = record {
  closed = refl;
  spelled = refl;
  statement = record { formed = (h.name, tt, record { some = omega (arith, h.some, length-args c.on); each = args_each c.on }); tried = call_kept q done before c k h };
  first = λ e. absurd (cc);
}

-- a call's line is accepted
accept_call : (limit q : ℕ) (done : List GateOf) (before : List Act) (c : Call) → Known q done before → IsCall q c → q ≤ limit → length done < 1000000 → Accepts limit before (closed_part (line_statement c)) (line_act c)
accept_call limit q done before c k h le few =
    let has = call_has q done before c k h in
    record { free = free_of limit before (line_statement c) (call_harmless limit q done before c k h le few) has; statement = line_statement c; has = has; does = call_does q done before c k h }

last_some : (before : List Act) (a : Act) → before ++ a ∷ [] ≢ []
last_some [] a e = absurd (cc)
last_some (b ∷ before) a e = absurd (cc)

-- what is known after a call
known_next : (q : ℕ) (done : List GateOf) (before : List Act) (c : Call) → Known q done before → IsCall q c → Known q (done ++ gate_of c ∷ []) (before ++ line_act c ∷ [])
known_next q done before c k h =
    let a = line_act c in
    record {
      some = last_some before a;
      registers = registers_more before a ∙ append-nil (registers before) ∙ k.registers;
      measured = measured_more before a ∙ append-nil (measured before) ∙ k.measured;
      qubits = qubit_count_more before a ∙ omega (arith, k.qubits);
      gates = call_gates q done before c k h;
      defined = definitions_more before a ∙ append-nil (definitions before) ∙ k.defined;
      items = item_count_more before a ∙ omega (arith, k.items);
    }

-- the lines of calls are accepted
pub accept_calls : (limit q : ℕ) (done : List GateOf) (before : List Act) (cs : List Call) → Known q done before → AllByRecursion (IsCall q) cs → q ≤ limit → length done + length cs ≤ 1000000 → AllAccepted limit before (map closed_part (map line_statement cs)) (map line_act cs)
accept_calls limit q done before [] k h le few = tt
accept_calls limit q done before (c ∷ cs) k h le few = (
  accept_call limit q done before c k h.0 le (omega (arith, few)),
  accept_calls limit q (done ++ gate_of c ∷ []) (before ++ line_act c ∷ []) cs (known_next q done before c k h.0) h.1 le (omega (arith, few, one_more done (gate_of c))),
)

-- what is known after calls
pub known_calls : (q : ℕ) (done : List GateOf) (before : List Act) (cs : List Call) → Known q done before → AllByRecursion (IsCall q) cs → Known q (done ++ map gate_of cs) (before ++ map line_act cs)
known_calls q done before [] k h = subst (λ d. Known q d (before ++ [])) (sym (append-nil done)) (subst (λ b. Known q done b) (sym (append-nil before)) k)
known_calls q done before (c ∷ cs) k h =
    let rest = known_calls q (done ++ gate_of c ∷ []) (before ++ line_act c ∷ []) cs (known_next q done before c k h.0) h.1 in
    subst (λ d. Known q d (before ++ map line_act (c ∷ cs))) (append_assoc done (gate_of c ∷ []) (map gate_of cs))
    (subst (λ b. Known q ((done ++ gate_of c ∷ []) ++ map gate_of cs) b) (append_assoc before (line_act c ∷ []) (map line_act cs)) rest)
