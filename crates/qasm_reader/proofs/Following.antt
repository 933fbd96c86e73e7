-- A statement that is carried out does what it means, or is refused for its first reason.
use Rattle.std.proofs.Common.{◌≡◌, ◌≢◌, ◌∙◌, sym, ap, refl, subst, ◌≤◌, ◌<◌, ℕ, ◌+◌, ◌*◌, Bool, true, false, not, nat_eq, nat_lt, List, [], ◌∷◌, ◌++◌, length, All, Option, Some, None, Result, Ok, Err, IfSome, arith}
use Rattle.std.specs.Option.{option_map_or}
use mathlib.Core.Bool.{beq}
use Rattle.std.proofs.lemmas.Bool.{true_from_ne_false, ltb-false, or_parts}
use Rattle.std.proofs.lemmas.Bool.Decides.{nat_tests}
use Rattle.qasm_lex.specs.Lexemes.{Lexeme}
use Rattle.qasm_lex.specs.Symbols.{decimal}
use Rattle.qasm_forms.specs.Statements.{Statement, version, include, qubits, bits, barrier, measure, call, definition, left_out, Argument, End, IsStatement, ended, written}
use Rattle.qasm_forms.specs.declared.statement.Form.{Form}
use Rattle.qasm_forms.specs.Shown.{shown_if}
use Rattle.qasm_forms.proofs.Exact.{statements_same}
use Rattle.qasm_reader.specs.declared.registers.Miss.{Miss}
use Rattle.qasm_reader.specs.declared.reason.Why.{Why}
use Rattle.qasm_reader.specs.declared.reason.Why.TheVariants.{UnknownRegister, Redeclared, IndexOutOfRange, WrongCount, SizesDiffer, RepeatedQubit, TooManyItems, OffGrid, Measured, TooManyQubits, TooManyGates}
use Rattle.qasm_gates.specs.declared.gates.Gates.{Gates}
use Rattle.qasm_gates.specs.Gates.{Basic, Meaning, Named}
use Rattle.qasm_gates.specs.Private.Counts.{count_of, items_done}
use Rattle.qasm_gates.proofs.Done.{counted_does}
use Rattle.qasm_gates.proofs.Good.{means_ok}
use Rattle.qasm_gates.proofs.Sound.{found_sound}
use Rattle.qasm_reader.specs.Acts.{Act, Target, nothing, declares, measures, applies, registers, target, targets, wholes, place_count, qubits_of, product, measured, definitions, defined_in}
use Rattle.qasm_reader.specs.Profile.{leaves}
use Rattle.qasm_reader.specs.Calls.{gate_named, listed, Does}
use Rattle.qasm_reader.specs.Parts.{Part, Has}
use Rattle.qasm_reader.specs.Reasons.{Refuses, is_unknown, is_beyond, no_size}
use Rattle.qasm_reader.specs.Private.Meanings.{outcomes_in, meaning_of}
use Rattle.qasm_reader.specs.Private.Scope.{find, differ, repeats, other_count}
use Rattle.qasm_reader.specs.Private.Drafts.{Draft, Follows, Knows, Concludes, outcome, measured_on, with_qubits, with_bits, with_measured, with_gates, counted_on, judged, applied, call_on, step, is_version, no_form, ended_part}
use Rattle.qasm_reader.proofs.Good.{is_first, no_acts, some_acts, version_refuses, form_refuses}
use Rattle.qasm_reader.proofs.Meanings.{means_is}
use Rattle.qasm_reader.proofs.Deciding.{tests, first_of, IsGood, refuses, free}
use Rattle.qasm_reader.proofs.Growing.{definitions_more, follows_nothing, follows_qubits, follows_bits, follows_measures, follows_applies}
use Rattle.qasm_reader.proofs.Calling.{first_found, right_arity}
use Rattle.qasm_reader.proofs.Placing.{qubit_below, call_on_qubits}
use Rattle.qasm_reader.proofs.Reasoning.{why_of, told}
use Rattle.qasm_reader.proofs.Facts.{passes}
use Rattle.std.proofs.lemmas.List.{append-nil}

same_ok : {A B : Type 0} (a b : A) → ◌≡◌ {A = Result A B} (Ok a) (Ok b) → a ≡ b
same_ok a b e = cc

-- a measure that passes its tests
measured_ok : (d : Draft) (r : Result (Target × Target) Miss) (e : Draft) → measured_on d r ≡ Ok e → (p : Target × Target) × (r ≡ Ok p) × (with_measured d (qubits_of p.0) ≡ e)
measured_ok d (Err m) e h = absurd cc
measured_ok d (Ok p) e h = (p, refl, same_ok _ e (passes (other_count p.0 p.1) SizesDiffer _ e h).1)

-- a call that passes its tests
record Applied (d : Draft) (called : Named) (m : Meaning) (ts : List Target) (e : Draft) : Type 0 where
  basics : List Basic
  count : ℕ
  taken : m ≡ Ok basics
  counted : count_of basics ≡ Some count
  alike : differ (wholes ts) ≡ false
  once : repeats ts ≡ false
  few_items : d.items + called.items * place_count ts ≤ 4000000
  few : length d.gates + count * place_count ts ≤ 1000000
  after : with_gates d (called.items * place_count ts) (product (items_done basics) ts) ≡ e

judged_ok : (d : Draft) (items : ℕ) (m : Meaning) (ts : List Target) (e : Draft) → judged d items m ts ≡ Ok e → (basics : List Basic) × (n : ℕ) × (m ≡ Ok basics) × (count_of basics ≡ Some n) × (counted_on d items n basics ts ≡ Ok e)
judged_ok d items (Err x) ts e h = absurd cc
judged_ok d items (Ok basics) ts e h = let n = by (count_of basics) refl h in (basics, n.0, refl, n.1, n.2)
  where
    by : (x : Option ℕ) → count_of basics ≡ x → option_map_or (λ n. counted_on d items n basics ts) x (Err OffGrid) ≡ Ok e → (n : ℕ) × (count_of basics ≡ Some n) × (counted_on d items n basics ts ≡ Ok e)
    by None f h = absurd cc
    by (Some n) f h = (n, f, h)

applied_ok : (d : Draft) (called : Named) (m : Meaning) (ts : List Target) (e : Draft) → applied d called m ts ≡ Ok e → Applied d called m ts e
applied_ok d called m ts e h =
    let p = passes _ SizesDiffer _ e h in
    let q = passes _ RepeatedQubit _ e p.1 in
    let r = passes _ TooManyItems _ e q.1 in
    let j = judged_ok d (called.items * place_count ts) m ts e r.1 in
    let t = passes _ Measured _ e j.4 in
    let u = passes _ TooManyGates _ e t.1 in
    record {
      basics = j.0;
      count = j.1;
      taken = j.2;
      counted = j.3;
      alike = p.0;
      once = q.0;
      few_items = ltb-false 4000000 _ r.0;
      few = ltb-false 1000000 _ u.0;
      after = same_ok _ e u.1;
    }

applied_some : (d : Draft) (called : Named) (m : Meaning) (x : Option (List Target)) (e : Draft) → option_map_or (applied d called m) x (Err UnknownRegister) ≡ Ok e
    → (ts : List Target) × (x ≡ Some ts) × Applied d called m ts e
applied_some d called m None e h = absurd cc
applied_some d called m (Some ts) e h = (ts, refl, applied_ok d called m ts e h)

some_size : (n : ℕ) → no_size n ≡ false → 0 < n
some_size n e = let p = or_parts (nat_eq n 0) (nat_lt 1000000 n) e in let q = p.0 in grind (arith, nat_tests)

module _ (limit : ℕ) (few : limit ≤ 64) (before : List Act) (d : Draft) (f : Follows limit before d) where
  -- the statement does this, and the draft has it
  abbrev pub Done : Statement → Draft → Type 0
  Done s e = (act : Act) × Does before s act × Follows limit (before ++ act ∷ []) e

  their_registers : d.registers ≡ registers before
  their_registers = ap (λ (d : Draft). d.registers) f.is

  nothing_done : (s : Statement) (e : Draft) → Does before s nothing → (r : Result Draft Why) → r ≡ Ok d → r ≡ Ok e → Done s e
  nothing_done s e does r g h = (nothing, does, subst (Follows limit (before ++ nothing ∷ [])) (same_ok d e (sym g ∙ h)) (follows_nothing limit before d f))

  qubits_done : (name size : List ℕ) (e : Draft) → step limit d (definitions before) (qubits name size) ≡ Ok e → Done (qubits name size) e
  qubits_done name size e h =
      let p = passes _ Redeclared _ e h in
      let q = passes _ IndexOutOfRange _ e p.1 in
      let r = passes _ TooManyQubits (Ok (with_qubits d name (decimal size))) e q.1 in (
        declares true name (decimal size),
        refl,
        subst (Follows limit (before ++ declares true name (decimal size) ∷ [])) (same_ok _ e r.1) (follows_qubits limit before d f name (decimal size) (some_size (decimal size) q.0) few (ltb-false limit _ r.0)),
      )

  bits_done : (name size : List ℕ) (e : Draft) → step limit d (definitions before) (bits name size) ≡ Ok e → Done (bits name size) e
  bits_done name size e h =
      let p = passes _ Redeclared _ e h in
      let q = passes _ IndexOutOfRange (Ok (with_bits d name (decimal size))) e p.1 in
      (declares false name (decimal size), refl, subst (Follows limit (before ++ declares false name (decimal size) ∷ [])) (same_ok _ e q.1) (follows_bits limit before d f name (decimal size)))

  barrier_done : (all : List Argument) (e : Draft) → step limit d (definitions before) (barrier all) ≡ Ok e → Done (barrier all) e
  barrier_done all e h =
      let p = passes _ UnknownRegister _ e h in
      let q = passes _ IndexOutOfRange (Ok d) e p.1 in
      nothing_done (barrier all) e refl (Ok d) refl q.1

  measure_done : (from to : Argument) (e : Draft) → step limit d (definitions before) (measure from to) ≡ Ok e → Done (measure from to) e
  measure_done from to e h =
      let m = measured_ok d _ e h in
      let side = (m.0).0 in
      let k = first_found (is_unknown d.registers true from) (is_beyond d.registers from) (target d.registers from) (find d.registers false to) m.0 m.1 in (
        measures side,
        (side, ap (λ r. target r from) (sym their_registers) ∙ k.2, refl),
        subst (Follows limit (before ++ measures side ∷ [])) m.2 (follows_measures limit before d f side (qubit_below d.qubits d.registers f.fits.registers_end from side k.0 k.1 k.2)),
      )

  call_done : (name : List ℕ) (angles : Option (List (List Lexeme))) (all : List Argument) (e : Draft) (g : Option Named) → gate_named before name ≡ g → call_on d g (listed angles) all ≡ Ok e → Done (call name angles all) e
  call_done name angles all e None b h = absurd cc
  call_done name angles all e (Some called) b h =
      let p = passes _ UnknownRegister _ e h in
      let q = passes _ IndexOutOfRange _ e p.1 in
      let r = passes _ WrongCount _ e q.1 in
      let x = applied_some d called (meaning_of called (listed angles)) (targets d.registers all) e r.1 in
      let a = x.2 in
      let v = means_ok called (outcomes_in (listed angles)) a.basics a.taken in
      let does = counted_does a.basics a.count a.counted in (
        applies called.items (items_done a.basics) x.0,
        record {
          called = called;
          basics = a.basics;
          items = items_done a.basics;
          on = x.0;
          named = b;
          meant = means_is called (listed angles) (Ok a.basics) a.taken;
          done = does.0;
          means = ap (λ r. targets r all) (sym their_registers) ∙ x.1;
          does = refl;
        },
        subst (Follows limit (before ++ applies called.items (items_done a.basics) x.0 ∷ [])) a.after
            (follows_applies limit before d f called.items (items_done a.basics) x.0
            (call_on_qubits d f.fits all x.0 p.0 q.0 x.1 a.alike called (found_sound (definitions before) name called f.sound b).good v.0 a.basics v.1 (right_arity called (length all) (length (listed angles)) r.0) a.once)
            (subst (λ n. length d.gates + n * place_count x.0 ≤ 1000000) (sym does.1) a.few) a.few_items),
      )

  pub done : (s : Statement) (e : Draft) → step limit d (definitions before) s ≡ Ok e → Done s e
  done version e h = nothing_done version e refl (Ok d) refl h
  done (include text) e h = nothing_done (include text) e refl (Ok d) refl (passes _ _ _ e h).1
  done (qubits name size) e h = qubits_done name size e h
  done (bits name size) e h = bits_done name size e h
  done (barrier all) e h = barrier_done all e h
  done (measure from to) e h = measure_done from to e h
  done (call name angles all) e h = call_done name angles all e (gate_named before name) refl h
  done (definition name params formals lines) e h = absurd cc
  done (left_out name more end) e h = absurd cc

  pub tells : (part : Part) (s : Statement) → IsGood before part s → why_of (step limit d (definitions before) s) ≡ first_of (tests limit before s)
  tells part s g =
      let few_qubits = subst (λ x. x.qubits ≤ limit) f.is f.few in
      let few_gates = subst (λ x. length x.gates ≤ 1000000) f.is f.fits.few_gates in
      ap (λ x. why_of (step limit x (definitions before) s)) f.is ∙ told limit before few_qubits few_gates (subst (λ x. All (λ q. q < x.qubits) (measured before)) f.is f.marked) s g.has.statement.tried

  -- what comes of a statement that stands in its place, where the gates afterwards are known
  pub concludes : (part : Part) (s : Statement) → IsGood before part s → (why : Option Why) (e : Draft) (known : Gates) → outcome why e ≡ step limit d (definitions before) s
      → (why ≡ None → (act : Act) → Does before s act → Knows (before ++ act ∷ []) known) → Concludes limit before part why e known
  concludes part s g None e known h knows =
      let x = done s e (sym h) in
      (x.0, record { free = free limit before f.sound part s g (sym (tells part s g) ∙ ap why_of (sym h)); statement = s; has = g.has; does = x.1 }, x.2, knows refl x.0 x.1)
  concludes part s g (Some w) e known h knows = refuses limit before f.sound part s g w (sym (tells part s g) ∙ ap why_of (sym h))

-- what defines no gate leaves the gates as they are
pub same_gates : (limit : ℕ) (before : List Act) (d e : Draft) (s : Statement) (why : Option Why) → outcome why e ≡ step limit d (definitions before) s → why ≡ None → (act : Act) → Does before s act → defined_in act ≡ []
same_gates limit before d e (measure from to) why h n act does = ap defined_in does.2
same_gates limit before d e (call name angles all) why h n act does = ap defined_in does.does
same_gates limit before d e (definition name params formals lines) None h n act does = absurd cc
same_gates limit before d e (definition name params formals lines) (Some w) h n act does = absurd cc
same_gates limit before d e _ why h n act does = ap defined_in does

pub knows_same : (before : List Act) (known : Gates) (act : Act) → defined_in act ≡ [] → Knows before known → Knows (before ++ act ∷ []) known
knows_same before known act e k =
    record { whole = k.whole; shows = k.shows ∙ ap (λ ds. record { definitions = ds; body = []; angles = []; on = [] }) (sym (definitions_more before act ∙ ap (λ r. definitions before ++ r) e ∙ append-nil (definitions before))) }

-- the first statement is the version, and no other one
version_is : (s : Statement) → is_version s ≡ true → s ≡ version
version_is version e = refl
version_is _ e = absurd cc

module _ (limit : ℕ) (before : List Act) (ls : List Lexeme) (end : End) where
  -- lexemes that are no statement
  pub no_statement : (first : Bool) → first ≡ is_first before → ((s : Statement) → IsStatement (leaves before) s → ended ls end ≡ written s → ⊥) → Refuses limit before (ended_part ls end) (no_form first)
  no_statement true e none = version_refuses limit before (ended_part ls end) refl (no_acts before e) (λ h. none version h.statement h.spelled)
  no_statement false e none = form_refuses limit before (ended_part ls end) refl (some_acts before e) (λ s h. none s h.statement h.spelled)

  same : (s t : Statement) → IsStatement (leaves before) s → IsStatement (leaves before) t → ended ls end ≡ written s → ended ls end ≡ written t → s ≡ t
  same s t f g e h = statements_same (leaves before) s t f g (sym e ∙ h)

  -- a version that isn't first, or another statement that is
  pub out_of_place : (s : Statement) (first : Bool) → first ≡ is_first before → IsStatement (leaves before) s → ended ls end ≡ written s → is_version s ≢ first → Refuses limit before (ended_part ls end) (no_form first)
  out_of_place s true e f w n =
      version_refuses limit before (ended_part ls end) refl (no_acts before e) (λ h. n (ap is_version (same s version f h.statement w h.spelled)))
  out_of_place s false e f w n =
      form_refuses limit before (ended_part ls end) refl (some_acts before e)
      (λ t h. some_acts before e (h.first (sym (same s t f h.statement w h.spelled) ∙ version_is s (true_from_ne_false (is_version s) n))))

  in_place : (s : Statement) → is_first before ≡ is_version s → IsStatement (leaves before) s → ended ls end ≡ written s → IsGood before (ended_part ls end) s
  in_place s e f w =
      let h : Has before (ended_part ls end) s = record { closed = refl; spelled = w; statement = f; first = λ q. no_acts before (sym (e ∙ ap is_version q)) } in
      record { has = h; no_bad = refl; first = λ b. version_is s (sym e ∙ ap is_first b) }

  pub carried_out : (few : limit ≤ 64) (d : Draft) → Follows limit before d → (known : Gates) → Knows before known → (s : Statement) (first : Bool) → first ≡ is_first before → is_version s ≡ first → IsStatement (leaves before) s → ended ls end ≡ written s
      → (why : Option Why) (e : Draft) → outcome why e ≡ step limit d (definitions before) s → Concludes limit before (ended_part ls end) why e known
  carried_out few d follows known knows s first e v f w why after h =
      concludes limit few before d follows (ended_part ls end) s (in_place s (sym e ∙ sym v) f w) why after known h
      (λ n act does. knows_same before known act (same_gates limit before d after s why h n act does) knows)

-- the statement of a form
pub none_shown : (x : Option Form) (s : Statement) → x ≡ None → shown_if x ≡ Some s → ⊥
none_shown None s e h = cc
none_shown (Some form) s e h = cc

pub some_shown : (x : Option Form) (form : Form) (P : Form → Type 0) → x ≡ Some form → IfSome x P → P form
some_shown x form P e h = subst (λ y. IfSome y P) e h

pub differs : (a b : Bool) → not (beq a b) ≡ true → a ≢ b
differs true true e h = cc
differs false false e h = cc
differs _ _ e h = cc

pub agrees : (a b : Bool) → not (beq a b) ≡ false → a ≡ b
agrees true true e = refl
agrees false false e = refl
agrees _ _ e = absurd cc
