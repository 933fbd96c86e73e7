-- What gates mean is proper: calls of gates that have names, each on different arguments of the gate, as many as it asks for.
use Rattle.std.proofs.Common.{◌≡◌, ◌≢◌, ◌∙◌, sym, ap, refl, subst, ◌≤◌, ◌<◌, ◌⊎◌, inl, inr, ℕ, zero, suc, ◌+◌, List, [], ◌∷◌, ◌++◌, length, length-append, map, get_or, All, AllPairs, Some, Result, Ok, Err, arith, slice_get}
use Rattle.std.specs.Result.{result_map_both}
use Rattle.std.proofs.lemmas.List.{length-map, get_or-map, get_or_append_left}
use Rattle.std.proofs.lemmas.List.Elements.{All-nil, All-cons, All-head, All-tail, All-append, All-push, All-get_or}
use Rattle.std.proofs.lemmas.List.Quantifiers.{all_pairs_push}
use Rattle.std.proofs.lemmas.Option.{get_or_from_slice_get}
use Rattle.qasm_gates.proofs.Grown.{range_length}
use Rattle.qasm_lex.specs.declared.refusal.AngleRefusal.{AngleRefusal}
use Rattle.qasm_lex.specs.declared.value.Value.{Value}
use Rattle.qasm_lex.specs.Expressions.{eval}
use Rattle.qasm_lex.specs.Values.{values}
use Rattle.qasm_gates.specs.declared.table.Callee.{Callee}
use Rattle.qasm_gates.specs.declared.table.Callee.TheVariants.{Builtin as BuiltIn, Defined}
use Rattle.qasm_gates.specs.declared.table.Line.{Line}
use Rattle.qasm_gates.specs.declared.table.Row.{Row}
use Rattle.qasm_gates.specs.Gates.{Builtin, builtin, arity, up_to, Basic, Meaning, Named, all_of, builtin_gate, call_on}
use Rattle.qasm_gates.specs.Bodies.{Call, joined, means_for, call_means, body_means}
use Rattle.qasm_gates.specs.Private.Seen.{seen_builtin}
use Rattle.qasm_gates.specs.Private.Proper.{IsProper, AreProper, IsGood}
use Rattle.qasm_gates.specs.Private.Tables.{Store, nothing, no_row, callee_arity, callee_angles, gate_of, line_at, lines_of, on_at, row_gate, gates_from, gates_of, IsCallee, IsLine, AreBelow, IsRow, IsStore}

-- numbers that are picked by different numbers are different
pub picked_different : (on js : List ℕ) → AllPairs (λ p q. p ≢ q) on → AllPairs (λ p q. p ≢ q) js → All (λ k. k < length on) js → AllPairs (λ p q. p ≢ q) (map (λ k. get_or on k 0) js)
picked_different on js a b c i j d h l e =
    let n : length (map (λ k. get_or on k 0) js) ≡ length js = length-map js (λ k. get_or on k 0) in
    let x = get_or js i 0 in
    let y = get_or js j 0 in
    let xs : x < length on = All-get_or (λ k. k < length on) js i 0 (omega arith) c in
    let ys : y < length on = All-get_or (λ k. k < length on) js j 0 (omega arith) c in
    let same : get_or on x 0 ≡ get_or on y 0 =
    sym (get_or-map (λ k. get_or on k 0) js i 0 d (omega arith)) ∙ e ∙ get_or-map (λ k. get_or on k 0) js j 0 d (omega arith) in
    let other : x ≢ y = b i j 0 h (omega arith) in
    elim (apart x y other) [ inl s ↦ a x y 0 s ys same | inr s ↦ a y x 0 s xs (sym same) ]
  where
    apart : (x y : ℕ) → x ≢ y → (x < y) ⊎ (y < x)
    apart zero zero n = absurd (n refl)
    apart zero (suc y) n = inl (omega arith)
    apart (suc x) zero n = inr (omega arith)
    apart (suc x) (suc y) n = elim (apart x y (λ e. n (ap suc e))) [ inl s ↦ inl (omega arith) | inr s ↦ inr (omega arith) ]

-- and have what holds of all
pub picked_all : (P : ℕ → Type 0) (on js : List ℕ) → All P on → All (λ k. k < length on) js → All P (map (λ k. get_or on k 0) js)
picked_all P on [] a c = All-nil P
picked_all P on (k ∷ js) a c =
    All-cons P (get_or on k 0) (map (λ k. get_or on k 0) js) (All-get_or P on k 0 (All-head (λ k. k < length on) k js c) a) (picked_all P on js a (All-tail (λ k. k < length on) k js c))

pub up_to_length : (n : ℕ) → length (up_to n) ≡ n
up_to_length zero = refl
up_to_length (suc n) = length-append (up_to n) (n ∷ []) ∙ (let h = up_to_length n in omega arith)

up_to_below : (n m : ℕ) → n ≤ m → All (λ k. k < m) (up_to n)
up_to_below zero m h = All-nil (λ k. k < m)
up_to_below (suc n) m h = All-push (λ k. k < m) (up_to n) n (up_to_below n m (omega arith)) (omega arith)

up_to_different : (n : ℕ) → AllPairs (λ p q. p ≢ q) (up_to n)
up_to_different zero = λ i j d h l. absurd (omega arith)
up_to_different (suc n) = all_pairs_push (λ p q. p ≢ q) (up_to n) n (up_to_different n) (λ k d h e. (let l = All-get_or (λ k. k < n) (up_to n) k d h (up_to_below n n (omega arith)) in omega arith))

pub ok_mapped : {A B : Type 0} (f : A → B) (r : Result A AngleRefusal) (b : B) → result_map_both f (λ e. e) r ≡ Ok b → (a : A) × (r ≡ Ok a) × (f a ≡ b)
ok_mapped f (Ok a) b e = (a, refl, (let q : f a ≡ b = cc e in q))
ok_mapped f (Err x) b e = absurd cc

pub builtin_good : (b : Builtin) → (name : List ℕ) × (builtin name ≡ Some b) → IsGood (builtin_gate b)
builtin_good b named vs basics e =
    let m = ok_mapped _ _ basics e in
    let c : Basic = record { gate = b; angles = m.0; on = up_to (arity b) } in
    subst (AreProper (arity b)) m.2
    (All-cons (IsProper (arity b)) c [] (record { named = named; counted = up_to_length (arity b); below = up_to_below (arity b) (arity b) (omega arith); different = up_to_different (arity b) }) (All-nil (IsProper (arity b))))

-- calls of a gate on different arguments of another
on_proper : (n : ℕ) (js : List ℕ) (basics : List Basic) → AllPairs (λ p q. p ≢ q) js → All (λ k. k < n) js → AreProper (length js) basics → AreProper n (map (call_on js) basics)
on_proper n js [] d b a = All-nil (IsProper n)
on_proper n js (c ∷ basics) d b a =
    let p = All-head (IsProper (length js)) c basics a in
    All-cons (IsProper n) (call_on js c) (map (call_on js) basics)
    (record { named = p.named; counted = length-map c.on (λ k. get_or js k 0) ∙ p.counted; below = picked_all (λ k. k < n) js c.on b p.below; different = picked_different js c.on d p.different p.below })
    (on_proper n js basics d b (All-tail (IsProper (length js)) c basics a))

pub means_ok : (g : Named) (r : Result (List Value) AngleRefusal) (basics : List Basic) → means_for g r ≡ Ok basics → (vs : List Value) × (g.means vs ≡ Ok basics)
means_ok g (Ok vs) basics e = (vs, e)
means_ok g (Err x) basics e = absurd cc

-- a call in a body: of a good gate, on different arguments of the one that is defined
pub record IsProperCall (n : ℕ) (c : Call) : Type 0 where
  pub good : IsGood c.called
  pub counted : length c.on ≡ c.called.arity
  pub below : All (λ k. k < n) c.on
  pub different : AllPairs (λ p q. p ≢ q) c.on

call_good : (n : ℕ) (c : Call) (given : List Value) (basics : List Basic) → IsProperCall n c → call_means given c ≡ Ok basics → AreProper n basics
call_good n c given basics f e =
    let m = ok_mapped (map (call_on c.on)) (means_for c.called (all_of (map (eval (values given)) c.angles))) basics e in
    let v = means_ok c.called (all_of (map (eval (values given)) c.angles)) m.0 m.1 in
    subst (AreProper n) m.2 (on_proper n c.on m.0 f.different f.below (subst (λ k. AreProper k m.0) (sym f.counted) (f.good v.0 m.0 v.1)))

-- both parts of what is joined are there
pub joined_ok : (a b : Meaning) (basics : List Basic) → joined a b ≡ Ok basics → (first more : List Basic) × (a ≡ Ok first) × (b ≡ Ok more) × (first ++ more ≡ basics)
joined_ok (Ok first) (Ok more) basics e = (first, more, refl, refl, (let q : first ++ more ≡ basics = cc e in q))
joined_ok (Ok first) (Err x) basics e = absurd cc
joined_ok (Err x) b basics e = absurd cc

pub body_good : (n : ℕ) (calls : List Call) (given : List Value) (basics : List Basic) → All (IsProperCall n) calls → body_means given calls ≡ Ok basics → AreProper n basics
body_good n [] given basics f e = let q : [] ≡ basics = cc e in subst (AreProper n) q (All-nil (IsProper n))
body_good n (c ∷ calls) given basics f e =
    let j = joined_ok (call_means given c) (body_means given calls) basics e in
    subst (AreProper n) j.4
    (All-append (IsProper n) j.0 j.1 (call_good n c given j.0 (All-head (IsProperCall n) c calls f) j.2) (body_good n calls given j.1 (All-tail (IsProperCall n) c calls f) j.3))

-- gates that are good, with the arities of their rows
pub record AreGood (s : Store) (gs : List Named) : Type 0 where
  pub good : (i : ℕ) → i < length gs → IsGood (get_or gs i nothing)
  pub arities : (i : ℕ) → i < length gs → (get_or gs i nothing).arity ≡ (get_or s.rows i no_row).arity
  pub params : (i : ℕ) → i < length gs → (get_or gs i nothing).angles ≡ (get_or s.rows i no_row).params

callee_good : (s : Store) (gs : List Named) (c : Callee) → AreGood s gs → IsCallee (length gs) c → IsGood (gate_of gs c)
callee_good s gs (BuiltIn b) a h = builtin_good (seen_builtin b) h
callee_good s gs (Defined i) a h = a.good i h

pub callee_counted : (s : Store) (gs : List Named) (c : Callee) → AreGood s gs → IsCallee (length gs) c → callee_arity s.rows c ≡ (gate_of gs c).arity
callee_counted s gs (BuiltIn b) a h = refl
callee_counted s gs (Defined i) a h = sym (a.arities i h)

pub callee_params : (s : Store) (gs : List Named) (c : Callee) → AreGood s gs → IsCallee (length gs) c → callee_angles s.rows c ≡ (gate_of gs c).angles
callee_params s gs (BuiltIn b) a h = refl
callee_params s gs (Defined i) a h = sym (a.params i h)

-- the arguments of a line are as many as it asks for
pub on_length : (s : Store) (n : ℕ) (l : Line) → IsLine s n l → length (on_at s l) ≡ callee_arity s.rows l.callee
on_length s n l h = range_length s.on l.on (l.on + callee_arity s.rows l.callee) h.on_within ∙ omega arith

lines_fit : (s : Store) (gs : List Named) (n : ℕ) (ls : List Line) → AreGood s gs → All (IsLine s (length gs)) ls → All (λ l. AreBelow n (on_at s l)) ls → All (IsProperCall n) (map (line_at s gs) ls)
lines_fit s gs n [] a h b = All-nil (IsProperCall n)
lines_fit s gs n (l ∷ ls) a h b =
    let i = All-head (IsLine s (length gs)) l ls h in
    All-cons (IsProperCall n) (line_at s gs l) (map (line_at s gs) ls)
    (record { good = callee_good s gs l.callee a i.callee; counted = on_length s (length gs) l i ∙ callee_counted s gs l.callee a i.callee; below = All-head (λ l. AreBelow n (on_at s l)) l ls b; different = i.different })
    (lines_fit s gs n ls a (All-tail (IsLine s (length gs)) l ls h) (All-tail (λ l. AreBelow n (on_at s l)) l ls b))

at_end : (gs : List Named) (g : Named) → get_or (gs ++ g ∷ []) (length gs) nothing ≡ g
at_end [] g = refl
at_end (h ∷ gs) g = at_end gs g

-- a row more
good_more : (s : Store) (gs : List Named) (r : Row) → AreGood s gs → IsRow s (length gs) r → get_or s.rows (length gs) no_row ≡ r → AreGood s (gs ++ row_gate s gs r ∷ [])
good_more s gs r a h e =
    let g = row_gate s gs r in
    let size : length (gs ++ g ∷ []) ≡ length gs + 1 = length-append gs (g ∷ []) in
    record {
      good = λ i l. by_place (λ x k. IsGood x) a.good (λ vs basics q. body_good r.arity (map (line_at s gs) (lines_of s r)) vs basics (lines_fit s gs r.arity (lines_of s r) a h.lines h.below) q) i (omega arith);
      arities = λ i l. by_place (λ x k. x.arity ≡ (get_or s.rows k no_row).arity) a.arities (ap (λ (r : Row). r.arity) (sym e)) i (omega arith);
      params = λ i l. by_place (λ x k. x.angles ≡ (get_or s.rows k no_row).params) a.params (ap (λ (r : Row). r.params) (sym e)) i (omega arith);
    }
  where
    by_place : (P : Named → ℕ → Type 0) → ((i : ℕ) → i < length gs → P (get_or gs i nothing) i) → P (row_gate s gs r) (length gs) → (i : ℕ) → i < length gs + 1 → P (get_or (gs ++ row_gate s gs r ∷ []) i nothing) i
    by_place P old new i l = elim (last_or i (length gs) l) [
      | inl q ↦ subst (λ x. P x i) (sym (get_or_append_left gs (row_gate s gs r ∷ []) nothing i q)) (old i q)
      | inr q ↦ subst (λ k. P (get_or (gs ++ row_gate s gs r ∷ []) k nothing) k) (sym q) (subst (λ x. P x (length gs)) (sym (at_end gs (row_gate s gs r))) new)
    ]
      where
        last_or : (i n : ℕ) → i < n + 1 → (i < n) ⊎ (i ≡ n)
        last_or zero zero h = inr refl
        last_or zero (suc n) h = inl (omega arith)
        last_or (suc i) zero h = absurd (omega arith)
        last_or (suc i) (suc n) h = elim (last_or i n (omega arith)) [ inl q ↦ inl (omega arith) | inr q ↦ inr (ap suc q) ]

from_good : (s : Store) (gs : List Named) (rows : List Row) → AreGood s gs → ((k : ℕ) (r : Row) → slice_get rows k ≡ Some r → IsRow s (length gs + k) r × (get_or s.rows (length gs + k) no_row ≡ r)) → AreGood s (gates_from s gs rows)
from_good s gs [] a f = a
from_good s gs (r ∷ rows) a f =
    let first = f 0 r refl in
    let size : length (gs ++ row_gate s gs r ∷ []) ≡ length gs + 1 = length-append gs (row_gate s gs r ∷ []) in
    from_good s (gs ++ row_gate s gs r ∷ []) rows
    (good_more s gs r a (subst (λ n. IsRow s n r) (omega arith) first.0) (ap (λ n. get_or s.rows n no_row) (omega arith) ∙ first.1))
    (λ k q e. (let n : length gs + suc k ≡ length (gs ++ row_gate s gs r ∷ []) + k = omega arith in
    (subst (λ i. IsRow s i q) n (f (suc k) q e).0, ap (λ i. get_or s.rows i no_row) (sym n) ∙ (f (suc k) q e).1)))

none_first : (k : ℕ) → k ≡ 0 + k
none_first k = omega arith

pub all_good : (s : Store) → IsStore s → AreGood s (gates_of s)
unfolding gates_of
all_good s h =
    from_good s [] s.rows (record { good = λ i l. absurd (omega arith); arities = λ i l. absurd (omega arith); params = λ i l. absurd (omega arith) })
    (λ k r e. (subst (λ n. IsRow s n r) (none_first k) (h.rows k r e), ap (λ i. get_or s.rows i no_row) (sym (none_first k)) ∙ get_or_from_slice_get s.rows k r no_row e))

pub gate_good : (s : Store) (c : Callee) → IsStore s → IsCallee (length (gates_of s)) c → IsGood (gate_of (gates_of s) c)
gate_good s c h k = callee_good s (gates_of s) c (all_good s h) k
