-- Lines, piece by piece.
use Rattle.std.proofs.Common.{◌≡◌, ℕ, suc, ◌+◌, List, [], ◌∷◌, ◌++◌, map, length, get_or, codes, decimal, refl, sym, ◌∙◌, ap, arith}
use Rattle.std.proofs.lemmas.List.{append-nil, append_assoc, map-append}
use Rattle.std.specs.List.{range_with_len, remove}
use Rattle.std.specs.Fn.{iterate}
use Rattle.demo_text.specs.Generator.{Call, call, next, drawn, name_at, arity, kinds, qubits_drawn, call_drawn, after_call, calls_drawn, place_text, places_text, line, first_calls, head_text, demo_text}
use Rattle.demo_text.specs.Private.{Text, more_places, lines}
use Rattle.demo_text.proofs.Drawing.{range_last}

pub wrote2 : (t0 t1 t2 a b : Text) → t1 ≡ t0 ++ a → t2 ≡ t1 ++ b → t2 ≡ t0 ++ (a ++ b)
wrote2 t0 t1 t2 a b e f = f ∙ ap (λ t. t ++ b) e ∙ append_assoc t0 a b

pub wrote3 : (t0 t1 t2 t3 a b c : Text) → t1 ≡ t0 ++ a → t2 ≡ t1 ++ b → t3 ≡ t2 ++ c → t3 ≡ t0 ++ (a ++ (b ++ c))
wrote3 t0 t1 t2 t3 a b c e f g = wrote2 t0 t1 t3 a (b ++ c) e (wrote2 t1 t2 t3 b c f g)

pub wrote4 : (t0 t1 t2 t3 t4 a b c d : Text) → t1 ≡ t0 ++ a → t2 ≡ t1 ++ b → t3 ≡ t2 ++ c → t4 ≡ t3 ++ d → t4 ≡ t0 ++ (a ++ (b ++ (c ++ d)))
wrote4 t0 t1 t2 t3 t4 a b c d e f g h = wrote2 t0 t1 t4 a (b ++ (c ++ d)) e (wrote3 t1 t2 t3 t4 b c d f g h)

pub wrote_none : (t : Text) → t ≡ t ++ []
wrote_none t = sym (append-nil t)

pub place_wrote : (t0 t1 t2 t3 : Text) (i : ℕ) → t1 ≡ t0 ++ codes "q[" → t2 ≡ t1 ++ decimal i → t3 ≡ t2 ++ codes "]" → t3 ≡ t0 ++ place_text i
unfolding place_text
place_wrote t0 t1 t2 t3 i e f g = wrote3 t0 t1 t2 t3 (codes "q[") (decimal i) (codes "]") e f g

pub head_wrote : (t0 t1 t2 t3 : Text) (q : ℕ) → t1 ≡ t0 ++ codes "OPENQASM 2.0;\ninclude \"qelib1.inc\";\nqreg q[" → t2 ≡ t1 ++ decimal q → t3 ≡ t2 ++ codes "];\n" → t3 ≡ t0 ++ head_text q
unfolding head_text
head_wrote t0 t1 t2 t3 q e f g = wrote3 t0 t1 t2 t3 (codes "OPENQASM 2.0;\ninclude \"qelib1.inc\";\nqreg q[") (decimal q) (codes "];\n") e f g

-- no place more
pub more_none : (n : ℕ) (free : List ℕ) (s : ℕ) (t : Text) → n ≡ 0 → t ≡ t ++ more_places (qubits_drawn n free s)
unfolding more_places qubits_drawn
more_none n free s t e = wrote_none t ∙ ap (λ k. t ++ more_places (qubits_drawn k free s)) (sym e)

pub draws_none : (n s : ℕ) → n ≡ 0 → s ≡ iterate next n s
draws_none n s e = ap (λ k. iterate next k s) (sym e)

-- one place, and the rest
pub more_one : (n m : ℕ) (free left : List ℕ) (s i : ℕ) (t0 t1 t2 t3 : Text) → n ≡ suc m → i ≡ get_or free (drawn (length free) s) 0 → left ≡ remove free (drawn (length free) s) → t1 ≡ t0 ++ codes "," → t2 ≡ t1 ++ place_text i → t3 ≡ t2 ++ more_places (qubits_drawn m left (next s)) → t3 ≡ t0 ++ more_places (qubits_drawn n free s)
unfolding more_places qubits_drawn
more_one n m free left s i t0 t1 t2 t3 count at rest e f g =
    wrote3 t0 t1 t2 t3 (codes ",") (place_text i) (more_places (qubits_drawn m left (next s))) e f g
    ∙ ap (λ k. t0 ++ (codes "," ++ (place_text k ++ more_places (qubits_drawn m left (next s))))) at
    ∙ ap (λ l. t0 ++ (codes "," ++ (place_text (get_or free (drawn (length free) s) 0) ++ more_places (qubits_drawn m l (next s))))) rest
    ∙ ap (λ k. t0 ++ more_places (qubits_drawn k free s)) (sym count)

pub draws_one : (n m s : ℕ) → n ≡ suc m → iterate next m (next s) ≡ iterate next n s
draws_one n m s e = ap (λ k. iterate next k s) (sym e)

-- the first place, and the others
pub places_is : (i : ℕ) (is : List ℕ) → places_text (i ∷ is) ≡ place_text i ++ more_places is
unfolding places_text more_places
places_is i [] = sym (append-nil (place_text i))
places_is i (j ∷ js) = ap (λ t. place_text i ++ (codes "," ++ t)) (places_is j js)

pub places_one : (n m : ℕ) (free left : List ℕ) (s i : ℕ) (t0 t1 t2 : Text) → n ≡ suc m → i ≡ get_or free (drawn (length free) s) 0 → left ≡ remove free (drawn (length free) s) → t1 ≡ t0 ++ place_text i → t2 ≡ t1 ++ more_places (qubits_drawn m left (next s)) → t2 ≡ t0 ++ places_text (qubits_drawn n free s)
unfolding qubits_drawn
places_one n m free left s i t0 t1 t2 count at rest e f =
    wrote2 t0 t1 t2 (place_text i) (more_places (qubits_drawn m left (next s))) e f
    ∙ ap (λ k. t0 ++ (place_text k ++ more_places (qubits_drawn m left (next s)))) at
    ∙ ap (λ l. t0 ++ (place_text (get_or free (drawn (length free) s) 0) ++ more_places (qubits_drawn m l (next s)))) rest
    ∙ ap (λ t. t0 ++ t) (sym (places_is (get_or free (drawn (length free) s) 0) (qubits_drawn m (remove free (drawn (length free) s)) (next s))))
    ∙ ap (λ k. t0 ++ places_text (qubits_drawn k free s)) (sym count)

pub call_wrote : (q s k : ℕ) (t0 t1 t2 t3 t4 : Text) → k ≡ drawn (kinds q) s → t1 ≡ t0 ++ name_at k → t2 ≡ t1 ++ codes " " → t3 ≡ t2 ++ places_text (qubits_drawn (arity k) (range_with_len 0 q) (next s)) → t4 ≡ t3 ++ codes ";\n" → t4 ≡ t0 ++ line (call_drawn q s)
unfolding line call_drawn
call_wrote q s k t0 t1 t2 t3 t4 is e f g h =
    wrote4 t0 t1 t2 t3 t4 (name_at k) (codes " ") (places_text (qubits_drawn (arity k) (range_with_len 0 q) (next s))) (codes ";\n") e f g h
    ∙ ap (λ j. t0 ++ (name_at j ++ (codes " " ++ (places_text (qubits_drawn (arity j) (range_with_len 0 q) (next s)) ++ codes ";\n")))) is

pub call_state : (q s k : ℕ) → k ≡ drawn (kinds q) s → iterate next (arity k) (next s) ≡ after_call q s
unfolding after_call
call_state q s k is = ap (λ j. iterate next (arity j) (next s)) is

pub hadamard_wrote : (t0 t1 t2 t3 : Text) (i : ℕ) → t1 ≡ t0 ++ codes "h " → t2 ≡ t1 ++ place_text i → t3 ≡ t2 ++ codes ";\n" → t3 ≡ t0 ++ line (call (codes "h") (i ∷ []))
unfolding line places_text
hadamard_wrote t0 t1 t2 t3 i e f g = wrote3 t0 t1 t2 t3 (codes "h ") (place_text i) (codes ";\n") e f g

lines_last : (cs : List Call) (c : Call) → lines (cs ++ (c ∷ [])) ≡ lines cs ++ line c
lines_last [] c = append-nil (line c)
lines_last (d ∷ cs) c = ap (λ l. line d ++ l) (lines_last cs c) ∙ sym (append_assoc (line d) (lines cs) (line c))

abbrev pub first_of : ℕ → List Call
first_of n = map (λ i. call (codes "h") (i ∷ [])) (range_with_len 0 n)

pub first_more : (t0 t1 t2 : Text) (i : ℕ) → t1 ≡ t0 ++ lines (first_of i) → t2 ≡ t1 ++ line (call (codes "h") (i ∷ [])) → t2 ≡ t0 ++ lines (first_of (i + 1))
first_more t0 t1 t2 i e f =
    let one : i + 1 ≡ suc i = omega arith in
    let last : first_of (suc i) ≡ first_of i ++ (call (codes "h") (i ∷ []) ∷ []) =
    ap (map (λ j. call (codes "h") (j ∷ []))) (range_last 0 i) ∙ map-append (λ j. call (codes "h") (j ∷ [])) (range_with_len 0 i) ((0 + i) ∷ []) ∙ ap (λ j. first_of i ++ (call (codes "h") (j ∷ []) ∷ [])) (omega arith) in
    wrote2 t0 t1 t2 (lines (first_of i)) (line (call (codes "h") (i ∷ []))) e f
    ∙ ap (λ l. t0 ++ l) (sym (ap (λ k. lines (first_of k)) one ∙ ap lines last ∙ lines_last (first_of i) (call (codes "h") (i ∷ []))))

pub first_none : (t : Text) → t ≡ t ++ lines (first_of 0)
first_none t = wrote_none t

-- the calls that are left
pub calls_step : (q n m s s1 : ℕ) (t0 t1 t2 : Text) (all : Text) → t0 ++ all ≡ t1 ++ lines (calls_drawn q n s) → n ≡ suc m → t2 ≡ t1 ++ line (call_drawn q s) → s1 ≡ after_call q s → t0 ++ all ≡ t2 ++ lines (calls_drawn q m s1)
unfolding calls_drawn
calls_step q n m s s1 t0 t1 t2 all kept count wrote state =
    kept ∙ ap (λ k. t1 ++ lines (calls_drawn q k s)) count
    ∙ sym (append_assoc t1 (line (call_drawn q s)) (lines (calls_drawn q m (after_call q s))))
    ∙ ap (λ t. t ++ lines (calls_drawn q m (after_call q s))) (sym wrote)
    ∙ ap (λ k. t2 ++ lines (calls_drawn q m k)) (sym state)

pub calls_end : (q n s : ℕ) (t0 t1 all : Text) → t0 ++ all ≡ t1 ++ lines (calls_drawn q n s) → n ≡ 0 → t1 ≡ t0 ++ all
unfolding calls_drawn
calls_end q n s t0 t1 all kept none = sym (kept ∙ ap (λ k. t1 ++ lines (calls_drawn q k s)) none ∙ append-nil t1)

-- the lines of two lists of calls
pub lines_append : (cs ds : List Call) → lines (cs ++ ds) ≡ lines cs ++ lines ds
lines_append [] ds = refl
lines_append (c ∷ cs) ds = ap (λ l. line c ++ l) (lines_append cs ds) ∙ sym (append_assoc (line c) (lines cs) (lines ds))

-- the text is its head, the lines of the Hadamard gates, and those of the drawn calls
pub demo_parted : (q n seed : ℕ) → demo_text q n seed ≡ head_text q ++ (lines (first_calls q) ++ lines (calls_drawn q n seed))
unfolding demo_text
demo_parted q n seed = ap (λ l. head_text q ++ l) (lines_append (first_calls q) (calls_drawn q n seed))

-- the whole text
pub demo_wrote : (q n seed : ℕ) (t1 t2 t3 : Text) → t1 ≡ [] ++ head_text q → t2 ≡ t1 ++ lines (first_calls q) → t3 ≡ t2 ++ lines (calls_drawn q n seed) → t3 ≡ demo_text q n seed
demo_wrote q n seed t1 t2 t3 e f g =
    wrote3 [] t1 t2 t3 (head_text q) (lines (first_calls q)) (lines (calls_drawn q n seed)) e f g ∙ sym (demo_parted q n seed)

pub calls_begin : (q n s : ℕ) (t : Text) (m : ℕ) → m ≡ n → t ++ lines (calls_drawn q n s) ≡ t ++ lines (calls_drawn q m s)
calls_begin q n s t m e = ap (λ k. t ++ lines (calls_drawn q k s)) (sym e)
