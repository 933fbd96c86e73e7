-- The functions of three nodes, the second one read in a way of its own, parted by the topmost variable.
use Rattle.std.proofs.Common.{◌≡◌, ◌≢◌, ◌⊎◌, ℕ, ◌<◌, Bool, true, false, not, eqb, length, inl, inr, refl, sym, ◌∙◌, ap, eq-eqb}
use Rattle.std.specs.Prelude.{◌||◌}
use Rattle.std.proofs.lemmas.Bool.{cases_eq, cases_Bool, cond-true, cond-false, ne_eqb, or_left, or_right, false≢true}
use Rattle.bit_lists.specs.Orders.{has, after}
use Rattle.diagram_model.specs.Functions.{Function, fix}
use Rattle.diagram_model.specs.Joint.{one_depends, fix_trio}
use Rattle.diagram_model.specs.Nodes.{follow, IsLiveIn}
use Rattle.diagram_model.specs.Size.{truths, same_truths, depends}
use Rattle.diagram_model.specs.Stores.{Diagram, IsLive, IsSound, Extends, HasVariable, from, function_of}
use Rattle.diagram_model.proofs.Canonical.{follow-at}
use Rattle.diagram_model.proofs.Counting.{same_is, is_same, fixed_truths, truths_back}
use Rattle.diagram_model.proofs.Fixing.{follow_above, above_live, ignores_higher, fix_function}
use Rattle.diagram_model.proofs.Growing.{function_on}
use Rattle.diagram_model.proofs.Joint.{TrioIgnores, trio_same, trio_ignores}
use Rattle.diagram_model.proofs.Prefixes.{fix_twice}
use Rattle.diagram_model.proofs.Telling.{truths_one, node_depends}
use Rattle.diagram_ops.specs.declared.operands.Operands.{Operands}
use Rattle.diagram_ops.specs.declared.split.Split.{Split}
use Rattle.diagram_ops.specs.Flips.{flip, turned_at}
use Rattle.diagram_ops.specs.Operands.{AreLive, AreFrom, rest, IsSplit}
use Rattle.diagram_ops.specs.Taken.{Reading, plain, trio_by}
use Rattle.diagram_ops.proofs.Flipping.{flip_other, flip_own, flip_none, flip_ignores, turned, crossed, own_low, own_high}

-- fixing the topmost variable in the three functions leaves those of the parts
pub record IsRead (r : Reading) (d : Diagram) (at : Operands) (s : Split) : Type 0 where
  pub var : has d.order s.var ≡ true
  pub low : trio_by r d s.low ≡ fix_trio s.var false (trio_by r d at)
  pub high : trio_by r d s.high ≡ fix_trio s.var true (trio_by r d at)
  pub above : (w : ℕ) → has (after d.order w) s.var ≡ true → TrioIgnores (trio_by r d at) w
  pub reads : one_depends (length d.order) s.var (trio_by r d at) ≡ true

-- nodes that are read to the same truth values are one
abbrev pub Tells : Reading → Diagram → Type 0
Tells r d = (n m : ℕ) → IsLive d n → IsLive d m → truths (length d.order) (r (function_of d n)) ≡ truths (length d.order) (r (function_of d m)) → n ≡ m

-- the functions of three nodes stay in a larger store
pub trio_on : (r : Reading) (d e : Diagram) (at : Operands) → IsSound d → IsSound e → Extends d e → AreLive d at → trio_by r e at ≡ trio_by r d at
trio_on r d e at sd se ext live =
    trio_same (function_of e at.f) (r (function_of e at.g)) (function_of e at.h) (function_of d at.f) (r (function_of d at.g)) (function_of d at.h)
    (function_on d e at.f sd se ext live.0) (ap r (function_on d e at.g sd se ext live.1)) (function_on d e at.h sd se ext live.2)

-- one of three functions depends on v
some_reads : (a b c : Bool) → (a ≡ true) ⊎ ((b ≡ true) ⊎ (c ≡ true)) → (a || (b || c)) ≡ true
some_reads a b c (inl p) = or_left a (b || c) p
some_reads a b c (inr (inl p)) = or_right a (b || c) (or_left b c p)
some_reads a b c (inr (inr p)) = or_right a (b || c) (or_right b c p)

-- as they are
plain_rest : (d : Diagram) (v : ℕ) (b : Bool) (at to : Operands) → IsSound d → has d.order v ≡ true → AreFrom d v at → to ≡ rest d v b at → trio_by plain d to ≡ fix_trio v b (trio_by plain d at)
plain_rest d v b at to s is below same =
    ap (trio_by plain d) same
    ∙ trio_same (function_of d (follow d.slots v b at.f)) (function_of d (follow d.slots v b at.g)) (function_of d (follow d.slots v b at.h)) (fix v b (function_of d at.f)) (fix v b (function_of d at.g)) (fix v b (function_of d at.h))
    (sym (fix_function d v at.f b s is below.0)) (sym (fix_function d v at.g b s is below.1)) (sym (fix_function d v at.h b s is below.2))

pub plain_read : (d : Diagram) (at : Operands) (s : Split) → IsSound d → IsSplit d at s → IsRead plain d at s
plain_read d at s sd sp =
    let k = length d.order in let v = s.var in
    let of = λ (n : ℕ) (l : IsLiveIn d.slots (from d.order v) n) (h : HasVariable d v n). node_depends d v n sd sp.var l h in
    record {
      var = sp.var;
      low = plain_rest d v false at s.low sd sp.var sp.below sp.low;
      high = plain_rest d v true at s.high sd sp.var sp.below sp.high;
      above = λ w lower. trio_ignores (trio_by plain d at) w (ignores_higher d w v at.f sd lower sp.below.0) (ignores_higher d w v at.g sd lower sp.below.1) (ignores_higher d w v at.h sd lower sp.below.2);
      reads = some_reads (depends k v (function_of d at.f)) (depends k v (function_of d at.g)) (depends k v (function_of d at.h)) (elim sp.some [
        | inl a ↦ inl (of at.f sp.below.0 a)
        | inr more ↦ elim more [ inl b ↦ inr (inl (of at.g sp.below.1 b)) | inr c ↦ inr (inr (of at.h sp.below.2 c)) ]
      ]);
    }

pub plain_tells : (d : Diagram) → IsSound d → Tells plain d
plain_tells d s n m ln lm same = truths_one d n m s ln lm same

-- with v flipped: fixed to b, the flipped function is the other cofactor
flip_fixed : (v : ℕ) (b : Bool) (g : Function) → fix v b (flip v g) ≡ fix v (not b) g
flip_fixed v b g = flip_own v b g ∙ flip_none v (fix v (not b) g) (λ c. fix_twice v (not b) c g)

not_not : (b : Bool) → not (not b) ≡ b
not_not true = refl
not_not false = refl

-- functions that are the same once v is flipped have the same truth values
flip_back : (k v : ℕ) (f g : Function) → v < k → truths k (flip v f) ≡ truths k (flip v g) → truths k f ≡ truths k g
flip_back k v f g lt same =
    truths_back k v f g (λ b.
    let other = λ (h : Function). flip_fixed v (not b) h ∙ ap (λ c. fix v c h) (not_not b) in
    ap (truths k) (sym (other f)) ∙ fixed_truths k v (not b) (flip v f) (flip v g) lt same ∙ ap (truths k) (other g))

pub flip_tells : (d : Diagram) (v : ℕ) → IsSound d → v < length d.order → Tells (flip v) d
flip_tells d v s lt n m ln lm same = truths_one d n m s ln lm (flip_back (length d.order) v (function_of d n) (function_of d m) lt same)

depends_not : (k u : ℕ) (f : Function) → truths k (fix u false f) ≡ truths k (fix u true f) → depends k u f ≡ false
depends_not k u f e = ap not (is_same (truths k (fix u false f)) (truths k (fix u true f)) e)

depends_or : (k u : ℕ) (f : Function) → (depends k u f ≡ true) ⊎ (truths k (fix u false f) ≡ truths k (fix u true f))
depends_or k u f =
    elim (cases_Bool (same_truths (truths k (fix u false f)) (truths k (fix u true f)))) [
      | inl e ↦ inr (same_is (truths k (fix u false f)) (truths k (fix u true f)) e)
      | inr e ↦ inl (ap not e)
    ]

-- a node's function with v flipped depends on the node's variable
flip_depends : (d : Diagram) (v u n : ℕ) → IsSound d → v < length d.order → has d.order u ≡ true → IsLiveIn d.slots (from d.order u) n → HasVariable d u n → depends (length d.order) u (flip v (function_of d n)) ≡ true
flip_depends d v u n s lt is live at =
    let k = length d.order in
    let g = function_of d n in
    elim (depends_or k u (flip v g)) [
      | inl yes_it ↦ yes_it
      | inr same ↦ elim (cases_eq u v) [
        | inl e ↦
            let at_v : truths k (fix v false (flip v g)) ≡ truths k (fix v true (flip v g)) = ap (λ w. truths k (fix w false (flip v g))) (sym e) ∙ same ∙ ap (λ w. truths k (fix w true (flip v g))) e in
            let turned_back : truths k (fix v false g) ≡ truths k (fix v true g) = sym (ap (truths k) (flip_fixed v true g)) ∙ sym at_v ∙ ap (truths k) (flip_fixed v false g) in
            let none : depends k u g ≡ false = ap (λ w. depends k w g) e ∙ depends_not k v g turned_back in
            absurd (false≢true (sym none ∙ node_depends d u n s is live at))
        | inr ne ↦
            let low = follow d.slots u false n in
            let high = follow d.slots u true n in
            let of = λ (b : Bool). flip_other v u b g ne ∙ ap (flip v) (fix_function d u n b s is live) in
            let alike : truths k (flip v (function_of d low)) ≡ truths k (flip v (function_of d high)) = sym (ap (truths k) (of false)) ∙ same ∙ ap (truths k) (of true) in
            let one : low ≡ high = flip_tells d v s lt low high (above_live d u low (follow_above d u n false s is live)) (above_live d u high (follow_above d u n true s is live)) alike in
            let differ : at.0.low ≢ at.0.high = (s.diagram.proper n at.0 at.1 (s.diagram.within n at.0 at.1)).differ in
            absurd (differ (sym (follow-at d.slots u n at.0 at.1 at.2 false) ∙ one ∙ follow-at d.slots u n at.0 at.1 at.2 true))
      ]
    ]

other_rest : (d : Diagram) (v u : ℕ) (b : Bool) (at to : Operands) → IsSound d → has d.order u ≡ true → u ≢ v → AreFrom d u at → to ≡ rest d u b at → trio_by (flip v) d to ≡ fix_trio u b (trio_by (flip v) d at)
other_rest d v u b at to s is ne below same =
    ap (trio_by (flip v) d) same
    ∙ trio_same (function_of d (follow d.slots u b at.f)) (flip v (function_of d (follow d.slots u b at.g))) (function_of d (follow d.slots u b at.h)) (fix u b (function_of d at.f)) (fix u b (flip v (function_of d at.g))) (fix u b (function_of d at.h))
    (sym (fix_function d u at.f b s is below.0)) (sym (flip_other v u b (function_of d at.g) ne ∙ ap (flip v) (fix_function d u at.g b s is below.1))) (sym (fix_function d u at.h b s is below.2))

own_rest : (d : Diagram) (v : ℕ) (b : Bool) (at to : Operands) → IsSound d → has d.order v ≡ true → AreFrom d v at → to ≡ turned d v b at → trio_by (flip v) d to ≡ fix_trio v b (trio_by (flip v) d at)
own_rest d v b at to s is below same =
    ap (trio_by (flip v) d) same
    ∙ trio_same (function_of d (follow d.slots v b at.f)) (flip v (function_of d (follow d.slots v (not b) at.g))) (function_of d (follow d.slots v b at.h)) (fix v b (function_of d at.f)) (fix v b (flip v (function_of d at.g))) (fix v b (function_of d at.h))
    (sym (fix_function d v at.f b s is below.0)) (sym (flip_own v b (function_of d at.g) ∙ ap (flip v) (fix_function d v at.g (not b) s is below.1))) (sym (fix_function d v at.h b s is below.2))

read_as : (r : Reading) (d : Diagram) (at : Operands) (s k : Split) → k ≡ s → IsRead r d at s → IsRead r d at k
read_as r d at s k e h = rw e h

-- the split with the parts of the second node exchanged at v
pub flip_read : (v : ℕ) (d : Diagram) (at : Operands) (s k : Split) → IsSound d → v < length d.order → IsSplit d at s → k ≡ turned_at v s → IsRead (flip v) d at k
flip_read v d at s k sd lt sp same =
    let n = length d.order in let u = s.var in
    let of = λ (m : ℕ) (l : IsLiveIn d.slots (from d.order u) m) (h : HasVariable d u m). node_depends d u m sd sp.var l h in
    let above = λ (w : ℕ) (lower : has (after d.order w) u ≡ true). trio_ignores (trio_by (flip v) d at) w (ignores_higher d w u at.f sd lower sp.below.0) (flip_ignores v w (function_of d at.g) (ignores_higher d w u at.g sd lower sp.below.1)) (ignores_higher d w u at.h sd lower sp.below.2) in
    let counted : one_depends n u (trio_by (flip v) d at) ≡ true = some_reads (depends n u (function_of d at.f)) (depends n u (flip v (function_of d at.g))) (depends n u (function_of d at.h)) (elim sp.some [
      | inl a ↦ inl (of at.f sp.below.0 a)
      | inr more ↦ elim more [ inl b ↦ inr (inl (flip_depends d v u at.g sd lt sp.var sp.below.1 b)) | inr c ↦ inr (inr (of at.h sp.below.2 c)) ]
    ]) in
    elim (cases_eq u v) [
      | inl e ↦
          let is : k ≡ crossed s = same ∙ cond-true (eqb u v) (crossed s) s (eq-eqb u v e) in
          let crossed_read : IsRead (flip v) d at (crossed s) = record {
            var = sp.var;
            low = rw (sym e) (own_rest d u false at (crossed s).low sd sp.var sp.below (own_low d u at s.low s.high sp.low sp.high));
            high = rw (sym e) (own_rest d u true at (crossed s).high sd sp.var sp.below (own_high d u at s.low s.high sp.low sp.high));
            above = above;
            reads = counted;
          } in
          read_as (flip v) d at (crossed s) k is crossed_read
      | inr ne ↦
          let is : k ≡ s = same ∙ cond-false (eqb u v) (crossed s) s (ne_eqb u v ne) in
          let plainly : IsRead (flip v) d at s = record {
            var = sp.var;
            low = other_rest d v u false at s.low sd sp.var ne sp.below sp.low;
            high = other_rest d v u true at s.high sd sp.var ne sp.below sp.high;
            above = above;
            reads = counted;
          } in
          read_as (flip v) d at s k is plainly
    ]
