-- Results of operations, where the store grows and where a node is put over two parts.
use Rattle.std.proofs.Common.{◌≡◌, ℕ, ◌<◌, Bool, true, false, cond, eqb, length, inl, inr, refl, sym, ◌∙◌, ap, arith, eq-eqb}
use Rattle.std.proofs.lemmas.Bool.{cases_eq, cases_Bool, cond-true, cond-false, ne_eqb}
use mathlib.Core.Path.{fun_ext}
use Rattle.bit_lists.specs.Orders.{has, after}
use Rattle.diagram_model.specs.Functions.{Assignment, Function, put, fix}
use Rattle.diagram_model.specs.Nodes.{follow, IsLiveIn}
use Rattle.diagram_model.specs.Stores.{Diagram, IsLive, IsAbove, IsSound, Extends, IsChoice, from, function_of, KeepsFunctions}
use Rattle.diagram_model.proofs.Extend.{value-extends}
use Rattle.diagram_model.proofs.Fixing.{follow_above, above_live, depth_follow, depth_falls, from_after, ignores_higher, var_above, live_from_order, fix_function}
use Rattle.diagram_model.proofs.Growing.{live_on, above_on, above_back, depth_on, function_on}
use Rattle.diagram_model.proofs.Prefixes.{Ignores}
use Rattle.diagram_model.proofs.Values.{live-wider}
use Rattle.diagram_ops.specs.declared.operands.Operands.{Operands}
use Rattle.diagram_ops.specs.declared.split.Split.{Split}
use Rattle.diagram_ops.specs.Operands.{AreLive, AreAbove, AreFrom, SomeHas, rest, depths, IsSplit}
use Rattle.diagram_ops.specs.Operations.{Operation, Results, result_of, IsResult, AreResults}

pub same_store : (d : Diagram) → Extends d d
same_store d = record { order = refl; limit = refl; kept = λ n p is. is }

-- functions kept by one call, and by another after it
pub functions_then : (d e k : Diagram) → KeepsFunctions d e → KeepsFunctions e k → KeepsFunctions d k
functions_then d e k first second = record {
  live = λ n live. second.live n (first.live n live);
  same = λ n live x. second.same n (first.live n live) x ∙ first.same n live x;
}

pub lives_on : (d e : Diagram) (at : Operands) → Extends d e → AreLive d at → AreLive e at
lives_on d e at ext live = (live_on d e at.f ext live.0, live_on d e at.g ext live.1, live_on d e at.h ext live.2)

-- the result is the same function in a larger store
pub result_on : (op : Operation) (d e : Diagram) (at : Operands) → IsSound d → IsSound e → Extends d e → AreLive d at → result_of op e at ≡ result_of op d at
result_on op d e at sd se ext live =
    ap (λ (w : Function). op w (function_of e at.g) (function_of e at.h)) (function_on d e at.f sd se ext live.0)
    ∙ ap (λ (w : Function). op (function_of d at.f) w (function_of e at.h)) (function_on d e at.g sd se ext live.1)
    ∙ ap (λ (w : Function). op (function_of d at.f) (function_of d at.g) w) (function_on d e at.h sd se ext live.2)

pub is_result_on : (op : Operation) (d e : Diagram) (at : Operands) (n : ℕ) → IsSound d → IsSound e → Extends d e → IsResult op d at n → IsResult op e at n
is_result_on op d e at n sd se ext r = record {
  operands = lives_on d e at ext r.operands;
  live = live_on d e n ext r.live;
  below = λ w is above.
      above_on d e w n ext (r.below w (ap (λ o. has o w) (sym ext.order) ∙ is) (
        above_back d e w at.f ext r.operands.0 above.0,
        above_back d e w at.g ext r.operands.1 above.1,
        above_back d e w at.h ext r.operands.2 above.2,
      ));
  denotes = function_on d e n sd se ext r.live ∙ r.denotes ∙ sym (result_on op d e at sd se ext r.operands);
}

pub results_on : (op : Operation) (d e : Diagram) (es : Results) → IsSound d → IsSound e → Extends d e → AreResults op d es → AreResults op e es
results_on op d e es sd se ext all at n is = is_result_on op d e at n sd se ext (all at n is)

-- fixing v in the three functions is fixing it in the result, which reads no variable that they don't
pub record Fixes (op : Operation) (v : ℕ) : Type 0 where
  pub both : (b : Bool) (f g h : Function) → fix v b (op f g h) ≡ op (fix v b f) (fix v b g) (fix v b h)
  pub ignores : (u : ℕ) (f g h : Function) → Ignores f u → Ignores g u → Ignores h u → Ignores (op f g h) u

-- what is left of nodes
pub rest_above : (d : Diagram) (v : ℕ) (b : Bool) (at : Operands) → IsSound d → has d.order v ≡ true → AreFrom d v at → AreAbove d v (rest d v b at)
rest_above d v b at s is below = (follow_above d v at.f b s is below.0, follow_above d v at.g b s is below.1, follow_above d v at.h b s is below.2)

-- fixing the topmost variable in the result leaves the result on what is left of the nodes
pub fix_result : (op : Operation) (d : Diagram) (v : ℕ) (b : Bool) (at : Operands) → IsSound d → Fixes op v → has d.order v ≡ true → AreFrom d v at → fix v b (result_of op d at) ≡ result_of op d (rest d v b at)
fix_result op d v b at s fixes is below =
    let of = λ (n : ℕ) (l : IsLiveIn d.slots (from d.order v) n). fix_function d v n b s is l in
    fixes.both b (function_of d at.f) (function_of d at.g) (function_of d at.h)
    ∙ ap (λ (w : Function). op w (fix v b (function_of d at.g)) (fix v b (function_of d at.h))) (of at.f below.0)
    ∙ ap (λ (w : Function). op (function_of d (follow d.slots v b at.f)) w (fix v b (function_of d at.h))) (of at.g below.1)
    ∙ ap (λ (w : Function). op (function_of d (follow d.slots v b at.f)) (function_of d (follow d.slots v b at.g)) w) (of at.h below.2)

pub put_same : (x : Assignment) (v : ℕ) (b : Bool) → x v ≡ b → put x v b ≡ x
put_same x v b is =
    fun_ext (λ w. elim (cases_eq w v) [
      | inl e ↦ cond-true (eqb w v) b (x w) (eq-eqb w v e) ∙ sym is ∙ ap x (sym e)
      | inr ne ↦ cond-false (eqb w v) b (x w) (ne_eqb w v ne)
    ])

-- the nodes `to` have the operation's result with v fixed to b, and stand below v
pub record IsPartAt (op : Operation) (d : Diagram) (at : Operands) (v : ℕ) (b : Bool) (to : Operands) : Type 0 where
  pub above : AreAbove d v to
  pub falls : depths d to < depths d at
  pub fixed : fix v b (result_of op d at) ≡ result_of op d to

-- the result is parted by the topmost variable of the nodes
pub record IsParted (op : Operation) (d : Diagram) (at : Operands) (s : Split) : Type 0 where
  pub var : has d.order s.var ≡ true
  pub some : SomeHas d s.var at
  pub ignores : (u : ℕ) → has (after d.order u) s.var ≡ true → Ignores (result_of op d at) u
  pub low : IsPartAt op d at s.var false s.low
  pub high : IsPartAt op d at s.var true s.high

areabove_on : (d e : Diagram) (v : ℕ) (at : Operands) → Extends d e → AreAbove d v at → AreAbove e v at
areabove_on d e v at ext above = (above_on d e v at.f ext above.0, above_on d e v at.g ext above.1, above_on d e v at.h ext above.2)

pub below_live : (d : Diagram) (v : ℕ) (at : Operands) → AreAbove d v at → AreLive d at
below_live d v at above = (above_live d v at.f above.0, above_live d v at.g above.1, above_live d v at.h above.2)

-- two parts are made: d is the store at the start, e the one that has both
pub record IsStep (op : Operation) (d e : Diagram) (at : Operands) (s : Split) (low high : ℕ) : Type 0 where
  pub sound_d : IsSound d
  pub sound_e : IsSound e
  pub extends : Extends d e
  pub live : AreLive d at
  pub parted : IsParted op d at s
  pub of_low : IsResult op e s.low low
  pub of_high : IsResult op e s.high high

pub var_on : (d e : Diagram) (v : ℕ) → Extends d e → has d.order v ≡ true → has e.order v ≡ true
var_on d e v ext is = ap (λ o. has o v) ext.order ∙ is

module _ (op : Operation) (d e : Diagram) (at : Operands) (s : Split) (low high : ℕ) (t : IsStep op d e at s low high) where
  pub step_low : IsAbove e s.var low
  step_low = t.of_low.below s.var (var_on d e s.var t.extends t.parted.var) (areabove_on d e s.var s.low t.extends t.parted.low.above)

  pub step_high : IsAbove e s.var high
  step_high = t.of_high.below s.var (var_on d e s.var t.extends t.parted.var) (areabove_on d e s.var s.high t.extends t.parted.high.above)

  part_value : (m : ℕ) (b : Bool) (to : Operands) → IsResult op e to m → IsPartAt op d at s.var b to → (x : Assignment) → x s.var ≡ b → function_of e m x ≡ result_of op d at x
  part_value m b to of part x is =
      ap (λ (w : Function). w x) (of.denotes ∙ result_on op d e to t.sound_d t.sound_e t.extends (below_live d s.var to part.above) ∙ sym part.fixed)
      ∙ ap (result_of op d at) (put_same x s.var b is)

  -- both parts, chosen by the variable, are the result
  pub step_choice : (x : Assignment) → function_of e (cond (x s.var) high low) x ≡ result_of op d at x
  step_choice x =
      elim (cases_Bool (x s.var)) [
        | inl y ↦ ap (λ m. function_of e m x) (cond-true (x s.var) high low y) ∙ part_value high true s.high t.of_high t.parted.high x y
        | inr y ↦ ap (λ m. function_of e m x) (cond-false (x s.var) high low y) ∙ part_value low false s.low t.of_low t.parted.low x y
      ]

some_below : (d : Diagram) (w v : ℕ) (at : Operands) → IsSound d → SomeHas d v at → AreAbove d w at → has (after d.order w) v ≡ true
some_below d w v at s (inl h) above = var_above d w v at.f s h above.0
some_below d w v at s (inr (inl h)) above = var_above d w v at.g s h above.1
some_below d w v at s (inr (inr h)) above = var_above d w v at.h s h above.2

-- the node over both parts is the result
pub step_result : (op : Operation) (d e k : Diagram) (at : Operands) (s : Split) (low high n : ℕ) → IsStep op d e at s low high → IsSound k → Extends e k → Extends d k → IsLiveIn k.slots (from e.order s.var) n → IsChoice k s.var low high n → IsResult op k at n
unfolding function_of
step_result op d e k at s low high n t sk ek dk node choice =
    let node_from : IsLiveIn k.slots (from k.order s.var) n = rw ek.order node in
    let live_part : (x : Assignment) → IsLive e (cond (x s.var) high low) = λ x.
    elim (cases_Bool (x s.var)) [
      | inl y ↦ rw (cond-true (x s.var) high low y) (above_live e s.var high (step_high op d e at s low high t))
      | inr y ↦ rw (cond-false (x s.var) high low y) (above_live e s.var low (step_low op d e at s low high t))
    ] in
    record {
      operands = lives_on d k at dk t.live;
      live = live_from_order k s.var n (var_on d k s.var dk t.parted.var) node_from;
      below = λ w is above.
          let back : AreAbove d w at = (above_back d k w at.f dk t.live.0 above.0, above_back d k w at.g dk t.live.1 above.1, above_back d k w at.h dk t.live.2 above.2) in
          let below : has (after k.order w) s.var ≡ true = ap (λ o. has (after o w) s.var) dk.order ∙ some_below d w s.var at t.sound_d t.parted.some back in
          live-wider k.slots (from k.order s.var) (after k.order w) n (λ u h. from_after (length k.order) k.order w s.var u sk.diagram.order below h) node_from;
      denotes =
          fun_ext (λ x. choice x ∙ value-extends e k (cond (x s.var) high low) t.sound_e sk ek (live_part x) x ∙ step_choice op d e at s low high t x)
          ∙ sym (result_on op d k at t.sound_d sk dk t.live);
    }

-- how far a recursion goes down falls
pub depths_on : (d e : Diagram) (at : Operands) → IsSound d → IsSound e → Extends d e → AreLive d at → depths e at ≡ depths d at
depths_on d e at sd se ext live =
    let p = depth_on d e at.f sd se ext live.0 in let q = depth_on d e at.g sd se ext live.1 in let r = depth_on d e at.h sd se ext live.2 in
    omega (arith, p, q, r)

pub depths_fall : (d : Diagram) (v : ℕ) (b : Bool) (at : Operands) → IsSound d → SomeHas d v at → depths d (rest d v b at) < depths d at
depths_fall d v b at s (inl h) = let p = depth_falls d v at.f b s h in let q = depth_follow d v at.g b s in let r = depth_follow d v at.h b s in omega (arith, p, q, r)
depths_fall d v b at s (inr (inl h)) = let p = depth_follow d v at.f b s in let q = depth_falls d v at.g b s h in let r = depth_follow d v at.h b s in omega (arith, p, q, r)
depths_fall d v b at s (inr (inr h)) = let p = depth_follow d v at.f b s in let q = depth_follow d v at.g b s in let r = depth_falls d v at.h b s h in omega (arith, p, q, r)

-- an operation that goes through the topmost variable is parted by it
pub parted : (op : Operation) (d : Diagram) (at : Operands) (s : Split) → IsSound d → IsSplit d at s → Fixes op s.var → IsParted op d at s
parted op d at s sd split fixes =
    let fixed = λ (b : Bool). fix_result op d s.var b at sd fixes split.var split.below in
    record {
      var = split.var;
      some = split.some;
      ignores = λ u lower.
          fixes.ignores u (function_of d at.f) (function_of d at.g) (function_of d at.h)
          (ignores_higher d u s.var at.f sd lower split.below.0) (ignores_higher d u s.var at.g sd lower split.below.1) (ignores_higher d u s.var at.h sd lower split.below.2);
      low = rw split.low (record { above = rest_above d s.var false at sd split.var split.below; falls = depths_fall d s.var false at sd split.some; fixed = fixed false });
      high = rw split.high (record { above = rest_above d s.var true at sd split.var split.below; falls = depths_fall d s.var true at sd split.some; fixed = fixed true });
    }
