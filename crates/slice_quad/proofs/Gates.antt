-- The nodes of a gate.
use Rattle.std.proofs.Common.{◌≡◌, ℕ, ◌<◌, Bool, true, false, cond, inl, refl, sym, ◌∙◌, ap, arith}
use Rattle.std.specs.Prelude.{◌&&◌, not}
use mathlib.Core.Path.{fun_ext}
use Rattle.diagram_model.specs.Functions.{Function}
use Rattle.diagram_model.specs.Stores.{Diagram, IsSound, function_of}
use Rattle.diagram_ops.specs.Connectives.{connective, connected}
use Rattle.diagram_ops.specs.Diagrams.{StoreAndCache, IsConsistent}
use Rattle.diagram_ops.specs.Made.{Property}
use Rattle.slice_vec.specs.Growing.{Grows, Denotes}
use Rattle.slice_vec.proofs.Growing.{denotes_on, denotes_as}
use Rattle.slice_vec.proofs.Places.{false_function, true_function}
use Rattle.slice_quad.specs.declared.gate.Gate.{Gate}
use Rattle.gate_set.specs.declared.entry.Entry.{Entry}
use Rattle.gate_set.specs.declared.entry.Entry.TheVariants.{Zero, Omega, Root2}
use Rattle.slice_quad.specs.declared.coord.Coord.{Coord}
use Rattle.slice_quad.specs.Turns.{turn}
use Rattle.slice_quad.specs.Mix.{Mix, all_true, entry_negates}
use Rattle.slice_quad.specs.Fours.{mix_of, AreItsNodes}
use Rattle.slice_quad.specs.Column.{by_target, where_negated, where_signed}

-- the table 192 of two functions is "and"
both_table : (a b : Bool) → connective 192 a b false ≡ (a && b)
unfolding connective
both_table true true = refl
both_table true false = refl
both_table false true = refl
both_table false false = refl

-- and with true
and_true : (a : Bool) → (a && true) ≡ a
and_true true = refl
and_true false = refl

-- and with false
and_false : (a : Bool) → (a && false) ≡ false
and_false true = refl
and_false false = refl

-- both ways the same
either : (x b : Bool) → cond x b b ≡ b
either true b = refl
either false b = refl

-- a choice of false and true
cond_not : (x : Bool) → cond x false true ≡ not x
cond_not true = refl
cond_not false = refl

-- a choice of true and false
cond_same : (x : Bool) → cond x true false ≡ x
cond_same true = refl
cond_same false = refl

-- by the values of the signs
pub where_same : (m : Mix) (low high l h : Bool) → low ≡ l → high ≡ h → where_negated m low high ≡ where_negated m l h
where_same m low high l h el eh = ap (λ b. where_negated m b high) el ∙ ap (λ b. where_negated m l b) eh

-- with both signs it is where the controls hold
pub where_all : (m : Mix) → where_negated m true true ≡ all_true m.controls
unfolding where_negated
where_all m = fun_ext (λ x. ap (λ b. all_true m.controls x && b) (either (x m.target) true) ∙ and_true (all_true m.controls x))

-- with neither it is nowhere
pub where_none : (m : Mix) → where_negated m false false ≡ (λ x. false)
unfolding where_negated
where_none m = fun_ext (λ x. ap (λ b. all_true m.controls x && b) (either (x m.target) false) ∙ and_false (all_true m.controls x))

-- the node of "both"
both_is : (f g f2 g2 h : Function) → f ≡ f2 → g ≡ g2 → h ≡ (λ x. false) → connected 192 f g h ≡ (λ x. f2 x && g2 x)
unfolding connected
both_is f g f2 g2 h ef eg eh =
    ap (λ (w : Function). connected 192 w g h) ef ∙ ap (λ (w : Function). connected 192 f2 w h) eg ∙ ap (λ (w : Function). connected 192 f2 g2 w) eh
    ∙ fun_ext (λ x. both_table (f2 x) (g2 x))

-- where the controls and the target are true
pub where_set : (d : Diagram) (g : Gate) → IsSound d → AreItsNodes d g → connected 192 (function_of d g.all.0) (function_of d g.is_set.0) (function_of d 0) ≡ where_negated (mix_of g.target) false true
unfolding where_negated
where_set d g s n =
    let m = mix_of g.target in
    both_is (function_of d g.all.0) (function_of d g.is_set.0) (all_true m.controls) (λ x. x m.target) (function_of d 0) n.all.is n.target.is (false_function d s)
    ∙ fun_ext (λ x. ap (λ b. all_true m.controls x && b) (sym (cond_same (x m.target))))

-- where the controls are true and the target is not
pub where_clear : (d : Diagram) (g : Gate) → IsSound d → AreItsNodes d g → connected 192 (function_of d g.all.0) (function_of d g.is_clear.0) (function_of d 0) ≡ where_negated (mix_of g.target) true false
unfolding where_negated
where_clear d g s n =
    let m = mix_of g.target in
    both_is (function_of d g.all.0) (function_of d g.is_clear.0) (all_true m.controls) (λ x. not (x m.target)) (function_of d 0) n.all.is n.other.is (false_function d s)
    ∙ fun_ext (λ x. ap (λ b. all_true m.controls x && b) (sym (cond_not (x m.target))))

-- a gate's nodes in a larger store
pub nodes_on : (v w : StoreAndCache) (Is : Property) (g : Gate) → IsConsistent v → Grows v Is w → AreItsNodes v.store g → AreItsNodes w.store g
nodes_on v w Is g s h n = record {
  target = denotes_on v w Is g.is_set.0 (λ x. x g.target.target) s h n.target;
  other = denotes_on v w Is g.is_clear.0 (λ x. not (x g.target.target)) s h n.other;
  all = denotes_on v w Is g.all.0 (all_true (mix_of g.target).controls) s h n.all;
}

-- FALSE, where no sign is negated
pub none_denotes : (d : Diagram) (m : Mix) (low high : Bool) → IsSound d → low ≡ false → high ≡ false → Denotes d 0 (where_negated m low high)
none_denotes d m low high s el eh = record {
  live = inl (let h : 0 < 2 = omega arith in h);
  is = false_function d s ∙ sym (where_none m) ∙ sym (where_same m low high false false el eh);
}

-- the node of the controls, where both are
pub all_denotes : (d : Diagram) (g : Gate) (low high : Bool) → AreItsNodes d g → low ≡ true → high ≡ true → Denotes d g.all.0 (where_negated (mix_of g.target) low high)
all_denotes d g low high n el eh =
    let m = mix_of g.target in
    denotes_as d g.all.0 (all_true m.controls) (where_negated m low high) (sym (where_all m) ∙ sym (where_same m low high true true el eh)) n.all

-- the entry 0 negates nothing
pub negates_zero : (e : Entry) (z : Coord) → e ≡ Zero → false ≡ entry_negates e z
unfolding entry_negates
negates_zero e z is = sym (ap (λ (f : Entry). entry_negates f z) is)

-- nor does √2, which no row has
pub negates_root : (e : Entry) (z : Coord) → e ≡ Root2 → false ≡ entry_negates e z
unfolding entry_negates
negates_root e z is = sym (ap (λ (f : Entry). entry_negates f z) is)

-- a power of ω negates as its turn says
pub negates_omega : (e : Entry) (j : ℕ) (z : Coord) → e ≡ Omega j → (turn j z).negated ≡ entry_negates e z
unfolding entry_negates
negates_omega e j z is = sym (ap (λ (f : Entry). entry_negates f z) is)

-- ---- and elsewhere
-- the table 207 of two functions is "the second, or not the first"
implied_table : (a b : Bool) → connective 207 a b false ≡ cond a b true
unfolding connective
implied_table true true = refl
implied_table true false = refl
implied_table false true = refl
implied_table false false = refl

row_same : (m : Mix) (low high l h : Bool) → low ≡ l → high ≡ h → by_target m l h ≡ by_target m low high
row_same m low high l h el eh = sym (ap (λ b. by_target m b high) el ∙ ap (λ b. by_target m l b) eh)

module _ (d : Diagram) (g : Gate) (low high : Bool) (s : IsSound d) (n : AreItsNodes d g) where
  abbrev M : Mix
  M = mix_of g.target

  pub row_both : low ≡ true → high ≡ true → Denotes d 1 (by_target M low high)
  unfolding by_target
  row_both el eh = record {
    live = inl (let h : 1 < 2 = omega arith in h);
    is = true_function d s ∙ fun_ext (λ x. sym (either (x g.target.target) true)) ∙ row_same M low high true true el eh;
  }

  pub row_low : low ≡ true → high ≡ false → Denotes d g.is_clear.0 (by_target M low high)
  unfolding by_target
  row_low el eh = denotes_as d g.is_clear.0 (λ x. not (x g.target.target)) (by_target M low high) (fun_ext (λ x. sym (cond_not (x g.target.target))) ∙ row_same M low high true false el eh) n.other

  pub row_high : low ≡ false → high ≡ true → Denotes d g.is_set.0 (by_target M low high)
  unfolding by_target
  row_high el eh = denotes_as d g.is_set.0 (λ x. x g.target.target) (by_target M low high) (fun_ext (λ x. sym (cond_same (x g.target.target))) ∙ row_same M low high false true el eh) n.target

  pub row_none : low ≡ false → high ≡ false → Denotes d 0 (by_target M low high)
  unfolding by_target
  row_none el eh = record {
    live = inl (let h : 0 < 2 = omega arith in h);
    is = false_function d s ∙ fun_ext (λ x. sym (either (x g.target.target) false)) ∙ row_same M low high false false el eh;
  }

  -- the node where the controls hold in the row, and everywhere else
  pub where_out : (r : ℕ) (out : Bool) → out ≡ true → Denotes d r (by_target M low high) → connected 207 (function_of d g.all.0) (function_of d r) (function_of d 0) ≡ where_signed M low high out
  unfolding connected by_target where_signed
  where_out r out on h =
      ap (λ (w : Function). connected 207 w (function_of d r) (function_of d 0)) n.all.is
      ∙ ap (λ (w : Function). connected 207 (all_true M.controls) w (function_of d 0)) h.is
      ∙ ap (λ (w : Function). connected 207 (all_true M.controls) (by_target M low high) w) (false_function d s)
      ∙ fun_ext (λ x. implied_table (all_true M.controls x) (cond (x g.target.target) high low) ∙ sym (ap (cond (all_true M.controls x) (cond (x g.target.target) high low)) on))

-- where it isn't negated elsewhere
pub where_in : (m : Mix) (low high out : Bool) → out ≡ false → where_negated m low high ≡ where_signed m low high out
unfolding where_negated where_signed
where_in m low high out off = fun_ext (λ x. both (all_true m.controls x) (cond (x m.target) high low) ∙ sym (ap (cond (all_true m.controls x) (cond (x m.target) high low)) off))
  where
    both : (a b : Bool) → (a && b) ≡ cond a b false
    both true b = refl
    both false b = refl
