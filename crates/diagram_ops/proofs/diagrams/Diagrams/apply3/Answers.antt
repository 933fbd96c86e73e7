use Rattle.std.proofs.Common.{◌≡◌, ◌∙◌, ◌≤◌, length, None, Some, sym, ap, arith}
use Rattle.std.proofs.lemmas.Result.{err_from_is_err_and}
use Rattle.computed_cache.specs.Entries.{Cached, value_at, touched, kept}
use Rattle.computed_cache.proofs.Entries.{touched_kept, touched_none, kept_longer}
use Rattle.diagram_model.specs.Stores.{function_of}
use Rattle.diagram_ops.specs.Bounds.{joint_size_of}
use Rattle.diagram_ops.specs.Connectives.{connected}
use Rattle.diagram_ops.specs.Diagrams.{AreRight, IsRight, key_of, connective_of, with_answer}
use Rattle.diagram_ops.specs.Operations.{kept_under}
use Rattle.diagram_ops.specs.Taken.{plain}
use Rattle.diagram_ops.proofs.Bounds.{takes_joint_size}
use Rattle.diagram_ops.proofs.Ending.{IsEnded, ended}
use Rattle.diagram_ops.proofs.Readings.{plain_tells}
use Rattle.diagram_ops.proofs.Right.{grown_right, found_right, touched_right, kept_right, entry, cached_is, longer_as}
use Rattle.diagram_ops.proofs.Sorting.{connective_keyed, result_keyed}
use Rattle.diagram_ops.proofs.Splits.{three}
use Rattle.diagram_ops.proofs.diagrams.Diagrams.apply3.Given.{Over}
use Rattle.diagram_ops.proofs.diagrams.Diagrams.apply3.Goals.{In-Some, After-begin-arg-1, After-connect}
use Rattle.diagram_ops.proofs.diagrams.Diagrams.apply3.Goals as goal

-- the cache has the answer, and stands as touched
hit : (g : Over) (c : In-Some g) → (value_at c.self.inside.cache.entries (key_of g.row.T c.args.f.0 c.args.g.0 c.args.h.0) ≡ Some c.in-Some.node) × (c.look.new.self.entries ≡ touched c.self.inside.cache.entries (key_of g.row.T c.args.f.0 c.args.g.0 c.args.h.0))
hit g c =
    let es = c.self.inside.cache.entries in
    (sym (c.look.ensures.value ∙ ap (value_at es) c.key_for-key.ensures) ∙ c.in-Some.is, c.look.ensures.order ∙ ap (touched es) c.key_for-key.ensures)

found : (g : Over) (c : In-Some g) → IsRight c.self.inside.store (entry (key_of g.row.T c.args.f.0 c.args.g.0 c.args.h.0) c.in-Some.node)
found g c = found_right c.self.inside.store (key_of g.row.T c.args.f.0 c.args.g.0 c.args.h.0) c.in-Some.node c.self.inside.cache.entries c.self.invariant (hit g c).0

-- it has none, and stands as it was
missed : (g : Over) (c : After-begin-arg-1 g) → (value_at c.self.inside.cache.entries (key_of g.row.T c.args.f.0 c.args.g.0 c.args.h.0) ≡ None) × (c.look.new.self ≡ c.self.inside.cache)
missed g c =
    let old = c.self.inside.cache in let key = key_of g.row.T c.args.f.0 c.args.g.0 c.args.h.0 in
    let none = sym (c.look.ensures.value ∙ ap (value_at old.entries) c.key_for-key.ensures) ∙ c.in_default.is in
    (none, cached_is c.look.new.self old.entries old.capacity (c.look.ensures.order ∙ ap (touched old.entries) c.key_for-key.ensures ∙ touched_none old.entries key none) c.look.ensures.capacity)

end : (g : Over) (c : After-connect g) → IsEnded (connective_of g.row.T c.args.self.now.store c.args.f.0 c.args.g.0 c.args.h.0) (joint_size_of c.args.self.now.store c.args.f.0 c.args.g.0 c.args.h.0)
    c.args.self.now.store c.connect.new.store c.args.steps.now c.connect.new.steps c.connect.result
end g c =
    let d = c.self.inside.store in let e = c.connect.new.store in
    let at = three c.args.f.0 c.args.g.0 c.args.h.0 in
    let m0 = kept_under g.row.T c.begin.new.self in let s = c.args.steps.now in let t = c.connect.new.steps in
    rw (sym c.self.view_is) (ended (connected g.row.T) plain at d e m0 (kept_under g.row.T c.connect.new.memo) s t (joint_size_of d at.f at.g at.h) c.connect.result c.held-held.ensures.sound
    (rw (← c.self.view_is) at c.requires.f, rw (← c.self.view_is) at c.requires.g, rw (← c.self.view_is) at c.requires.h)
    (λ sound extends taken. takes_joint_size plain d at e m0 s t sound extends (plain_tells e sound) taken)
    c.connect.ensures.answers c.connect.ensures.stops)

-- the entries are right in the store that the connective left
grown : (g : Over) (c : After-connect g) → c.look.new.self ≡ c.self.inside.cache → AreRight c.connect.new.store c.look.new.self.entries
grown g c same =
    let h = end g c in
    rw same (grown_right c.self.inside.store c.connect.new.store c.self.inside.cache.entries c.held-held.ensures.sound h.sound (rw (← c.self.view_is) at h.extends) c.self.invariant)

pub invariant_of-self : goal.invariant_of-self
invariant_of-self g c =
    let d = c.self.inside.store in let es = c.self.inside.cache.entries in
    rw (hit g (goal.at.invariant_of-self g c).In-Some).1 (touched_right d (key_of g.row.T c.args.f.0 c.args.g.0 c.args.h.0) es c.self.invariant)

pub returns-in-Some-clause-live : goal.returns-in-Some-clause-live
returns-in-Some-clause-live g c = (found g (goal.at.returns-in-Some-clause-live g c).In-Some).value

pub returns-in-Some-clause-denotes : goal.returns-in-Some-clause-denotes
returns-in-Some-clause-denotes g c =
    let d = c.self.inside.store in
    let h : function_of d c.in-Some.node ≡ connective_of g.row.T d c.args.f.0 c.args.g.0 c.args.h.0 =
    (found g (goal.at.returns-in-Some-clause-denotes g c).In-Some).denotes ∙ connective_keyed g.row.T d (three c.args.f.0 c.args.g.0 c.args.h.0) in
    rw (sym c.self.view_is) h

pub returns-in-Some-clause-sound : goal.returns-in-Some-clause-sound
returns-in-Some-clause-sound g c = record { store = c.held-held.ensures.sound; entries = invariant_of-self g c }

pub returns-in-Some-clause-cache : goal.returns-in-Some-clause-cache
returns-in-Some-clause-cache g c =
    let old = c.self.inside.cache in let key = key_of g.row.T c.args.f.0 c.args.g.0 c.args.h.0 in let n = c.in-Some.node in
    let w = hit g (goal.at.returns-in-Some-clause-cache g c).In-Some in
    let h : c.look.new.self ≡ with_answer old key n = cached_is c.look.new.self (kept old.capacity old.entries key n) old.capacity (w.1 ∙ touched_kept old.entries old.capacity key n w.0) c.look.ensures.capacity in
    rw (sym c.self.view_is) h

pub returns-in-Some-clause-cached : goal.returns-in-Some-clause-cached
returns-in-Some-clause-cached g c =
    let old = c.self.inside.cache in let key = key_of g.row.T c.args.f.0 c.args.g.0 c.args.h.0 in let n = c.in-Some.node in
    let w = hit g (goal.at.returns-in-Some-clause-cached g c).In-Some in
    let few : length old.entries ≤ old.capacity = omega (arith, c.len-cached.ensures.count, c.len-cached.ensures.most) in
    let h : length old.entries ≤ length c.look.new.self.entries = longer_as old.entries c.look.new.self.entries (kept old.capacity old.entries key n) (w.1 ∙ touched_kept old.entries old.capacity key n w.0) (kept_longer old.entries old.capacity key n few) in
    rw (sym c.self.view_is) h

pub invariant_of-self-in_err-node : goal.invariant_of-self-in_err-node
invariant_of-self-in_err-node g c =
    let w = goal.at.invariant_of-self-in_err-node g c in
    grown g w.After-connect (missed g w.After-begin-arg-1).1

pub returns-in_err-node : goal.returns-in_err-node
returns-in_err-node g c =
    let w = goal.at.returns-in_err-node g c in
    let h = end g w.After-connect in let miss = missed g w.After-begin-arg-1 in
    let p = err_from_is_err_and c.from_residual.result c.from_residual.ensures.1 in
    rw (p.1, p.2) (record {
      live = tt;
      denotes = tt;
      made = h.made;
      stop = rw (sym c.self.view_is) c.in_err-node.ensures.stops.stop;
      extends = h.extends;
      functions = h.functions;
      cache = tt;
      stopped = rw (sym c.self.view_is) miss.1;
      cached = rw (sym c.self.view_is, miss.1) (omega arith);
      hit = rw (sym c.self.view_is, miss.0) tt;
      steps = h.steps;
      sound = record { store = h.sound; entries = invariant_of-self-in_err-node g c };
    })

pub invariant_of-self-in_err-keep : goal.invariant_of-self-in_err-keep
invariant_of-self-in_err-keep g c =
    let w = goal.at.invariant_of-self-in_err-keep g c in
    rw c.in_err-keep.ensures.refused (grown g w.After-connect (missed g w.After-begin-arg-1).1)

pub returns-in_err-keep : goal.returns-in_err-keep
returns-in_err-keep g c =
    let w = goal.at.returns-in_err-keep g c in
    let h = end g w.After-connect in let miss = missed g w.After-begin-arg-1 in
    let same = cached_is c.keep.new.self c.look.new.self.entries c.look.new.self.capacity c.in_err-keep.ensures.refused c.keep.ensures.capacity ∙ miss.1 in
    let p = err_from_is_err_and c.from_residual-in_err-keep.result c.from_residual-in_err-keep.ensures.1 in
    rw (p.1, p.2) (record {
      live = tt;
      denotes = tt;
      made = h.made;
      stop = tt;
      extends = h.extends;
      functions = h.functions;
      cache = tt;
      stopped = rw (sym c.self.view_is) same;
      cached = rw (sym c.self.view_is, same) (omega arith);
      hit = rw (sym c.self.view_is, miss.0) tt;
      steps = h.steps;
      sound = record { store = h.sound; entries = invariant_of-self-in_err-keep g c };
    })

pub invariant_of-self-2 : goal.invariant_of-self-2
invariant_of-self-2 g c =
    let w = goal.at.invariant_of-self-2 g c in
    let e = c.connect.new.store in let n = c.in_ok-node.node.0 in let key = key_of g.row.T c.args.f.0 c.args.g.0 c.args.h.0 in
    let is = result_keyed g.row.T e (three c.args.f.0 c.args.g.0 c.args.h.0) n c.in_ok-node.ensures.answers.result in
    let here : IsRight e (entry key n) = record { f = is.operands.0; g = is.operands.1; h = is.operands.2; value = is.live; denotes = is.denotes } in
    rw (c.in_ok-keep.ensures.kept ∙ ap (λ k. kept c.look.new.self.capacity c.look.new.self.entries k n) c.key_for-key.ensures)
    (kept_right e c.look.new.self.capacity key n c.look.new.self.entries here (grown g w.After-connect (missed g w.After-begin-arg-1).1))

pub returns : goal.returns
returns g c =
    let w = goal.at.returns g c in
    let h = end g w.After-connect in let miss = missed g w.After-begin-arg-1 in
    let old = c.self.inside.cache in let n = c.in_ok-node.node.0 in let key = key_of g.row.T c.args.f.0 c.args.g.0 c.args.h.0 in
    let few : length old.entries ≤ old.capacity = omega (arith, c.len-cached.ensures.count, c.len-cached.ensures.most) in
    let looked : Cached = c.look.new.self in
    let put : c.keep.new.self ≡ with_answer old key n = cached_is c.keep.new.self (kept looked.capacity looked.entries key n) looked.capacity (c.in_ok-keep.ensures.kept ∙ ap (λ k. kept looked.capacity looked.entries k n) c.key_for-key.ensures) c.keep.ensures.capacity
    ∙ ap (λ (k : Cached). with_answer k key n) miss.1 in
    record {
      live = c.in_ok-node.ensures.answers.result.live;
      denotes = rw c.in_ok-node.was at h.denotes;
      made = h.made;
      stop = tt;
      extends = h.extends;
      functions = h.functions;
      cache = rw (sym c.self.view_is) put;
      stopped = tt;
      cached = rw (sym c.self.view_is, put) (kept_longer old.entries old.capacity key n few);
      hit = rw (sym c.self.view_is, miss.0) tt;
      steps = h.steps;
      sound = record { store = h.sound; entries = invariant_of-self-2 g c };
    }
