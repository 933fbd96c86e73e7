use Rattle.std.proofs.Common.{rules, ◌≡◌, List, All, Err, sym, ◌∙◌, subst}
use Rattle.amp_dense.specs.declared.stop.Stop.TheVariants as stops
use Rattle.diagram_model.specs.Stores.{IsLive}
use Rattle.node_store.specs.declared.node.Node.{Node}
use Rattle.sifting.specs.Answers.{IsSifted}
use Rattle.sifting.specs.Sifts.{IsTidy, sift_of}
use Rattle.state_update.specs.Events.{nodes_in}
use Rattle.state_update.proofs.NodesKept.{nodes_are, live_in, same_kept, sift_kept}
use Rattle.state_update.proofs.node_upkeep.sift_one.Goals as goal

pub sift_variable-requires-clause-live : goal.sift_variable-requires-clause-live
sift_variable-requires-clause-live c =
    let u = c.args.d.now in let q = c.args.q.now in
    let are : c.as_slice.result.now ≡ nodes_in q = c.as_slice.ensures.value ∙ nodes_are c.in_ok-roots.roots.items q c.in_ok-roots.ensures in
    subst (λ (l : List Node). All (λ (n : Node). IsLive u.store n.0) l) (sym are) (live_in u.store q c.requires.stands)

pub returns-in_err-roots-clause-stopped : goal.returns-in_err-roots-clause-stopped
returns-in_err-roots-clause-stopped c =
    let e : c.from_residual.result ≡ Err stops.OutOfMemory = search rules in
    rw e (same_kept c.args.d.now c.args.q.now c.cached-cached.ensures.sound c.requires.stands)

pub returns-in_err-roots-clause-keeps : goal.returns-in_err-roots-clause-keeps
returns-in_err-roots-clause-keeps c = same_kept c.args.d.now c.args.q.now c.cached-cached.ensures.sound c.requires.stands

pub returns-in_err-sifted-clause-stopped : goal.returns-in_err-sifted-clause-stopped
returns-in_err-sifted-clause-stopped c =
    let u = c.args.d.now in let q = c.args.q.now in
    let are : c.as_slice.result.now ≡ nodes_in q = c.as_slice.ensures.value ∙ nodes_are c.in_ok-roots.roots.items q c.in_ok-roots.ensures in
    let e : c.from_residual-in_err-sifted.result ≡ Err stops.OutOfMemory = search rules in
    rw e (sift_kept u c.sift_variable.new.d q c.as_slice.result.now are c.sift_variable.ensures.roots c.sift_variable.ensures.capacity c.sift_variable.ensures.sound)

pub returns-in_err-sifted-clause-keeps : goal.returns-in_err-sifted-clause-keeps
returns-in_err-sifted-clause-keeps c =
    let u = c.args.d.now in let q = c.args.q.now in
    let are : c.as_slice.result.now ≡ nodes_in q = c.as_slice.ensures.value ∙ nodes_are c.in_ok-roots.roots.items q c.in_ok-roots.ensures in
    sift_kept u c.sift_variable.new.d q c.as_slice.result.now are c.sift_variable.ensures.roots c.sift_variable.ensures.capacity c.sift_variable.ensures.sound

pub returns-clause-done : goal.returns-clause-done
returns-clause-done c =
    let u = c.args.d.now in let q = c.args.q.now in
    let are : c.as_slice.result.now ≡ nodes_in q = c.as_slice.ensures.value ∙ nodes_are c.in_ok-roots.roots.items q c.in_ok-roots.ensures in
    let r = c.in_ok-sifted.sifted in
    let h = c.in_ok-sifted.ensures in
    let sifted : IsSifted (sift_of u.store c.as_slice.result.now c.args.var) r = record { at = h.place; order_is = h.order; size_before = h.before; size_after = h.after; ends_down = h.stopped_down; ends_up = h.stopped_up } in
    record {
      keeps = sift_kept u c.sift_variable.new.d q c.as_slice.result.now are c.sift_variable.ensures.roots c.sift_variable.ensures.capacity c.sift_variable.ensures.sound;
      sifted = subst (λ (l : List Node). IsSifted (sift_of u.store l c.args.var) r) are sifted;
      order = h.stands;
      tidy = subst (λ (l : List Node). IsTidy c.sift_variable.new.d.store l) are h.tidy;
      empty = h.empty;
    }

pub returns-clause-keeps : goal.returns-clause-keeps
returns-clause-keeps c =
    let u = c.args.d.now in let q = c.args.q.now in
    let are : c.as_slice.result.now ≡ nodes_in q = c.as_slice.ensures.value ∙ nodes_are c.in_ok-roots.roots.items q c.in_ok-roots.ensures in
    sift_kept u c.sift_variable.new.d q c.as_slice.result.now are c.sift_variable.ensures.roots c.sift_variable.ensures.capacity c.sift_variable.ensures.sound
