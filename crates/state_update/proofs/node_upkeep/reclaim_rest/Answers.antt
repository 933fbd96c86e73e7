use Rattle.std.proofs.Common.{rules, ◌≡◌, List, All, Err, refl, sym, ◌∙◌, subst}
use Rattle.amp_dense.specs.declared.stop.Stop.TheVariants as stops
use Rattle.diagram_model.specs.Stores.{IsLive}
use Rattle.diagram_ops.specs.Diagrams.{StoreAndCache}
use Rattle.node_store.specs.declared.node.Node.{Node}
use Rattle.state_update.specs.Events.{KeepsNodes, nodes_in}
use Rattle.state_update.proofs.NodesKept.{nodes_are, live_in, same_kept, reclaim_kept}
use Rattle.state_update.proofs.node_upkeep.reclaim_rest.Goals as goal

pub reclaim-requires : goal.reclaim-requires
reclaim-requires c =
    let u = c.args.d.now in let q = c.args.q.now in
    let are : c.as_slice.result.now ≡ nodes_in q = c.as_slice.ensures.value ∙ nodes_are c.in_ok-roots.roots.items q c.in_ok-roots.ensures in
    subst (λ (l : List Node). All (λ (n : Node). IsLive u.store n.0) l) (sym are) (live_in u.store q c.requires)

pub returns-in_err-roots-clause-stopped : goal.returns-in_err-roots-clause-stopped
returns-in_err-roots-clause-stopped c =
    let e : c.from_residual.result ≡ Err stops.OutOfMemory = search rules in
    rw e refl

pub returns-in_err-roots-clause-keeps : goal.returns-in_err-roots-clause-keeps
returns-in_err-roots-clause-keeps c = same_kept c.args.d.now c.args.q.now c.cached-cached.ensures.sound c.requires

pub returns-in_err-freed-clause-stopped : goal.returns-in_err-freed-clause-stopped
returns-in_err-freed-clause-stopped c =
    let e : c.from_residual-in_err-freed.result ≡ Err stops.OutOfMemory = search rules in
    rw e c.in_err-freed.ensures.refused

pub returns-in_err-freed-clause-keeps : goal.returns-in_err-freed-clause-keeps
returns-in_err-freed-clause-keeps c =
    let u = c.args.d.now in let q = c.args.q.now in
    subst (λ (v : StoreAndCache). KeepsNodes q u v) (sym c.in_err-freed.ensures.refused) (same_kept u q c.cached-cached.ensures.sound c.requires)

pub returns-clause-done : goal.returns-clause-done
returns-clause-done c =
    let u = c.args.d.now in let q = c.args.q.now in
    let are : c.as_slice.result.now ≡ nodes_in q = c.as_slice.ensures.value ∙ nodes_are c.in_ok-roots.roots.items q c.in_ok-roots.ensures in
    let h = c.in_ok-freed.ensures in
    reclaim_kept u c.reclaim.new.d q c.as_slice.result.now c.in_ok-freed.freed are c.cached-cached.ensures.sound c.requires
    h.reached h.functions h.roots h.size h.freed h.cache c.reclaim.ensures.order c.reclaim.ensures.limit c.reclaim.ensures.capacity c.reclaim.ensures.sound

pub returns-clause-keeps : goal.returns-clause-keeps
returns-clause-keeps c =
    let u = c.args.d.now in let q = c.args.q.now in
    let are : c.as_slice.result.now ≡ nodes_in q = c.as_slice.ensures.value ∙ nodes_are c.in_ok-roots.roots.items q c.in_ok-roots.ensures in
    let h = c.in_ok-freed.ensures in
    (reclaim_kept u c.reclaim.new.d q c.as_slice.result.now c.in_ok-freed.freed are c.cached-cached.ensures.sound c.requires
    h.reached h.functions h.roots h.size h.freed h.cache c.reclaim.ensures.order c.reclaim.ensures.limit c.reclaim.ensures.capacity c.reclaim.ensures.sound).keeps
