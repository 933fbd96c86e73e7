use Rattle.std.proofs.Common.{◌≡◌, ◌∙◌, ap, sym, subst}
use Rattle.diagram_ops.specs.Diagrams.{StoreAndCache}
use Rattle.slice_quad.specs.Fields.{numbers, roots_of}
use Rattle.step_upkeep.specs.Upkept.{KeepsQuad}
use Rattle.step_upkeep.proofs.Keeping.{all_live, keeps_same, keeps_reclaimed, holds_reclaimed}
use Rattle.step_upkeep.proofs.upkeep.reclaim_to.Goals as goal

pub reclaim-requires : goal.reclaim-requires
reclaim-requires c =
    let u = c.args.d.now in let q = c.args.q.now in
    let same : c.as_slice.result.now ≡ c.in_ok-roots.roots.items = c.as_slice.ensures.value in
    let are : numbers c.as_slice.result.now ≡ roots_of q = ap numbers same ∙ c.in_ok-roots.ensures in
    all_live u.store q c.as_slice.result.now are c.requires

pub returns-in_err-roots-clause-keeps : goal.returns-in_err-roots-clause-keeps
returns-in_err-roots-clause-keeps c = keeps_same c.args.d.now c.args.q.now c.cached-cached.ensures.sound c.requires

pub returns-in_err-freed-clause-keeps : goal.returns-in_err-freed-clause-keeps
returns-in_err-freed-clause-keeps c =
    let u = c.args.d.now in let q = c.args.q.now in
    subst (λ (v : StoreAndCache). KeepsQuad u q v) (sym c.in_err-freed.ensures.refused) (keeps_same u q c.cached-cached.ensures.sound c.requires)

pub returns-clause-keeps : goal.returns-clause-keeps
returns-clause-keeps c =
    let u = c.args.d.now in let q = c.args.q.now in
    let same : c.as_slice.result.now ≡ c.in_ok-roots.roots.items = c.as_slice.ensures.value in
    let are : numbers c.as_slice.result.now ≡ roots_of q = ap numbers same ∙ c.in_ok-roots.ensures in
    keeps_reclaimed u c.reclaim.new.d q c.as_slice.result.now are c.requires c.in_ok-freed.ensures.roots c.in_ok-freed.ensures.functions
    c.reclaim.ensures.sound c.reclaim.ensures.order c.reclaim.ensures.limit c.reclaim.ensures.capacity

pub returns-clause-holds : goal.returns-clause-holds
returns-clause-holds c =
    let u = c.args.d.now in let q = c.args.q.now in
    let same : c.as_slice.result.now ≡ c.in_ok-roots.roots.items = c.as_slice.ensures.value in
    let are : numbers c.as_slice.result.now ≡ roots_of q = ap numbers same ∙ c.in_ok-roots.ensures in
    holds_reclaimed u c.reclaim.new.d q c.as_slice.result.now are c.cached-cached.ensures.sound c.reclaim.ensures.sound c.in_ok-freed.ensures.reached c.in_ok-freed.ensures.functions
