use Rattle.std.proofs.Common.{◌≤◌, sym, subst}
use Rattle.diagram_model.specs.Stores.{held}
use Rattle.slice_quad.specs.Vectors.{Stands}
use Rattle.snapshot.specs.Snapshots.{snapshot_of, nodes_in}
use Rattle.snapshot.proofs.Whole.{nodes_few}
use Rattle.snapshot.proofs.saving.save_within.Goals as goal

pub returns-clause-held : goal.returns-clause-held
returns-clause-held c =
    let q = c.args.q.now in
    let e = c.store-store.ensures.value in
    let stands = subst (λ d. Stands d q) (sym e) c.requires.stands in
    subst (λ d. nodes_in (snapshot_of d q) ≤ held d) e (nodes_few c.store-store.result.now q c.in_ok-seen.seen stands c.in_ok-seen.ensures.kept c.in_ok-seen.ensures.numbered)
