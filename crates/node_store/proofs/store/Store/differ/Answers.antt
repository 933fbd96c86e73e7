use Rattle.std.proofs.Common.{◌≡◌, Bool, true, false}
use Rattle.std.proofs.lemmas.Result.{IfOk-weaker}
use Rattle.node_store.specs.Differs.{Differ, Coincide}
use Rattle.node_store.specs.Pairs.{DifferAt, CoincideAt}
use Rattle.node_store.proofs.Differing.{differ_lists, coincide_lists}
use Rattle.node_store.proofs.store.Store.differ.Goals as goal

pub returns-clause-yes : goal.returns-clause-yes
returns-clause-yes c =
    let d = c.args.self.now in
    let p = c.args.p.now in
    IfOk-weaker c.differ_from.result (λ (b : Bool). b ≡ true → DifferAt d p c.args.f.0 c.args.g.0) (λ (b : Bool). b ≡ true → Differ d p c.args.f.0 c.args.g.0)
    (λ b h e. differ_lists d p c.args.f.0 c.args.g.0 c.alloc.ensures.sound c.requires.len (h e)) c.differ_from.ensures.yes

pub returns-clause-no : goal.returns-clause-no
returns-clause-no c =
    let d = c.args.self.now in
    let p = c.args.p.now in
    IfOk-weaker c.differ_from.result (λ (b : Bool). b ≡ false → CoincideAt d p c.args.f.0 c.args.g.0) (λ (b : Bool). b ≡ false → Coincide d p c.args.f.0 c.args.g.0)
    (λ b h e. coincide_lists d p c.args.f.0 c.args.g.0 c.requires.len (h e)) c.differ_from.ensures.no
