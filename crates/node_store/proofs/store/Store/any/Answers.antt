use Rattle.std.proofs.Common.{◌≡◌, Bool, true, false}
use Rattle.std.proofs.lemmas.Result.{IfOk-weaker}
use Rattle.node_store.specs.Differs.{Differ, Coincide, IsTrueSomewhere, IsFalseThroughout}
use Rattle.node_store.proofs.Differing.{true_somewhere, false_throughout}
use Rattle.node_store.proofs.store.Store.any.Goals as goal

pub returns-clause-yes : goal.returns-clause-yes
returns-clause-yes c =
    let d = c.args.self.now in
    let p = c.args.p.now in
    IfOk-weaker c.differ.result (λ (b : Bool). b ≡ true → Differ d p c.args.n.0 0) (λ (b : Bool). b ≡ true → IsTrueSomewhere d p c.args.n.0)
    (λ b h e. true_somewhere d p c.args.n.0 c.differ.ensures.sound (h e)) c.differ.ensures.yes

pub returns-clause-no : goal.returns-clause-no
returns-clause-no c =
    let d = c.args.self.now in
    let p = c.args.p.now in
    IfOk-weaker c.differ.result (λ (b : Bool). b ≡ false → Coincide d p c.args.n.0 0) (λ (b : Bool). b ≡ false → IsFalseThroughout d p c.args.n.0)
    (λ b h e. false_throughout d p c.args.n.0 c.differ.ensures.sound (h e)) c.differ.ensures.no
