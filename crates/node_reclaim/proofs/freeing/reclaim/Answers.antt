use Rattle.std.proofs.Common.{◌≡◌, ◌∙◌}
use Rattle.node_store.specs.Marks.{AreReached}
use Rattle.node_reclaim.proofs.Left.{reclaimed}
use Rattle.node_reclaim.proofs.freeing.reclaim.Goals as goal

pub seal-requires : goal.seal-requires
seal-requires c =
    let d = c.args.d.now.store in
    let same : c.unseal-slots.result.diagram ≡ d = c.unseal-slots.ensures ∙ c.replace.ensures.value ∙ c.lend.ensures.value ∙ c.forget.ensures.store in
    let reached : AreReached d c.args.roots.now c.in_ok-reached.reached = rw c.store.ensures.value at c.in_ok-reached.ensures in
    let all = reclaimed d c.unseal-slots.result.diagram c.keep_only-freed.new.self.diagram c.args.roots.now c.in_ok-reached.reached c.keep_only-freed.result same c.cached-cached.ensures.sound.store c.requires reached
    c.keep_only-freed.ensures.kept c.keep_only-freed.ensures.order c.keep_only-freed.ensures.limit c.keep_only-freed.ensures.freed in
    all.sound

pub returns-clause-reached : goal.returns-clause-reached
returns-clause-reached c =
    let d = c.args.d.now.store in
    let same : c.unseal-slots.result.diagram ≡ d = c.unseal-slots.ensures ∙ c.replace.ensures.value ∙ c.lend.ensures.value ∙ c.forget.ensures.store in
    let reached : AreReached d c.args.roots.now c.in_ok-reached.reached = rw c.store.ensures.value at c.in_ok-reached.ensures in
    let all = reclaimed d c.unseal-slots.result.diagram c.keep_only-freed.new.self.diagram c.args.roots.now c.in_ok-reached.reached c.keep_only-freed.result same c.cached-cached.ensures.sound.store c.requires reached
    c.keep_only-freed.ensures.kept c.keep_only-freed.ensures.order c.keep_only-freed.ensures.limit c.keep_only-freed.ensures.freed in
    let dest : c.replace-old.new.dest ≡ c.keep_only-freed.new.self.diagram = c.replace-old.ensures.after ∙ c.seal.ensures in
    rw dest all.reached

pub returns-clause-functions : goal.returns-clause-functions
returns-clause-functions c =
    let d = c.args.d.now.store in
    let same : c.unseal-slots.result.diagram ≡ d = c.unseal-slots.ensures ∙ c.replace.ensures.value ∙ c.lend.ensures.value ∙ c.forget.ensures.store in
    let reached : AreReached d c.args.roots.now c.in_ok-reached.reached = rw c.store.ensures.value at c.in_ok-reached.ensures in
    let all = reclaimed d c.unseal-slots.result.diagram c.keep_only-freed.new.self.diagram c.args.roots.now c.in_ok-reached.reached c.keep_only-freed.result same c.cached-cached.ensures.sound.store c.requires reached
    c.keep_only-freed.ensures.kept c.keep_only-freed.ensures.order c.keep_only-freed.ensures.limit c.keep_only-freed.ensures.freed in
    let dest : c.replace-old.new.dest ≡ c.keep_only-freed.new.self.diagram = c.replace-old.ensures.after ∙ c.seal.ensures in
    rw dest all.functions

pub returns-clause-roots : goal.returns-clause-roots
returns-clause-roots c =
    let d = c.args.d.now.store in
    let same : c.unseal-slots.result.diagram ≡ d = c.unseal-slots.ensures ∙ c.replace.ensures.value ∙ c.lend.ensures.value ∙ c.forget.ensures.store in
    let reached : AreReached d c.args.roots.now c.in_ok-reached.reached = rw c.store.ensures.value at c.in_ok-reached.ensures in
    let all = reclaimed d c.unseal-slots.result.diagram c.keep_only-freed.new.self.diagram c.args.roots.now c.in_ok-reached.reached c.keep_only-freed.result same c.cached-cached.ensures.sound.store c.requires reached
    c.keep_only-freed.ensures.kept c.keep_only-freed.ensures.order c.keep_only-freed.ensures.limit c.keep_only-freed.ensures.freed in
    let dest : c.replace-old.new.dest ≡ c.keep_only-freed.new.self.diagram = c.replace-old.ensures.after ∙ c.seal.ensures in
    rw dest all.live

pub returns-clause-size : goal.returns-clause-size
returns-clause-size c =
    let d = c.args.d.now.store in
    let same : c.unseal-slots.result.diagram ≡ d = c.unseal-slots.ensures ∙ c.replace.ensures.value ∙ c.lend.ensures.value ∙ c.forget.ensures.store in
    let reached : AreReached d c.args.roots.now c.in_ok-reached.reached = rw c.store.ensures.value at c.in_ok-reached.ensures in
    let all = reclaimed d c.unseal-slots.result.diagram c.keep_only-freed.new.self.diagram c.args.roots.now c.in_ok-reached.reached c.keep_only-freed.result same c.cached-cached.ensures.sound.store c.requires reached
    c.keep_only-freed.ensures.kept c.keep_only-freed.ensures.order c.keep_only-freed.ensures.limit c.keep_only-freed.ensures.freed in
    let dest : c.replace-old.new.dest ≡ c.keep_only-freed.new.self.diagram = c.replace-old.ensures.after ∙ c.seal.ensures in
    rw dest all.size_is
