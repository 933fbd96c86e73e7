use Rattle.std.proofs.Common.{◌≡◌, ◌∙◌}
use Rattle.node_reclaim.proofs.Dropped.{dropped}
use Rattle.node_reclaim.proofs.dropping.drop_nodes.Goals as goal

pub seal-requires : goal.seal-requires
seal-requires c =
    let d = c.args.store.now in
    let same : c.unseal-slots.result.diagram ≡ d = c.unseal-slots.ensures ∙ c.replace.ensures.value in
    let all = dropped d c.unseal-slots.result.diagram c.free_each.new.slots.diagram c.args.numbers.now same c.held-held.ensures.sound c.requires c.free_each.ensures.others c.free_each.ensures.order c.free_each.ensures.limit c.free_each.ensures.fewer in
    all.sound

pub returns-clause-others : goal.returns-clause-others
returns-clause-others c =
    let d = c.args.store.now in
    let same : c.unseal-slots.result.diagram ≡ d = c.unseal-slots.ensures ∙ c.replace.ensures.value in
    let all = dropped d c.unseal-slots.result.diagram c.free_each.new.slots.diagram c.args.numbers.now same c.held-held.ensures.sound c.requires c.free_each.ensures.others c.free_each.ensures.order c.free_each.ensures.limit c.free_each.ensures.fewer in
    let dest : c.replace-empty.new.dest ≡ c.free_each.new.slots.diagram = c.replace-empty.ensures.after ∙ c.seal.ensures in
    rw dest all.others

pub returns-clause-functions : goal.returns-clause-functions
returns-clause-functions c =
    let d = c.args.store.now in
    let same : c.unseal-slots.result.diagram ≡ d = c.unseal-slots.ensures ∙ c.replace.ensures.value in
    let all = dropped d c.unseal-slots.result.diagram c.free_each.new.slots.diagram c.args.numbers.now same c.held-held.ensures.sound c.requires c.free_each.ensures.others c.free_each.ensures.order c.free_each.ensures.limit c.free_each.ensures.fewer in
    let dest : c.replace-empty.new.dest ≡ c.free_each.new.slots.diagram = c.replace-empty.ensures.after ∙ c.seal.ensures in
    rw dest all.functions
