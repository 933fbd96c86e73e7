use Rattle.std.proofs.Common.{◌≡◌, ◌+◌, ◌*◌, ◌∙◌, ap, subst, arith}
use Rattle.bit_lists.specs.Orders.{exchanged}
use Rattle.diagram_model.specs.Stores.{Diagram, KeepsFunctions, held}
use Rattle.diagram_ops.specs.Diagrams.{StoreAndCache}
use Rattle.level_swap.specs.Swaps.{HasRoom, level_nodes}
use Rattle.state_update.specs.Events.{Swaps}
use Rattle.state_update.proofs.NodesKept.{same_kept, cache_kept, swap_kept}
use Rattle.state_update.proofs.node_upkeep.swap_places.Goals as goal

pub returns-then-not-is_enough-clause-keeps : goal.returns-then-not-is_enough-clause-keeps
returns-then-not-is_enough-clause-keeps c = same_kept c.args.d.now c.args.q.now c.store.ensures.sound c.requires.stands

pub returns-in_err-swapped-clause-keeps : goal.returns-in_err-swapped-clause-keeps
returns-in_err-swapped-clause-keeps c =
    let v : StoreAndCache = record { store = c.swap-swapped.new.store; cache = c.forget.new.self.cache } in
    cache_kept c.args.d.now v c.args.q.now c.requires.stands (c.in_err-swapped.ensures.refused ∙ c.lend.ensures.value ∙ c.forget.ensures.store) c.forget.ensures.capacity c.cached-cached.ensures.sound

pub returns-clause-done : goal.returns-clause-done
returns-clause-done c =
    let u = c.args.d.now in
    let level = c.args.level in
    let v : StoreAndCache = record { store = c.swap-swapped.new.store; cache = c.forget.new.self.cache } in
    let same : c.lend.result.now ≡ u.store = c.lend.ensures.value ∙ c.forget.ensures.store in
    let need : c.room-there.result.need ≡ 4 * level_nodes u.store level = c.room-there.ensures.need ∙ ap (λ (d : Diagram). 4 * level_nodes d level) c.store.ensures.value in
    let free : c.room-there.result.free + held u.store ≡ u.store.limit = subst (λ (d : Diagram). c.room-there.result.free + held d ≡ d.limit) c.store.ensures.value c.room-there.ensures.free in
    let enough = c.is_enough.ensures.enough c.if-not-is_enough.false in
    let room : HasRoom u.store level = omega (arith, need, free, enough) in
    let there : Swaps c.args.q.now u level v =
    swap_kept u v c.args.q.now level c.requires.stands room
    (c.in_ok-swapped.ensures.order ∙ ap (λ (d : Diagram). exchanged d.order level) same)
    (subst (λ (d : Diagram). KeepsFunctions d v.store) same c.in_ok-swapped.ensures.functions)
    (let few = c.in_ok-swapped.ensures.few in let was : held c.lend.result.now + 2 * level_nodes c.lend.result.now level ≡ held u.store + 2 * level_nodes u.store level = ap (λ (d : Diagram). held d + 2 * level_nodes d level) same in omega (arith, few, was))
    c.forget.ensures.empty (c.in_ok-swapped.ensures.limit ∙ ap (λ (d : Diagram). d.limit) same) c.forget.ensures.capacity c.cached-cached.ensures.sound in
    there

pub returns-clause-keeps : goal.returns-clause-keeps
returns-clause-keeps c =
    let u = c.args.d.now in
    let level = c.args.level in
    let v : StoreAndCache = record { store = c.swap-swapped.new.store; cache = c.forget.new.self.cache } in
    let same : c.lend.result.now ≡ u.store = c.lend.ensures.value ∙ c.forget.ensures.store in
    let need : c.room-there.result.need ≡ 4 * level_nodes u.store level = c.room-there.ensures.need ∙ ap (λ (d : Diagram). 4 * level_nodes d level) c.store.ensures.value in
    let free : c.room-there.result.free + held u.store ≡ u.store.limit = subst (λ (d : Diagram). c.room-there.result.free + held d ≡ d.limit) c.store.ensures.value c.room-there.ensures.free in
    let enough = c.is_enough.ensures.enough c.if-not-is_enough.false in
    let room : HasRoom u.store level = omega (arith, need, free, enough) in
    let there : Swaps c.args.q.now u level v =
    swap_kept u v c.args.q.now level c.requires.stands room
    (c.in_ok-swapped.ensures.order ∙ ap (λ (d : Diagram). exchanged d.order level) same)
    (subst (λ (d : Diagram). KeepsFunctions d v.store) same c.in_ok-swapped.ensures.functions)
    (let few = c.in_ok-swapped.ensures.few in let was : held c.lend.result.now + 2 * level_nodes c.lend.result.now level ≡ held u.store + 2 * level_nodes u.store level = ap (λ (d : Diagram). held d + 2 * level_nodes d level) same in omega (arith, few, was))
    c.forget.ensures.empty (c.in_ok-swapped.ensures.limit ∙ ap (λ (d : Diagram). d.limit) same) c.forget.ensures.capacity c.cached-cached.ensures.sound in
    there.keeps
