use Rattle.std.proofs.Common.{◌≡◌, ◌∙◌, ap}
use Rattle.slice_quad.specs.Fields.{numbers, roots_of}
use Rattle.step_upkeep.specs.Upkept.{functions_in}
use Rattle.step_upkeep.proofs.Keeping.{all_live, keeps_same}
use Rattle.step_upkeep.proofs.Sifted.{keeps_sifted, turns_in, all_sifted}
use Rattle.step_upkeep.proofs.upkeep.sift_to.Goals as goal

pub sift_all-requires : goal.sift_all-requires
sift_all-requires c =
    let u = c.args.d.now in let q = c.args.q.now in
    let same : c.as_slice.result.now ≡ c.in_ok-roots.roots.items = c.as_slice.ensures.value in
    let are : numbers c.as_slice.result.now ≡ roots_of q = ap numbers same ∙ c.in_ok-roots.ensures in
    all_live u.store q c.as_slice.result.now are c.requires

pub returns-in_err-roots-clause-keeps : goal.returns-in_err-roots-clause-keeps
returns-in_err-roots-clause-keeps c = keeps_same c.args.d.now c.args.q.now c.cached-cached.ensures.sound c.requires

pub returns-in_err-sifted-clause-keeps : goal.returns-in_err-sifted-clause-keeps
returns-in_err-sifted-clause-keeps c =
    let u = c.args.d.now in let q = c.args.q.now in
    let same : c.as_slice.result.now ≡ c.in_ok-roots.roots.items = c.as_slice.ensures.value in
    let are : numbers c.as_slice.result.now ≡ roots_of q = ap numbers same ∙ c.in_ok-roots.ensures in
    keeps_sifted u c.sift_all.new.d q c.as_slice.result.now are c.requires c.sift_all.ensures.roots c.sift_all.ensures.sound c.sift_all.ensures.capacity

pub returns-clause-keeps : goal.returns-clause-keeps
returns-clause-keeps c =
    let u = c.args.d.now in let q = c.args.q.now in
    let same : c.as_slice.result.now ≡ c.in_ok-roots.roots.items = c.as_slice.ensures.value in
    let are : numbers c.as_slice.result.now ≡ roots_of q = ap numbers same ∙ c.in_ok-roots.ensures in
    keeps_sifted u c.sift_all.new.d q c.as_slice.result.now are c.requires c.sift_all.ensures.roots c.sift_all.ensures.sound c.sift_all.ensures.capacity

pub returns-clause-turns : goal.returns-clause-turns
returns-clause-turns c =
    let u = c.args.d.now in let q = c.args.q.now in
    let same : c.as_slice.result.now ≡ c.in_ok-roots.roots.items = c.as_slice.ensures.value in
    let are : numbers c.as_slice.result.now ≡ roots_of q = ap numbers same ∙ c.in_ok-roots.ensures in
    turns_in u.store q c.as_slice.result.now u.store.limit u.store.order c.in_ok-sifted.sifted.items are c.in_ok-sifted.ensures.turns

pub returns-clause-order : goal.returns-clause-order
returns-clause-order c =
    let u = c.args.d.now in let q = c.args.q.now in
    let same : c.as_slice.result.now ≡ c.in_ok-roots.roots.items = c.as_slice.ensures.value in
    let are : numbers c.as_slice.result.now ≡ roots_of q = ap numbers same ∙ c.in_ok-roots.ensures in
    let rs = c.in_ok-sifted.sifted.items in
    all_sifted (functions_in u.store q) u.store.limit u.store.order c.sift_all.new.d.store.order rs c.in_ok-sifted.ensures.count
    (turns_in u.store q c.as_slice.result.now u.store.limit u.store.order rs are c.in_ok-sifted.ensures.turns) c.in_ok-sifted.ensures.order
