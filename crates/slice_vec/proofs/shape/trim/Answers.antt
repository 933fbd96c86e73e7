use Rattle.std.proofs.Common.{◌≡◌, ◌∙◌, ap, sym, take, length}
use Rattle.slice_vec.specs.contracts.slices.Slices as slices
use Rattle.slice_vec.specs.Slices.{IsSame, IsFewest}
use Rattle.slice_vec.proofs.Numbers.{numbers, numbers_take}
use Rattle.slice_vec.proofs.Trims.{trimmed_length, trimmed_same, trimmed_fewest}
use Rattle.slice_vec.proofs.shape.trim.Goals as goal

pub returns-clause-kept : goal.returns-clause-kept
returns-clause-kept c =
    let xs = c.args.x.now in
    let w = c.trimmed_width-width.result in
    let zs = slices.the_view (record { bits = c.truncate.new.self }) in
    let cut : zs ≡ take w xs = ap numbers c.truncate.ensures.items ∙ numbers_take w c.x.inside.bits.items ∙ ap (take w) c.x.view_is in
    cut ∙ ap (λ k. take k xs) (sym (ap length cut ∙ trimmed_length xs w c.requires.some c.trimmed_width-width.ensures))

pub returns-clause-same : goal.returns-clause-same
returns-clause-same c = λ d h.
    let xs = c.args.x.now in
    let w = c.trimmed_width-width.result in
    let zs = slices.the_view (record { bits = c.truncate.new.self }) in
    let cut : zs ≡ take w xs = ap numbers c.truncate.ensures.items ∙ numbers_take w c.x.inside.bits.items ∙ ap (take w) c.x.view_is in
    let same : IsSame d xs zs = rw cut (trimmed_same xs w c.requires.some c.trimmed_width-width.ensures d h) in
    same

pub returns-clause-fewest : goal.returns-clause-fewest
returns-clause-fewest c = λ d s h.
    let xs = c.args.x.now in
    let w = c.trimmed_width-width.result in
    let zs = slices.the_view (record { bits = c.truncate.new.self }) in
    let cut : zs ≡ take w xs = ap numbers c.truncate.ensures.items ∙ numbers_take w c.x.inside.bits.items ∙ ap (take w) c.x.view_is in
    let fewest : IsFewest d zs = rw cut (trimmed_fewest xs w c.requires.some c.trimmed_width-width.ensures d s h) in
    fewest
