use Rattle.std.proofs.Common.{◌≡◌, ◌∙◌, ap, drop}
use Rattle.slice_vec.specs.contracts.slices.Slices as slices
use Rattle.slice_vec.proofs.Numbers.{numbers, numbers_drop}
use Rattle.slice_vec.proofs.Parities.{shifted_by, halved}
use Rattle.slice_vec.proofs.parity.halve.Goals as goal

pub returns-clause-shifted : goal.returns-clause-shifted
returns-clause-shifted c = λ d h.
    let xs = c.args.x.now in
    let zs = slices.the_view (record { bits = c.remove.new.self }) in
    let dropped : zs ≡ drop 1 xs = ap numbers c.remove.ensures.items ∙ numbers_drop c.x.inside.bits.items ∙ ap (drop 1) c.x.view_is in
    shifted_by d xs zs h c.requires.two dropped

pub returns-clause-half : goal.returns-clause-half
returns-clause-half c = λ d h even.
    let xs = c.args.x.now in
    let zs = slices.the_view (record { bits = c.remove.new.self }) in
    let dropped : zs ≡ drop 1 xs = ap numbers c.remove.ensures.items ∙ numbers_drop c.x.inside.bits.items ∙ ap (drop 1) c.x.view_is in
    halved d xs zs c.requires.two even dropped
