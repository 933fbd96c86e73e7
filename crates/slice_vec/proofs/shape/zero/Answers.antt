use Rattle.std.proofs.Common.{◌∙◌, ap}
use Rattle.slice_vec.proofs.Numbers.{numbers, numbers_of}
use Rattle.slice_vec.proofs.Zeros.{zero_stands, zero_values}
use Rattle.slice_vec.proofs.shape.zero.Goals as goal

pub returns-clause-bits : goal.returns-clause-bits
returns-clause-bits c = ap numbers (c.in_ok-vec.ensures.items_if_clones_equal (λ y e. e)) ∙ numbers_of c.args.width (record { 0 = 0 })

pub returns-clause-stands : goal.returns-clause-stands
returns-clause-stands c = λ d. zero_stands d c.args.width (numbers c.in_ok-vec.field-0.items) (returns-clause-bits c) c.requires.some c.requires.few

pub returns-clause-values : goal.returns-clause-values
returns-clause-values c = λ d x s. zero_values d c.args.width (numbers c.in_ok-vec.field-0.items) x (returns-clause-bits c) c.requires.some s
