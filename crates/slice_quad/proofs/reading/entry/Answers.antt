use Rattle.std.proofs.Common.{rules, ◌∙◌, FitsSigned, to_z, of_z}
use Rattle.std.specs.Int.{w128}
use Rattle.std.proofs.lemmas.Int.{to_z-of_z}
use Rattle.slice_quad.specs.declared.coord.Coord.TheVariants.{A, B, C, D}
use Rattle.slice_quad.proofs.Walking.{entry_as}
use Rattle.slice_quad.proofs.reading.entry.Goals as goal

pub value_at-requires-clause-stands : goal.value_at-requires-clause-stands
value_at-requires-clause-stands c = c.requires.stands.integers A

pub value_at-requires-2-clause-stands : goal.value_at-requires-2-clause-stands
value_at-requires-2-clause-stands c = c.requires.stands.integers B

pub value_at-requires-3-clause-stands : goal.value_at-requires-3-clause-stands
value_at-requires-3-clause-stands c = c.requires.stands.integers C

pub value_at-requires-4-clause-stands : goal.value_at-requires-4-clause-stands
value_at-requires-4-clause-stands c = c.requires.stands.integers D

pub returns : goal.returns
returns c =
    let fa : FitsSigned w128 c.value_at.result = search rules in
    let fb : FitsSigned w128 c.value_at-2.result = search rules in
    let fc : FitsSigned w128 c.value_at-3.result = search rules in
    let fd : FitsSigned w128 c.value_at-4.result = search rules in
    entry_as c.args.d.now.store c.args.q.now.four c.args.x.now
    (to_z w128 (of_z w128 c.value_at.result)) (to_z w128 (of_z w128 c.value_at-2.result)) (to_z w128 (of_z w128 c.value_at-3.result)) (to_z w128 (of_z w128 c.value_at-4.result))
    (to_z-of_z w128 c.value_at.result fa ∙ c.value_at.ensures) (to_z-of_z w128 c.value_at-2.result fb ∙ c.value_at-2.ensures) (to_z-of_z w128 c.value_at-3.result fc ∙ c.value_at-3.ensures) (to_z-of_z w128 c.value_at-4.result fd ∙ c.value_at-4.ensures)
