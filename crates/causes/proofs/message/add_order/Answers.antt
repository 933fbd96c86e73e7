use Rattle.std.proofs.Common.{rules, ◌≡◌, ◌<◌, length, arith}
use Rattle.causes.proofs.MessageLemmas.{one_variable, all_variables}
use Rattle.causes.proofs.message.add_order.Goals as goal

pub places-preserved : goal.places-preserved
places-preserved c =
    let order = c.args.order.now in
    let i = c.places.place in
    let so_far = c.places.invariant in
    let within : i < length order = search rules in
    record {
      text = one_variable order i c.at.result c.args.line.now c.places.line c.add_variable.new.line within c.at.ensures so_far.text c.add_variable.ensures.text;
      short = omega (arith, so_far.short, c.add_variable.ensures.short);
    }

pub returns-clause-text : goal.returns-clause-text
returns-clause-text c =
    let all : c.places.place ≡ length c.args.order.now = search rules in
    all_variables c.args.order.now c.places.place c.args.line.now c.places.line all c.places.invariant.text

pub add_variable-requires : goal.add_variable-requires
add_variable-requires c =
    let within : c.places.place < length c.args.order.now = search rules in
    omega (arith, within, c.places.invariant.short, c.requires, c.len-place-end.ensures.value, c.len-place-end.ensures.few)

pub returns-clause-short : goal.returns-clause-short
returns-clause-short c =
    let all : c.places.place ≡ length c.args.order.now = search rules in
    omega (arith, all, c.places.invariant.short, c.len-place-end.ensures.value, c.len-place-end.ensures.few)
