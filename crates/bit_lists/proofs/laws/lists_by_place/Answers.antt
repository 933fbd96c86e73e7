use Rattle.std.proofs.Common.{◌<◌, ◌∙◌, ap, length, arith, Some, refl, []}
use Rattle.std.proofs.lemmas.Option.{slice_get-get_or}
use Rattle.bit_lists.specs.Lists.{all_lists, place_of}
use Rattle.bit_lists.proofs.Places.{length-all_lists, get_or-all_lists, place_of-below}
use Rattle.bit_lists.proofs.laws.lists_by_place.Goals as goal

pub returns-clause-count : goal.returns-clause-count
returns-clause-count c = length-all_lists

pub returns-clause-each : goal.returns-clause-each
returns-clause-each c = λ x.
    let size = length-all_lists (length x) in
    let below = place_of-below x in
    let within : place_of x < length (all_lists (length x)) = omega arith in
    slice_get-get_or (all_lists (length x)) (place_of x) [] within ∙ ap Some (get_or-all_lists (length x) x [] refl)
