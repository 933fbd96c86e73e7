use Rattle.std.proofs.Common.{ap, sym, ◌∙◌, [], get_or, replicate, false}
use Rattle.std.proofs.lemmas.List.{length-replicate}
use Rattle.bit_lists.specs.Lists.{all_lists}
use Rattle.bit_lists.proofs.Places.{get_or-all_lists, place_of-zeros}
use Rattle.bit_lists.proofs.bits.Bits.zeros.Goals as goal

pub returns : goal.returns
returns c =
    let n = c.args.len in
    ap (λ p. get_or (all_lists n) p []) (sym (place_of-zeros n)) ∙ get_or-all_lists n (replicate n false) [] (length-replicate n false)
