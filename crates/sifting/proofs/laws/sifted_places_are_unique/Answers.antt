use Rattle.sifting.proofs.PlaceLemmas.{only_place}
use Rattle.sifting.proofs.laws.sifted_places_are_unique.Goals as goal

pub returns : goal.returns
returns c = only_place
