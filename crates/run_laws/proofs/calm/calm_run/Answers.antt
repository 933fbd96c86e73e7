use Rattle.std.proofs.Common.{map, string_bytes, Some, refl}
use Rattle.outside.specs.Outside.{Shelf}
use Rattle.outside.specs.Memory.{Calm, text_in, place_of}
use Rattle.run_laws.proofs.CalmRuns.{calm_end}
use Rattle.run_laws.proofs.calm.calm_run.Goals as goal

pub returns-clause-reads : goal.returns-clause-reads
returns-clause-reads c =
    let shelf : Shelf Calm = record { text = λ s name. Some (text_in s.files (place_of name s.files)); faults = λ s name. 0; ready = λ s. s.ready; taken = λ s. s.taken; ended = λ s. s.ended } in
    calm_end shelf (λ s name. refl) (map string_bytes c.args.words.now) c.args.shelf.now c.run.new.shelf c.run.result.cause _ _ c.run.ensures.runs
