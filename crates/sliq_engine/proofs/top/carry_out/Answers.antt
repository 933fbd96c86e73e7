use Rattle.std.proofs.Common.{◌≡◌, ℕ, List, Vec, Global, Ok, Err, map, string_bytes, ap, subst}
use Rattle.sliq_words.specs.Asked.{Request, request_of}
use Rattle.causes.specs.declared.cause.Cause.{Cause}
use Rattle.causes.specs.declared.cause.Cause.TheVariants.{Done}
use Rattle.outside.specs.Outside.{Shelf}
use Rattle.sliq_engine.specs.Taking.{Takes}
use Rattle.sliq_engine.specs.Comes.{CarriesOut}
use Rattle.sliq_engine.specs.Ending.{MayEnd, MayStopBy}
use Rattle.sliq_engine.specs.Private.{bytes_of}
use Rattle.sliq_engine.proofs.RunLemmas.{run_bad, run_untaken, run_taken}
use Rattle.sliq_engine.proofs.top.carry_out.Goals as goal

pub returns-in-Err-Bad-clause-runs : goal.returns-in-Err-Bad-clause-runs
returns-in-Err-Bad-clause-runs g c =
    run_bad _ (map string_bytes c.args.words.now) c.args.shelf.now (g.K.Sink.written c.args.out.now) (c.in-Err-Bad.ensures.bad (ap (λ s. Err s) c.in-Err-Bad.field-0-is))

pub returns-in-Err-clause-runs : goal.returns-in-Err-clause-runs
returns-in-Err-clause-runs g c =
    let s = g.S.Shelf in
    let shelf : Shelf g.row.S.Denot = record { text = s.text; faults = s.faults; ready = s.ready; taken = s.taken; ended = s.ended } in
    let asked : Request = request_of c.in-Ok.asked in
    let cause : Cause = c.in-Err.cause in
    let names : map string_bytes c.as_slice.result.now ≡ asked.files = ap (map string_bytes) c.as_slice.ensures.value in
    let stop : MayStopBy (Takes shelf 1 asked.files c.args.shelf.now c.take_all.new.shelf) cause =
    subst (λ (fs : List (List ℕ)). MayStopBy (Takes shelf 1 fs c.args.shelf.now c.take_all.new.shelf) cause) names c.in-Err.ensures.stop in
    run_untaken shelf (map string_bytes c.args.words.now) asked c.args.shelf.now c.take_all.new.shelf c.in-Ok.ensures.reads cause (g.K.Sink.written c.args.out.now) stop

pub returns-in-Ok-perform-clause-runs : goal.returns-in-Ok-perform-clause-runs
returns-in-Ok-perform-clause-runs g c =
    let s = g.S.Shelf in
    let shelf : Shelf g.row.S.Denot = record { text = s.text; faults = s.faults; ready = s.ready; taken = s.taken; ended = s.ended } in
    let asked : Request = request_of c.in-Ok.asked in
    let texts : List (List ℕ) = bytes_of c.in-Ok-take_all.texts.items in
    let names : map string_bytes c.as_slice.result.now ≡ asked.files = ap (map string_bytes) c.as_slice.ensures.value in
    let takes : Takes shelf 1 asked.files c.args.shelf.now c.take_all.new.shelf (Ok texts) =
    subst (λ (fs : List (List ℕ)). Takes shelf 1 fs c.args.shelf.now c.take_all.new.shelf (Ok texts)) names c.in-Ok-take_all.ensures.takes in
    let P : List (Vec ℕ Global) → Type 0 = λ l. MayEnd (CarriesOut asked.task asked.rules (bytes_of l)) Done (g.K.Sink.written c.args.out.now) (g.K.Sink.written c.perform.new.out) in
    run_taken shelf (map string_bytes c.args.words.now) asked c.args.shelf.now c.take_all.new.shelf c.in-Ok.ensures.reads texts Done (g.K.Sink.written c.args.out.now) (g.K.Sink.written c.perform.new.out)
    takes (subst P c.as_slice-2.ensures.value c.in-Ok-perform.ensures.done)

pub returns-clause-runs : goal.returns-clause-runs
returns-clause-runs g c =
    let s = g.S.Shelf in
    let shelf : Shelf g.row.S.Denot = record { text = s.text; faults = s.faults; ready = s.ready; taken = s.taken; ended = s.ended } in
    let asked : Request = request_of c.in-Ok.asked in
    let cause : Cause = c.in-Err-perform.cause in
    let texts : List (List ℕ) = bytes_of c.in-Ok-take_all.texts.items in
    let names : map string_bytes c.as_slice.result.now ≡ asked.files = ap (map string_bytes) c.as_slice.ensures.value in
    let takes : Takes shelf 1 asked.files c.args.shelf.now c.take_all.new.shelf (Ok texts) =
    subst (λ (fs : List (List ℕ)). Takes shelf 1 fs c.args.shelf.now c.take_all.new.shelf (Ok texts)) names c.in-Ok-take_all.ensures.takes in
    let P : List (Vec ℕ Global) → Type 0 = λ l. MayEnd (CarriesOut asked.task asked.rules (bytes_of l)) cause (g.K.Sink.written c.args.out.now) (g.K.Sink.written c.perform.new.out) in
    run_taken shelf (map string_bytes c.args.words.now) asked c.args.shelf.now c.take_all.new.shelf c.in-Ok.ensures.reads texts cause (g.K.Sink.written c.args.out.now) (g.K.Sink.written c.perform.new.out)
    takes (subst P c.as_slice-2.ensures.value c.in-Err-perform.ensures.stop)
