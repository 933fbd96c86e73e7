use Rattle.std.proofs.Common.{rules, ◌≡◌, ◌≤◌, ◌<◌, ◌∷◌, ◌++◌, [], ℕ, List, Err, Vec, Global, length, string_bytes, ◌∙◌, ap, subst, arith}
use Rattle.std.proofs.lemmas.List.{map-append}
use Rattle.std.proofs.lemmas.List.Elements.{All-append, All-cons, All-nil}
use Rattle.causes.specs.declared.cause.Cause.{Cause}
use Rattle.sliq_engine.specs.Private.{bytes_of}
use Rattle.outside.specs.Outside.{Shelf}
use Rattle.sliq_engine.specs.Taking.{Took, TakesFile}
use Rattle.sliq_engine.specs.Ending.{MayStopBy}
use Rattle.sliq_engine.proofs.TakingLemmas.{taken_on, taking_stops}
use Rattle.sliq_engine.proofs.taking.take_all.Goals as goal

pub returns-in_err-text-clause-stop : goal.returns-in_err-text-clause-stop
returns-in_err-text-clause-stop g c =
    let s = g.S.Shelf in
    let shelf : Shelf g.row.S.Denot = record { text = s.text; faults = s.faults; ready = s.ready; taken = s.taken; ended = s.ended } in
    let files = c.args.files.now in
    let i = c.files.name-index in
    let cause : Cause = c.in_err-text.field-0.0 in
    let within : i < length files = search rules in
    let told : c.from_residual.result ≡ Err cause = search rules in
    let stops : MayStopBy (TakesFile shelf c.files.file (string_bytes c.name-item.result) c.files.shelf c.take.new.shelf) cause =
    subst (λ (n : List ℕ). MayStopBy (TakesFile shelf c.files.file n c.files.shelf c.take.new.shelf) cause) c.deref.ensures c.in_err-text.ensures.stop in
    rw told (taking_stops shelf string_bytes files i c.name-item.result within c.name-item.is c.args.shelf.now c.files.shelf c.take.new.shelf (bytes_of c.files.texts.items) c.files.file cause c.files.invariant.takes c.files.invariant.number stops)

pub files-preserved : goal.files-preserved
files-preserved g c =
    let s = g.S.Shelf in
    let shelf : Shelf g.row.S.Denot = record { text = s.text; faults = s.faults; ready = s.ready; taken = s.taken; ended = s.ended } in
    let files = c.args.files.now in
    let i = c.files.name-index in
    let within : i < length files = search rules in
    let so_far = c.files.invariant in
    let text = c.in_ok-text.text in
    let pushed : c.push.new.self.items ≡ c.files.texts.items ++ text ∷ [] = search rules in
    let bytes : bytes_of c.push.new.self.items ≡ bytes_of c.files.texts.items ++ text.items ∷ [] =
    ap bytes_of pushed ∙ map-append (λ (v : Vec ℕ Global). v.items) c.files.texts.items (text ∷ []) in
    let took : Took shelf (string_bytes c.name-item.result) text.items c.files.shelf c.take.new.shelf =
    subst (λ (n : List ℕ). Took shelf n text.items c.files.shelf c.take.new.shelf) c.deref.ensures c.in_ok-text.ensures.takes in
    let Short : List ℕ → Type 0 = λ t. length t ≤ 16777216 in
    record {
      takes = rw bytes (taken_on shelf string_bytes files i c.name-item.result within c.name-item.is c.args.shelf.now c.files.shelf c.take.new.shelf (bytes_of c.files.texts.items) text.items so_far.takes took);
      number = search rules;
      count = search rules;
      short = rw bytes (All-append Short (bytes_of c.files.texts.items) (text.items ∷ []) so_far.short (All-cons Short text.items [] took.short (All-nil Short)));
      untouched = λ none. absurd (let empty = ap length none in omega (arith, empty, within));
      texts = search rules;
      counts = search rules;
    }

pub returns-in_err-text-clause-untouched : goal.returns-in_err-text-clause-untouched
returns-in_err-text-clause-untouched g c = λ none. absurd (let within : c.files.name-index < length c.args.files.now = search rules in let empty = ap length none in omega (arith, empty, within))
