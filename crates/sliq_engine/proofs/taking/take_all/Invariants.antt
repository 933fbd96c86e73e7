use Rattle.std.proofs.Common.{◌≡◌, ◌≤◌, ◌+◌, [], All, take, length, map, string_bytes, vec_len, Ok}
use Rattle.outside.specs.Outside.{SameTexts, NoneFalls}
use Rattle.sliq_engine.specs.Taking.{Takes}
use Rattle.sliq_engine.specs.Private.{bytes_of}
use Rattle.sliq_engine.proofs.taking.take_all.Given as goal

-- the files before this one were taken
abbrev pub invariant-files : goal.invariant-files
invariant-files g l =
    let s = g.S.Shelf in
    record {
      takes : Takes (record { text = s.text; faults = s.faults; ready = s.ready; taken = s.taken; ended = s.ended }) 1 (map string_bytes (take l.name-index l.files)) l.fn.shelf l.shelf (Ok (bytes_of l.texts.items));
      number : l.file ≡ l.name-index + 1;
      count : vec_len l.texts ≡ l.name-index;
      short : All (λ text. length text ≤ 16777216) (bytes_of l.texts.items);
      untouched : l.files ≡ [] → l.shelf ≡ l.fn.shelf;
      texts : SameTexts (s.text l.fn.shelf) (s.text l.shelf);
      counts : NoneFalls (s.faults l.fn.shelf) (s.faults l.shelf);
    }
