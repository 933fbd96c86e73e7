use Rattle.std.proofs.Common.{◌++◌, take, flat_map}
use Rattle.snapshot.specs.Private.{Adds}
use Rattle.snapshot.proofs.TextLemmas.{place_text}
use Rattle.snapshot.proofs.saving.put_line.Given as goal

abbrev pub invariant-loop-i : goal.invariant-loop-i
invariant-loop-i l = record {
  adds : Adds l.fn.text l.text (l.word ++ flat_map (place_text l.seen.nodes) (take l.i l.x));
}
