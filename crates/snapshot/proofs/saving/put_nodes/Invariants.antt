use Rattle.std.proofs.Common.{◌++◌, take, flat_map, []}
use Rattle.slice_quad.specs.Fields.{numbers}
use Rattle.snapshot.specs.Sheets.{node_text}
use Rattle.snapshot.specs.Private.{Adds, line_in}
use Rattle.snapshot.proofs.saving.put_nodes.Given as goal

abbrev pub invariant-loop-n : goal.invariant-loop-n
invariant-loop-n l = record {
  adds : Adds l.fn.text l.text ([] ++ flat_map (λ n. node_text (line_in l.store l.seen.nodes n)) (take l.n-index (numbers l.nodes)));
}
