use Rattle.std.proofs.Common.{◌≡◌, ◌∙◌}
use Rattle.diagram_model.specs.Stores.{KeepsFunctions}
use Rattle.slice_vec.proofs.Bits.{stands_kept}
use Rattle.slice_quad.specs.Fours.{nodes_of}
use Rattle.vector_calls.proofs.states.swapped.Goals as goal

pub returns : goal.returns
returns c =
    let d = c.args.d.now.store in
    let e = c.try_swap.new.store in
    let q = c.args._q.now in
    let same : c.lend.result.now ≡ d = c.lend.ensures.value ∙ c.forget.ensures.store in
    let keeps : KeepsFunctions d e = rw same at c.try_swap.ensures.functions in
    record {
      integers = λ z. stands_kept d e (nodes_of q.four z) keeps (c.requires.stands.integers z);
      kept = keeps.live q.kept.0 c.requires.stands.kept;
    }
