use Rattle.std.proofs.Common.{◌≤◌, ◌+◌, ◌∙◌, ℕ, List, Option, length, refl, ap, arith}
use Rattle.std.proofs.lemmas.List.{length-map}
use Rattle.diagram_ops.specs.declared.node_memo.Mark.{Mark}
use Rattle.diagram_ops.specs.Marks.{counted, results_of, result_for}
use Rattle.diagram_ops.proofs.Marks.{put_here, put_others}
use Rattle.diagram_ops.proofs.node_memo.NodeMemo.add.Goals as goal

pub returns-clause-here : goal.returns-clause-here
returns-clause-here c =
    let now = c.self.inside.stamp in
    let ms = c.self.inside.marks.items in
    let m : Mark = record { stamp = now; node = c.args.node } in
    let room : c.args.n + 1 ≤ length (results_of now ms) = rw (← c.self.view_is) at c.in_ok-lengthen.ensures.room in
    put_here now ms c.args.n m (omega (arith, room, length-map ms (counted now))) refl

pub returns-clause-others : goal.returns-clause-others
returns-clause-others c i ne =
    let now = c.self.inside.stamp in
    let ms = c.self.inside.marks.items in
    let m : Mark = record { stamp = now; node = c.args.node } in
    put_others now ms c.args.n m i ne ∙ ap (λ (rs : List (Option ℕ)). result_for rs i) c.self.view_is ∙ c.lengthen.ensures.same i
