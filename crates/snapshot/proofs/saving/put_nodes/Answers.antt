use Rattle.std.proofs.Common.{◌≡◌, ◌<◌, ℕ, List, [], ◌++◌, length, drop, get_or, flat_map, ap, sym, ◌∙◌, arith}
use Rattle.std.proofs.lemmas.List.{length-map, get_or-map}
use Rattle.node_store.specs.declared.node.Node.{Node}
use Rattle.slice_quad.specs.Fields.{numbers}
use Rattle.snapshot.specs.Sheets.{node_text}
use Rattle.snapshot.specs.Private.{Refuses, line_in, lines_text}
use Rattle.snapshot.proofs.NumberingLemmas.{has_dropped}
use Rattle.snapshot.proofs.TextLemmas.{adds_nothing, adds_as, adds_more, refuses_as, refuses_more, flat_all, handed_on}
use Rattle.snapshot.proofs.saving.put_nodes.Goals as goal

pub put_node-requires-clause-there : goal.put_node-requires-clause-there
put_node-requires-clause-there c =
    let ns = c.nodes-nodes.result.now in
    let i = c.loop-n.n-index in
    let z : Node = record { 0 = 0 } in
    let at : get_or (numbers ns) i 0 ≡ (get_or ns i z).0 = get_or-map (λ (n : Node). n.0) ns i z 0 c.loop-n-test.true in
    let long : i < length (numbers ns) = omega (arith, c.loop-n-test.true, length-map ns (λ (n : Node). n.0)) in
    has_dropped c.args.seen.now.nodes (numbers ns) i (get_or ns i z).0 c.nodes-nodes.ensures.value long at

pub loop-n-init : goal.loop-n-init
loop-n-init c = record { adds = adds_nothing c.args.text.now }

pub returns-in_err-put_node-clause-stop : goal.returns-in_err-put_node-clause-stop
returns-in_err-put_node-clause-stop c =
    let d = c.args.store.now in
    let ns = c.nodes-nodes.result.now in
    let all = c.args.seen.now.nodes in
    let i = c.loop-n.n-index in
    let z : Node = record { 0 = 0 } in
    let f : ℕ → List ℕ = λ n. node_text (line_in d all n) in
    let at : get_or (numbers ns) i 0 ≡ (get_or ns i z).0 = get_or-map (λ (n : Node). n.0) ns i z 0 c.loop-n-test.true in
    let long : i < length (numbers ns) = omega (arith, c.loop-n-test.true, length-map ns (λ (n : Node). n.0)) in
    let whole = lines_text d all (drop 2 all) in
    let stop : Refuses c.args.text.now whole c.in_err-put_node.field-0.0 =
    refuses_as c.args.text.now ([] ++ flat_map f (numbers ns)) whole c.in_err-put_node.field-0.0 (ap (flat_map f) c.nodes-nodes.ensures.value)
    (refuses_more f (numbers ns) c.args.text.now c.loop-n.text [] (f (get_or ns i z).0) i 0 c.in_err-put_node.field-0.0 long c.loop-n.invariant.adds (ap f (sym at)) c.in_err-put_node.ensures.stop) in
    handed_on c.from_residual.result c.in_err-put_node.field-0.0 (Refuses c.args.text.now whole) c.from_residual.ensures.1 stop

pub loop-n-preserved : goal.loop-n-preserved
loop-n-preserved c =
    let d = c.args.store.now in
    let ns = c.nodes-nodes.result.now in
    let all = c.args.seen.now.nodes in
    let i = c.loop-n.n-index in
    let z : Node = record { 0 = 0 } in
    let f : ℕ → List ℕ = λ n. node_text (line_in d all n) in
    let at : get_or (numbers ns) i 0 ≡ (get_or ns i z).0 = get_or-map (λ (n : Node). n.0) ns i z 0 c.loop-n-test.true in
    let long : i < length (numbers ns) = omega (arith, c.loop-n-test.true, length-map ns (λ (n : Node). n.0)) in
    record { adds = adds_more f (numbers ns) c.args.text.now c.loop-n.text c.put_node.new.text [] (f (get_or ns i z).0) i 0 long c.loop-n.invariant.adds (ap f (sym at)) c.in_ok-put_node.ensures.ok }

pub returns-clause-ok : goal.returns-clause-ok
returns-clause-ok c =
    let d = c.args.store.now in
    let ns = c.nodes-nodes.result.now in
    let all = c.args.seen.now.nodes in
    let i = c.loop-n.n-index in
    let f : ℕ → List ℕ = λ n. node_text (line_in d all n) in
    let end : i ≡ length (numbers ns) = omega (arith, c.loop-n-test.false, c.loop-n.auto.n-index-end, length-map ns (λ (n : Node). n.0)) in
    adds_as c.args.text.now c.loop-n.text _ (lines_text d all (drop 2 all)) (flat_all f (numbers ns) i end ∙ ap (flat_map f) c.nodes-nodes.ensures.value) c.loop-n.invariant.adds
