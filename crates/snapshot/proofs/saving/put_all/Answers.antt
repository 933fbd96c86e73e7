use Rattle.std.proofs.Common.{◌≡◌, ◌++◌, length, drop, ap, sym, ◌∙◌}
use Rattle.std.proofs.lemmas.List.{length-map}
use Rattle.node_store.specs.declared.node.Node.{Node}
use Rattle.snapshot.specs.Sheets.{head_text, bits_text}
use Rattle.snapshot.specs.Snapshots.{snapshot_of, snapshot_text}
use Rattle.snapshot.specs.Private.{Refuses, lines_text, places_in}
use Rattle.snapshot.proofs.TextLemmas.{adds_then, adds_as, refuses_as, refuses_first, refuses_then, handed_on}
use Rattle.snapshot.proofs.Whole.{whole_text}
use Rattle.snapshot.proofs.saving.put_all.Goals as goal

pub put_bits-requires-clause-there : goal.put_bits-requires-clause-there
put_bits-requires-clause-there c = c.requires.there

pub put_bits-requires-clause-some : goal.put_bits-requires-clause-some
put_bits-requires-clause-some c = λ z. (c.requires.stands.integers z).some

pub returns-in_err-put_head-clause-stop : goal.returns-in_err-put_head-clause-stop
returns-in_err-put_head-clause-stop c =
    let d = c.args.store.now in
    let q = c.args.q.now in
    let ns = c.args.seen.now.nodes in
    let t0 = c.args.text.now in
    let count = length c.nodes.result.now in
    let head = head_text c.order-order.result q.exponent c.width-width.result count in
    let lines = lines_text d ns (drop 2 ns) in
    let rest = bits_text (places_in ns q.four.a) (places_in ns q.four.b) (places_in ns q.four.c) (places_in ns q.four.d) in
    let counted : count ≡ length (drop 2 ns) = sym (length-map c.nodes.result.now (λ (n : Node). n.0)) ∙ ap length c.nodes.ensures.value in
    let is : head ++ lines ++ rest ≡ snapshot_text (snapshot_of d q) = whole_text d q ns c.order-order.result c.width-width.result count c.requires.kept.sound c.requires.stands c.requires.kept.live c.requires.numbered c.order-order.ensures c.width-width.ensures counted in
    let x = c.in_err-put_head.field-0.0 in
    handed_on c.from_residual.result x (Refuses t0 (snapshot_text (snapshot_of d q))) c.from_residual.ensures.1
    (refuses_as t0 (head ++ lines ++ rest) (snapshot_text (snapshot_of d q)) x is (refuses_first t0 (head ++ lines) rest x (refuses_first t0 head lines x c.in_err-put_head.ensures.stop)))

pub returns-in_err-put_nodes-clause-stop : goal.returns-in_err-put_nodes-clause-stop
returns-in_err-put_nodes-clause-stop c =
    let d = c.args.store.now in
    let q = c.args.q.now in
    let ns = c.args.seen.now.nodes in
    let t0 = c.args.text.now in
    let count = length c.nodes.result.now in
    let head = head_text c.order-order.result q.exponent c.width-width.result count in
    let lines = lines_text d ns (drop 2 ns) in
    let rest = bits_text (places_in ns q.four.a) (places_in ns q.four.b) (places_in ns q.four.c) (places_in ns q.four.d) in
    let counted : count ≡ length (drop 2 ns) = sym (length-map c.nodes.result.now (λ (n : Node). n.0)) ∙ ap length c.nodes.ensures.value in
    let is : head ++ lines ++ rest ≡ snapshot_text (snapshot_of d q) = whole_text d q ns c.order-order.result c.width-width.result count c.requires.kept.sound c.requires.stands c.requires.kept.live c.requires.numbered c.order-order.ensures c.width-width.ensures counted in
    let x = c.in_err-put_nodes.field-0.0 in
    handed_on c.from_residual-in_err-put_nodes.result x (Refuses t0 (snapshot_text (snapshot_of d q))) c.from_residual-in_err-put_nodes.ensures.1
    (refuses_as t0 (head ++ lines ++ rest) (snapshot_text (snapshot_of d q)) x is (refuses_first t0 (head ++ lines) rest x (refuses_then t0 c.put_head.new.text head lines x c.in_ok-put_head.ensures.ok c.in_err-put_nodes.ensures.stop)))

pub returns-in_err-put_bits-clause-stop : goal.returns-in_err-put_bits-clause-stop
returns-in_err-put_bits-clause-stop c =
    let d = c.args.store.now in
    let q = c.args.q.now in
    let ns = c.args.seen.now.nodes in
    let t0 = c.args.text.now in
    let count = length c.nodes.result.now in
    let head = head_text c.order-order.result q.exponent c.width-width.result count in
    let lines = lines_text d ns (drop 2 ns) in
    let rest = bits_text (places_in ns q.four.a) (places_in ns q.four.b) (places_in ns q.four.c) (places_in ns q.four.d) in
    let counted : count ≡ length (drop 2 ns) = sym (length-map c.nodes.result.now (λ (n : Node). n.0)) ∙ ap length c.nodes.ensures.value in
    let is : head ++ lines ++ rest ≡ snapshot_text (snapshot_of d q) = whole_text d q ns c.order-order.result c.width-width.result count c.requires.kept.sound c.requires.stands c.requires.kept.live c.requires.numbered c.order-order.ensures c.width-width.ensures counted in
    let x = c.in_err-put_bits.field-0.0 in
    handed_on c.from_residual-in_err-put_bits.result x (Refuses t0 (snapshot_text (snapshot_of d q))) c.from_residual-in_err-put_bits.ensures.1
    (refuses_as t0 (head ++ lines ++ rest) (snapshot_text (snapshot_of d q)) x is (refuses_then t0 c.put_nodes.new.text (head ++ lines) rest x (adds_then t0 c.put_head.new.text c.put_nodes.new.text head lines c.in_ok-put_head.ensures.ok c.in_ok-put_nodes.ensures.ok) c.in_err-put_bits.ensures.stop))

pub returns-clause-ok : goal.returns-clause-ok
returns-clause-ok c =
    let d = c.args.store.now in
    let q = c.args.q.now in
    let ns = c.args.seen.now.nodes in
    let t0 = c.args.text.now in
    let count = length c.nodes.result.now in
    let head = head_text c.order-order.result q.exponent c.width-width.result count in
    let lines = lines_text d ns (drop 2 ns) in
    let rest = bits_text (places_in ns q.four.a) (places_in ns q.four.b) (places_in ns q.four.c) (places_in ns q.four.d) in
    let counted : count ≡ length (drop 2 ns) = sym (length-map c.nodes.result.now (λ (n : Node). n.0)) ∙ ap length c.nodes.ensures.value in
    let is : head ++ lines ++ rest ≡ snapshot_text (snapshot_of d q) = whole_text d q ns c.order-order.result c.width-width.result count c.requires.kept.sound c.requires.stands c.requires.kept.live c.requires.numbered c.order-order.ensures c.width-width.ensures counted in
    adds_as t0 c.put_bits.new.text (head ++ lines ++ rest) (snapshot_text (snapshot_of d q)) is
    (adds_then t0 c.put_nodes.new.text c.put_bits.new.text (head ++ lines) rest (adds_then t0 c.put_head.new.text c.put_nodes.new.text head lines c.in_ok-put_head.ensures.ok c.in_ok-put_nodes.ensures.ok) c.in_ok-put_bits.ensures.ok)
