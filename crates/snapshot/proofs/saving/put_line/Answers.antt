use Rattle.std.proofs.Common.{◌≡◌, ◌<◌, [], ◌++◌, length, take, flat_map, codes, decimal, ap, sym, ◌∙◌, arith, append-nil}
use Rattle.slice_vec.specs.Slices.{sign_node}
use Rattle.snapshot.specs.Sheets.{list_text, bits_line}
use Rattle.snapshot.specs.Private.{Adds, Refuses, places_in}
use Rattle.snapshot.proofs.TextLemmas.{place_text, list_places, adds_as, adds_then, adds_more, refuses_as, refuses_first, refuses_then, refuses_more, flat_all, handed_on}
use Rattle.snapshot.proofs.saving.put_line.Goals as goal

pub returns-in_err-put-clause-stop : goal.returns-in_err-put-clause-stop
unfolding bits_line
returns-in_err-put-clause-stop c =
    let w = c.args.word.now in
    let t = list_text (places_in c.args.seen.now.nodes c.args.x.now) in
    let x = c.in_err-put.field-0.0 in
    handed_on c.from_residual.result x (Refuses c.args.text.now (bits_line w (places_in c.args.seen.now.nodes c.args.x.now))) c.from_residual.ensures.1
    (refuses_first c.args.text.now (w ++ t) (codes "\n") x (refuses_first c.args.text.now w t x c.in_err-put.ensures.stop))

pub returns-in_err-put_number-clause-stop : goal.returns-in_err-put_number-clause-stop
unfolding bits_line place_text
returns-in_err-put_number-clause-stop c =
    let ns = c.args.seen.now.nodes in
    let xs = c.args.x.now in
    let w = c.args.word.now in
    let i = c.loop-i.i in
    let x = c.in_err-put_number.field-0.0 in
    let long : i < length xs = omega (arith, c.loop-i-test.true, c.width-i-end.ensures) in
    let whole = w ++ list_text (places_in ns xs) in
    handed_on c.from_residual-in_err-put_number.result x (Refuses c.args.text.now (bits_line w (places_in ns xs))) c.from_residual-in_err-put_number.ensures.1
    (refuses_first c.args.text.now whole (codes "\n") x
    (refuses_as c.args.text.now (w ++ flat_map (place_text ns) xs) whole x (ap (λ l. w ++ l) (sym (list_places ns xs)))
    (refuses_more (place_text ns) xs c.args.text.now c.loop-i.text w (codes " " ++ decimal c.number.result) i (sign_node xs) x long c.loop-i.invariant.adds (ap (λ n. codes " " ++ decimal n) c.number.ensures ∙ ap (place_text ns) c.bit.ensures) c.in_err-put_number.ensures.stop)))

pub loop-i-init : goal.loop-i-init
loop-i-init c = record { adds = adds_as c.args.text.now c.put.new.self c.args.word.now (c.args.word.now ++ []) (sym (append-nil c.args.word.now)) c.in_ok-put.ensures.ok }

pub loop-i-preserved : goal.loop-i-preserved
unfolding place_text
loop-i-preserved c =
    let ns = c.args.seen.now.nodes in
    let xs = c.args.x.now in
    let w = c.args.word.now in
    let i = c.loop-i.i in
    let long : i < length xs = omega (arith, c.loop-i-test.true, c.width-i-end.ensures) in
    record { adds = adds_more (place_text ns) xs c.args.text.now c.loop-i.text c.put_number.new.text w (codes " " ++ decimal c.number.result) i (sign_node xs) long c.loop-i.invariant.adds (ap (λ n. codes " " ++ decimal n) c.number.ensures ∙ ap (place_text ns) c.bit.ensures) c.in_ok-put_number.ensures.ok }

pub returns-in_err-put-2-clause-stop : goal.returns-in_err-put-2-clause-stop
unfolding bits_line
returns-in_err-put-2-clause-stop c =
    let ns = c.args.seen.now.nodes in
    let xs = c.args.x.now in
    let w = c.args.word.now in
    let x = c.in_err-put-2.field-0.0 in
    let end : c.loop-i.i ≡ length xs = omega (arith, c.loop-i-test.false, c.loop-i.auto.i-end, c.width-i-end.ensures) in
    let so_far : Adds c.args.text.now c.loop-i.text (w ++ list_text (places_in ns xs)) =
    adds_as c.args.text.now c.loop-i.text (w ++ flat_map (place_text ns) (take c.loop-i.i xs)) (w ++ list_text (places_in ns xs)) (ap (λ l. w ++ l) (flat_all (place_text ns) xs c.loop-i.i end ∙ sym (list_places ns xs))) c.loop-i.invariant.adds in
    handed_on c.from_residual-in_err-put-2.result x (Refuses c.args.text.now (bits_line w (places_in ns xs))) c.from_residual-in_err-put-2.ensures.1
    (refuses_then c.args.text.now c.loop-i.text (w ++ list_text (places_in ns xs)) (codes "\n") x so_far c.in_err-put-2.ensures.stop)

pub returns-clause-ok : goal.returns-clause-ok
unfolding bits_line
returns-clause-ok c =
    let ns = c.args.seen.now.nodes in
    let xs = c.args.x.now in
    let w = c.args.word.now in
    let end : c.loop-i.i ≡ length xs = omega (arith, c.loop-i-test.false, c.loop-i.auto.i-end, c.width-i-end.ensures) in
    let so_far : Adds c.args.text.now c.loop-i.text (w ++ list_text (places_in ns xs)) =
    adds_as c.args.text.now c.loop-i.text (w ++ flat_map (place_text ns) (take c.loop-i.i xs)) (w ++ list_text (places_in ns xs)) (ap (λ l. w ++ l) (flat_all (place_text ns) xs c.loop-i.i end ∙ sym (list_places ns xs))) c.loop-i.invariant.adds in
    adds_then c.args.text.now c.loop-i.text c.put-2.new.self (w ++ list_text (places_in ns xs)) (codes "\n") so_far c.in_ok-put-2.ensures.ok
