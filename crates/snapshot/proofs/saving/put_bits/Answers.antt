use Rattle.std.proofs.Common.{◌++◌, codes}
use Rattle.slice_quad.specs.declared.coord.Coord.TheVariants.{A, B, C, D}
use Rattle.snapshot.specs.Sheets.{bits_line, bits_text}
use Rattle.snapshot.specs.Private.{Refuses, places_in}
use Rattle.snapshot.proofs.TextLemmas.{adds_then, five_1, five_2, five_3, five_4, five_5, handed_on}
use Rattle.snapshot.proofs.saving.put_bits.Goals as goal

pub put_line-requires-clause-there : goal.put_line-requires-clause-there
put_line-requires-clause-there c = c.requires.there A

pub put_line-requires-clause-some : goal.put_line-requires-clause-some
put_line-requires-clause-some c = c.requires.some A

pub put_line-requires-2-clause-there : goal.put_line-requires-2-clause-there
put_line-requires-2-clause-there c = c.requires.there B

pub put_line-requires-2-clause-some : goal.put_line-requires-2-clause-some
put_line-requires-2-clause-some c = c.requires.some B

pub put_line-requires-3-clause-there : goal.put_line-requires-3-clause-there
put_line-requires-3-clause-there c = c.requires.there C

pub put_line-requires-3-clause-some : goal.put_line-requires-3-clause-some
put_line-requires-3-clause-some c = c.requires.some C

pub put_line-requires-4-clause-there : goal.put_line-requires-4-clause-there
put_line-requires-4-clause-there c = c.requires.there D

pub put_line-requires-4-clause-some : goal.put_line-requires-4-clause-some
put_line-requires-4-clause-some c = c.requires.some D

pub returns-in_err-put_line-clause-stop : goal.returns-in_err-put_line-clause-stop
unfolding bits_text
returns-in_err-put_line-clause-stop c =
    let ns = c.args.seen.now.nodes in
    let q = c.args.q.now in
    let t0 = c.args.text.now in
    let la = bits_line (codes "a") (places_in ns q.a) in
    let lb = bits_line (codes "b") (places_in ns q.b) in
    let lc = bits_line (codes "c") (places_in ns q.c) in
    let ld = bits_line (codes "d") (places_in ns q.d) in
    let le = codes "end\n" in
    let x = c.in_err-put_line.field-0.0 in
    handed_on c.from_residual.result x (Refuses t0 (bits_text (places_in ns q.a) (places_in ns q.b) (places_in ns q.c) (places_in ns q.d))) c.from_residual.ensures.1 (five_1 t0 t0 la lb lc ld le x c.in_err-put_line.ensures.stop)

pub returns-in_err-put_line-2-clause-stop : goal.returns-in_err-put_line-2-clause-stop
unfolding bits_text
returns-in_err-put_line-2-clause-stop c =
    let ns = c.args.seen.now.nodes in
    let q = c.args.q.now in
    let t0 = c.args.text.now in
    let la = bits_line (codes "a") (places_in ns q.a) in
    let lb = bits_line (codes "b") (places_in ns q.b) in
    let lc = bits_line (codes "c") (places_in ns q.c) in
    let ld = bits_line (codes "d") (places_in ns q.d) in
    let le = codes "end\n" in
    let x = c.in_err-put_line-2.field-0.0 in
    handed_on c.from_residual-in_err-put_line-2.result x (Refuses t0 (bits_text (places_in ns q.a) (places_in ns q.b) (places_in ns q.c) (places_in ns q.d))) c.from_residual-in_err-put_line-2.ensures.1 (five_2 t0 c.put_line.new.text la lb lc ld le x c.in_ok-put_line.ensures.ok c.in_err-put_line-2.ensures.stop)

pub returns-in_err-put_line-3-clause-stop : goal.returns-in_err-put_line-3-clause-stop
unfolding bits_text
returns-in_err-put_line-3-clause-stop c =
    let ns = c.args.seen.now.nodes in
    let q = c.args.q.now in
    let t0 = c.args.text.now in
    let la = bits_line (codes "a") (places_in ns q.a) in
    let lb = bits_line (codes "b") (places_in ns q.b) in
    let lc = bits_line (codes "c") (places_in ns q.c) in
    let ld = bits_line (codes "d") (places_in ns q.d) in
    let le = codes "end\n" in
    let x = c.in_err-put_line-3.field-0.0 in
    handed_on c.from_residual-in_err-put_line-3.result x (Refuses t0 (bits_text (places_in ns q.a) (places_in ns q.b) (places_in ns q.c) (places_in ns q.d))) c.from_residual-in_err-put_line-3.ensures.1 (five_3 t0 c.put_line-2.new.text la lb lc ld le x (adds_then t0 c.put_line.new.text c.put_line-2.new.text (la) lb c.in_ok-put_line.ensures.ok c.in_ok-put_line-2.ensures.ok) c.in_err-put_line-3.ensures.stop)

pub returns-in_err-put_line-4-clause-stop : goal.returns-in_err-put_line-4-clause-stop
unfolding bits_text
returns-in_err-put_line-4-clause-stop c =
    let ns = c.args.seen.now.nodes in
    let q = c.args.q.now in
    let t0 = c.args.text.now in
    let la = bits_line (codes "a") (places_in ns q.a) in
    let lb = bits_line (codes "b") (places_in ns q.b) in
    let lc = bits_line (codes "c") (places_in ns q.c) in
    let ld = bits_line (codes "d") (places_in ns q.d) in
    let le = codes "end\n" in
    let x = c.in_err-put_line-4.field-0.0 in
    handed_on c.from_residual-in_err-put_line-4.result x (Refuses t0 (bits_text (places_in ns q.a) (places_in ns q.b) (places_in ns q.c) (places_in ns q.d))) c.from_residual-in_err-put_line-4.ensures.1 (five_4 t0 c.put_line-3.new.text la lb lc ld le x (adds_then t0 c.put_line-2.new.text c.put_line-3.new.text (la ++ lb) lc (adds_then t0 c.put_line.new.text c.put_line-2.new.text (la) lb c.in_ok-put_line.ensures.ok c.in_ok-put_line-2.ensures.ok) c.in_ok-put_line-3.ensures.ok) c.in_err-put_line-4.ensures.stop)

pub returns-in_err-put-clause-stop : goal.returns-in_err-put-clause-stop
unfolding bits_text
returns-in_err-put-clause-stop c =
    let ns = c.args.seen.now.nodes in
    let q = c.args.q.now in
    let t0 = c.args.text.now in
    let la = bits_line (codes "a") (places_in ns q.a) in
    let lb = bits_line (codes "b") (places_in ns q.b) in
    let lc = bits_line (codes "c") (places_in ns q.c) in
    let ld = bits_line (codes "d") (places_in ns q.d) in
    let le = codes "end\n" in
    let x = c.in_err-put.field-0.0 in
    handed_on c.from_residual-in_err-put.result x (Refuses t0 (bits_text (places_in ns q.a) (places_in ns q.b) (places_in ns q.c) (places_in ns q.d))) c.from_residual-in_err-put.ensures.1 (five_5 t0 c.put_line-4.new.text la lb lc ld le x (adds_then t0 c.put_line-3.new.text c.put_line-4.new.text (la ++ lb ++ lc) ld (adds_then t0 c.put_line-2.new.text c.put_line-3.new.text (la ++ lb) lc (adds_then t0 c.put_line.new.text c.put_line-2.new.text (la) lb c.in_ok-put_line.ensures.ok c.in_ok-put_line-2.ensures.ok) c.in_ok-put_line-3.ensures.ok) c.in_ok-put_line-4.ensures.ok) c.in_err-put.ensures.stop)

pub returns-clause-ok : goal.returns-clause-ok
unfolding bits_text
returns-clause-ok c =
    let ns = c.args.seen.now.nodes in
    let q = c.args.q.now in
    let t0 = c.args.text.now in
    let la = bits_line (codes "a") (places_in ns q.a) in
    let lb = bits_line (codes "b") (places_in ns q.b) in
    let lc = bits_line (codes "c") (places_in ns q.c) in
    let ld = bits_line (codes "d") (places_in ns q.d) in
    let le = codes "end\n" in
    adds_then t0 c.put_line-4.new.text c.put.new.self (la ++ lb ++ lc ++ ld) le (adds_then t0 c.put_line-3.new.text c.put_line-4.new.text (la ++ lb ++ lc) ld (adds_then t0 c.put_line-2.new.text c.put_line-3.new.text (la ++ lb) lc (adds_then t0 c.put_line.new.text c.put_line-2.new.text (la) lb c.in_ok-put_line.ensures.ok c.in_ok-put_line-2.ensures.ok) c.in_ok-put_line-3.ensures.ok) c.in_ok-put_line-4.ensures.ok) c.in_ok-put.ensures.ok
