use Rattle.std.proofs.Common.{◌∙◌, inl, inr, refl, sym, get_or}
use Rattle.memos.specs.declared.memo.Place.{Place}
use Rattle.memos.specs.MemoPlaces.{slot_of}
use Rattle.tables.proofs.Searching.{passed_more}
use Rattle.memos.proofs.Memos.{at_within, slot_past, passes, blank, blank_free}
use Rattle.memos.proofs.memo.probe_part.Goals as goal
use Rattle.memos.proofs.memo.probe_part.Goals.{else-place-f-via-then-place-f+then-place-g+else-place-h, else-place-f-via-then-place-f+else-place-g, else-place-f-via-else-place-f}

pub returns-then-place-now : goal.returns-then-place-now
returns-then-place-now c =
    let ps = c.args.places.now in
    let z : Place = record { f = 0; g = 0; h = 0; node = 0; stamp = 0 } in
    let i = c.loop-index.index in
    let p = get_or ps i z in
    (c.loop-index-test.true, at_within c.args.now ps i z p c.loop-index-test.true refl ∙ slot_past c.args.now p c.if-place-now.true, c.loop-index.invariant)

pub loop-index-preserved : goal.loop-index-preserved
loop-index-preserved c =
    let ps = c.args.places.now in
    let z : Place = record { f = 0; g = 0; h = 0; node = 0; stamp = 0 } in
    let i = c.loop-index.index in
    let lt = c.loop-index-test.true in
    let stamp = c.if-place-now.false in
    passed_more (slot_of c.args.now) (blank c.args.now) (blank_free c.args.now) ps (c.args.f, c.args.g, c.args.h) i c.loop-index.invariant (elim c.else-place-f.branch [
      | else-place-f-via-then-place-f+then-place-g+else-place-h w ↦ passes c.args.now ps c.args.f c.args.g c.args.h i z lt stamp (inr (inr (λ e. w.if-place-h.false (sym e))))
      | else-place-f-via-then-place-f+else-place-g w ↦ passes c.args.now ps c.args.f c.args.g c.args.h i z lt stamp (inr (inl (λ e. w.if-place-g.false (sym e))))
      | else-place-f-via-else-place-f w ↦ passes c.args.now ps c.args.f c.args.g c.args.h i z lt stamp (inl (λ e. w.if-place-f.false (sym e)))
    ])
