-- Texts sent one after another through a buffer.
use Rattle.std.proofs.Common.{◌≡◌, ℕ, List, [], ◌++◌, Option, ap, sym, ◌∙◌, append_assoc, append-nil, subst, Result, Ok, Err, OnOk, OnErr}
use Rattle.outside.specs.Bytes.{Added, AddedSome}
use Rattle.outside.specs.Buffering.{Sent, SentSome}
use Rattle.outside.proofs.BytesLemmas.{added_then, added_nothing, added_some_then, added_some_more}

-- nothing is sent where neither the sink nor what waits changed
pub sent_nothing : (old : Option (List ℕ)) (waited : List ℕ) → Sent old waited old waited []
sent_nothing old waited = record { written = []; whole = append-nil waited; added = added_nothing old }

-- what is written is a front of what waited and of the bytes
pub sent_some : {old new : Option (List ℕ)} {waited waiting bytes : List ℕ} → Sent old waited new waiting bytes → SentSome old waited new bytes
sent_some {waiting = waiting} s = record { some = (s.written, (waiting, s.whole), s.added) }

-- one text, and then another
pub sent_then : {old mid new : Option (List ℕ)} {w0 w1 w2 x y : List ℕ} → Sent old w0 mid w1 x → Sent mid w1 new w2 y → Sent old w0 new w2 (x ++ y)
sent_then {old = old} {mid = mid} {new = new} {w0 = w0} {w1 = w1} {w2 = w2} {x = x} {y = y} s t = record {
  written = s.written ++ t.written;
  whole = sym (append_assoc w0 x y) ∙ ap (λ p. p ++ y) s.whole ∙ append_assoc s.written w1 y ∙ ap (λ p. s.written ++ p) t.whole ∙ sym (append_assoc s.written t.written w2);
  added = added_then old mid new s.written t.written s.added t.added;
}

-- one text, and then some of another
pub sent_fault : {old mid new : Option (List ℕ)} {w0 w1 x y : List ℕ} → Sent old w0 mid w1 x → SentSome mid w1 new y → SentSome old w0 new (x ++ y)
sent_fault {old = old} {mid = mid} {new = new} {w0 = w0} {w1 = w1} {x = x} {y = y} s t =
    let same : s.written ++ (w1 ++ y) ≡ w0 ++ (x ++ y) = sym (append_assoc s.written w1 y) ∙ ap (λ p. p ++ y) (sym s.whole) ∙ append_assoc w0 x y in
    let P : List ℕ → Type 0 = λ p. AddedSome old new p in
    record { some = subst P same (added_some_then old mid new s.written (w1 ++ y) s.added t.some) }

-- some of a text is some of a longer one
pub some_front : {old new : Option (List ℕ)} {w x : List ℕ} (rest : List ℕ) → SentSome old w new x → SentSome old w new (x ++ rest)
some_front {old = old} {new = new} {w = w} {x = x} rest t =
    let P : List ℕ → Type 0 = λ p. AddedSome old new p in
    record { some = subst P (append_assoc w x rest) (added_some_more old new (w ++ x) rest t.some) }

-- some of what waited is some of that and of a piece
pub some_waited : {T E : Type 0} (old new : Option (List ℕ)) (waited piece : List ℕ) (r : Result T E) → AddedSome old new waited → OnErr r (SentSome old waited new piece)
some_waited old new waited piece (Ok x) a = tt
some_waited old new waited piece (Err x) a = record { some = added_some_more old new waited piece a }

-- a piece is written behind what waited
pub sent_all : {T E : Type 0} (old mid new : Option (List ℕ)) (w0 w1 piece : List ℕ) (r : Result T E) → Added old mid w0 → w1 ≡ [] → OnOk r (Added mid new piece) → OnOk r (Sent old w0 new w1 piece)
sent_all old mid new w0 w1 piece (Ok x) a e b =
    record { written = w0 ++ piece; whole = sym (ap (λ w. w0 ++ piece ++ w) e ∙ append-nil (w0 ++ piece)); added = added_then old mid new w0 piece a b }
sent_all old mid new w0 w1 piece (Err x) a e b = tt

-- what was sent from an empty buffer and then flushed is all there
pub flushed : (old mid new : Option (List ℕ)) (w0 w1 bytes : List ℕ) → w0 ≡ [] → Sent old w0 mid w1 bytes → Added mid new w1 → Added old new bytes
flushed old mid new w0 w1 bytes e s a =
    let whole : s.written ++ w1 ≡ bytes = sym s.whole ∙ ap (λ w. w ++ bytes) e in
    let P : List ℕ → Type 0 = λ p. Added old new p in
    subst P whole (added_then old mid new s.written w1 s.added a)

-- where the flush fails, a front is there
pub flushed_some : (old mid new : Option (List ℕ)) (w0 w1 bytes : List ℕ) → w0 ≡ [] → Sent old w0 mid w1 bytes → AddedSome mid new w1 → AddedSome old new bytes
flushed_some old mid new w0 w1 bytes e s a =
    let whole : s.written ++ w1 ≡ bytes = sym s.whole ∙ ap (λ w. w ++ bytes) e in
    let P : List ℕ → Type 0 = λ p. AddedSome old new p in
    subst P whole (added_some_then old mid new s.written w1 s.added a)

-- some of a text sent from an empty buffer
pub some_of : (old new : Option (List ℕ)) (w0 bytes : List ℕ) → w0 ≡ [] → SentSome old w0 new bytes → AddedSome old new bytes
some_of old new w0 bytes e s =
    let P : List ℕ → Type 0 = λ p. AddedSome old new p in
    subst P (ap (λ w. w ++ bytes) e) s.some
