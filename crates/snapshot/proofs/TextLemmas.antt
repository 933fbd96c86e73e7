-- Pieces one after the other, and pieces that have no room.
use Rattle.std.proofs.Common.{◌≡◌, ℕ, ◌+◌, ◌<◌, ◌≤◌, List, [], ◌∷◌, ◌++◌, flat_map, length, take, get_or, codes, decimal, refl, sym, ◌∙◌, ap, subst, arith, append_assoc, append-nil, length-append, Result, Ok, Err, IsErrAnd, IfErr}
use Rattle.std.proofs.Math.Seq.{take-length}
use Rattle.std.proofs.lemmas.List.{take_more}
use Rattle.std.proofs.lemmas.Grind.{flat_map-append}
use Rattle.std.proofs.lemmas.List.Folds.{flat_map-map, length-flat_map-take}
use Rattle.snapshot.specs.Sheets.{list_text}
use Rattle.snapshot.specs.Private.{Bounded, Adds, IsOver, Refuses, places_in}
use Rattle.snapshot.specs.declared.text.SaveStop.{SaveStop}
use Rattle.snapshot.specs.declared.text.SaveStop.TheVariants.{TooLong, OutOfMemory}
use Rattle.bit_lists.specs.Orders.{place_in}

bounded : List ℕ → ℕ → Bounded
bounded bs m = record { bytes = bs; most = m }

pub adds_nothing : (a : Bounded) → Adds a a []
unfolding bounded
adds_nothing a = ap (λ bs. bounded bs a.most) (sym (append-nil a.bytes))

pub adds_then : (a b c : Bounded) (p q : List ℕ) → Adds a b p → Adds b c q → Adds a c (p ++ q)
unfolding bounded
adds_then a b c p q e f = f ∙ ap (λ (x : Bounded). bounded (x.bytes ++ q) x.most) e ∙ ap (λ bs. bounded bs a.most) (append_assoc a.bytes p q)

pub adds_as : (a b : Bounded) (p q : List ℕ) → p ≡ q → Adds a b p → Adds a b q
adds_as a b p q e h = subst (Adds a b) e h

pub over_as : (a : Bounded) (p q : List ℕ) → p ≡ q → IsOver a p → IsOver a q
over_as a p q e h = subst (IsOver a) e h

-- a longer piece has no room either
pub over_longer : (a : Bounded) (p q : List ℕ) → length p ≤ length q → IsOver a p → IsOver a q
over_longer a p q le h = omega (arith, le, h)

pub over_first : (a : Bounded) (p q : List ℕ) → IsOver a p → IsOver a (p ++ q)
over_first a p q h = omega (arith, h, length-append p q)

pub over_then : (a b : Bounded) (p q : List ℕ) → Adds a b p → IsOver b q → IsOver a (p ++ q)
over_then a b p q e h =
    let bytes : length b.bytes ≡ length (a.bytes ++ p) = ap (λ (x : Bounded). length x.bytes) e in
    let most : b.most ≡ a.most = ap (λ (x : Bounded). x.most) e in
    omega (arith, h, bytes, most, length-append a.bytes p, length-append p q)

-- ---- refusals
pub refuses_as : (a : Bounded) (p q : List ℕ) (s : SaveStop) → p ≡ q → Refuses a p s → Refuses a q s
refuses_as a p q TooLong e h = over_as a p q e h
refuses_as a p q OutOfMemory e h = tt

pub refuses_first : (a : Bounded) (p q : List ℕ) (s : SaveStop) → Refuses a p s → Refuses a (p ++ q) s
refuses_first a p q TooLong h = over_first a p q h
refuses_first a p q OutOfMemory h = tt

pub refuses_then : (a b : Bounded) (p q : List ℕ) (s : SaveStop) → Adds a b p → Refuses b q s → Refuses a (p ++ q) s
refuses_then a b p q TooLong e h = over_then a b p q e h
refuses_then a b p q OutOfMemory e h = tt

-- a stop that `?` hands on
pub handed_on : {T E : Type 0} (r : Result T E) (x : E) (Q : E → Type 0) → IsErrAnd r (λ y. y ≡ x) → Q x → IfErr r Q
handed_on (Ok n) x Q h q = tt
handed_on (Err y) x Q h q = subst Q (sym h) q

module _ (a b : Bounded) (A B C D E : List ℕ) (s : SaveStop) where
  pub five_1 : Refuses a A s → Refuses a (A ++ B ++ C ++ D ++ E) s
  five_1 h = refuses_first a (A ++ B ++ C ++ D) E s (refuses_first a (A ++ B ++ C) D s (refuses_first a (A ++ B) C s (refuses_first a A B s h)))

  pub five_2 : Adds a b A → Refuses b B s → Refuses a (A ++ B ++ C ++ D ++ E) s
  five_2 e h = refuses_first a (A ++ B ++ C ++ D) E s (refuses_first a (A ++ B ++ C) D s (refuses_first a (A ++ B) C s (refuses_then a b A B s e h)))

  pub five_3 : Adds a b (A ++ B) → Refuses b C s → Refuses a (A ++ B ++ C ++ D ++ E) s
  five_3 e h = refuses_first a (A ++ B ++ C ++ D) E s (refuses_first a (A ++ B ++ C) D s (refuses_then a b (A ++ B) C s e h))

  pub five_4 : Adds a b (A ++ B ++ C) → Refuses b D s → Refuses a (A ++ B ++ C ++ D ++ E) s
  five_4 e h = refuses_first a (A ++ B ++ C ++ D) E s (refuses_then a b (A ++ B ++ C) D s e h)

  pub five_5 : Adds a b (A ++ B ++ C ++ D) → Refuses b E s → Refuses a (A ++ B ++ C ++ D ++ E) s
  five_5 e h = refuses_then a b (A ++ B ++ C ++ D) E s e h

-- ---- loops
pub flat_more : {X : Type 0} (f : X → List ℕ) (xs : List X) (i : ℕ) (d : X) → i < length xs → flat_map f (take i xs) ++ f (get_or xs i d) ≡ flat_map f (take (i + 1) xs)
flat_more f xs i d lt =
    sym (ap (flat_map f) (take_more xs i d lt) ∙ flat_map-append f (take i xs) (get_or xs i d ∷ []) ∙ ap (λ t. flat_map f (take i xs) ++ t) (append-nil (f (get_or xs i d))))

pub flat_all : {X : Type 0} (f : X → List ℕ) (xs : List X) (i : ℕ) → i ≡ length xs → flat_map f (take i xs) ≡ flat_map f xs
flat_all f xs i e = ap (flat_map f) (ap (λ k. take k xs) e ∙ take-length xs)

-- so far and one more piece
pub adds_more : {X : Type 0} (f : X → List ℕ) (xs : List X) (a b c : Bounded) (w piece : List ℕ) (i : ℕ) (d : X) → i < length xs → Adds a b (w ++ flat_map f (take i xs)) → piece ≡ f (get_or xs i d) → Adds b c piece → Adds a c (w ++ flat_map f (take (i + 1) xs))
adds_more f xs a b c w piece i d lt so_far e more =
    adds_as a c ((w ++ flat_map f (take i xs)) ++ piece) (w ++ flat_map f (take (i + 1) xs))
    (ap (λ p. (w ++ flat_map f (take i xs)) ++ p) e ∙ append_assoc w (flat_map f (take i xs)) (f (get_or xs i d)) ∙ ap (λ t. w ++ t) (flat_more f xs i d lt))
    (adds_then a b c (w ++ flat_map f (take i xs)) piece so_far more)

-- and one that has no room
pub over_more : {X : Type 0} (f : X → List ℕ) (xs : List X) (a b : Bounded) (w piece : List ℕ) (i : ℕ) (d : X) → i < length xs → Adds a b (w ++ flat_map f (take i xs)) → piece ≡ f (get_or xs i d) → IsOver b piece → IsOver a (w ++ flat_map f xs)
over_more f xs a b w piece i d lt so_far e over =
    let front : List ℕ = flat_map f (take i xs) in
    let fits : length front + length (f (get_or xs i d)) ≤ length (flat_map f xs) = length-flat_map-take f xs i d lt in
    let same : length piece ≡ length (f (get_or xs i d)) = ap length e in
    over_longer a ((w ++ front) ++ piece) (w ++ flat_map f xs)
    (omega (arith, fits, same, length-append (w ++ front) piece, length-append w front, length-append w (flat_map f xs)))
    (over_then a b (w ++ front) piece so_far over)

pub refuses_more : {X : Type 0} (f : X → List ℕ) (xs : List X) (a b : Bounded) (w piece : List ℕ) (i : ℕ) (d : X) (s : SaveStop) → i < length xs → Adds a b (w ++ flat_map f (take i xs)) → piece ≡ f (get_or xs i d) → Refuses b piece s → Refuses a (w ++ flat_map f xs) s
refuses_more f xs a b w piece i d TooLong lt so_far e h = over_more f xs a b w piece i d lt so_far e h
refuses_more f xs a b w piece i d OutOfMemory lt so_far e h = tt

unfoldable pub place_text : List ℕ → ℕ → List ℕ
place_text ns m = codes " " ++ decimal (place_in ns m)

pub list_places : (ns ms : List ℕ) → list_text (places_in ns ms) ≡ flat_map (place_text ns) ms
unfolding list_text place_text
list_places ns ms = flat_map-map (λ n. codes " " ++ decimal n) (place_in ns) ms

pub variable_text : ℕ → List ℕ
variable_text v = codes " " ++ decimal v

pub list_variables : (vs : List ℕ) → list_text vs ≡ flat_map variable_text vs
unfolding list_text variable_text
list_variables vs = refl

-- one variable more
pub variable_more : (vs : List ℕ) (i v : ℕ) (old line new : List ℕ) → i < length vs → v ≡ get_or vs i 0 → line ≡ old ++ flat_map variable_text (take i vs) → new ≡ line ++ codes " " ++ decimal v → new ≡ old ++ flat_map variable_text (take (i + 1) vs)
unfolding variable_text
variable_more vs i v old line new lt here so_far more =
    more ∙ append_assoc line (codes " ") (decimal v) ∙ ap (λ l. l ++ variable_text v) so_far ∙ append_assoc old (flat_map variable_text (take i vs)) (variable_text v)
    ∙ ap (λ t. old ++ t) (ap (λ w. flat_map variable_text (take i vs) ++ variable_text w) here ∙ flat_more variable_text vs i 0 lt)

pub variables_all : (vs : List ℕ) (i : ℕ) (old new : List ℕ) → i ≡ length vs → new ≡ old ++ flat_map variable_text (take i vs) → new ≡ old ++ list_text vs
variables_all vs i old new end e = e ∙ ap (λ t. old ++ t) (flat_all variable_text vs i end ∙ sym (list_variables vs))
