-- The cofactors of all bits, made in one call.
use Rattle.std.proofs.Common.{◌≡◌, ℕ, suc, ◌<◌, Bool, List, [], ◌∷◌, length, get_or, inl, inr, sym, ◌∙◌, ap, arith}
use Rattle.diagram_model.specs.Functions.{Function, IsPrefixOf, fix}
use Rattle.diagram_model.specs.Stores.{Diagram, function_of}
use Rattle.node_store.specs.declared.node.StoreStop.{StoreStop}
use Rattle.diagram_ops.specs.Cofactors.{cofactors_of, InCofactors, AreCofactors}
use Rattle.diagram_ops.specs.Diagrams.{StoreAndCache}
use Rattle.diagram_ops.specs.Made.{MakesOnly, StopIs, IsPrefixOfSome}
use Rattle.diagram_ops.proofs.Making.{makes_wider, stop_wider}
use Rattle.slice_vec.specs.Digits.{fixed}
use Rattle.slice_vec.specs.Growing.{Grows}
use Rattle.slice_vec.specs.Slices.{digits_of, StandsIn, InFixed, IsFixed}
use Rattle.slice_vec.proofs.Bits.{bit_within}
use Rattle.slice_vec.proofs.Followed.{Follows, fixed_done}
use Rattle.slice_vec.proofs.Growing.{some_bit}

-- a function that arises from one of the cofactors arises from one at a place
record ComesFrom (vs : List ℕ) (v : ℕ) (b : Bool) (d : Diagram) (xs : List ℕ) (p : Function) : Type 0 where
  place : ℕ
  within : place < length xs
  arises : IsPrefixOf vs (fix v b (function_of d (get_or xs place 0))) p

later_place : (vs : List ℕ) (v : ℕ) (b : Bool) (d : Diagram) (x : ℕ) (xs : List ℕ) (p : Function) → ComesFrom vs v b d xs p → ComesFrom vs v b d (x ∷ xs) p
later_place vs v b d x xs p h = record { place = suc h.place; within = omega (arith, h.within); arises = h.arises }

from_place : (vs : List ℕ) (v : ℕ) (b : Bool) (d : Diagram) (xs : List ℕ) (p : Function) → IsPrefixOfSome vs (cofactors_of v b d xs) p → ComesFrom vs v b d xs p
unfolding IsPrefixOfSome
from_place vs v b d [] p h = absurd h
from_place vs v b d (x ∷ xs) p (inl h) = record { place = 0; within = omega arith; arises = h }
from_place vs v b d (x ∷ xs) p (inr h) = later_place vs v b d x xs p (from_place vs v b d xs p h)

-- the cofactor of a bit is that of its node
bit_fixed : (d : Diagram) (v : ℕ) (b : Bool) (xs : List ℕ) (i : ℕ) → i < length xs → fix v b (function_of d (get_or xs i 0)) ≡ fixed v b (digits_of d xs) i
unfolding fixed digits_of
bit_fixed d v b xs i lt = ap (λ n. fix v b (function_of d n)) (sym (bit_within xs i lt))

-- what arises from one of the cofactors arises from a bit of the fixed integer
pub wanted_fixed : (d : Diagram) (v : ℕ) (b : Bool) (xs : List ℕ) (p : Function) → InCofactors v b d xs p → InFixed d v b xs p
wanted_fixed d v b xs p h =
    let from = from_place d.order v b d xs p h in
    some_bit d.order (length xs) from.place (fixed v b (digits_of d xs)) p from.within (rw (sym (bit_fixed d v b xs from.place from.within)) from.arises)

pub fixed_made : (d e : Diagram) (v : ℕ) (b : Bool) (xs : List ℕ) → MakesOnly d e (InCofactors v b d xs) → MakesOnly d e (InFixed d v b xs)
fixed_made d e v b xs h = makes_wider d e (InCofactors v b d xs) (InFixed d v b xs) (λ p q. wanted_fixed d v b xs p q) h

pub fixed_stop : (d e : Diagram) (v : ℕ) (b : Bool) (xs : List ℕ) (why : StoreStop) → StopIs e (InCofactors v b d xs) why → StopIs e (InFixed d v b xs) why
fixed_stop d e v b xs why h = stop_wider e (InCofactors v b d xs) (InFixed d v b xs) (λ p q. wanted_fixed d v b xs p q) why h

-- the cofactors of the nodes are the bits of the fixed integer
pub cofactors_done : (u w : StoreAndCache) (v : ℕ) (b : Bool) (xs zs : List ℕ) → StandsIn u.store xs → Grows u (InFixed u.store v b xs) w → AreCofactors v b u.store w.store xs zs → IsFixed u.store w.store v b xs zs
cofactors_done u w v b xs zs stands grows h =
    let follows : Follows u (length xs) (fixed v b (digits_of u.store xs)) w zs = record {
      grows = grows;
      shows = record { each = λ i lt. record { live = h.live i lt; is = h.denote i lt ∙ bit_fixed u.store v b xs i (omega (arith, lt, h.count)) } };
    } in
    fixed_done u w v b xs zs stands follows h.count
