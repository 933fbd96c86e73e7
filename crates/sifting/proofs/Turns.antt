-- The answers of one sift after another.
use Rattle.std.proofs.Common.{◌≡◌, ℕ, suc, ◌+◌, List, [], ◌∷◌, ◌++◌, length, refl, sym, arith}
use Rattle.diagram_model.specs.Functions.{Function}
use Rattle.diagram_model.specs.Stores.{Diagram}
use Rattle.node_store.specs.declared.node.Node.{Node}
use Rattle.sifting.specs.declared.sift.Sifted.{Sifted}
use Rattle.sifting.specs.Sifts.{functions_of, sift_of, KeepsRoots}
use Rattle.sifting.specs.Answers.{IsSifted, sift_in, AreInTurn, last_order}

sifted_same : (fs gs : List Function) (k l : ℕ) (o p : List ℕ) (v w : ℕ) (r : Sifted) → fs ≡ gs → k ≡ l → o ≡ p → v ≡ w → IsSifted (sift_in gs l p w) r → IsSifted (sift_in fs k o v) r
sifted_same fs gs k l o p v w r ef ek eo ev a = rw (ef, ek, eo, ev) a

-- no answer yet
pub count_none : (rs : List Sifted) → rs ≡ [] → 0 ≡ length rs
count_none rs none = rw none refl

pub last_none : (order : List ℕ) (rs : List Sifted) → rs ≡ [] → last_order order rs ≡ order
unfolding last_order
last_none order rs none = rw none refl

pub turns_none : (fs : List Function) (limit : ℕ) (order : List ℕ) (v : ℕ) (rs : List Sifted) → rs ≡ [] → AreInTurn fs limit order v rs
turns_none fs limit order v rs none = rw none tt

-- one answer more
pub turn_more : (fs : List Function) (limit : ℕ) (order : List ℕ) (v : ℕ) (rs : List Sifted) (r : Sifted) (w : ℕ) → w ≡ v + length rs → AreInTurn fs limit order v rs → IsSifted (sift_in fs limit (last_order order rs) w) r → AreInTurn fs limit order v (rs ++ r ∷ [])
unfolding last_order
turn_more fs limit order v [] r w at turns more = (sifted_same fs fs limit limit order order v w r refl refl refl (let e : v ≡ w = omega (arith, at) in e) more, tt)
turn_more fs limit order v (q ∷ rs) r w at turns more = (turns.0, turn_more fs limit q.order (suc v) rs r w (omega (arith, at)) turns.1 more)

pub last_more : (order : List ℕ) (rs : List Sifted) (r : Sifted) → last_order order (rs ++ r ∷ []) ≡ r.order
unfolding last_order
last_more order [] r = refl
last_more order (q ∷ rs) r = last_more q.order rs r

-- the next variable is sifted in the order that the answers so far left
pub turn_next : (d e : Diagram) (roots : List Node) (rs : List Sifted) (r : Sifted) (w : ℕ) → w ≡ length rs → KeepsRoots d e roots → e.order ≡ last_order d.order rs → AreInTurn (functions_of d roots) d.limit d.order 0 rs → IsSifted (sift_of e roots w) r → AreInTurn (functions_of d roots) d.limit d.order 0 (rs ++ r ∷ [])
turn_next d e roots rs r w at keeps order turns sifted =
    turn_more (functions_of d roots) d.limit d.order 0 rs r w (omega (arith, at)) turns
    (sifted_same (functions_of d roots) (functions_of e roots) d.limit e.limit (last_order d.order rs) e.order w w r (sym keeps.same) (sym keeps.limit) (sym order) refl sifted)
