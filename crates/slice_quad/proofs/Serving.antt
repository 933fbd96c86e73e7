-- A call that makes only such nodes as its caller may make: what the caller has grown by, and a stop that it hands on.
use Rattle.std.proofs.Common.{◌≡◌, ℕ, List, Ok, Err, IfErr, sym, subst}
use Rattle.std.specs.Prelude.{Result}
use Rattle.std.specs.Result.{IsErrAnd}
use Rattle.node_store.specs.declared.node.StoreStop.{StoreStop}
use Rattle.diagram_model.specs.Functions.{Function, IsPrefixOf}
use Rattle.diagram_model.specs.Stores.{Diagram}
use Rattle.diagram_ops.specs.Diagrams.{StoreAndCache}
use Rattle.diagram_ops.specs.Made.{Property, StopIs, IsPrefixOfSome}
use Rattle.diagram_ops.proofs.Making.{stop_wider}
use Rattle.slice_vec.specs.Growing.{Grows}
use Rattle.slice_vec.proofs.Growing.{grows_then, grows_wider}

-- u has grown to v by nodes of one kind, and those of the other are of that kind too
pub record Serves (u v : StoreAndCache) (Is Does : Property) : Type 0 where
  pub grows : Grows u Is v
  pub wanted : (p : Function) → Does p → Is p

same_list : (us vs : List ℕ) (fs rs : List Function) (Is : Property) → vs ≡ us → fs ≡ rs → ((p : Function) → IsPrefixOfSome us rs p → Is p) → (p : Function) → IsPrefixOfSome vs fs p → Is p
same_list us vs fs rs Is ev ef wanted p h = wanted p (rw (sym ev, sym ef) h)

same_one : (us vs : List ℕ) (f r : Function) (Is : Property) → vs ≡ us → f ≡ r → ((p : Function) → IsPrefixOf us r p → Is p) → (p : Function) → IsPrefixOf vs f p → Is p
same_one us vs f r Is ev ef wanted p h = wanted p (rw (sym ev, sym ef) h)

-- for functions, which by other names are the caller's
pub serves_list : (u v : StoreAndCache) (Is : Property) (fs rs : List Function) → Grows u Is v → fs ≡ rs → ((p : Function) → IsPrefixOfSome u.store.order rs p → Is p) → Serves u v Is (IsPrefixOfSome v.store.order fs)
serves_list u v Is fs rs k same wanted = record { grows = k; wanted = same_list u.store.order v.store.order fs rs Is k.extends.order same wanted }

pub serves_one : (u v : StoreAndCache) (Is : Property) (f r : Function) → Grows u Is v → f ≡ r → ((p : Function) → IsPrefixOf u.store.order r p → Is p) → Serves u v Is (IsPrefixOf v.store.order f)
serves_one u v Is f r k same wanted = record { grows = k; wanted = same_one u.store.order v.store.order f r Is k.extends.order same wanted }

pub grows_by : {u v w : StoreAndCache} {Is Does : Property} → Serves u v Is Does → Grows v Does w → Grows u Is w
grows_by {u} {v} {w} {Is} {Does} served g = grows_then u v w Is served.grows (grows_wider v w Does Is served.wanted g)

pub handed_on : {T : Type 0} (r : Result T StoreStop) (why : StoreStop) (Q : StoreStop → Type 0) → IsErrAnd r (λ y. y ≡ why) → Q why → IfErr r Q
handed_on (Ok n) why Q h q = tt
handed_on (Err y) why Q h q = subst Q (sym h) q

pub stops_by : {T : Type 0} {u v : StoreAndCache} {Is Does : Property} (d : Diagram) (r : Result T StoreStop) (why : StoreStop) → Serves u v Is Does → IsErrAnd r (λ y. y ≡ why) → StopIs d Does why → IfErr r (StopIs d Is)
stops_by {Is = Is} {Does = Does} d r why served same stop = handed_on r why (StopIs d Is) same (stop_wider d Does Is served.wanted why stop)
