-- What `make` says of the store before its request was counted.
use Rattle.std.proofs.Common.{◌≡◌, ℕ, IfErr, Err, Ok, Result}
use Rattle.diagram_model.specs.Stores.{Diagram, IsSound, Extends, KeepsFunctions, NoRoom, requested}
use Rattle.diagram_model.proofs.Requests.{sound_requested, extends_requested, functions_requested, no_room_requested, no_room_before}
use Rattle.node_store.specs.declared.node.Node.{Node}
use Rattle.node_store.specs.declared.node.StoreStop.{StoreStop}
use Rattle.node_store.specs.declared.node.StoreStop.TheVariants.{Full, OutOfMemory}
use Rattle.node_store.specs.Makes.{StopMeans}

pub sound_after : (d e : Diagram) → e ≡ requested d → IsSound d → IsSound e
sound_after d e same s = rw same (sound_requested d s)

pub extends_before : (d e f : Diagram) → e ≡ requested d → Extends e f → Extends d f
extends_before d e f same x = extends_requested d f (rw same at x)

pub functions_before : (d e f : Diagram) → e ≡ requested d → KeepsFunctions e f → KeepsFunctions d f
functions_before d e f same k = functions_requested d f (rw same at k)

pub room_before : (d e : Diagram) (v l h : ℕ) → e ≡ requested d → NoRoom d v l h → NoRoom e v l h
room_before d e v l h same n = rw same (no_room_requested d v l h n)

stop_requested : (d : Diagram) (v l h : ℕ) (s : StoreStop) → StopMeans (requested d) v l h s → StopMeans d v l h s
stop_requested d v l h OutOfMemory stop = stop
stop_requested d v l h (Full k) stop = (stop.0, no_room_before d v l h stop.1)

pub stop_before : (d e : Diagram) (v l h : ℕ) (r : Result Node StoreStop) → e ≡ requested d → IfErr r (StopMeans e v l h) → IfErr r (StopMeans d v l h)
stop_before d e v l h (Ok n) same stop = tt
stop_before d e v l h (Err s) same stop = stop_requested d v l h s (rw same at stop)
