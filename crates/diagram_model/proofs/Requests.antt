-- A store after one more request, which was refused, is the store but for the count.
use Rattle.std.proofs.Common.{◌≡◌, ℕ, refl}
use Rattle.diagram_model.specs.Stores.{Diagram, IsSound, Extends, KeepsFunctions, NoRoom, requested, function_of}

pub sound_requested : (d : Diagram) → IsSound d → IsSound (requested d)
sound_requested d s = record { diagram = s.diagram; all = s.all; few = s.few; most = s.most }

-- what extends the counted store extends the store
pub extends_requested : (d e : Diagram) → Extends (requested d) e → Extends d e
extends_requested d e x = record { order = x.order; limit = x.limit; kept = x.kept }

-- what keeps the counted store's functions keeps the store's
pub functions_requested : (d e : Diagram) → KeepsFunctions (requested d) e → KeepsFunctions d e
functions_requested d e k = record { live = k.live; same = k.same }

pub no_room_requested : (d : Diagram) (v l h : ℕ) → NoRoom d v l h → NoRoom (requested d) v l h
no_room_requested d v l h n = record { differ = n.differ; new = n.new; full = n.full }

pub no_room_before : (d : Diagram) (v l h : ℕ) → NoRoom (requested d) v l h → NoRoom d v l h
no_room_before d v l h n = record { differ = n.differ; new = n.new; full = n.full }

pub function_requested : (d : Diagram) (n : ℕ) → function_of (requested d) n ≡ function_of d n
unfolding function_of
function_requested d n = refl
