-- One step: on vectors, and the work functions that its nodes come from.
use Rattle.std.specs.Prelude.{ℕ, ◌≤◌, ◌<◌, ◌==◌, Bool, cond, List, [], ◌∷◌, length, get_or}
use Rattle.diagram_model.specs.Functions.{Function}
use Rattle.diagram_model.specs.Stores.{Diagram, function_of}
use Rattle.diagram_ops.specs.Made.{Property, IsPrefixOfSome}
use Rattle.gate_set.specs.declared.entry.Entry.{Entry}
use Rattle.gate_set.specs.declared.entry.Entry.TheVariants.{Zero}
use Rattle.gate_set.specs.Matrix.{IsPower}
use Rattle.slice_quad.specs.declared.four.Four.{Four}
use Rattle.slice_quad.specs.declared.gate.Target.{Target}
use Rattle.slice_quad.specs.declared.quad.SliceQuad.{SliceQuad}
use Rattle.slice_quad.specs.declared.kind.Step.{Step}
use Rattle.slice_quad.specs.declared.kind.Step.TheVariants as steps
use Rattle.slice_quad.specs.Bits.{bits_of}
use Rattle.slice_quad.specs.Exchange.{Exchange, exchanged, exchange_work}
use Rattle.slice_quad.specs.Fours.{digits_in, true_places}
use Rattle.slice_quad.specs.Mix.{Mix, Vector, Coordinates, mixed}
use Rattle.slice_quad.specs.Vectors.{vector_in}
use Rattle.slice_quad.specs.Work.{mix_functions}

-- the entry in a row and a column
abbrev pub entry_at : List (List Entry) → ℕ → ℕ → Entry
entry_at rows row col = get_or (get_or rows row []) col Zero

-- the matrix of these rows on a target, where the controls hold, with so many factors 1/√2 left out
abbrev pub target_with : List Bool → ℕ → List (List Entry) → ℕ → Target
target_with controls target rows half = record {
  controls = controls;
  target = target;
  low_low = entry_at rows 0 0;
  low_high = entry_at rows 0 1;
  high_low = entry_at rows 1 0;
  high_high = entry_at rows 1 1;
  rooted = half == 1;
}

-- the same without its nodes, as a matrix by row and column
abbrev pub mix_with : List Bool → ℕ → List (List Entry) → ℕ → Mix
mix_with controls target rows half = record {
  controls = true_places 0 controls;
  target = target;
  rows = λ row col. cond row (cond col (entry_at rows 1 1) (entry_at rows 1 0)) (cond col (entry_at rows 0 1) (entry_at rows 0 0));
  rooted = half == 1;
}

-- the exchange of two variables, where the controls hold
abbrev pub exchange_with : List Bool → ℕ → ℕ → Exchange
exchange_with controls first second = record { controls = true_places 0 controls; first = first; second = second }

-- the step's matrix times the vector, without the factors 1/√2
abbrev pub stepped : Step → Vector → Vector
stepped (steps.Mix controls target rows half) v = mixed (mix_with controls target rows half) v
stepped (steps.Exchange controls first second) v = exchanged (exchange_with controls first second) v

-- how many factors 1/√2 the matrix has beside its entries
abbrev pub half_of : Step → ℕ
half_of (steps.Mix controls target rows half) = half
half_of (steps.Exchange controls first second) = 0

-- each entry is zero or a power of ω, at most the seventh
pub record AreReducedRows (rows : List (List Entry)) : Type 0 where
  pub low_low : IsPower (entry_at rows 0 0)
  pub low_high : IsPower (entry_at rows 0 1)
  pub high_low : IsPower (entry_at rows 1 0)
  pub high_high : IsPower (entry_at rows 1 1)

-- the step is one on n variables
abbrev pub IsStepOn : ℕ → Step → Type 0
IsStepOn n (steps.Mix controls target rows half) = AreReducedRows rows × (length controls ≤ n) × (target < n)
IsStepOn n (steps.Exchange controls first second) = (length controls ≤ n) × (first < n) × (second < n)

-- the functions of a step on coordinates of w bits
unfoldable pub step_functions : ℕ → Step → Coordinates → List Function
step_functions w (steps.Mix controls target rows half) q = mix_functions w (mix_with controls target rows half) q
step_functions w (steps.Exchange controls first second) q = exchange_work w (exchange_with controls first second) q

-- the work functions of a step on a vector whose coefficients are signed numbers of w bits, beside the kept function
unfoldable pub work_functions : ℕ → Function → Step → Vector → List Function
work_functions w kept s v = kept ∷ step_functions w s (bits_of v)

-- a function that arises from one of the step's, by fixing a prefix of the order
abbrev pub IsStep : Diagram → Step → Four → Property
IsStep d s q = IsPrefixOfSome d.order (step_functions (length q.a) s (digits_in d q))

-- a function that arises from a work function, by fixing a prefix of the order
abbrev pub IsWork : Diagram → Step → SliceQuad → Property
IsWork d s q = IsPrefixOfSome d.order (work_functions (length q.four.a) (function_of d q.kept.0) s (vector_in d q.four))
