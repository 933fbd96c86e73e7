-- Two variables exchanged where controls hold: on vectors, and on the bits of a coordinate.
use Rattle.std.specs.Prelude.{ℕ, Bool, true, false, cond, List, [], ◌∷◌, ◌++◌, map, flat_map}
use Rattle.diagram_model.specs.Functions.{Function, put}
use Rattle.slice_vec.specs.Digits.{Digits, chosen, fixed}
use Rattle.slice_vec.specs.Slices.{first_bits}
use Rattle.slice_quad.specs.declared.coord.Coord.TheVariants.{A, B, C, D}
use Rattle.slice_quad.specs.Mix.{Vector, Coordinates, all_true}
use Rattle.slice_quad.specs.Work.{conjunctions}

-- two variables, to be exchanged where the controls hold
pub record Exchange : Type 0 where
  pub controls : List ℕ
  pub first : ℕ
  pub second : ℕ

-- the values of the two variables change places
unfoldable pub exchanged : Exchange → Vector → Vector
exchanged e v x = cond (all_true e.controls x) (v (put (put x e.second (x e.first)) e.first (x e.second))) (v x)

-- both variables fixed
unfoldable pub fixed_both : Exchange → Digits → Bool → Bool → Digits
fixed_both e a r s = fixed e.second s (fixed e.first r a)

-- the selection by the second variable, for a value of the first
unfoldable pub by_second : Exchange → Digits → Bool → Digits
by_second e a s = chosen (λ x. x e.second) (fixed_both e a true s) (fixed_both e a false s)

-- the selection by the first variable
unfoldable pub by_first : Exchange → Digits → Digits
by_first e a = chosen (λ x. x e.first) (by_second e a true) (by_second e a false)

-- the selection by the controls: the bits of the exchanged coordinate
unfoldable pub exchange_digits : Exchange → Digits → Digits
exchange_digits e a = chosen (all_true e.controls) (by_first e a) a

-- a coordinate, and what is made of it one after another
abbrev pub exchange_parts : Exchange → Digits → List Digits
exchange_parts e a =
    a ∷ fixed e.first false a ∷ fixed e.first true a
    ∷ fixed_both e a false false ∷ fixed_both e a false true ∷ fixed_both e a true false ∷ fixed_both e a true true
    ∷ by_second e a false ∷ by_second e a true ∷ by_first e a ∷ exchange_digits e a ∷ []

-- the functions of one coordinate of w bits
unfoldable pub exchange_functions : ℕ → Exchange → Digits → List Function
exchange_functions w e a = flat_map (first_bits w) (exchange_parts e a)

-- the variables of an exchange, and the conjunctions of the first controls
unfoldable pub crossing_functions : Exchange → List Function
crossing_functions e = (λ x. x e.first) ∷ (λ x. x e.second) ∷ (map (λ c. λ x. x c) e.controls ++ conjunctions [] e.controls)

-- the functions of an exchange of coordinates of w bits, beside the kept one
unfoldable pub exchange_work : ℕ → Exchange → Coordinates → List Function
exchange_work w e q = crossing_functions e ++ flat_map (λ z. exchange_functions w e (q z)) (A ∷ B ∷ C ∷ D ∷ [])
