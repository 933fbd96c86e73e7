-- The functions that a vector or matrix is stored by.
use Rattle.std.specs.Prelude.{ℕ, List, [], ◌∷◌, flat_map}
use Rattle.diagram_model.specs.Functions.{Function}
use Rattle.slice_vec.specs.Slices.{first_bits}
use Rattle.slice_quad.specs.declared.coord.Coord.TheVariants.{A, B, C, D}
use Rattle.slice_quad.specs.Bits.{bits_of}
use Rattle.slice_quad.specs.Mix.{Vector}

-- the kept function, and the bits of the four coordinates, as signed numbers of w bits
unfoldable pub stored_functions : ℕ → Function → Vector → List Function
stored_functions w kept v = kept ∷ flat_map (λ z. first_bits w (bits_of v z)) (A ∷ B ∷ C ∷ D ∷ [])
