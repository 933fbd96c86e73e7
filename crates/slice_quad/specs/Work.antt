-- The functions that the nodes of a step with one target come from.
use Rattle.std.specs.Prelude.{ℕ, ◌+◌, Bool, true, false, not, List, [], ◌∷◌, ◌++◌, map, flat_map}
use Rattle.diagram_model.specs.Functions.{Function}
use Rattle.slice_vec.specs.Digits.{fixed, flipped, one_carry, carry}
use Rattle.slice_vec.specs.Slices.{first_bits}
use Rattle.slice_quad.specs.declared.coord.Coord.{Coord}
use Rattle.slice_quad.specs.declared.coord.Coord.TheVariants.{A, B, C, D}
use Rattle.slice_quad.specs.Mix.{Mix, Coordinates, all_true, from_target, term, negates, signed_term, raw}

-- the conjunctions of the first controls, after those that are done
unfoldable pub conjunctions : List ℕ → List ℕ → List Function
conjunctions done [] = []
conjunctions done (c ∷ cs) = all_true (done ++ c ∷ []) ∷ conjunctions (done ++ c ∷ []) cs

-- the variables of a gate, the negation of the target's, and the conjunctions of the first controls
unfoldable pub gate_functions : Mix → List Function
gate_functions m = (λ x. x m.target) ∷ (λ x. not (x m.target)) ∷ (map (λ c. λ x. x c) m.controls ++ conjunctions [] m.controls)

-- the functions of one term of w bits
unfoldable pub term_functions : ℕ → Mix → Coordinates → Coord → Bool → List Function
term_functions w m q z s =
    first_bits w (from_target m q z s)
    ++ (first_bits w (term m q z s)
    ++ (negates m z s
    ∷ (first_bits (w + 1) (flipped (negates m z s) (term m q z s))
    ++ (first_bits (w + 2) (one_carry (negates m z s) (term m q z s))
    ++ first_bits (w + 1) (signed_term m q z s)))))

-- the functions of one coordinate
unfoldable pub coordinate_functions : ℕ → Mix → Coordinates → Coord → List Function
coordinate_functions w m q z =
    first_bits w (q z)
    ++ (first_bits w (fixed m.target false (q z))
    ++ (first_bits w (fixed m.target true (q z))
    ++ (term_functions w m q z false
    ++ (term_functions w m q z true
    ++ (first_bits (w + 3) (carry (signed_term m q z false) (signed_term m q z true))
    ++ first_bits (w + 2) (raw m q z))))))

-- the functions of a step with one target on coordinates of w bits, beside the kept one
unfoldable pub mix_functions : ℕ → Mix → Coordinates → List Function
mix_functions w m q = gate_functions m ++ flat_map (coordinate_functions w m q) (A ∷ B ∷ C ∷ D ∷ [])
