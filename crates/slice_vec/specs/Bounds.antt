-- How many steps a call takes at most: the joint sizes of its connectives, place by place.
use Rattle.std.specs.Prelude.{ℕ, zero, suc, ◌+◌, Bool, false, cond, List, length, max}
use Rattle.diagram_model.specs.Functions.{Function}
use Rattle.diagram_model.specs.Stores.{Diagram, function_of}
use Rattle.diagram_ops.specs.Bounds.{joint_size_in}
use Rattle.diagram_ops.specs.Diagrams.{variable_of}
use Rattle.diagram_ops.specs.Flips.{flip}
use Rattle.slice_vec.specs.Digits.{Digits, carry, one_carry}
use Rattle.slice_vec.specs.Slices.{digits_of}

-- f 0 + .. + f (n - 1)
unfoldable pub total : (ℕ → ℕ) → ℕ → ℕ
total f zero = 0
total f (suc n) = total f n + f n

-- the joint size of both bits and the carry at place i
unfoldable pub adding : Diagram → Digits → Digits → ℕ → ℕ
adding d a b i = joint_size_in d (a i) (b i) (carry a b i)

-- a sum takes the bit and the carry at each place, and the bit at one more
abbrev pub sum_steps : Diagram → List ℕ → List ℕ → ℕ
sum_steps d xs ys =
    total (λ i. adding d (digits_of d xs) (digits_of d ys) i + adding d (digits_of d xs) (digits_of d ys) i) (max (length xs) (length ys))
    + adding d (digits_of d xs) (digits_of d ys) (max (length xs) (length ys))

-- the joint size of the bit, of where to negate, and of the carry at place i
unfoldable pub negating : Diagram → Function → Digits → ℕ → ℕ
negating d n a i = joint_size_in d (a i) n (one_carry n a i)

-- the joint size of the carry and the bit
unfoldable pub carrying : Diagram → Function → Digits → ℕ → ℕ
carrying d n a i = joint_size_in d (one_carry n a i) (a i) (λ x. false)

-- a negation takes the bit and the carry at each place, and the bit at one more
abbrev pub negation_steps : Diagram → ℕ → List ℕ → ℕ
negation_steps d n xs =
    total (λ i. negating d (function_of d n) (digits_of d xs) i + carrying d (function_of d n) (digits_of d xs) i) (length xs)
    + negating d (function_of d n) (digits_of d xs) (length xs)

-- the joint size of where to choose and of both bits at place i
unfoldable pub choosing : Diagram → Function → Digits → Digits → ℕ → ℕ
choosing d n a b i = joint_size_in d n (a i) (b i)

-- a choice takes one connective a place
abbrev pub choice_steps : Diagram → ℕ → List ℕ → List ℕ → ℕ
choice_steps d n xs ys = total (choosing d (function_of d n) (digits_of d xs) (digits_of d ys)) (max (length xs) (length ys))

-- the joint size of where to flip the variable v, of the bit with v flipped, and of the bit at place i
unfoldable pub turning : Diagram → ℕ → Function → Digits → ℕ → ℕ
turning d v n a i = joint_size_in d n (flip v (a i)) (a i)

-- a flip takes one walk a place
abbrev pub turn_steps : Diagram → ℕ → ℕ → List ℕ → ℕ
turn_steps d v n xs = total (turning d v (function_of d n) (digits_of d xs)) (length xs)

-- the joint size of v and of two bits, that one with v flipped which is read where v isn't b
unfoldable pub merging : Diagram → ℕ → Bool → Function → Function → ℕ
merging d v b f g = cond b (joint_size_in d (variable_of v) (flip v g) f) (joint_size_in d (variable_of v) (flip v f) g)

-- a merge takes one walk a place
abbrev pub merge_steps : Diagram → ℕ → Bool → List ℕ → List ℕ → ℕ
merge_steps d v b xs ys = total (λ i. merging d v b (digits_of d xs i) (digits_of d ys i)) (max (length xs) (length ys))
