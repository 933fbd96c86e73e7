-- What a list of nodes stands for, lowest bit first and the sign last.
use Rattle.std.specs.Prelude.{◌≡◌, ℕ, zero, suc, ◌+◌, ◌-◌, ◌<◌, ◌≤◌, ◌^◌, ℤ, pos, ◌+ℤ◌, ◌≤ℤ◌, ◌<ℤ◌, neg_ℤ, Bool, cond, not, List, [], ◌∷◌, ◌++◌, length, slice_index_or, max}
use Rattle.diagram_model.specs.Functions.{Assignment, Function, put}
use Rattle.diagram_model.specs.Stores.{Diagram, IsLive, function_of}
use Rattle.diagram_ops.specs.Diagrams.{variable_of}
use Rattle.diagram_ops.specs.Made.{Property, IsPrefixOfSome}
use Rattle.slice_vec.specs.Digits.{Digits, slice_value, carry, sum, one_carry, negated, chosen, fixed, turned, shifted}

-- the node of the sign
abbrev pub sign_node : List ℕ → ℕ
sign_node ns = slice_index_or ns (length ns - 1) 0

-- the node of bit i, and beyond the last one that of the sign
abbrev pub bit_node : List ℕ → ℕ → ℕ
bit_node ns i = slice_index_or ns i (sign_node ns)

-- the bits that the nodes denote
unfoldable pub digits_of : Diagram → List ℕ → Digits
digits_of d ns i = function_of d (bit_node ns i)

-- the integer at x
abbrev pub value_at : Diagram → List ℕ → Assignment → ℤ
value_at d ns x = slice_value (length ns - 1) (digits_of d ns) x

-- there are 1 to 131 nodes, and all are live
pub record StandsIn (d : Diagram) (ns : List ℕ) : Type 0 where
  pub some : 0 < length ns
  pub few : length ns ≤ 131
  pub live : (i : ℕ) → i < length ns → IsLive d (slice_index_or ns i 0)

-- the first n bits, from the highest of them down to the lowest
unfoldable pub first_bits : ℕ → Digits → List Function
first_bits zero s = []
first_bits (suc n) s = s n ∷ first_bits n s

-- the functions of a sum of w bits: its carries and its bits
abbrev pub sum_functions : ℕ → Digits → Digits → List Function
sum_functions w a b = first_bits w (carry a b) ++ first_bits w (sum a b)

-- the functions of a negation to w bits: the carries and the bits
abbrev pub negation_functions : ℕ → Function → Digits → List Function
negation_functions w n a = first_bits w (one_carry n a) ++ first_bits w (negated n a)

-- one bit more than the wider one
abbrev pub sum_width : List ℕ → List ℕ → ℕ
sum_width xs ys = max (length xs) (length ys) + 1

-- a function that arises from a carry or a bit of the sum of xs and ys, by fixing a prefix of the order
abbrev pub InSum : Diagram → List ℕ → List ℕ → Property
InSum d xs ys = IsPrefixOfSome d.order (sum_functions (sum_width xs ys) (digits_of d xs) (digits_of d ys))

-- the same for -xs where n is true, and xs elsewhere
abbrev pub InNegation : Diagram → ℕ → List ℕ → Property
InNegation d n xs = IsPrefixOfSome d.order (negation_functions (length xs + 1) (function_of d n) (digits_of d xs))

-- the same for the bits of xs where n is true, and of ys elsewhere
abbrev pub InChosen : Diagram → ℕ → List ℕ → List ℕ → Property
InChosen d n xs ys = IsPrefixOfSome d.order (first_bits (max (length xs) (length ys)) (chosen (function_of d n) (digits_of d xs) (digits_of d ys)))

-- the same for the bits of xs with the variable v fixed to b
abbrev pub InFixed : Diagram → ℕ → Bool → List ℕ → Property
InFixed d v b xs = IsPrefixOfSome d.order (first_bits (length xs) (fixed v b (digits_of d xs)))

-- the same for the bits of xs with the variable v flipped where n is true
abbrev pub InTurned : Diagram → ℕ → ℕ → List ℕ → Property
InTurned d v n xs = IsPrefixOfSome d.order (first_bits (length xs) (turned v (function_of d n) (digits_of d xs)))

-- the same for the bits of xs where the variable v is true, and of ys elsewhere, both with v fixed
abbrev pub InMerged : Diagram → ℕ → Bool → List ℕ → List ℕ → Property
InMerged d v b xs ys = IsPrefixOfSome d.order (first_bits (max (length xs) (length ys)) (chosen (variable_of v) (fixed v b (digits_of d xs)) (fixed v b (digits_of d ys))))

-- zs is the sum of xs and ys
pub record IsSum (old new : Diagram) (xs ys zs : List ℕ) : Type 0 where
  pub width : length zs ≡ sum_width xs ys
  pub stands : StandsIn new zs
  pub digits : digits_of new zs ≡ sum (digits_of old xs) (digits_of old ys)
  pub values : (x : Assignment) → value_at new zs x ≡ value_at old xs x +ℤ value_at old ys x

-- zs is -xs where n is true, and xs elsewhere
pub record IsNegation (old new : Diagram) (n : ℕ) (xs zs : List ℕ) : Type 0 where
  pub width : length zs ≡ length xs + 1
  pub stands : StandsIn new zs
  pub digits : digits_of new zs ≡ negated (function_of old n) (digits_of old xs)
  pub values : (x : Assignment) → value_at new zs x ≡ cond (function_of old n x) (neg_ℤ (value_at old xs x)) (value_at old xs x)

-- zs is xs where n is true, and ys elsewhere
pub record IsChosen (old new : Diagram) (n : ℕ) (xs ys zs : List ℕ) : Type 0 where
  pub width : length zs ≡ max (length xs) (length ys)
  pub stands : StandsIn new zs
  pub digits : digits_of new zs ≡ chosen (function_of old n) (digits_of old xs) (digits_of old ys)
  pub values : (x : Assignment) → value_at new zs x ≡ cond (function_of old n x) (value_at old xs x) (value_at old ys x)

-- zs is xs with the variable v fixed to b
pub record IsFixed (old new : Diagram) (v : ℕ) (b : Bool) (xs zs : List ℕ) : Type 0 where
  pub width : length zs ≡ length xs
  pub stands : StandsIn new zs
  pub digits : digits_of new zs ≡ fixed v b (digits_of old xs)
  pub values : (x : Assignment) → value_at new zs x ≡ value_at old xs (put x v b)

-- x with v flipped where n is true
abbrev pub turned_point : ℕ → Function → Assignment → Assignment
turned_point v n x = put x v (cond (n x) (not (x v)) (x v))

-- zs is xs with the variable v flipped where n is true
pub record IsTurned (old new : Diagram) (v n : ℕ) (xs zs : List ℕ) : Type 0 where
  pub width : length zs ≡ length xs
  pub stands : StandsIn new zs
  pub digits : digits_of new zs ≡ turned v (function_of old n) (digits_of old xs)
  pub values : (x : Assignment) → value_at new zs x ≡ value_at old xs (turned_point v (function_of old n) x)

-- zs is xs where the variable v is true, and ys elsewhere, both with v fixed to b
pub record IsMerged (old new : Diagram) (v : ℕ) (b : Bool) (xs ys zs : List ℕ) : Type 0 where
  pub width : length zs ≡ max (length xs) (length ys)
  pub stands : StandsIn new zs
  pub digits : digits_of new zs ≡ chosen (variable_of v) (fixed v b (digits_of old xs)) (fixed v b (digits_of old ys))

-- the integers are the same at each x
abbrev pub SameValues : Diagram → List ℕ → List ℕ → Type 0
SameValues d ns ms = (x : Assignment) → value_at d ns x ≡ value_at d ms x

-- twice some integer
abbrev pub IsEven : ℤ → Type 0
IsEven z = (half : ℤ) × (z ≡ half +ℤ half)

-- the integer is even at each x
abbrev pub AreEven : Diagram → List ℕ → Type 0
AreEven d ns = (x : Assignment) → IsEven (value_at d ns x)

-- ms has the values of ns
pub record IsSame (d : Diagram) (ns ms : List ℕ) : Type 0 where
  pub stands : StandsIn d ms
  pub digits : digits_of d ms ≡ digits_of d ns
  pub values : SameValues d ms ns

-- no list of two bits or more has the values of ms and is shorter
abbrev pub IsFewest : Diagram → List ℕ → Type 0
IsFewest d ms = (ns : List ℕ) → StandsIn d ns → 2 ≤ length ns → SameValues d ns ms → length ms ≤ length ns

-- ms is ns without the lowest bit
pub record IsShifted (d : Diagram) (ns ms : List ℕ) : Type 0 where
  pub stands : StandsIn d ms
  pub digits : digits_of d ms ≡ shifted (digits_of d ns)

-- the integer of ns is twice that of ms
abbrev pub IsDouble : Diagram → List ℕ → List ℕ → Type 0
IsDouble d ns ms = (x : Assignment) → value_at d ns x ≡ value_at d ms x +ℤ value_at d ms x

-- a signed number of w bits
pub record IsWithin (w : ℕ) (v : ℤ) : Type 0 where
  pub low : neg_ℤ (pos (2 ^ (w - 1))) ≤ℤ v
  pub high : v <ℤ pos (2 ^ (w - 1))

-- the integer is a signed number of w bits at each x
abbrev pub AreWithin : Diagram → ℕ → List ℕ → Type 0
AreWithin d w ns = (x : Assignment) → IsWithin w (value_at d ns x)
