-- Integers that depend on the values of the variables, by their bits in two's complement.
use Rattle.std.specs.Prelude.{◌≡◌, ℕ, zero, suc, ◌+◌, ◌*◌, ◌^◌, ◌≤◌, ℤ, pos, ◌-ℤ◌, Bool, false, cond, not, ◌&&◌, ◌||◌}
use Rattle.diagram_model.specs.Functions.{Assignment, Function, fix}
use Rattle.diagram_ops.specs.Flips.{exchanged}
use Rattle.diagram_ops.specs.Connectives.{number}

-- a Boolean function for each bit, lowest first, without end: an integer of m + 1 bits has its sign,
-- bit m, at each place from m on
abbrev pub Digits : Type 0
Digits = ℕ → Function

-- the sum of 2^i times bit i, for i below n
unfoldable pub low_sum : ℕ → Digits → Assignment → ℕ
low_sum zero s x = 0
low_sum (suc n) s x = low_sum n s x + 2 ^ n * number (s n x)

-- the value of the bits 0 to m at x: the sum of 2^i times bit i for i below m, less 2^m times bit m
unfoldable pub slice_value : ℕ → Digits → Assignment → ℤ
slice_value m s x = pos (low_sum m s x) -ℤ pos (2 ^ m * number (s m x))

-- from bit m on all bits are the same
abbrev pub IsSteady : ℕ → Digits → Type 0
IsSteady m s = (i : ℕ) → m ≤ i → s (suc i) ≡ s i

abbrev pub xor : Bool → Bool → Bool
xor a b = cond a (not b) b

-- whether at least two of three are true
abbrev pub majority_bit : Bool → Bool → Bool → Bool
majority_bit a b c = cond a (b || c) (b && c)

-- whether one or all of three are true
abbrev pub odd_bit : Bool → Bool → Bool → Bool
odd_bit a b c = xor (xor a b) c

unfoldable pub majority : Function → Function → Function → Function
majority f g h = λ x. majority_bit (f x) (g x) (h x)

unfoldable pub odd : Function → Function → Function → Function
odd f g h = λ x. odd_bit (f x) (g x) (h x)

unfoldable pub xor_of : Function → Function → Function
xor_of f g = λ x. xor (f x) (g x)

unfoldable pub and_of : Function → Function → Function
and_of f g = λ x. f x && g x

-- f where g is false
unfoldable pub less : Function → Function → Function
less f g = λ x. f x && not (g x)

-- the carries of a sum: the first is false, and the next is the majority of the two bits and the carry
unfoldable pub carry : Digits → Digits → Digits
carry a b zero = λ x. false
carry a b (suc i) = majority (a i) (b i) (carry a b i)

-- the bits of a sum
unfoldable pub sum : Digits → Digits → Digits
sum a b i = odd (a i) (b i) (carry a b i)

-- the bits, each flipped where n is true
unfoldable pub flipped : Function → Digits → Digits
flipped n a i = xor_of (a i) n

-- the carries of the flipped bits plus 1 where n is true
unfoldable pub one_carry : Function → Digits → Digits
one_carry n a zero = n
one_carry n a (suc i) = and_of (flipped n a i) (one_carry n a i)

-- the bits of the negation where n is true, which is the flipped bits plus 1, and of a elsewhere
unfoldable pub negated : Function → Digits → Digits
negated n a i = xor_of (flipped n a i) (one_carry n a i)

unfoldable pub choice : Function → Function → Function → Function
choice n f g = λ x. cond (n x) (f x) (g x)

-- the bits of a where n is true, and of b elsewhere
unfoldable pub chosen : Function → Digits → Digits → Digits
chosen n a b i = choice n (a i) (b i)

-- the bits with the variable v fixed to b
unfoldable pub fixed : ℕ → Bool → Digits → Digits
fixed v b a i = fix v b (a i)

-- the bits with the variable v flipped where n is true
unfoldable pub turned : ℕ → Function → Digits → Digits
turned v n a i = exchanged v n (a i)

-- the bits without the lowest
unfoldable pub shifted : Digits → Digits
shifted a i = a (suc i)

-- the bits from the k-th on
unfoldable pub from_bit : ℕ → Digits → Digits
from_bit k a i = a (k + i)
