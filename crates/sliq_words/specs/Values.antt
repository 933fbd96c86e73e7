-- The values of words: numbers in a range, and lists of bits.
use Rattle.std.specs.Prelude.{ℕ, ◌==◌, ◌&&◌, ◌||◌, Bool, cond, nat_le, nat_lt, List, map, length, Option, Some, None}
use Rattle.std.specs.List.{list_all}
use Rattle.std.specs.Str.Parse.{digits_value}
use Rattle.clap.specs.Words.{Text}

-- `0` to `9`
abbrev pub is_digit : ℕ → Bool
is_digit c = nat_le 48 c && nat_le c 57

-- `0` or `1`
abbrev pub is_bit : ℕ → Bool
is_bit c = c == 48 || c == 49

-- 1 to 20 digits
abbrev pub is_number : Text → Bool
is_number t = nat_lt 0 (length t) && (nat_le (length t) 20 && list_all is_digit t)

-- the number that the text writes, where it lies in the range from least to most
unfoldable pub number_in : ℕ → ℕ → Text → Option ℕ
number_in least most t =
    cond (is_number t && (nat_le least (digits_value 10 t) && nat_le (digits_value 10 t) most)) (Some (digits_value 10 t)) None

-- the bits that the text spells, at most 64
unfoldable pub bits_of : Text → Option (List Bool)
bits_of t = cond (nat_le (length t) 64 && list_all is_bit t) (Some (map (λ c. c == 49) t)) None
