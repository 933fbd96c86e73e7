-- What holds of each of the cases holds of all truth values.
use Rattle.std.proofs.Common.{Bool, true, false}

pub of_two : (P : Bool → Bool → Type 0) → P false false → P false true → P true false → P true true → (a b : Bool) → P a b
of_two P ff ft tf both false false = ff
of_two P ff ft tf both false true = ft
of_two P ff ft tf both true false = tf
of_two P ff ft tf both true true = both

pub of_three : (P : Bool → Bool → Bool → Type 0) → P false false false → P false false true → P false true false → P false true true → P true false false → P true false true → P true true false → P true true true → (a b c : Bool) → P a b c
of_three P fff fft ftf ftt tff tft ttf ttt false = of_two (P false) fff fft ftf ftt
of_three P fff fft ftf ftt tff tft ttf ttt true = of_two (P true) tff tft ttf ttt
