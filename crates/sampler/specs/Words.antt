-- Random words of 64 bits, from a seed: those of the generator ChaCha20, whose quality nothing is claimed of.
use Rattle.std.specs.Prelude.{◌≡◌, ℕ, ◌+◌, ◌*◌, ◌^◌, List, ◌++◌, replicate}
use Rattle.std.specs.Int.{w64, to_le_bytes}
use Rattle.rand_chacha.specs.ChaCha.{ChaCha, word_at, key_of}

-- the 32 bytes of the generator's seed: those of the number, lowest first, and 24 zeros
abbrev pub seed_bytes : ℕ → List ℕ
seed_bytes seed = to_le_bytes w64 seed ++ replicate 24 0

-- the word of this number: two of the generator's words of 32 bits, from its first one on, with the low half first
abbrev pub random_word : ℕ → ℕ → ℕ
random_word seed i = word_at 10 (key_of (seed_bytes seed)) 0 (2 * i) + word_at 10 (key_of (seed_bytes seed)) 0 (2 * i + 1) * 2 ^ 32

-- the words of a seed, from this one on
pub record FromWord : Type 0 where
  pub seed : ℕ
  pub number : ℕ

-- the generator stands at the word
abbrev pub StandsAt : ChaCha → ℕ → ℕ → Type 0
StandsAt g seed number = g ≡ record { key = key_of (seed_bytes seed); stream = 0; word_pos = 2 * number }
