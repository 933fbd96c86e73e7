use Rattle.std.proofs.Common.{◌≡◌, ◌<◌, ◌+◌, ℕ, get_or}
use Rattle.sampler.specs.Words.{random_word}
use Rattle.outputs.proofs.shots.refill.Given as goal

-- the words before this place stand at the head of the buffer
abbrev pub invariant-words : goal.invariant-words
invariant-words l = record {
  filled : (i : ℕ) → i < l.place → get_or l.buffer i 0 ≡ random_word l.fn.words.seed (l.fn.words.number + i);
  words : l.words ≡ record { seed = l.fn.words.seed; number = l.fn.words.number + l.place };
}
