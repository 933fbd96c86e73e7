-- Bytes on their way to a sink: some were written, and the others wait.
use Rattle.std.specs.Prelude.{◌≡◌, ℕ, List, ◌++◌, Option}
use Rattle.outside.specs.Bytes.{Added, AddedSome}

-- these bytes were sent: the sink has some more, and what waits is the rest
pub record Sent (old : Option (List ℕ)) (waited : List ℕ) (new : Option (List ℕ)) (waiting : List ℕ) (bytes : List ℕ) : Type 0 where
  pub written : List ℕ
  pub whole : waited ++ bytes ≡ written ++ waiting
  pub added : Added old new written

-- the sink has a front of what waited and of these bytes
pub record SentSome (old : Option (List ℕ)) (waited : List ℕ) (new : Option (List ℕ)) (bytes : List ℕ) : Type 0 where
  pub some : AddedSome old new (waited ++ bytes)
