-- What is taken of an input, where the reader tells its bytes; where it doesn't, these say lengths alone.
use Rattle.std.specs.Prelude.{ℕ, ◌<◌, ◌≤◌, List, Option, length}
use Rattle.std.specs.Io.KnownBytes.{Consumes, IsAtEnd}

-- these bytes were taken: the input's first ones, as many as the limit, or fewer where it then ended
pub record IsTaken (input input' : Option (List ℕ)) (limit : ℕ) (bytes : List ℕ) : Type 0 where
  pub consumed : Consumes input input' bytes
  pub within : length bytes ≤ limit
  pub to_end : length bytes < limit → IsAtEnd input'

-- some bytes were taken, no more of them than the limit
pub record TakesAtMost (input input' : Option (List ℕ)) (limit : ℕ) : Type 0 where
  pub taken : List ℕ
  pub consumed : Consumes input input' taken
  pub within : length taken ≤ limit
