-- What the standard streams hold.
use Rattle.std.specs.Prelude.{ℕ, Bool, List, Option}
use Rattle.endings.specs.FaultOutput.{StandardError}

-- what standard input has left and standard output holds, each where its type tells, whether nobody was found to read the output any more, and
-- what is known of standard error
pub record Held : Type 0 where
  pub input : Option (List ℕ)
  pub out : Option (List ℕ)
  pub unread : Bool
  pub err : StandardError
