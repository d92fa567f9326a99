-- What is said on standard error, where its type tells what it holds, and how many of its writes failed.
use Rattle.std.specs.Prelude.{◌≡◌, ◌⊎◌, ℕ, zero, suc, List, Option, Some, None, Result, Ok, Err, ⊤}
use Rattle.std.specs.Io.KnownBytes.{Appends}
use Rattle.std.specs.declared.io.Error.{Error}
use Rattle.byte_io.specs.Output.{WritesProperPrefix}
use Rattle.host_devices.specs.Failures.{one_more}

-- what standard error holds, and how many writes failed there, each where its type tells
pub record StandardError : Type 0 where
  pub text : Option (List ℕ)
  pub failures : Option ℕ

-- what is known of one whose type tells nothing
abbrev pub untold : StandardError
untold = record { text = None; failures = None }

-- no write failed since
abbrev pub NoneFailed : Option ℕ → Option ℕ → Type 0
NoneFailed None count' = ⊤
NoneFailed (Some count) count' = count' ≡ Some count

-- one write failed since
abbrev pub OneFailed : Option ℕ → Option ℕ → Type 0
OneFailed None count' = ⊤
OneFailed (Some count) count' = count' ≡ Some (one_more count)

-- a write of a text that is not empty came to this: one that took nothing has failed, too
abbrev pub CountsWrite : Option ℕ → Option ℕ → Result ℕ Error → Type 0
CountsWrite count count' (Ok zero) = OneFailed count count'
CountsWrite count count' (Ok (suc taken)) = NoneFailed count count'
CountsWrite count count' (Err error) = OneFailed count count'

-- all of it was said, and nothing else
pub record IsSaidWhole (err err' : StandardError) (text : List ℕ) : Type 0 where
  pub written : Appends err.text err'.text text
  pub none_failed : NoneFailed err.failures err'.failures

-- a proper prefix of it was said, and nothing else: one write failed, and none was made behind it
pub record IsSaidInPart (err err' : StandardError) (text : List ℕ) : Type 0 where
  pub written : WritesProperPrefix err.text err'.text text
  pub one_failed : OneFailed err.failures err'.failures

-- a text was said: something of it is missing only where standard error failed
abbrev pub IsSaidOnError : StandardError → StandardError → List ℕ → Type 0
IsSaidOnError err err' text = IsSaidWhole err err' text ⊎ IsSaidInPart err err' text
