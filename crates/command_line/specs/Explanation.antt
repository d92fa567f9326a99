-- What is said of words that ask for nothing to be done (this project's own).
use Rattle.std.specs.Prelude.{◌≡◌, ℕ, List, codes}
use Rattle.std.specs.String.{string_bytes}
use Rattle.endings.specs.Explained.{IsShown}
use Rattle.endings.specs.Failure.{IsPrinted}
use Rattle.endings.specs.FaultOutput.{IsSaidOnError}
use Rattle.endings.specs.Held.{Held}
use Rattle.endings.specs.declared.failure.Failure.TheVariants as failure
use Rattle.endings.specs.declared.status.Status.{Status}
use Rattle.endings.specs.declared.status.Status.TheVariants as status
use Rattle.command_line.specs.declared.no_request.NoRequest.{NoRequest}
use Rattle.command_line.specs.declared.no_request.NoRequest.TheVariants.{Help, Refused, Meaningless, NoMemory}

-- the words are refused, and standard error says so by a text
pub record AreWordsRefused (text : List ℕ) (before after : Held) (ended : Status) : Type 0 where
  pub status : ended ≡ status.BadCommandLine
  pub told : IsSaidOnError before.err after.err text
  pub out : after.out ≡ before.out
  pub input : after.input ≡ before.input

-- memory was wanting, and standard error says so
pub record IsMemoryWanting (before after : Held) (ended : Status) : Type 0 where
  pub status : ended ≡ status.NoMemory
  pub told : IsPrinted before.err after.err failure.NoMemory
  pub out : after.out ≡ before.out
  pub input : after.input ≡ before.input

-- words that ask for nothing to be done are explained: a text that was asked for is shown, or the words are refused, or memory was
-- wanting
abbrev pub IsExplained : NoRequest → Held → Held → Status → Type 0
IsExplained (Help text) before after ended = IsShown (string_bytes text) before after ended
IsExplained (Refused text) before after ended = AreWordsRefused (string_bytes text) before after ended
IsExplained Meaningless before after ended = AreWordsRefused (codes "ldaodt: the command line is not understood\n") before after ended
IsExplained NoMemory before after ended = IsMemoryWanting before after ended
