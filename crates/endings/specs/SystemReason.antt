-- What the system's reason adds to the line of a failure: a line of its own.
use Rattle.std.specs.Prelude.{◌≡◌, ◌⊎◌, ℕ, Bool, true, false, List, [], ◌++◌, codes}
use Rattle.std.specs.declared.io.ErrorKind.{ErrorKind}
use Rattle.std.specs.declared.io.ErrorKind.TheVariants.{NotFound, PermissionDenied, ConnectionRefused, WouldBlock, InvalidInput, ResourceBusy, Unsupported}
use Rattle.endings.specs.declared.failure.Failure.{Failure}
use Rattle.endings.specs.declared.failure.Failure.TheVariants.{CannotRead, CannotWriteFile, CannotConnect}
use Rattle.endings.specs.Failure.{IsPrintedUnless}
use Rattle.endings.specs.FaultOutput.{StandardError, IsSaidOnError}

-- whether it is the system that has the reason of a failure: something can't be read, written or connected to
abbrev pub is_systems : Failure → Bool
is_systems (CannotRead name) = true
is_systems (CannotWriteFile name) = true
is_systems (CannotConnect address) = true
is_systems other = false

-- what is said of a reason that the system gives in these words: just that, but for a device that is no terminal, or somebody else's
abbrev pub reason_words : Failure → ErrorKind → List ℕ → List ℕ
reason_words (CannotConnect address) Unsupported words = codes "no terminal"
reason_words (CannotConnect address) WouldBlock words = codes "in use by another program"
reason_words (CannotConnect address) ResourceBusy words = codes "in use by another program"
reason_words failure kind words = words

-- what may help where there is no connection
abbrev pub connect_hint : ErrorKind → List ℕ
connect_hint WouldBlock = codes ": 'fuser -v' shows which"
connect_hint ResourceBusy = codes ": 'fuser -v' shows which"
connect_hint PermissionDenied = codes ": you may lack the group dialout"
connect_hint NotFound = codes ": 'ls /dev/tty*' shows what is there"
connect_hint ConnectionRefused = codes ": nobody listens there"
connect_hint InvalidInput = codes ": LINE is HOST:PORT or a path with a slash"
connect_hint _ = []

-- what may help
abbrev pub reason_hint : Failure → ErrorKind → List ℕ
reason_hint (CannotConnect address) kind = connect_hint kind
reason_hint other kind = []

-- the line that tells a reason
abbrev pub reason_line : Failure → ErrorKind → List ℕ → List ℕ
reason_line failure kind words = codes "ldaodt: " ++ (reason_words failure kind words ++ (reason_hint failure kind ++ codes "\n"))

-- behind the line of a failure nothing more was said, as there is no room for more, or no reason; or the failure is one of which the system has the
-- reason, and that was printed as a line of its own, where the system has called it so
abbrev pub IsReasonPrinted : Failure → StandardError → StandardError → Type 0
IsReasonPrinted failure err err' =
    (err' ≡ err) ⊎ ((is_systems failure ≡ true) × ((kind : ErrorKind) × (words : List ℕ) × IsSaidOnError err err' (reason_line failure kind words)))

-- standard error tells of a failure, unless nobody is to hear of it, and behind that of the system's reason, where there is one
pub record IsPrintedWithReason (unheard : Bool) (err err' : StandardError) (failure : Failure) : Type 0 where
  pub between : StandardError
  pub printed : IsPrintedUnless unheard err between failure
  pub reason : IsReasonPrinted failure between err'
