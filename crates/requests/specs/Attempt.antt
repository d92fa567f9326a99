-- What becomes of each request: what the files that it names and standard input held decides what is written, the status, and the line
-- on standard error, behind which may stand another, of changed characters.
use Rattle.std.specs.Prelude.{◌≡◌, ◌⊎◌, Bool, Result, Ok, Err}
use Rattle.endings.specs.declared.failure.Failure.{Failure}
use Rattle.endings.specs.declared.status.Status.{Status}
use Rattle.endings.specs.Held.{Held}
use Rattle.endings.specs.Failure.{status_of, is_unheard}
use Rattle.endings.specs.FaultOutput.{StandardError}
use Rattle.endings.specs.SystemReason.{IsPrintedWithReason}
use Rattle.requests.specs.ChangedLine.{IsChangeTold}
use Rattle.requests.specs.declared.attempted.Attempted.{Attempted}
use Rattle.requests.specs.Loading.{AreLoaded, AreUnloaded}
use Rattle.requests.specs.Probing.{IsConsoleProbed, IsConsoleUnprobed}
use Rattle.requests.specs.Saving.{AreWordsSaved, AreWordsUnsaved}
use Rattle.requests.specs.Making.{AreWordsMade, AreWordsUnmade}
use Rattle.requests.specs.Moment.{AsksNobody, Moment, intake_at}
use Rattle.requests.specs.Testing.{AreWordsTested, AreWordsUntested}
use Rattle.requests.specs.Verifying.{AreVerified, AreUnverified}
use Rattle.request_values.specs.Change.{Change, ◌⇒◌}
use Rattle.request_values.specs.declared.request.Request.{Request}
use Rattle.request_values.specs.Request.{only_prints}
use Rattle.request_values.specs.declared.request.Request.TheVariants.{Tape, Machine}
use Rattle.request_values.specs.declared.request.TapeRequest.TheVariants.{Print, Make}
use Rattle.request_values.specs.declared.request.MachineRequest.TheVariants.{Load, Verify, Save, Probe, Memory}
use Rattle.tape_commands.specs.Printing.{IsPrinted, IsUnprinted}

-- a request was done, and the program ends so
abbrev pub IsDone : Request → Change Moment → Status → Type 0
IsDone (Machine (Load names load)) moments status = AreLoaded names.items load moments status
IsDone (Machine (Verify names look)) moments status = AreVerified names.items look moments status
IsDone (Machine (Save save)) moments status = AreWordsSaved save moments status
IsDone (Machine (Probe request)) moments status = IsConsoleProbed request moments status
IsDone (Machine (Memory request)) moments status = AreWordsTested request moments status
IsDone (Tape (Make make)) moments status = AreWordsMade make moments status
IsDone (Tape (Print request)) moments status = IsPrinted request (intake_at moments.before) (intake_at moments.after) status × AsksNobody moments

-- a request failed
abbrev pub IsFailed : Request → Change Moment → Failure → Type 0
IsFailed (Machine (Load names load)) moments failure = AreUnloaded names.items load moments failure
IsFailed (Machine (Verify names look)) moments failure = AreUnverified names.items look moments failure
IsFailed (Machine (Save save)) moments failure = AreWordsUnsaved save moments failure
IsFailed (Machine (Probe request)) moments failure = IsConsoleUnprobed request moments failure
IsFailed (Machine (Memory request)) moments failure = AreWordsUntested request moments failure
IsFailed (Tape (Make make)) moments failure = AreWordsUnmade make moments failure
IsFailed (Tape (Print request)) moments failure = IsUnprinted request (intake_at moments.before) (intake_at moments.after) failure × AsksNobody moments

-- it was done, with this status, and standard error has nothing of it
pub record IsDoneQuietly (request : Request) (moments : Change Moment) (status : Status) : Type 0 where
  pub done : IsDone request moments status
  pub quiet : moments.after.held.err ≡ moments.before.held.err

-- the same moments, the second when standard error was as given
abbrev pub when_error_was : StandardError → Change Moment → Change Moment
when_error_was err moments = moments.before ⇒ record moments.after { held = record moments.after.held { err = err } }

-- the same moments, the second before standard error was told anything
abbrev pub before_telling : Change Moment → Change Moment
before_telling moments = when_error_was moments.before.held.err moments

-- it failed, standard error tells of it where somebody is to hear of it, and of the system's reason, and the status says so
pub record IsFailedAloud (request : Request) (moments : Change Moment) (status : Status) : Type 0 where
  pub failure : Failure
  pub failed : IsFailed request (before_telling moments) failure
  pub told : IsPrintedWithReason (is_unheard (only_prints request) moments.after.held.unread failure) moments.before.held.err moments.after.held.err failure
  pub status_is : status ≡ status_of failure

-- it was done or failed, and the program ends so
abbrev pub IsOver : Request → Change Moment → Status → Type 0
IsOver request moments status = IsDoneQuietly request moments status ⊎ IsFailedAloud request moments status

-- a request was attempted from one moment to another, and came to this; behind all that, where it is one at a machine, standard error was told how
-- many characters came changed, if any did
pub record IsAttempted (request : Request) (moments : Change Moment) (ended : Attempted) : Type 0 where
  pub between : StandardError
  pub over : IsOver request (when_error_was between moments) ended.status
  pub changed : IsChangeTold request ended.changed between moments.after.held.err

-- how the program ends with what a request came to: it was done, and nothing more is said; or it failed, and standard error tells why, where
-- somebody is to hear of it
abbrev pub IsEndOf : Bool → Result Status Failure → Change Held → Status → Type 0
IsEndOf prints (Ok done) held status = (held.after ≡ held.before) × (status ≡ done)
IsEndOf prints (Err failure) held status =
    (held.after ≡ record held.before { err = held.after.err })
    × IsPrintedWithReason (is_unheard prints held.before.unread failure) held.before.err held.after.err failure
    × (status ≡ status_of failure)
