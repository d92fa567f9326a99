-- What becomes of the words of a command line (this project's own).
use Rattle.std.specs.Prelude.{◌≡◌, ◌⊎◌, ℕ, Bool, true, false, List, Option}
use Rattle.std.specs.Borrow.{Bor}
use Rattle.requests.specs.Attempt.{IsAttempted}
use Rattle.requests.specs.Moment.{Moment}
use Rattle.requests.specs.declared.attempted.Attempted.{Attempted}
use Rattle.request_values.specs.Change.{◌⇒◌}
use Rattle.request_values.specs.declared.request.MachineRequest.{MachineRequest}
use Rattle.request_values.specs.declared.request.Request.{Request}
use Rattle.request_values.specs.declared.request.Request.TheVariants.{Tape, Machine}
use Rattle.endings.specs.Failure.{IsPrinted}
use Rattle.endings.specs.FaultOutput.{StandardError}
use Rattle.endings.specs.Held.{Held}
use Rattle.endings.specs.declared.failure.Failure.TheVariants.{Misplaced}
use Rattle.endings.specs.declared.place.Place.{Place}
use Rattle.endings.specs.declared.status.Status.{Status}
use Rattle.endings.specs.declared.status.Status.TheVariants.{BadCommandLine}
use Rattle.command_line.specs.declared.no_request.NoRequest.{NoRequest}
use Rattle.command_line.specs.declared.wanted.Wanted.{Wanted}
use Rattle.command_line.specs.Explanation.{IsExplained}
use Rattle.command_line.specs.Help.{IsAnswerTo}
use Rattle.command_line.specs.Wanted.{IsAskedBy}
use Rattle.ldaodt.specs.Misplaced.{IsAmong, names_at}
use Rattle.ldaodt.specs.Names.{IsOutAt, NamesTold}
use Rattle.run_log.specs.LogLine.{IsLogged}
use Rattle.run_log.specs.Report.{AreNotesSince, Noted}

-- what a request came to that reached no line
abbrev pub without_line : Status → Attempted
without_line status = record { status = status; changed = 0 }

-- nothing was asked of the system, and standard error tells of a name of the request that can't be what its place asks for
pub record IsMisplaced (names : NamesTold) (request : Request) (before after : Moment) (ended : Attempted) : Type 0 where
  pub name : Bor (List ℕ)
  pub place : Place
  pub own : IsAmong (name, place) (names_at request)
  pub out : IsOutAt names place name.now
  pub told : IsPrinted before.held.err after.held.err (Misplaced name place)
  pub quiet : after ≡ record before { held = record before.held { err = after.held.err } }
  pub ended_is : ended ≡ without_line BadCommandLine

-- a request was attempted, or a name of it is out of place
abbrev pub IsTried : NamesTold → Request → Moment → Moment → Attempted → Type 0
IsTried names request before after ended = IsAttempted request (before ⇒ after) ended ⊎ IsMisplaced names request before after ended

-- the line of a run at a machine that came to this, with what is noted of all that was written to standard output since it held this
abbrev pub IsLineOf : MachineRequest → Option (List ℕ) → Attempted → Held → StandardError → Type 0
IsLineOf request first ended held err' =
    (report : Noted) × AreNotesSince first held.out report
    × IsLogged (record { request = request; status = ended.status; report = report; changed = ended.changed }) held.err err'

-- standard error has that line, and nothing else is another than before; of any other run nothing is said
abbrev pub IsRunLogged : Request → Option (List ℕ) → Attempted → Held → Held → Type 0
IsRunLogged (Machine request) first ended held held' = (held' ≡ record held { err = held'.err }) × IsLineOf request first ended held held'.err
IsRunLogged (Tape request) first ended held held' = held' ≡ held

-- the same, where it is wanted
abbrev pub is_logged_if : Bool → Request → Option (List ℕ) → Attempted → Held → Held → Type 0
is_logged_if true request first ended held held' = IsRunLogged request first ended held held'
is_logged_if false request first ended held held' = held' ≡ held

abbrev pub IsLoggedIf : Option (List ℕ) → Wanted → Attempted → Held → Held → Type 0
IsLoggedIf first wanted ended held held' = is_logged_if wanted.log wanted.request first ended held held'

-- what names lead to, and what standard output held at first, each as far as it is told
pub record Around : Type 0 where
  pub names : NamesTold
  pub held : Option (List ℕ)

abbrev pub around : NamesTold → Option (List ℕ) → Around
around names held = record { names = names; held = held }

-- what the words ask for was tried; then the run may have had its line in a log, with the number of changed characters that standard error was told
pub record IsDone (around : Around) (words : List (List ℕ)) (before after : Moment) (status : Status) : Type 0 where
  pub wanted : Wanted
  pub asked : IsAskedBy words wanted
  pub between : Held
  pub ended : Attempted
  pub tried : IsTried around.names wanted.request before (record after { held = between }) ended
  pub logged : IsLoggedIf around.held wanted ended between after.held
  pub status_is : status ≡ ended.status

-- what the words ask for was tried; or the words were explained, by help only where they ask for it, and nothing was asked of the system
abbrev pub IsAnswered : Around → List (List ℕ) → Moment → Moment → Status → Type 0
IsAnswered around words before after ended =
    IsDone around words before after ended
    ⊎ ((answer : NoRequest) × IsAnswerTo words answer × IsExplained answer before.held after.held ended × (after.asked ≡ before.asked))
