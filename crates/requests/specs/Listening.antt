-- What is heard of a machine once a load is over.
use Rattle.std.specs.Prelude.{◌≡◌, ℕ, ◌+◌, ◌*◌, ◌<◌, ◌≤◌, ◌==◌, if◌then◌else◌, [], ◌∷◌, Option, Some, None, IsSome}
use Rattle.host_core.specs.declared.phase.End.TheVariants as end
use Rattle.std.specs.declared.io.Write.{Ghosts as Write}
use Rattle.host_devices.specs.declared.line.Line.{Ghosts as Line}
use Rattle.host_devices.specs.Told.{Gains}
use Rattle.host_devices.specs.Devices.{LineTold, line_told}
use Rattle.endings.specs.declared.failure.Failure.{Failure}
use Rattle.endings.specs.declared.failure.Failure.TheVariants.{CannotWrite}
use Rattle.load_engine.specs.Driving.{LoadStop as Stop}
use Rattle.engine.specs.declared.stop.Stop.TheVariants.{Ended}
use Rattle.machine_load.specs.declared.load_end.LoadEnd.{LoadEnd}
use Rattle.machine_load.specs.declared.load_end.LoadEnd.TheVariants.{Driven}
use Rattle.machine_load.specs.Load.{Setting}
use Rattle.console_lines.specs.Listening.{Copying, IsListening, IsCopiedInPart}
use Rattle.input_files.specs.Inputs.{Known}
use Rattle.request_values.specs.Change.{Change, ◌⇒◌}

-- how many seconds of silence end the listening behind an engine that stopped so: there is any only where the program was started, or may have been
abbrev pub seconds_behind : Option ℕ → Stop → Option ℕ
seconds_behind listen (Ended end.Started) = listen
seconds_behind listen (Ended end.Uncertain) = listen
seconds_behind listen other = None

-- the same behind a load that ended so
abbrev pub seconds_of : Option ℕ → LoadEnd → Option ℕ
seconds_of listen (Driven stop) = seconds_behind listen stop
seconds_of listen other = None

-- the quiet time of a line, which is a millisecond at least
abbrev pub quiet_time : ℕ → ℕ
quiet_time quiet = if quiet == 0 then 1 else quiet

-- what a line tells, and what the output holds that it is copied to
pub record LineAndOut : Type 0 where
  pub line : LineTold
  pub out : Known

abbrev pub line_to : LineTold → Known → LineAndOut
line_to line out = record { line = line; out = out }

-- what this line and this output tell
abbrev pub line_and_out : {L W : Type 0} → Line L → Write W → L → W → LineAndOut
line_and_out tell write line out = line_to (line_told tell line) (write.contents out)

-- the same, as far as it matters to what is copied
abbrev pub copied : LineAndOut → Copying
copied told = record { said = told.line.said; out = told.out }

-- what was heard of a line until so many seconds were silent, or until it was over, was written, and nothing was sent
pub record IsHeardOut (seconds quiet : ℕ) (told : Change LineAndOut) : Type 0 where
  pub silences : ℕ
  pub enough : 1000 * seconds ≤ silences * quiet
  pub no_more : silences * quiet < 1000 * seconds + quiet
  pub listened : IsListening silences told.after.line.fault (copied told.before) (copied told.after)

-- what there was to listen to was heard out; where nobody listens nothing was said
abbrev pub IsListenedTo : Option ℕ → ℕ → Change LineAndOut → Type 0
IsListenedTo None quiet told = told.after ≡ told.before
IsListenedTo (Some seconds) quiet told = IsHeardOut seconds quiet told

-- somebody listened, and what was heard could not be written
pub record IsListeningCut (seconds : Option ℕ) (told : Change LineAndOut) (failure : Failure) : Type 0 where
  pub asked : IsSome seconds
  pub cut : IsCopiedInPart (copied told.before) (copied told.after)
  pub is_output : failure ≡ CannotWrite

-- a line, where there is one, was listened to so long, and then given back
abbrev pub IsLastHeard : Option ℕ → ℕ → Option LineTold → Change Setting → Type 0
IsLastHeard seconds quiet None setting = setting.after ≡ setting.before
IsLastHeard seconds quiet (Some line) setting =
    (last : LineTold) × Gains setting.before.lines setting.after.lines (last ∷ [])
    × IsListenedTo seconds quiet (line_to line setting.before.out ⇒ line_to last setting.after.out)

-- it was listened to and given back, and what was heard could not be written
pub record IsLastCut (seconds : Option ℕ) (line : Option LineTold) (setting : Change Setting) (failure : Failure) : Type 0 where
  pub first : LineTold
  pub has_line : line ≡ Some first
  pub last : LineTold
  pub given_back : Gains setting.before.lines setting.after.lines (last ∷ [])
  pub cut : IsListeningCut seconds (line_to first setting.before.out ⇒ line_to last setting.after.out) failure
