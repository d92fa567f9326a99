-- What becomes of a request to rehearse a load.
use Rattle.std.specs.Prelude.{◌≡◌, ◌⊎◌, ℕ, List}
use Rattle.std.specs.Io.KnownBytes.{Appends}
use Rattle.request_values.specs.Change.{Change, ◌⇒◌}
use Rattle.tape_commands.specs.Rehearsal.{IsRehearsed, IsRehearseFault}
use Rattle.endings.specs.declared.failure.Failure.{Failure}
use Rattle.endings.specs.declared.status.Status.{Status}
use Rattle.endings.specs.declared.status.Status.TheVariants.{Done}
use Rattle.input_files.specs.Inputs.{Known, Inputs, FailsUnopened, HasFault}
use Rattle.input_files.specs.Intake.{Intake}
use Rattle.input_files.specs.Taking.{OfRehearsed, rehearsed_files}
use Rattle.request_values.specs.declared.request.Rehearsal.{Rehearsal}
use Rattle.tape_commands.specs.Output.{FailsAtFlush}

-- what a script's file held was rehearsed with the tapes
pub record IsRehearsedInto (script : Known) (inputs : Inputs) (out out' : Known) : Type 0 where
  pub text : List ℕ
  pub rehearsed : IsRehearsed (inputs.held ⇒ inputs.rests) script text
  pub written : Appends out out' text

-- a rehearsal failed, with this in the script's file of this name; or its text was not passed on
abbrev pub IsRehearsalFailure : List ℕ → Known → Inputs → Change Known → Failure → Type 0
IsRehearsalFailure name script inputs out failure =
    HasFault (IsRehearseFault (inputs.held ⇒ inputs.rests) script out) inputs.names name failure
    ⊎ FailsAtFlush (IsRehearsedInto script inputs out.before out.after) failure

-- the load of its tapes was rehearsed with a script in a file
pub record AreRehearsed (rehearsal : Rehearsal) (before after : Intake) (status : Status) : Type 0 where
  pub rehearsed : OfRehearsed rehearsal before after (λ script inputs. IsRehearsedInto script inputs before.held.out after.held.out)
  pub status_is : status ≡ Done

-- it was not: a file can't be opened, or the rehearsal failed
abbrev pub AreUnrehearsed : Rehearsal → Intake → Intake → Failure → Type 0
AreUnrehearsed rehearsal before after failure =
    FailsUnopened (rehearsed_files rehearsal) before after failure
    ⊎ OfRehearsed rehearsal before after (λ script inputs.
    IsRehearsalFailure rehearsal.script.now script inputs (before.held.out ⇒ after.held.out) failure)
