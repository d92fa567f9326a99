-- What becomes of a request to show the load of tapes into a simulated console.
use Rattle.std.specs.Prelude.{◌≡◌, ◌⊎◌, List}
use Rattle.host_core.specs.declared.phase.End.{End}
use Rattle.request_values.specs.Change.{Change, ◌⇒◌}
use Rattle.tape_commands.specs.Dialogue.{IsDialogue, IsDialogueFault}
use Rattle.endings.specs.declared.failure.Failure.{Failure}
use Rattle.endings.specs.declared.status.Status.{Status}
use Rattle.endings.specs.Status.{end_status}
use Rattle.input_files.specs.Opening.{Name}
use Rattle.input_files.specs.Inputs.{Known, Inputs, OfTapes, files_of, FailsUnopened}
use Rattle.input_files.specs.Intake.{Intake}
use Rattle.request_values.specs.declared.request.Stage.{Stage}
use Rattle.tape_commands.specs.Output.{FailsOver}

-- the load of the tapes of some inputs came to an end, and was shown
abbrev pub IsShownTo : Stage → Inputs → Change Known → Status → Type 0
IsShownTo stage inputs out status = (end : End) × IsDialogue (inputs.held ⇒ inputs.rests) stage out end × (status ≡ end_status end)

-- the load of the tapes of some inputs was not shown, or not passed on
abbrev pub IsShowingFailure : Stage → Inputs → Change Known → Failure → Type 0
IsShowingFailure stage inputs out failure =
    FailsOver inputs (IsDialogueFault (inputs.held ⇒ inputs.rests) stage out) ((status : Status) × IsShownTo stage inputs out status) failure

-- the load of the tapes of these names was shown
abbrev pub AreShown : List Name → Stage → Change Intake → Status → Type 0
AreShown names stage intake status =
    OfTapes names intake.before intake.after (λ inputs. IsShownTo stage inputs (intake.before.held.out ⇒ intake.after.held.out) status)

-- it was not: a file can't be opened, or what the inputs hold is to blame
abbrev pub AreUnshown : List Name → Stage → Change Intake → Failure → Type 0
AreUnshown names stage intake failure =
    FailsUnopened (files_of names) intake.before intake.after failure
    ⊎ OfTapes names intake.before intake.after (λ inputs. IsShowingFailure stage inputs (intake.before.held.out ⇒ intake.after.held.out) failure)
