-- What becomes of a request to check tapes.
use Rattle.std.specs.Prelude.{◌≡◌, ◌⊎◌, Bool, false, List}
use Rattle.request_values.specs.Change.{Change, ◌⇒◌}
use Rattle.tape_commands.specs.CheckText.{IsChecked}
use Rattle.tape_commands.specs.CheckFault.{IsCheckFault}
use Rattle.endings.specs.declared.failure.Failure.{Failure}
use Rattle.endings.specs.declared.status.Status.{Status}
use Rattle.endings.specs.declared.status.Status.TheVariants.{Done}
use Rattle.endings.specs.Held.{Held}
use Rattle.input_files.specs.Opening.{Name}
use Rattle.input_files.specs.Inputs.{Known, Inputs, OfTapes, files_of, FailsUnopened, only_input}
use Rattle.input_files.specs.Intake.{Intake}
use Rattle.request_values.specs.declared.options.CheckOptions.{CheckOptions}
use Rattle.tape_commands.specs.Output.{FailsOver}

-- the tapes of some inputs were checked, with a list of the blocks or without
abbrev pub IsCheckedTo : Bool → Inputs → Change Known → Status → Type 0
IsCheckedTo blocks inputs out status = IsChecked blocks (inputs.held ⇒ inputs.rests) out × (status ≡ Done)

-- the tapes of some inputs were not checked, or the text was not passed on
abbrev pub IsCheckFailure : Bool → Inputs → Change Known → Failure → Type 0
IsCheckFailure blocks inputs out failure =
    FailsOver inputs (IsCheckFault blocks (inputs.held ⇒ inputs.rests) out) (IsChecked blocks (inputs.held ⇒ inputs.rests) out) failure

-- the tape on standard input was checked
abbrev pub IsInputChecked : Held → Held → Status → Type 0
IsInputChecked before after status = IsCheckedTo false (only_input before.input after.input) (before.out ⇒ after.out) status

-- it was not
abbrev pub IsInputUnchecked : Held → Held → Failure → Type 0
IsInputUnchecked before after failure = IsCheckFailure false (only_input before.input after.input) (before.out ⇒ after.out) failure

-- the tapes of these names were checked
abbrev pub AreChecked : List Name → CheckOptions → Change Intake → Status → Type 0
AreChecked names options intake status =
    OfTapes names intake.before intake.after (λ inputs. IsCheckedTo options.blocks inputs (intake.before.held.out ⇒ intake.after.held.out) status)

-- they were not: a file can't be opened, or what the inputs hold is to blame
abbrev pub AreUnchecked : List Name → CheckOptions → Change Intake → Failure → Type 0
AreUnchecked names options intake failure =
    FailsUnopened (files_of names) intake.before intake.after failure
    ⊎ OfTapes names intake.before intake.after (λ inputs. IsCheckFailure options.blocks inputs (intake.before.held.out ⇒ intake.after.held.out) failure)
