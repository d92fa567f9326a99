-- The plan of the tapes that a request names.
use Rattle.std.specs.Prelude.{◌≡◌, ◌⊎◌, List}
use Rattle.tape_image.specs.Plan.{PlanValue, plan_of_all}
use Rattle.input_files.specs.Tapes.{TapeText, AreTaken, tapes_of}
use Rattle.endings.specs.declared.failure.Failure.{Failure}
use Rattle.input_files.specs.Inputs.{Inputs, OfTapes, FailsUnopened, files_of}
use Rattle.input_files.specs.Intake.{Intake}
use Rattle.input_files.specs.Opening.{Name}
use Rattle.input_files.specs.Taking.{FailsToTake}
use Rattle.request_values.specs.Change.{Change}
use Rattle.requests.specs.Moment.{AsksNobody, Moment, intake_at}

-- tapes were taken of the inputs, and this is the plan of all of them
pub record IsPlanOf (inputs : Inputs) (plan : PlanValue) : Type 0 where
  pub texts : List TapeText
  pub taken : AreTaken inputs.held inputs.rests texts
  pub plan_is : plan ≡ plan_of_all (tapes_of texts)

-- this is the plan of the tapes of these names
abbrev pub IsPlanned : List Name → Intake → Intake → PlanValue → Type 0
IsPlanned names before after plan = OfTapes names before after (λ inputs. IsPlanOf inputs plan)

-- no plan comes of the tapes of these names, and nothing was written
abbrev pub IsUnplanned : List Name → Intake → Intake → Failure → Type 0
IsUnplanned names before after failure =
    FailsUnopened (files_of names) before after failure
    ⊎ (OfTapes names before after (λ inputs. FailsToTake inputs failure) × (after.held.out ≡ before.held.out))

-- the tapes of these names have no plan, and of disk and consoles nothing was asked
abbrev pub HaveNoPlan : List Name → Change Moment → Failure → Type 0
HaveNoPlan names moments failure =
    AsksNobody moments × IsUnplanned names (intake_at moments.before) (intake_at moments.after) failure
