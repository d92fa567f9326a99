-- What becomes of a request to verify what a real machine holds.
use Rattle.std.specs.Prelude.{◌≡◌, ◌⊎◌, List, Ok, Err}
use Rattle.tape_image.specs.Plan.{PlanValue}
use Rattle.console_lines.specs.Console.{ConsoleTold}
use Rattle.machine_look.specs.LookFault.{IsVerifyFault}
use Rattle.machine_look.specs.Verify.{IsVerifyReported}
use Rattle.machine_look.specs.declared.look_fault.LookFault.{LookFault}
use Rattle.machine_look.specs.declared.verify_end.VerifyEnd.{VerifyEnd}
use Rattle.machine_look.specs.declared.verifying.VerifyOptions.{VerifyOptions}
use Rattle.endings.specs.declared.failure.Failure.{Failure}
use Rattle.endings.specs.declared.status.Status.{Status}
use Rattle.requests.specs.Ending.{IsFailureOf, after_verify}
use Rattle.requests.specs.declared.request_fault.RequestFault.TheVariants as request_fault
use Rattle.request_values.specs.Change.{Change}
use Rattle.request_values.specs.declared.machine.Look.{Look}
use Rattle.input_files.specs.Opening.{Name}
use Rattle.requests.specs.Planning.{HaveNoPlan, IsPlanned}
use Rattle.requests.specs.Moment.{AsksNoDisk, Moment, consoles_at, intake_at}

-- how a plan is verified, as the request has it
abbrev pub options_of : Look → VerifyOptions
options_of look = record { care = look.care; patience = look.patience }

-- memory was looked at for a plan
abbrev pub IsVerifyOver : PlanValue → Look → Change ConsoleTold → Status → Type 0
IsVerifyOver plan look console status =
    (end : VerifyEnd) × IsVerifyReported plan (options_of look) console end × (after_verify end ≡ Ok status)

-- a look for a plan came to nothing
pub record IsVerifyInVain (plan : PlanValue) (look : Look) (console : Change ConsoleTold) (failure : Failure) : Type 0 where
  pub fault : LookFault
  pub is_so : IsVerifyFault plan (options_of look) console fault
  pub is_called : IsFailureOf (request_fault.Look fault) look.line.now look.line.now failure

-- a look for a plan failed: it came to nothing, or it was reported and its line had failed
abbrev pub IsVerifyFailure : PlanValue → Look → Change ConsoleTold → Failure → Type 0
IsVerifyFailure plan look console failure =
    IsVerifyInVain plan look console failure
    ⊎ ((end : VerifyEnd) × IsVerifyReported plan (options_of look) console end × (after_verify end ≡ Err failure))

-- memory was looked at for the tapes of these names, as one, at the console that is named
pub record AreVerified (names : List Name) (look : Look) (moments : Change Moment) (status : Status) : Type 0 where
  pub plan : PlanValue
  pub planned : IsPlanned names (intake_at moments.before) (intake_at moments.after) plan
  pub verified : IsVerifyOver plan look (consoles_at look moments) status
  pub no_disk : AsksNoDisk moments

-- there is a plan, and the look for it failed
pub record IsVerifyUndone (names : List Name) (look : Look) (moments : Change Moment) (failure : Failure) : Type 0 where
  pub plan : PlanValue
  pub planned : IsPlanned names (intake_at moments.before) (intake_at moments.after) plan
  pub failed : IsVerifyFailure plan look (consoles_at look moments) failure
  pub no_disk : AsksNoDisk moments

-- the look failed: there is no plan, and no console was asked for, or it failed on its way
abbrev pub AreUnverified : List Name → Look → Change Moment → Failure → Type 0
AreUnverified names look moments failure = HaveNoPlan names moments failure ⊎ IsVerifyUndone names look moments failure
