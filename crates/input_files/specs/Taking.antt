-- The tapes that are taken of standard input or of files, by their names.
use Rattle.std.specs.Prelude.{◌⊎◌, if◌then◌else◌, List, [], ◌∷◌, Option, codes}
use Rattle.input_files.specs.Tapes.{AreTapes, AreTapesFault}
use Rattle.input_files.specs.declared.tapes.Tapes.{Tapes}
use Rattle.endings.specs.declared.failure.Failure.{Failure}
use Rattle.input_files.specs.Inputs.{Inputs, Known, AreOpened, IsUnopened, OfFiles, OfInputs, OfTapes, FailsUnopened, HasFault, files_of, means_input, only_input}
use Rattle.input_files.specs.Intake.{Intake}
use Rattle.input_files.specs.Opening.{Name, InputStep}
use Rattle.request_values.specs.declared.request.Rehearsal.{Rehearsal}

-- these tapes were taken of inputs
abbrev pub AreTakenOf : Tapes → Inputs → Type 0
AreTakenOf taken inputs = AreTapes inputs.held inputs.rests taken.tapes.items taken.layouts.items

-- this is so of whatever inputs these tapes were taken of
abbrev pub OfTakenInputs : Tapes → (Inputs → Type 0) → Type 0
OfTakenInputs taken P = (inputs : Inputs) → AreTakenOf taken inputs → P inputs

-- no tapes were taken of inputs: one is refused or can't be read, or want of memory
abbrev pub FailsToTake : Inputs → Failure → Type 0
FailsToTake inputs failure = HasFault (AreTapesFault inputs.held inputs.rests) inputs.names (codes "standard input") failure

-- none were taken of the inputs that names stand for: a file can't be opened, or what the inputs hold is to blame
abbrev pub AreUntaken : List Name → Intake → Intake → Failure → Type 0
AreUntaken names before after failure =
    FailsUnopened (files_of names) before after failure ⊎ OfTapes names before after (λ inputs. FailsToTake inputs failure)

-- the names of the tapes of a rehearsal, the first before all others
abbrev pub rehearsed_tapes : Rehearsal → List Name
rehearsed_tapes rehearsal = rehearsal.tape ∷ rehearsal.more.items

-- all that a rehearsal names, in its order: the script stands behind the first tape
abbrev pub rehearsed_names : Rehearsal → List Name
rehearsed_names rehearsal = rehearsal.tape ∷ rehearsal.script ∷ rehearsal.more.items

-- what a script's file held, behind the first of tapes
abbrev pub behind_first : Known → List Known → List Known
behind_first script [] = script ∷ []
behind_first script (first ∷ more) = first ∷ script ∷ more

-- all these were opened as files, and this is so of what the script's and those of the tapes held
pub record OfScripted (rehearsal : Rehearsal) (opened opened' : Option (List InputStep)) (P : Known → Inputs → Type 0) : Type 0 where
  pub script : Known
  pub held : List Known
  pub are_open : AreOpened (rehearsed_names rehearsal) (behind_first script held) opened opened'
  pub is_so : OfFiles (rehearsed_tapes rehearsal) held (P script)

-- no tapes were taken of all these as files: one can't be opened, or what they hold is to blame
abbrev pub FailsToTakeFiles : Rehearsal → Option (List InputStep) → Option (List InputStep) → Failure → Type 0
FailsToTakeFiles rehearsal opened opened' failure =
    IsUnopened (rehearsed_names rehearsal) opened opened' failure ⊎ OfScripted rehearsal opened opened' (λ script inputs. FailsToTake inputs failure)

-- no tape was taken of standard input: the file of the script can't be opened, or what the input holds is to blame
abbrev pub FailsToTakeInput : Name → Intake → Intake → Failure → Type 0
FailsToTakeInput script before after failure =
    FailsUnopened (script ∷ []) before after failure
    ⊎ ((held : Known) × AreOpened (script ∷ []) (held ∷ []) before.opened after.opened × FailsToTake (only_input before.held.input after.held.input) failure)

-- the files of a rehearsal: with the tape on standard input the script alone is one
abbrev pub rehearsed_files : Rehearsal → List Name
rehearsed_files rehearsal = if means_input (rehearsed_tapes rehearsal) then (rehearsal.script ∷ []) else rehearsed_names rehearsal

-- the files of a rehearsal were opened, and this is so of what its script's file held and of its tapes
pub record OfRehearsed (rehearsal : Rehearsal) (before after : Intake) (P : Known → Inputs → Type 0) : Type 0 where
  pub script : Known
  pub held : List Known
  pub opened : AreOpened (rehearsed_files rehearsal) (behind_first script held) before.opened after.opened
  pub is_so : OfInputs (rehearsed_tapes rehearsal) held before.held after.held (P script)

-- no tapes of a rehearsal were taken: a file can't be opened, or what the inputs hold is to blame
abbrev pub AreNotRehearsed : Rehearsal → Intake → Intake → Failure → Type 0
AreNotRehearsed rehearsal before after failure =
    FailsUnopened (rehearsed_files rehearsal) before after failure ⊎ OfRehearsed rehearsal before after (λ script inputs. FailsToTake inputs failure)
