-- Tapes on standard input and in files.
use Rattle.std.proofs.Common.{◌≡◌, List, [], Option, Some, map, true, false, if◌then◌else◌, inl, inr, sym, subst, append-nil}
use Rattle.host_devices.proofs.Told.{tells_none}
use Rattle.endings.specs.declared.failure.Failure.{Failure}
use Rattle.endings.specs.declared.failure.Failure.TheVariants.{NoMemory}
use Rattle.endings.specs.Held.{Held}
use Rattle.host_devices.specs.Told.{HasAsked}
use Rattle.input_files.specs.Opening.{Name, InputStep, AreTried, AllOpen}
use Rattle.input_files.proofs.Tried.{no_room, tried_of}
use Rattle.input_files.specs.Inputs.{Known, Inputs, AreOpened, IsUnopened, FailsUnopened, OfFiles, OfTapes, files_of, inputs_of, means_input, only_input}
use Rattle.input_files.specs.Intake.{Intake, intake}

pub of_files : {X : Type 0} (known : X → Known) (names : List Name) (files now : List X) (P : Inputs → Type 0) → P (inputs_of names known files now) → OfFiles names (map known files) P
of_files known names files now P is = record { rests = map known now; is_so = is }

-- nothing was opened
none_opened : (opened : Option (List InputStep)) → AreOpened [] [] opened opened
none_opened opened = ([], tells_none opened, (AllOpen, tt))

files_none : (names : List Name) (opened opened' : Option (List InputStep)) → means_input names ≡ true → AreOpened [] [] opened opened' → AreOpened (files_of names) [] opened opened'
files_none names opened opened' is h = subst (λ b. AreOpened (if b then [] else names) [] opened opened') (sym is) h

files_all : (names : List Name) (P : List Name → Type 0) → means_input names ≡ false → P names → P (files_of names)
files_all names P is h = subst (λ b. P (if b then [] else names)) (sym is) h

pub of_input : (opened : Option (List InputStep)) (names : List Name) (before after : Held) (P : Inputs → Type 0) → means_input names ≡ true
    → P (only_input before.input after.input) → OfTapes names (intake opened before) (intake opened after) P
of_input opened names before after P is h = record { held = []; opened = files_none names opened opened is (none_opened opened); is_so = inl (is, h) }

pub of_named : (names : List Name) (held : List Known) (before after : Intake) (P : Inputs → Type 0) → means_input names ≡ false
    → AreOpened names held before.opened after.opened → OfFiles names held P → after.held.input ≡ before.held.input → OfTapes names before after P
of_named names held before after P is opened h same =
    record { held = held; opened = files_all names (λ files. AreOpened files held before.opened after.opened) is opened; is_so = inr (is, h, same) }

pub unopened_named : (names : List Name) (before after : Intake) (failure : Failure) → means_input names ≡ false
    → IsUnopened names before.opened after.opened failure → after.held.input ≡ before.held.input → after.held.out ≡ before.held.out
    → FailsUnopened (files_of names) before after failure
unopened_named names before after failure is unopened read written = record {
  unopened = files_all names (λ files. IsUnopened files before.opened after.opened failure) is unopened;
  nothing_read = read;
  nothing_written = written;
}

-- all were opened, and then memory was wanting
pub opened_in_vain : (names : List Name) (held : List Known) (opened opened' : Option (List InputStep)) → AreOpened names held opened opened' → IsUnopened names opened opened' NoMemory
opened_in_vain names held opened opened' h =
    subst (λ l. HasAsked opened opened' (AreTried l (Some NoMemory))) (append-nil names) (no_room names [] opened opened' (tried_of names [] held opened opened' h))
