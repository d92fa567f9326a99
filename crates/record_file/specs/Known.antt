-- What is known of the file of a record that is held.
use Rattle.std.specs.Prelude.{◌≡◌, ℕ, List, [], Bool, false, Option, Some, IfSome, IsSome, OnSome}
use Rattle.record_file.specs.DiskStep.{DiskStep}
use Rattle.record_file.specs.declared.held_file.HeldFile.{HeldFile}
use Rattle.record_file.specs.declared.made.Made.{Made}

-- whether this load made it, whether it is a device, and what was written to it, as far as that is told
pub record Known : Type 0 where
  pub made : Made
  pub device : Bool
  pub written : Option (List ℕ)

-- whether a file that is held was made, and whether it is a device
abbrev pub kind_of : {T : Type 0} → HeldFile T → Made × Bool
kind_of held = (held.made, held.device)

abbrev pub known_as : Made × Bool → Option (List ℕ) → Known
known_as kind written = record { made = kind.0; device = kind.1; written = written }

abbrev pub known_of : {T : Type 0} → (T → Option (List ℕ)) → HeldFile T → Known
known_of written held = record { made = held.made; device = held.device; written = written held.file }

-- nothing was written to it, where its disk tells what was asked
abbrev pub IsUntouched : Option (List DiskStep) → Option Known → Type 0
IsUntouched asked file = IfSome file (λ known. OnSome asked (known.written ≡ Some []))

-- it counts as no device, where its disk tells what it holds
abbrev pub IsNoDevice : Option (List ℕ) → Option Known → Type 0
IsNoDevice holds file = IsSome holds → IfSome file (λ known. known.device ≡ false)
