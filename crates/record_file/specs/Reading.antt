-- What is asked of a system of files to read the old record.
use Rattle.std.specs.Prelude.{◌≡◌, ℕ, List, [], ◌∷◌, ◌++◌, Bool, true, false, Option, Some, None, take, ⊤}
use Rattle.record_file.specs.Beginning.{IsLetGo}
use Rattle.record_file.specs.DiskStep.{DiskStep, FindSoleFile, Did, Failed}
use Rattle.record_file.specs.Holding.{IsHolding}
use Rattle.record_file.specs.Known.{Known, known_as}
use Rattle.record_file.specs.declared.made.Made.{Made}
use Rattle.record_file.specs.declared.made.Made.TheVariants.{Before}
use Rattle.record_file.specs.declared.old_record.OldRecord.{OldRecord}
use Rattle.record_file.specs.declared.old_record.Writable.{Writable}
use Rattle.record_file.specs.declared.old_record.Writable.TheVariants.{No, InPlace, Anew}

-- a file that this load made, and in which something stands nevertheless, counts as one that was there
abbrev pub kind_after : List ℕ → Made × Bool → Made × Bool
kind_after [] kind = kind
kind_after (byte ∷ text) kind = (Before, kind.1)

-- how a file that is held, a device or none, may be begun anew: not where it may not be written; a device without more; and of any other it
-- is found out whether a rename would reach it
pub data IsWayFound (name : List ℕ) : Bool → Writable → List DiskStep → Type 0 where
  Protected : (device : Bool) → IsWayFound name device No []
  Device : IsWayFound name true Anew []
  Reached : IsWayFound name false Anew (Did (FindSoleFile name) ∷ [])
  OutOfReach : IsWayFound name false InPlace (Failed (FindSoleFile name) ∷ [])

-- what was found: the text of a record, and how it may be begun anew
pub record OldText : Type 0 where
  pub text : List ℕ
  pub writable : Writable

abbrev pub found_in : OldRecord → OldText
found_in old = record { text = old.text.items; writable = old.writable }

-- of a file that holds this, as far as that is told, this was read: all of it, or its first bytes, one more than a record may have
abbrev pub IsReadOf : Option (List ℕ) → List ℕ → Type 0
IsReadOf None text = ⊤
IsReadOf (Some all) text = text ≡ take 1048577 all

-- the file is held and read, it may be begun anew so, and from there on this is known of it; or there is none, and what was known stays so
pub data IsRead (name : List ℕ) (found : OldText) (known : Option Known) : Option Known → List DiskStep → Type 0 where
  Held : (kind : Made × Bool) (written : Option (List ℕ)) (steps finding : List DiskStep) → IsHolding name (Some kind) steps
      → IsWayFound name kind.1 found.writable finding → IsRead name found known (Some (known_as (kind_after found.text kind) written)) (steps ++ finding)
  Absent : (steps : List DiskStep) → IsHolding name None steps → found.text ≡ [] → found.writable ≡ No → IsRead name found known known steps

-- it is not held, or is held and let go
pub data IsNotRead (name : List ℕ) : List DiskStep → Type 0 where
  NotHeld : (steps : List DiskStep) → IsHolding name None steps → IsNotRead name steps
  LetGo : (kind : Made × Bool) (steps going : List DiskStep) → IsHolding name (Some kind) steps → IsLetGo name kind.0 going → IsNotRead name (steps ++ going)
