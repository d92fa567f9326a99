-- What is asked of a system of files to open and hold the file of a record.
use Rattle.std.specs.Prelude.{◌≡◌, ℕ, ◌+◌, ◌<◌, ◌≤◌, List, [], ◌∷◌, ◌++◌, Bool, true, false, Option, Some, None}
use Rattle.record_file.specs.DiskStep.{DiskStep, Look, LookAtName, Open, Hold, Did, Failed, step_by}
use Rattle.record_file.specs.declared.disk.Access.TheVariants.{ReadOnly, ReadWrite, New, Created}
use Rattle.record_file.specs.declared.made.Made.{Made}
use Rattle.record_file.specs.declared.made.Made.TheVariants.{Before, Here, BehindLink}

-- what the name leads to is looked at. A file that is there is opened to be written, or else to be read alone; where nothing is there one is made, or made
-- where a link leads to. Or none can be, or it is no file that could hold a record, or the name is no link and somebody has made one just now
pub data IsOpened (name : List ℕ) : Option Made → List DiskStep → Type 0 where
  Writable : IsOpened name (Some Before) (Did (Look name) ∷ Did (Open ReadWrite name) ∷ [])
  Protected : IsOpened name (Some Before) (Did (Look name) ∷ Failed (Open ReadWrite name) ∷ Did (Open ReadOnly name) ∷ [])
  Refused : IsOpened name None (Did (Look name) ∷ Failed (Open ReadWrite name) ∷ Failed (Open ReadOnly name) ∷ [])
  Plain : IsOpened name (Some Here) (Failed (Look name) ∷ Did (Open New name) ∷ [])
  Linked : IsOpened name (Some BehindLink) (Failed (Look name) ∷ Failed (Open New name) ∷ Did (LookAtName name) ∷ Did (Open Created name) ∷ [])
  LeadsNowhere : IsOpened name None (Failed (Look name) ∷ Failed (Open New name) ∷ Did (LookAtName name) ∷ Failed (Open Created name) ∷ [])
  Appeared : (found : Bool) → IsOpened name None (Failed (Look name) ∷ Failed (Open New name) ∷ step_by (LookAtName name) found ∷ [])
  Unmade : IsOpened name None (Failed (Look name) ∷ Failed (Open New name) ∷ [])
  Strange : (found : Bool) → IsOpened name None (step_by (Look name) found ∷ [])

-- a file is held, where it is no device, or somebody else holds it
abbrev pub hold_steps : List ℕ → Bool → Bool → List DiskStep
hold_steps name true held = []
hold_steps name false held = step_by (Hold name) held ∷ []

-- an open file is held, but for a device, and its name still leads to it; or nothing is known of it, or another load holds it, or the name leads
-- elsewhere by now
pub data IsHeld (name : List ℕ) : Option Bool → List DiskStep → Type 0 where
  Held : (device : Bool) → IsHeld name (Some device) (hold_steps name device true ++ Did (Look name) ∷ [])
  Unknown : IsHeld name None []
  InUse : (device : Bool) → IsHeld name None (hold_steps name device false)
  Moved : (device found : Bool) → IsHeld name None (hold_steps name device true ++ step_by (Look name) found ∷ [])

-- one try, which holds a file that was made so and is a device or none; or it holds nothing
pub data IsTry (name : List ℕ) : Option (Made × Bool) → List DiskStep → Type 0 where
  Taken : (made : Made) (device : Bool) (opening holding : List DiskStep) → IsOpened name (Some made) opening → IsHeld name (Some device) holding
      → IsTry name (Some (made, device)) (opening ++ holding)
  NotOpened : (steps : List DiskStep) → IsOpened name None steps → IsTry name None steps
  NotHeld : (made : Made) (opening holding : List DiskStep) → IsOpened name (Some made) opening → IsHeld name None holding
      → IsTry name None (opening ++ holding)

-- so many tries in a row, of which no one but the last may hold the file
pub data AreTries (name : List ℕ) : ℕ → Option (Made × Bool) → List DiskStep → Type 0 where
  NoTry : AreTries name 0 None []
  OneMore : (count : ℕ) (kind : Option (Made × Bool)) (before steps : List DiskStep) → AreTries name count None before → IsTry name kind steps
      → AreTries name (count + 1) kind (before ++ steps)

-- a record's file was to be held, in one try or more, and at most eight: it is, and this is known of it; or it is not
abbrev pub IsHolding : List ℕ → Option (Made × Bool) → List DiskStep → Type 0
IsHolding name kind steps = (count : ℕ) × (0 < count) × (count ≤ 8) × AreTries name count kind steps
