-- How a record is begun anew: so that FILE is at each moment the old one or the new one.
use Rattle.std.specs.Prelude.{◌≡◌, List, [], ◌∷◌, ◌++◌, Bool, true, false, Option, Some, None, Result, Ok, Err, codes, length, ℕ, if◌then◌else◌, ⊤}
use Rattle.load_record.specs.Keeper.{Lasts}
use Rattle.record_file.specs.DiskStep.{Look, FindSoleFile, Open, Rename, Remove, SyncFolder, Cut, SyncFile, DiskStep, Did, Failed, LedTo, step_by, HasFailed, AreAside, LeaveAllBut, held_behind}
use Rattle.record_file.specs.Folder.{IsFolderOf}
use Rattle.record_file.specs.Known.{Known}
use Rattle.record_file.specs.declared.disk.Access.TheVariants.{ReadOnly}
use Rattle.record_file.specs.declared.made.Made.{Made}
use Rattle.record_file.specs.declared.made.Made.TheVariants.{Before, Here, BehindLink}

-- ---- beside

-- the name of the new file
abbrev pub new_name : List ℕ → List ℕ
new_name name = name ++ codes ".ldaodt-new"

-- what comes of it: the new record has the old one's name, and that is on the disk; or the record is to be written where it is; or the load gives up
pub data Course : Type 0 where
  Replaced : Course
  NotReplaced : Course
  GivenUp : Course

-- what comes of it where it is known whether the new record was renamed, or there was a fault
abbrev pub course : {A E : Type 0} → (A → Bool) → Result A E → Course
course is_renamed (Ok value) = if is_renamed value then Replaced else NotReplaced
course is_renamed (Err fault) = GivenUp

-- while the name leads to the old record the new one is renamed over it, with so much of it on the disk
abbrev pub renaming : List ℕ → Option (List ℕ) → List DiskStep
renaming name left = Did (Look name) ∷ Did (Rename (new_name name) name left) ∷ []

-- before that no file but the new one came, went or changed, and it is held, and whole on the disk
abbrev pub IsNewReady : List ℕ → List ℕ → List DiskStep → Option (List ℕ) → Type 0
IsNewReady name text before left = LeaveAllBut (new_name name) false before × (held_behind false before ≡ true) × Lasts left (Some text)

-- first it is found out whether a rename reaches the record, and last the folder is synced. From the rename on FILE is none that this load made. Only where
-- something failed it is not renamed, unless the load gives up; and then what was made of it was taken away again, or that failed
pub data IsBeside (name text : List ℕ) (made : Made) : Course → Made → List DiskStep → Type 0 where
  Whole : (before : List DiskStep) (left : Option (List ℕ)) (folder : List ℕ) → IsNewReady name text before left → IsFolderOf name folder
      → IsBeside name text made Replaced Before (Did (FindSoleFile name) ∷ (before ++ (renaming name left ++ Did (SyncFolder folder) ∷ [])))
  Unsynced : (before : List DiskStep) (left : Option (List ℕ)) (folder : List ℕ) → IsNewReady name text before left
      → IsBeside name text made GivenUp Before (Did (FindSoleFile name) ∷ (before ++ (renaming name left ++ Failed (SyncFolder folder) ∷ [])))
  NotRenamed : (steps : List DiskStep) → AreAside (new_name name) false steps → HasFailed steps → IsBeside name text made NotReplaced made steps
  Stopped : (steps : List DiskStep) → AreAside (new_name name) false steps → IsBeside name text made GivenUp made steps

-- behind any steps by which the new file came to be held, these give it the old one's name, or do not
abbrev pub Replaces : (name text : List ℕ) → Made → Course → Made → List DiskStep → Type 0
Replaces name text made course after steps =
    (before : List DiskStep) → AreAside (new_name name) true before → IsBeside name text made course after (Did (FindSoleFile name) ∷ (before ++ steps))

-- ---- the record written where it is

-- a device can be written without more; any other file once it is on the disk that it stands in its folder, whoever made it: in that of the name to
-- which its own leads; and its name still leads to it. One that was there before may stand in a folder that can't be opened
pub data IsMadeReady (name : List ℕ) (made : Made) : Bool → List DiskStep → Type 0 where
  ReadyDevice : IsMadeReady name made true []
  FolderOpened : (target folder : List ℕ) → IsFolderOf target folder
      → IsMadeReady name made false (LedTo name target ∷ Did (Open ReadOnly folder) ∷ Did (SyncFolder folder) ∷ Did (Look name) ∷ [])
  FolderShut : (target folder : List ℕ) → IsFolderOf target folder → made ≡ Before
      → IsMadeReady name made false (LedTo name target ∷ Failed (Open ReadOnly folder) ∷ Did (Look name) ∷ [])

-- from its front on this text was written to a file, and nothing else, if nothing but that was written to it before
abbrev pub IsAllWritten : Option (List ℕ) → List ℕ → Option (List ℕ) → Type 0
IsAllWritten before text wrote = before ≡ Some [] → wrote ≡ Some text

-- a file to which this text was written is cut behind it, and synced
pub data IsFileCut (before : Option (List ℕ)) (text : List ℕ) : Bool → List DiskStep → Type 0 where
  CutAndSynced : (wrote : Option (List ℕ)) (synced : Bool) → IsAllWritten before text wrote
      → IsFileCut before text synced (Did (Cut wrote (length text)) ∷ step_by (SyncFile wrote) synced ∷ [])
  NotCut : (wrote : Option (List ℕ)) → IsAllWritten before text wrote → IsFileCut before text false (Failed (Cut wrote (length text)) ∷ [])

-- a file that this load made under this very name goes with it, where the name still leads to it
pub data IsLetGo (name : List ℕ) : Made → List DiskStep → Type 0 where
  Stays : IsLetGo name Before []
  StaysBehindLink : IsLetGo name BehindLink []
  LeadsElsewhere : (found : Bool) → IsLetGo name Here (step_by (Look name) found ∷ [])
  Goes : (removed : Bool) → IsLetGo name Here (Did (Look name) ∷ step_by (Remove name) removed ∷ [])

-- the text of the record was written where it is, to a file to which this was written before, and cut behind it; a device is not cut
pub data IsWrittenOver (name : List ℕ) (made : Made) (before : Option (List ℕ)) (text : List ℕ) : Bool → List DiskStep → Type 0 where
  Device : (steps : List DiskStep) → IsMadeReady name made true steps → IsWrittenOver name made before text true steps
  PlainFile : (steps cutting : List DiskStep) → IsMadeReady name made false steps → IsFileCut before text true cutting
      → IsWrittenOver name made before text false (steps ++ cutting)

-- it was not: the file is let go before anything is written to it, and stays behind that
pub data IsNotWrittenOver (name : List ℕ) (made : Made) (before : Option (List ℕ)) (text : List ℕ) : List DiskStep → Type 0 where
  Unready : (steps going : List DiskStep) → LeaveAllBut (new_name name) false steps → IsLetGo name made going
      → IsNotWrittenOver name made before text (steps ++ going)
  Unwritten : (device : Bool) (steps : List DiskStep) → IsMadeReady name made device steps → IsNotWrittenOver name made before text steps
  Uncut : (steps cutting : List DiskStep) → IsMadeReady name made false steps → IsFileCut before text false cutting
      → IsNotWrittenOver name made before text (steps ++ cutting)

-- ---- the whole

-- a record with this text is begun, of whose file this is known: the new one has the old one's name; or that can't be, and it was written
-- where it is
pub data IsBegun (name : List ℕ) (known : Known) (text : List ℕ) : List DiskStep → Type 0 where
  Beside : (after : Made) (steps : List DiskStep) → IsBeside name text known.made Replaced after steps → IsBegun name known text steps
  InPlace : (after : Made) (before writing : List DiskStep) → IsBeside name text known.made NotReplaced after before
      → IsWrittenOver name after known.written text known.device writing → IsBegun name known text (before ++ writing)

-- it is not begun
pub data IsNotBegun (name : List ℕ) (known : Known) (text : List ℕ) : List DiskStep → Type 0 where
  NotBeside : (after : Made) (before going : List DiskStep) → IsBeside name text known.made GivenUp after before → IsLetGo name after going
      → IsNotBegun name known text (before ++ going)
  NotInPlace : (after : Made) (before writing : List DiskStep) → IsBeside name text known.made NotReplaced after before
      → IsNotWrittenOver name after known.written text writing → IsNotBegun name known text (before ++ writing)

-- ---- behind that

-- the file of which this is known is let go; where none is held nothing is asked
abbrev pub IsRecordClosed : List ℕ → Option Known → List DiskStep → Type 0
IsRecordClosed name None steps = steps ≡ []
IsRecordClosed name (Some known) steps = IsLetGo name known.made steps

-- closing takes nothing away: no file is held, or one that counts as one that was there
abbrev pub Remains : Option Known → Type 0
Remains None = ⊤
Remains (Some known) = known.made ≡ Before
