-- What is asked of a disk to make room there for a tape, to add to it, and to give it its name.
use Rattle.std.specs.Prelude.{◌≡◌, ◌⊎◌, ℕ, ◌+◌, List, [], ◌∷◌, ◌++◌, length, Bool, true, false, Option, Some, None, OnSome, MatchBool, codes, replicate, ⊤}
use Rattle.std.specs.Io.KnownBytes.{Appends}
use Rattle.std.specs.String.{string_bytes}
use Rattle.byte_io.specs.Output.{WritesPrefix}
use Rattle.byte_io.specs.Text.{name_slash}
use Rattle.host_devices.specs.Told.{HasAsked}
use Rattle.record_file.specs.DiskStep.{DiskStep, Did, Failed, LedTo, step_by, AreAside, HasFailed}
use Rattle.record_file.specs.DiskStep.{DiskRequest, LookAtName, FindFile, Open, Hold, FindSoleFile, Link, Rename, Remove, SyncFolder, Cut, SyncFile}
use Rattle.record_file.specs.Folder.{IsFolderOf}
use Rattle.record_file.specs.declared.disk.Access.TheVariants.{ReadOnly, ReadWrite, New}
use Rattle.request_values.specs.Change.{Change, ◌⇒◌}
use Rattle.tape_shelf.specs.declared.new_file.Part.{Part}
use Rattle.tape_shelf.specs.declared.shelf.ShelfFault.{ShelfFault}
use Rattle.tape_shelf.specs.declared.shelf.ShelfFault.TheVariants.{IsThere, PartIsThere, NotOfSave, Write, Memory}

-- the name of the file that holds the blocks of a tape while a save is on its way
abbrev pub part_name : List ℕ → List ℕ
part_name name = name ++ codes ".part"

-- no file has this name: it is empty, or a folder's
abbrev pub IsNoFileName : List ℕ → Type 0
IsNoFileName name = (name ≡ []) ⊎ ((front : List ℕ) × (name ≡ front ++ name_slash ∷ []))

-- a name is looked for. Nothing has it; or something has; or that can't be found out, or no file has such a name, of which nothing is asked
pub data IsSearch (name : List ℕ) : Option ShelfFault → List DiskStep → Type 0 where
  Free : IsSearch name None (Failed (LookAtName name) ∷ [])
  There : IsSearch name (Some IsThere) (Did (LookAtName name) ∷ [])
  Unknown : IsSearch name (Some Write) (Failed (LookAtName name) ∷ [])
  NoFileName : IsNoFileName name → IsSearch name (Some Write) []

-- a name goes, where the file of which this was written still has it
pub data IsGone (name : List ℕ) (written : Option (List ℕ)) : List DiskStep → Type 0 where
  Goes : (removed : Bool) → IsGone name written (Did (FindFile name written) ∷ step_by (Remove name) removed ∷ [])
  HasAnother : IsGone name written (Failed (FindFile name written) ∷ [])

-- what is asked leaves each file as it is: it is looked at, or opened, to be written only under this name, or held, or brought to the disk
abbrev pub LeavesAll : List ℕ → DiskRequest → Type 0
LeavesAll own (FindSoleFile name) = ⊤
LeavesAll own (FindFile name written) = ⊤
LeavesAll own (Open ReadOnly name) = ⊤
LeavesAll own (Open ReadWrite name) = name ≡ own
LeavesAll own (Hold name) = ⊤
LeavesAll own (SyncFile written) = ⊤
LeavesAll own other = ⊥

-- nothing else was asked
abbrev pub LeaveAll : List ℕ → List DiskStep → Type 0
LeaveAll own [] = ⊤
LeaveAll own (Did request ∷ more) = LeavesAll own request × LeaveAll own more
LeaveAll own (Failed request ∷ more) = LeavesAll own request × LeaveAll own more
LeaveAll own (LedTo name target ∷ more) = ⊥

-- ---- room

-- a file is made, held, filled with bytes that take room, and brought to the disk, as its name is; it is opened once more, and still has its name
abbrev pub making : List ℕ → List ℕ → Option (List ℕ) → List DiskStep
making own folder filled =
    Did (Open New own) ∷ Did (Hold own) ∷ Did (SyncFile filled) ∷ Did (SyncFolder folder) ∷ Did (Open ReadWrite own) ∷ Did (FindFile own filled) ∷ []

-- it is not: memory was wanting, or something has its name, or it can't be made, held or filled, and then what was made of it went again
pub data IsUnmade (own : List ℕ) : ShelfFault → List DiskStep → Type 0 where
  NoMemory : IsUnmade own Memory []
  WasLeft : IsUnmade own PartIsThere (Failed (Open New own) ∷ [])
  NotMade : (made : Bool) (more : List DiskStep) → AreAside own false (step_by (Open New own) made ∷ more)
      → IsUnmade own Write (step_by (Open New own) made ∷ more)

-- the folder of a name can't be opened; or it is, and what comes of the file beside is this
pub data InFolder (name : List ℕ) (P : ShelfFault → List DiskStep → Type 0) : ShelfFault → List DiskStep → Type 0 where
  Shut : (folder : List ℕ) → IsFolderOf name folder → InFolder name P Write (Failed (Open ReadOnly folder) ∷ [])
  Opened : (folder : List ℕ) (fault : ShelfFault) (steps : List DiskStep) → IsFolderOf name folder → P fault steps
      → InFolder name P fault (Did (Open ReadOnly folder) ∷ steps)

-- there is no room: something has the name, or nothing has, and no file beside is made
pub data IsNotReserved (name : List ℕ) : ShelfFault → List DiskStep → Type 0 where
  NotFree : (fault : ShelfFault) (steps : List DiskStep) → IsSearch name (Some fault) steps → IsNotReserved name fault steps
  NoFile : (fault : ShelfFault) (steps : List DiskStep) → InFolder name (IsUnmade (part_name name)) fault steps
      → IsNotReserved name fault (Failed (LookAtName name) ∷ steps)

-- a plain file without another name, which an earlier save left, is held, and read, and opened once more to be written from its front, and still has its name
abbrev pub taking_left : List ℕ → Option (List ℕ) → List DiskStep
taking_left own held =
    Did (FindSoleFile own) ∷ Did (Open ReadWrite own) ∷ Did (Hold own) ∷ Did (Open ReadOnly own) ∷ Did (Open ReadWrite own) ∷ Did (FindFile own held) ∷ []

-- the same in a folder, which is opened for it, and synced then: so the file has its name on the disk
abbrev pub resuming : List ℕ → List ℕ → Option (List ℕ) → List DiskStep
resuming folder own held = Did (Open ReadOnly folder) ∷ (taking_left own held ++ Did (SyncFolder folder) ∷ [])

-- it is not: something failed, or it can't be read; or it is none of such a save, or memory was wanting; or its folder is not synced. Each file is as it was
abbrev pub IsUntaken : List ℕ → ShelfFault → List DiskStep → Type 0
IsUntaken own PartIsThere steps = LeaveAll own steps × (HasFailed steps ⊎ ((front : List DiskStep) × (steps ≡ front ++ Did (Open ReadOnly own) ∷ [])))
IsUntaken own NotOfSave steps = LeaveAll own steps × (HasFailed steps → ⊥)
IsUntaken own Memory steps = LeaveAll own steps × (HasFailed steps → ⊥)
IsUntaken own Write steps =
    (held : Option (List ℕ)) × (folder : List ℕ) × IsFolderOf own folder × (steps ≡ taking_left own held ++ Failed (SyncFolder folder) ∷ [])
IsUntaken own other steps = ⊥

-- the file beside, where the blocks of a tape are: its name, what was written to it, how many bytes that is, and whether there is a block in it
pub record Room : Type 0 where
  pub name : List ℕ
  pub written : Option (List ℕ)
  pub length : ℕ
  pub kept : Bool

-- that of a file
abbrev pub room_of : {T : Type 0} → (T → Option (List ℕ)) → Part T → Room
room_of contents part = record { name = string_bytes part.name; written = contents part.file; length = part.length; kept = part.kept }

-- it is let go: it stays, where there is a block in it; without room nothing is asked
abbrev pub IsClosed : Option Room → List DiskStep → Type 0
IsClosed None steps = steps ≡ []
IsClosed (Some room) steps = MatchBool room.kept (steps ≡ []) (IsGone room.name room.written steps)

-- a text is written to it, behind all that was, and brought to the disk, or that fails, and then it counts as one that is there; or it could not be written
-- whole, or there is no room
pub data IsAdding (text : List ℕ) : Bool → Option Room → Option Room → List DiskStep → Type 0 where
  Written : (room : Room) (written : Option (List ℕ)) (size : ℕ) (synced : Bool) → Appends room.written written text → size ≡ room.length + length text
      → IsAdding text synced (Some room) (Some (record room { written = written; length = size; kept = true })) (step_by (SyncFile written) synced ∷ [])
  Unwritten : (room : Room) (written : Option (List ℕ)) → WritesPrefix room.written written text
      → IsAdding text false (Some room) (Some (record room { written = written })) []
  NoRoom : IsAdding text false None None []

-- ---- the tape

-- where a tape is to go: its name, and the folder of that
pub record Place : Type 0 where
  pub folder : List ℕ
  pub name : List ℕ

-- the file beside is cut behind what was written to it, and brought to the disk, and then its name is still its own
abbrev pub syncing : Room → List DiskStep
syncing room = Did (Cut room.written room.length) ∷ Did (SyncFile room.written) ∷ Did (FindFile room.name room.written) ∷ []

-- a file gets a second name, which no system gives where something has it; or else it is renamed, once nothing was found to have the name
pub data IsNaming (own name : List ℕ) : Option ShelfFault → List DiskStep → Type 0 where
  Linked : IsNaming own name None (Did (Link own name) ∷ [])
  LinkRefused : IsNaming own name (Some IsThere) (Failed (Link own name) ∷ [])
  NotFoundFree : (fault : ShelfFault) (steps : List DiskStep) → IsSearch name (Some fault) steps → IsNaming own name (Some fault) (Failed (Link own name) ∷ steps)
  Renamed : (had : Option (List ℕ)) → IsNaming own name None (Failed (Link own name) ∷ Failed (LookAtName name) ∷ Did (Rename own name had) ∷ [])
  NotRenamed : (had : Option (List ℕ)) → IsNaming own name (Some Write) (Failed (Link own name) ∷ Failed (LookAtName name) ∷ Failed (Rename own name had) ∷ [])

-- the new name goes again: the file has its own name, too, or gets it back
pub data IsTakenBack (own name : List ℕ) (written : Option (List ℕ)) : List DiskStep → Type 0 where
  HasItsOwn : (taking : List DiskStep) → IsGone name written taking → IsTakenBack own name written (Did (FindFile own written) ∷ taking)
  RenamedBack : (had : Option (List ℕ)) (done : Bool) → IsTakenBack own name written (Failed (FindFile own written) ∷ step_by (Rename name own had) done ∷ [])

-- the file beside is on the disk before it gets the tape's name, and then the folder is, and its own name goes; where that fails, the new one goes again.
-- Where it can't be brought there, no file changed but that it may be cut
pub data IsNamed (place : Place) (room : Room) : Option ShelfFault → List DiskStep → Type 0 where
  Unsynced : (cut : Bool) (steps : List DiskStep) → LeaveAll room.name steps → HasFailed (step_by (Cut room.written room.length) cut ∷ steps)
      → IsNamed place room (Some Write) (step_by (Cut room.written room.length) cut ∷ steps)
  Unnamed : (fault : ShelfFault) (naming : List DiskStep) → IsNaming room.name place.name (Some fault) naming
      → IsNamed place room (Some fault) (syncing room ++ naming)
  Named : (naming going : List DiskStep) → IsNaming room.name place.name None naming → IsGone room.name room.written going
      → IsNamed place room None (syncing room ++ (naming ++ Did (SyncFolder place.folder) ∷ going))
  Unsettled : (naming taking : List DiskStep) → IsNaming room.name place.name None naming → IsTakenBack room.name place.name room.written taking
      → IsNamed place room (Some Write) (syncing room ++ (naming ++ Failed (SyncFolder place.folder) ∷ taking))

-- the last text is written to it, and it gets the tape's name, with all that was written to it and no byte more; or that can't be written whole, or there
-- is no room
pub data IsPut (place : Place) (text : List ℕ) : Option Room → Option ShelfFault → List DiskStep → Type 0 where
  Put : (room : Room) (written : Option (List ℕ)) (fault : Option ShelfFault) (steps : List DiskStep) → Appends room.written written text
      → IsNamed place (record room { written = written; length = room.length + length text }) fault steps → IsPut place text (Some room) fault steps
  NotWritten : (room : Room) (written : Option (List ℕ)) (leaving : List DiskStep) → WritesPrefix room.written written text
      → IsClosed (Some (record room { written = written })) leaving → IsPut place text (Some room) (Some Write) leaving
  Nowhere : IsPut place text None (Some Write) []

-- ---- one call

-- a disk with a shelf at a moment: what the disk was asked so far, where it tells; the tape's name; and the room for it, where there is some
pub record ShelfDisk : Type 0 where
  pub asked : Option (List DiskStep)
  pub name : List ℕ
  pub room : Option Room

-- from one moment to another the disk, where the shelf is on one, was asked for steps of which this holds, for a tape of the same name
abbrev pub ShelfAsked : Option ShelfDisk → Option ShelfDisk → (Change ShelfDisk → List DiskStep → Type 0) → Type 0
ShelfAsked None after P = ⊤
ShelfAsked (Some disk) None P = ⊥
ShelfAsked (Some disk) (Some disk') P = (disk'.name ≡ disk.name) × HasAsked disk.asked disk'.asked (P (disk ⇒ disk'))

-- there is room in this file, to which nothing was written, where the disk tells, and in which there is a block or none
abbrev pub HasNewRoom : List ℕ → Bool → ShelfDisk → Type 0
HasNewRoom own kept disk =
    (written : Option (List ℕ)) × (disk.room ≡ Some (record { name = own; written = written; length = 0; kept = kept })) × OnSome disk.asked (written ≡ Some [])

-- nothing had the name, and the room of so many bytes was taken, in this folder, in a file beside
pub record HasRoom (folder : List ℕ) (length : ℕ) (disk : Change ShelfDisk) (steps : List DiskStep) : Type 0 where
  pub folder_of : IsFolderOf disk.before.name folder
  pub filled : Option (List ℕ)
  pub taken : OnSome disk.after.asked (filled ≡ Some (replicate length 0))
  pub reserved : steps ≡ Failed (LookAtName disk.before.name) ∷ Did (Open ReadOnly folder) ∷ making (part_name disk.before.name) folder filled
  pub room : HasNewRoom (part_name disk.before.name) false disk.after

-- a file beside that was left there is gone on with, in this folder, once that is on the disk. It stays, where there is a block in it
pub record HasPart (folder numbers : List ℕ) (disk : Change ShelfDisk) (steps : List DiskStep) : Type 0 where
  pub folder_of : IsFolderOf disk.before.name folder
  pub held : Option (List ℕ)
  pub untouched : OnSome disk.after.asked (held ≡ Some [])
  pub resumed : steps ≡ resuming folder (part_name disk.before.name) held
  pub kept : Bool
  pub stays : kept ≡ false → numbers ≡ []
  pub room : HasNewRoom (part_name disk.before.name) kept disk.after
