-- What is asked of a system of files for a record, and for the tape of a save.
use Rattle.std.specs.Prelude.{◌≡◌, ℕ, List, [], ◌∷◌, Bool, true, false, Option, Result, Ok, Err, ⊤}
use Rattle.std.specs.Io.KnownBytes.{Keeps}
use Rattle.std.specs.Path.{path_buf_bytes}
use Rattle.std.specs.declared.path.buf.PathBuf.{PathBuf}
use Rattle.record_file.specs.declared.disk.Access.{Access}
use Rattle.record_file.specs.declared.disk.Access.TheVariants.{ReadWrite, New, Created}

-- what a name leads to is looked at, or what stands under it, or whether that is a plain file without another name, or an open file of which
-- this much was written, or which name it leads to; a file is opened or made; it is held by this program alone, or given a second name, or
-- renamed, with this much of it on the disk, or its name taken away; the folder of a name is brought to the disk; or a file of which this much was
-- written is cut at this length, or brought to the disk
pub data DiskRequest : Type 0 where
  Look : List ℕ → DiskRequest
  LookAtName : List ℕ → DiskRequest
  FindSoleFile : List ℕ → DiskRequest
  FindFile : List ℕ → Option (List ℕ) → DiskRequest
  Resolve : List ℕ → DiskRequest
  Open : Access → List ℕ → DiskRequest
  Hold : List ℕ → DiskRequest
  Link : List ℕ → List ℕ → DiskRequest
  Rename : List ℕ → List ℕ → Option (List ℕ) → DiskRequest
  Remove : List ℕ → DiskRequest
  SyncFolder : List ℕ → DiskRequest
  Cut : Option (List ℕ) → ℕ → DiskRequest
  SyncFile : Option (List ℕ) → DiskRequest

-- something was asked, and done, or it failed; a name led to another
pub data DiskStep : Type 0 where
  Did : DiskRequest → DiskStep
  Failed : DiskRequest → DiskStep
  LedTo : List ℕ → List ℕ → DiskStep

-- a request, and whether it was done
abbrev pub step_by : DiskRequest → Bool → DiskStep
step_by request true = Did request
step_by request false = Failed request

-- a request, and what was answered to it
abbrev pub answered : {A E : Type 0} → DiskRequest → Result A E → DiskStep
answered request (Ok value) = Did request
answered request (Err error) = Failed request

-- a name was to be followed, to the one that it leads to
abbrev pub resolved : {A E : Type 0} → List ℕ → Result (PathBuf A) E → DiskStep
resolved name (Ok target) = LedTo name (path_buf_bytes target)
resolved name (Err error) = Failed (Resolve name)

-- something was looked at so, and found to be as it should be only where it is there
pub data IsSeen (look : DiskRequest) : Bool → List DiskStep → Type 0 where
  Seen : IsSeen look true (Did look ∷ [])
  Unseen : (found : Bool) → IsSeen look false (step_by look found ∷ [])

-- whether the file that was opened last is held, which another opening to write it lets be, and nobody tried to take it away or found its name elsewhere
abbrev pub held_behind : Bool → List DiskStep → Bool
held_behind held [] = held
held_behind held (Did (Open ReadWrite name) ∷ more) = held_behind held more
held_behind held (Did (Open access name) ∷ more) = held_behind false more
held_behind held (Did (Hold name) ∷ more) = held_behind true more
held_behind held (Did (Remove name) ∷ more) = held_behind false more
held_behind held (Failed (Remove name) ∷ more) = held_behind false more
held_behind held (Failed (FindFile name written) ∷ more) = held_behind false more
held_behind held (step ∷ more) = held_behind held more

-- steps leave each file as it is but one of this name, which alone is opened to be written, made, held, and taken away only where nobody else holds it
abbrev pub LeaveAllBut : List ℕ → Bool → List DiskStep → Type 0
LeaveAllBut own held [] = ⊤
LeaveAllBut own held (Did (Open New name) ∷ more) = (name ≡ own) × LeaveAllBut own false more
LeaveAllBut own held (Did (Open Created name) ∷ more) = ⊥
LeaveAllBut own held (Did (Open ReadWrite name) ∷ more) = (name ≡ own) × LeaveAllBut own held more
LeaveAllBut own held (Did (Open access name) ∷ more) = LeaveAllBut own false more
LeaveAllBut own held (Did (Hold name) ∷ more) = (name ≡ own) × LeaveAllBut own true more
LeaveAllBut own held (Did (Link from to) ∷ more) = ⊥
LeaveAllBut own held (Did (Rename from to left) ∷ more) = ⊥
LeaveAllBut own held (Did (Remove name) ∷ more) = (name ≡ own) × (held ≡ true) × LeaveAllBut own false more
LeaveAllBut own held (Did (Cut written length) ∷ more) = ⊥
LeaveAllBut own held (Failed (Remove name) ∷ more) = LeaveAllBut own false more
LeaveAllBut own held (Failed (FindFile name written) ∷ more) = LeaveAllBut own false more
LeaveAllBut own held (step ∷ more) = LeaveAllBut own held more

-- so do these, whatever was held before; and behind them that file is held, or not
abbrev pub AreAside : List ℕ → Bool → List DiskStep → Type 0
AreAside own holds steps = ((held : Bool) → LeaveAllBut own held steps) × (held_behind false steps ≡ holds)

-- something that was asked failed
abbrev pub HasFailed : List DiskStep → Type 0
HasFailed [] = ⊥
HasFailed (Failed request ∷ more) = ⊤
HasFailed (Did request ∷ more) = HasFailed more
HasFailed (LedTo name target ∷ more) = HasFailed more

-- the file of each name holds what it held, as far as that was told
abbrev pub HoldStill : (List ℕ → Option (List ℕ)) → (List ℕ → Option (List ℕ)) → Type 0
HoldStill before after = (name : List ℕ) → Keeps (before name) (after name)
