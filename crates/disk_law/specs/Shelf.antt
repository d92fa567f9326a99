-- What the calls of a save may leave of a tape, wherever they are cut short by a crash.
use Rattle.std.specs.Prelude.{◌≡◌, ◌⊎◌, ℕ, List, [], ◌∷◌, ◌++◌, length, Option, Some, None, ⊤}
use Rattle.disk_law.specs.Disk.{told, Disk, Event, Asked, Written, Synced, InOrder, History, Leaves, disk_of, more}
use Rattle.disk_law.specs.Laws.{AreAppends}
use Rattle.record_file.specs.DiskStep.{Did, FindFile, Cut, SyncFile, SyncFolder}
use Rattle.record_file.specs.Folder.{IsFolderOf}
use Rattle.record_file.specs.InPlace.{IsFrontOf}
use Rattle.tape_shelf.specs.ShelfDisk.{IsNamed, Place, Room, making, part_name, taking_left}
use Rattle.tape_shelf.specs.declared.shelf.ShelfFault.{ShelfFault}

-- an event is so as the disk tells it: what is cut, synced and looked for is the file beside, and where it is found it has that name; nothing more is written
abbrev pub IsSoOf : ℕ → Disk → Event → Type 0
IsSoOf part d (Asked i (Did (Cut wrote n))) = i ≡ part
IsSoOf part d (Asked i (Did (SyncFile wrote))) = i ≡ part
IsSoOf part d (Asked i (Did (FindFile name wrote))) = (x : Option ℕ) → d.leads name x → x ≡ Some part
IsSoOf part d (Asked i other) = ⊤
IsSoOf part d (Written i at bytes) = ⊥
IsSoOf part d (Synced i) = ⊥

-- such events, the latest first
abbrev pub AreSoOf : ℕ → History → List Event → Type 0
AreSoOf part history [] = ⊤
AreSoOf part history (event ∷ earlier) = AreSoOf part history earlier × IsSoOf part (disk_of (more history earlier)) event

-- a tape whose last text is written stands in a file beside, from its front on; nothing has the tape's name, and no other name leads to that file
pub record IsWrittenBeside (d : Disk) (name : List ℕ) (part : ℕ) (text : List ℕ) : Type 0 where
  pub free : (x : Option ℕ) → d.may_lead name x → x ≡ None
  pub only : (n : List ℕ) → ((n ≡ part_name name) → ⊥) → d.may_lead n (Some part) → ⊥
  pub stands : (t : List ℕ) → d.holds part t → IsFrontOf text t

-- behind these events a crash leaves FILE whole or not at all; and each other name but FILE.part as it might have before
pub record IsWholeOrNot (name text : List ℕ) (history : History) (events : List Event) : Type 0 where
  pub tape : (left : Option (List ℕ)) → Leaves (disk_of (more history events)) name left → (left ≡ None) ⊎ (left ≡ Some text)
  pub others : (n : List ℕ) (left : Option (List ℕ)) → ((n ≡ name) → ⊥) → ((n ≡ part_name name) → ⊥)
      → Leaves (disk_of (more history events)) n left → Leaves (disk_of history) n left

-- behind any of the calls by which `Shelf::put` gives a tape its name
abbrev pub ATapeComesWhole : Type 0
ATapeComesWhole =
    (place : Place) (room : Room) (fault : Option ShelfFault) (text : List ℕ) (history : History) (part : ℕ) (later earlier : List Event)
    → IsNamed place room fault (told (later ++ earlier)) → room.name ≡ part_name place.name → room.length ≡ length text
    → AreSoOf part history (later ++ earlier) → IsWrittenBeside (disk_of history) place.name part text → IsWholeOrNot place.name text history earlier

-- behind all of them, where it has it, a crash leaves FILE whole
abbrev pub ATapeStays : Type 0
ATapeStays =
    (place : Place) (room : Room) (text : List ℕ) (history : History) (part : ℕ) (events : List Event) → IsNamed place room None (told events)
    → room.name ≡ part_name place.name → room.length ≡ length text → IsFolderOf place.name place.folder → AreSoOf part history events
    → IsWrittenBeside (disk_of history) place.name part text → (left : Option (List ℕ)) → Leaves (disk_of (more history events)) place.name left → left ≡ Some text

-- the name leads to this file, and the file begins with this text, whatever a crash leaves of them
pub record Begins (d : Disk) (name : List ℕ) (i : ℕ) (text : List ℕ) : Type 0 where
  pub named : (x : Option ℕ) → d.may_lead name x → x ≡ Some i
  pub left : (t : List ℕ) → d.may_hold i t → IsFrontOf text t
  pub seen : (t : List ℕ) → d.holds i t → IsFrontOf text t

-- where a file is looked for by an event, and found, it is this one
abbrev pub IsFoundAs : ℕ → Disk → Event → Type 0
IsFoundAs part d (Asked i (Did (FindFile name wrote))) = (x : Option ℕ) → d.leads name x → x ≡ Some part
IsFoundAs part d other = ⊤

abbrev pub AreFoundAs : ℕ → History → List Event → Type 0
AreFoundAs part history [] = ⊤
AreFoundAs part history (event ∷ earlier) = AreFoundAs part history earlier × IsFoundAs part (disk_of (more history earlier)) event

-- a part that was made, or taken up with its folder synced, is such a file, from its front on, whatever was written to it
abbrev pub APartBegins : Type 0
APartBegins =
    (name folder : List ℕ) (wrote : Option (List ℕ)) (history : History) (part : ℕ) (events : List Event) → IsFolderOf name folder
    → (told events ≡ making (part_name name) folder wrote) ⊎ (told events ≡ taking_left (part_name name) wrote ++ Did (SyncFolder folder) ∷ [])
    → AreFoundAs part history events → Begins (disk_of (more history events)) (part_name name) part []

-- of what is written into room that is there, behind what it begins with, a crash leaves at its front all that is synced: so each block that was added
abbrev pub BlocksLast : Type 0
BlocksLast =
    (name first text pending : List ℕ) (history : History) (i : ℕ) (events : List Event) → history.kind ≡ InOrder → Begins (disk_of history) name i first
    → AreAppends i first text pending events → (left : Option (List ℕ)) → Leaves (disk_of (more history events)) name left
    → (t : List ℕ) × (left ≡ Some t) × IsFrontOf text t
