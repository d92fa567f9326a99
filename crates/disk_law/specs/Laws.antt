-- What calls of a load may leave of a record, wherever they are cut short by a crash.
use Rattle.std.specs.Prelude.{◌≡◌, ◌⊎◌, ◌↔◌, ℕ, false, List, [], ◌∷◌, ◌++◌, length, Option, Some, None, ⊤}
use Rattle.record_file.specs.Beginning.{Course, Replaced, IsBeside, IsNotWrittenOver, IsWrittenOver, new_name}
use Rattle.record_file.specs.DiskStep.{Did, Look, Hold, Open, Rename, SyncFolder}
use Rattle.record_file.specs.Folder.{IsFolderOf}
use Rattle.record_file.specs.declared.disk.Access.TheVariants.{New}
use Rattle.record_file.specs.declared.made.Made.{Made}
use Rattle.record_file.specs.declared.made.Made.TheVariants.{Here}
use Rattle.record_file.specs.InPlace.{IsFrontOf, ChangesNoByte}
use Rattle.disk_law.specs.Disk.{told, Disk, Event, Asked, Written, Synced, Kind, InOrder, Weakest, History, Leaves, disk_of, more}

-- a file that no name leads to, or may lead to, and in which nothing stands
pub record IsFresh (d : Disk) (i : ℕ) : Type 0 where
  pub unnamed : (name : List ℕ) → d.may_lead name (Some i) → ⊥
  pub empty : (text : List ℕ) → d.may_hold i text → text ≡ []

-- what a rename brings to a name holds this, whatever a crash leaves of it
abbrev pub IsOnDisk : Disk → List ℕ → List ℕ → Type 0
IsOnDisk d name text = (x : Option ℕ) → d.leads name x → (i : ℕ) × (x ≡ Some i) × ((t : List ℕ) → d.may_hold i t → t ≡ text)

-- no name but this one leads to the file, or may
abbrev pub IsBesideOnly : Disk → List ℕ → ℕ → Type 0
IsBesideOnly d new i = (name : List ℕ) → ((name ≡ new) → ⊥) → d.may_lead name (Some i) → ⊥

-- an event is so as the disk tells it: a file that is made is a new one, and what is renamed has on the disk what is told of it; and what is
-- written goes to a file that has no name but this one
abbrev pub IsSo : List ℕ → Disk → Event → Type 0
IsSo new d (Asked i (Did (Open New n))) = IsFresh d i
IsSo new d (Asked i (Did (Rename from to None))) = ⊥
IsSo new d (Asked i (Did (Rename from to (Some text)))) = IsOnDisk d from text
IsSo new d (Asked i other) = ⊤
IsSo new d (Written i at bytes) = IsBesideOnly d new i
IsSo new d (Synced i) = ⊤

-- such events, the latest first
abbrev pub AreSo : List ℕ → History → List Event → Type 0
AreSo new history [] = ⊤
AreSo new history (event ∷ earlier) = AreSo new history earlier × IsSo new (disk_of (more history earlier)) event

-- behind these events a crash leaves of the record's name what it might have left before, or the new record whole; and of each other name, but that of
-- the new file, what it might have left before
pub record IsOldOrNew (name text : List ℕ) (history : History) (events : List Event) : Type 0 where
  pub record_is : (left : Option (List ℕ)) → Leaves (disk_of (more history events)) name left → Leaves (disk_of history) name left ⊎ (left ≡ Some text)
  pub others : (n : List ℕ) (left : Option (List ℕ)) → ((n ≡ name) → ⊥) → ((n ≡ new_name name) → ⊥)
      → Leaves (disk_of (more history events)) n left → Leaves (disk_of history) n left

-- behind any of the calls that begin a record beside the old one, as the contract of `RecordFile::begin` tells them, a crash leaves the old record or the
-- new one, whole, and each other file
abbrev pub ARecordIsKept : Type 0
ARecordIsKept =
    (name text : List ℕ) (was is : Made) (course : Course) (history : History) (later earlier : List Event)
    → IsBeside name text was course is (told (later ++ earlier)) → AreSo (new_name name) history (later ++ earlier) → IsOldOrNew name text history earlier

-- behind all of them, where the new record has come to the old one's place, it leaves the new one alone
abbrev pub ANewRecordStays : Type 0
ANewRecordStays =
    (name text : List ℕ) (was is : Made) (history : History) (events : List Event) → IsBeside name text was Replaced is (told events)
    → AreSo (new_name name) history events → (left : Option (List ℕ)) → Leaves (disk_of (more history events)) name left → left ≡ Some text

-- what is made, held, written from its front on and synced, and then the old name looked at, is so, and the text is on the disk
abbrev pub written_beside : List ℕ → List ℕ → ℕ → List Event
written_beside name text i =
    Asked i (Did (Look name)) ∷ Synced i ∷ Written i 0 text ∷ Asked i (Did (Hold (new_name name))) ∷ Asked i (Did (Open New (new_name name))) ∷ []

abbrev pub WhatIsSyncedIsOnDisk : Type 0
WhatIsSyncedIsOnDisk =
    (name text : List ℕ) (history : History) (i : ℕ) → IsFresh (disk_of history) i → ((t : List ℕ) → (disk_of history).holds i t → t ≡ [])
    → AreSo (new_name name) history (written_beside name text i) × IsOnDisk (disk_of (more history (written_beside name text i))) (new_name name) text

-- ---- what is kept behind that

-- the name leads to this file, and the file holds this text, whatever a crash leaves of them
pub record IsDurable (d : Disk) (name : List ℕ) (i : ℕ) (text : List ℕ) : Type 0 where
  pub named : (x : Option ℕ) → d.may_lead name x → x ≡ Some i
  pub left : (t : List ℕ) → d.may_hold i t → t ≡ text
  pub seen : (t : List ℕ) → d.holds i t → t ≡ text

-- each program sees the name lead to this file, and in the file what a crash may leave of it
pub record IsSeen (d : Disk) (name : List ℕ) (i : ℕ) : Type 0 where
  pub led : (x : Option ℕ) → d.leads name x ↔ (x ≡ Some i)
  pub held : (t : List ℕ) → d.holds i t → d.may_hold i t

-- behind all of the calls that begin a record beside the old one, where the new one has come to its place, it is durable
abbrev pub ANewRecordIsDurable : Type 0
ANewRecordIsDurable =
    (name text : List ℕ) (was is : Made) (history : History) (i : ℕ) (events : List Event) → IsBeside name text was Replaced is (told events)
    → AreSo (new_name name) history events → IsSeen (disk_of (more history events)) name i → IsDurable (disk_of (more history events)) name i text

-- so it is where a new file is written beside, synced and renamed, and the folder synced: such events are so
abbrev pub replaced_by : (name folder text : List ℕ) → ℕ → List Event
replaced_by name folder text i = Asked i (Did (SyncFolder folder)) ∷ Asked i (Did (Rename (new_name name) name (Some text))) ∷ written_beside name text i

abbrev pub WhatIsRenamedIsSeen : Type 0
WhatIsRenamedIsSeen =
    (name folder text : List ℕ) (history : History) (i : ℕ) → IsFresh (disk_of history) i → ((t : List ℕ) → (disk_of history).holds i t → t ≡ [])
    → AreSo (new_name name) history (replaced_by name folder text i) × IsSeen (disk_of (more history (replaced_by name folder text i))) name i

-- from a first text on, such events append to a file, the latest first: this is synced, and this was written behind it since
pub data AreAppends (i : ℕ) (first : List ℕ) : List ℕ → List ℕ → List Event → Type 0 where
  Begun : AreAppends i first first [] []
  Wrote : (text pending bytes : List ℕ) (earlier : List Event) → AreAppends i first text pending earlier
      → AreAppends i first text (pending ++ bytes) (Written i (length (text ++ pending)) bytes ∷ earlier)
  Lasts : (text pending : List ℕ) (earlier : List Event) → AreAppends i first text pending earlier
      → AreAppends i first (text ++ pending) [] (Synced i ∷ earlier)

-- a crash leaves all that is synced, the first text among it, and a front of the rest
pub record HasLasted (first text pending : List ℕ) (left : Option (List ℕ)) : Type 0 where
  pub front : List ℕ
  pub rest : List ℕ
  pub part : pending ≡ front ++ rest
  pub is : left ≡ Some (text ++ front)
  pub gained : List ℕ
  pub extends : text ≡ first ++ gained

abbrev pub AppendsLast : Type 0
AppendsLast =
    (name first text pending : List ℕ) (history : History) (i : ℕ) (events : List Event) → history.kind ≡ InOrder → IsDurable (disk_of history) name i first
    → AreAppends i first text pending events → (left : Option (List ℕ)) → Leaves (disk_of (more history events)) name left → HasLasted first text pending left

-- ---- in place

-- an event is so of a record that is written over this file: what is written is what its text has at that place, and what is made is another file
abbrev pub IsSoOver : ℕ → List ℕ → Event → Type 0
IsSoOver i text (Written j at bytes) = (j ≡ i) × (front : List ℕ) × (rest : List ℕ) × (text ≡ front ++ (bytes ++ rest)) × (at ≡ length front)
IsSoOver i text (Asked j (Did (Open New n))) = (j ≡ i) → ⊥
IsSoOver i text other = ⊤

abbrev pub AreSoOver : ℕ → List ℕ → List Event → Type 0
AreSoOver i text [] = ⊤
AreSoOver i text (event ∷ earlier) = AreSoOver i text earlier × IsSoOver i text event

-- a crash leaves of a name a text that begins with this, and is a front of the old one or of the new one; or nothing, where this load made the file
abbrev pub IsOverOrNot : Made → List ℕ → List ℕ → List ℕ → Option (List ℕ) → Type 0
IsOverOrNot made first old text None = made ≡ Here
IsOverOrNot made first old text (Some now) = IsFrontOf first now × (IsFrontOf now old ⊎ IsFrontOf now text)

-- behind any of the calls that write a record over a file to which its name leads, and of which a crash leaves so much at least, and no more than was read
abbrev pub InPlaceKeeps : Type 0
InPlaceKeeps =
    (name first old text : List ℕ) (made : Made) (wrote : Option (List ℕ)) (history : History) (i : ℕ) (later earlier : List Event) → history.kind ≡ InOrder
    → IsWrittenOver name made wrote text false (told (later ++ earlier)) ⊎ IsNotWrittenOver name made wrote text (told (later ++ earlier))
    → AreSoOver i text (later ++ earlier) → ((x : Option ℕ) → (disk_of history).may_lead name x → x ≡ Some i)
    → ((t : List ℕ) → (disk_of history).may_hold i t → IsFrontOf first t × IsFrontOf t old) → IsFrontOf first text → ChangesNoByte text old
    → (left : Option (List ℕ)) → Leaves (disk_of (more history earlier)) name left → IsOverOrNot made first old text left

-- ---- the folder of a record in place

-- where a name leads to a file, as each program sees it, and its folder is synced, a crash leaves it so: whoever made the file, and whenever
abbrev pub FoldersAreKept : Type 0
FoldersAreKept =
    (name folder : List ℕ) (history : History) (i j : ℕ) → IsFolderOf name folder → ((x : Option ℕ) → (disk_of history).leads name x → x ≡ Some i)
    → (x : Option ℕ) → (disk_of (more history (Asked j (Did (SyncFolder folder)) ∷ []))).may_lead name x → x ≡ Some i

-- ---- that each sync is needed

-- a disk on which nothing stood
abbrev pub bare : Kind → History
bare kind = record { kind = kind; names = λ _. None; texts = λ _. []; events = [] }

-- a new record that is renamed before it is synced may be anything; one whose folder is not synced may be gone, mark and all
abbrev pub new_unsynced : List ℕ → List ℕ → ℕ → List Event
new_unsynced name text i = Asked i (Did (Rename (new_name name) name (Some text))) ∷ Written i 0 text ∷ Asked i (Did (Open New (new_name name))) ∷ []

abbrev pub marked : List ℕ → List ℕ → ℕ → List ℕ → List Event
marked name text i mark =
    Synced i ∷ Written i (length text) mark ∷ Asked i (Did (Rename (new_name name) name (Some text))) ∷ Synced i ∷ Written i 0 text
    ∷ Asked i (Did (Open New (new_name name))) ∷ []

abbrev pub SyncsAreNeeded : Type 0
SyncsAreNeeded =
    (name text mark anything : List ℕ) (i : ℕ) →
    Leaves (disk_of (more (bare Weakest) (new_unsynced name text i))) name (Some anything)
    × ((kind : Kind) → Leaves (disk_of (more (bare kind) (marked name text i mark))) name None)
