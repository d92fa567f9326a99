-- What a load asks of the disk on which its record is.
use Rattle.std.specs.Prelude.{◌≡◌, ℕ, false, List, [], Option, Some, None, IsSome, Result, Ok, Err, ⊤}
use Rattle.record_file.specs.Beginning.{IsBegun, IsNotBegun, IsRecordClosed, Remains}
use Rattle.host_devices.specs.Told.{HasAsked}
use Rattle.load_record.specs.RecordText.{record_text}
use Rattle.load_record.specs.declared.version.Version.TheVariants.{Second}
use Rattle.tape_image.specs.Plan.{PlanValue}
use Rattle.record_file.specs.DiskStep.{DiskStep}
use Rattle.record_file.specs.Known.{IsNoDevice, IsUntouched, Known}
use Rattle.record_file.specs.Reading.{OldText, IsRead, IsReadOf, IsNotRead, found_in}
use Rattle.record_file.specs.declared.old_record.OldRecord.{OldRecord}
use Rattle.record_file.specs.declared.old_record.Writable.{Writable}
use Rattle.record_file.specs.declared.old_record.Writable.TheVariants.{Anew}
use Rattle.record_file.specs.declared.record_fault.RecordFault.{RecordFault}

-- what is known of the record's file, where it is held
abbrev pub FileKnown : Type 0
FileKnown = Option Known

-- a disk with a record at a moment: what the disk was asked, where it tells; the record's name; what is known of its file; and what a file of this name
-- holds, where the disk tells that
pub record RecordDisk : Type 0 where
  pub asked : Option (List DiskStep)
  pub name : List ℕ
  pub known : FileKnown
  pub holds : Option (List ℕ)

-- from one moment to another the disk, where the record is on one, was asked for steps of which this holds; the record has the same name
abbrev pub DiskAsked : Option RecordDisk → Option RecordDisk → (RecordDisk → RecordDisk → List DiskStep → Type 0) → Type 0
DiskAsked None after P = ⊤
DiskAsked (Some disk) None P = ⊥
DiskAsked (Some disk) (Some disk') P = (disk'.name ≡ disk.name) × HasAsked disk.asked disk'.asked (P disk disk')

-- the text that a record has which was begun with so many words of a plan
abbrev pub begun_text : PlanValue → ℕ → List ℕ
begun_text plan count = record_text Second plan count false

-- what was found where a record was
abbrev pub old_text : List ℕ → Writable → OldText
old_text text how = record { text = text; writable = how }

-- what is found where no life came before: nothing stands there, and a record may be begun
abbrev pub left_by_none : OldText
left_by_none = old_text [] Anew

-- a record was read, and this was found: what the file holds that is held from then on, which is no device; and to that nothing was written
pub record IsReadOn (found : OldText) (disk disk' : RecordDisk) (steps : List DiskStep) : Type 0 where
  pub read : IsRead disk.name found disk.known disk'.known steps
  pub text : disk.known ≡ None → IsSome disk'.known → IsReadOf disk.holds found.text
  pub plain : disk.known ≡ None → IsNoDevice disk.holds disk'.known
  pub untouched : disk.known ≡ None → IsUntouched disk'.asked disk'.known

-- a record was not read, and of its file is known what was known before
abbrev pub IsNotReadOn : RecordDisk → RecordDisk → List DiskStep → Type 0
IsNotReadOn disk disk' steps = IsNotRead disk.name steps × (disk'.known ≡ disk.known)

-- what was asked by what came of a reading
abbrev pub IsReadAnswered : Option RecordDisk → Option RecordDisk → Result OldRecord RecordFault → Type 0
IsReadAnswered before after (Ok old) = DiskAsked before after (IsReadOn (found_in old))
IsReadAnswered before after (Err fault) = DiskAsked before after IsNotReadOn

-- a record of whose file this is known was begun anew with this text: so only one that is held; and it remains, also once it is closed
abbrev pub IsBegunOf : List ℕ → List ℕ → FileKnown → FileKnown → List DiskStep → Type 0
IsBegunOf text name None known' steps = ⊥
IsBegunOf text name (Some known) known' steps = IsBegun name known text steps × Remains known'

-- or it was not: of one that is not held nothing is asked; and behind that none is held
abbrev pub IsNotBegunOf : List ℕ → List ℕ → FileKnown → FileKnown → List DiskStep → Type 0
IsNotBegunOf text name None known' steps = (steps ≡ []) × (known' ≡ None)
IsNotBegunOf text name (Some known) known' steps = IsNotBegun name known text steps × (known' ≡ None)

-- a record on a disk was begun anew with this text, by what is known of its file
abbrev pub IsBegunOn : List ℕ → RecordDisk → RecordDisk → List DiskStep → Type 0
IsBegunOn text disk disk' steps = IsBegunOf text disk.name disk.known disk'.known steps

-- or it was not
abbrev pub IsNotBegunOn : List ℕ → RecordDisk → RecordDisk → List DiskStep → Type 0
IsNotBegunOn text disk disk' steps = IsNotBegunOf text disk.name disk.known disk'.known steps

-- what was asked by what came of a beginning with this text
abbrev pub IsBeginAnswered : {K : Type 0} → List ℕ → Option RecordDisk → Option RecordDisk → Result K RecordFault → Type 0
IsBeginAnswered text before after (Ok keeper) = DiskAsked before after (IsBegunOn text)
IsBeginAnswered text before after (Err fault) = DiskAsked before after (IsNotBegunOn text)

-- a record of this name that is new: nothing is known of its file yet, on a disk that was asked this so far, and tells that a file of this name holds this
abbrev pub new_record : List ℕ → Option (List DiskStep) → Option (List ℕ) → RecordDisk
new_record name asked holds = record { asked = asked; name = name; known = None; holds = holds }

-- the record was closed behind the load, and then its disk was asked this: what goes is decided by what was known of its file
abbrev pub IsClosedBehind : RecordDisk → Option (List DiskStep) → Type 0
IsClosedBehind disk asked = HasAsked disk.asked asked (IsRecordClosed disk.name disk.known)
