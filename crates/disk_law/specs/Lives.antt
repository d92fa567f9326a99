-- What a crash leaves of a load's record is what a life leaves that was stopped: so the law of loads in a row goes on from there.
use Rattle.std.specs.Prelude.{◌≡◌, ℕ, ◌≤◌, true, false, List, [], ◌++◌, Option, Some, Contains}
use Rattle.disk_law.specs.Disk.{told, Event, InOrder, History, Leaves, disk_of, more}
use Rattle.disk_law.specs.Laws.{AreAppends, AreSo, IsDurable}
use Rattle.host_core.specs.Console.{go}
use Rattle.host_core.specs.Core.{Core}
use Rattle.host_core.specs.declared.progress.Progress.{Progress}
use Rattle.host_devices.specs.Dialogue.{keys_of}
use Rattle.host_devices.specs.declared.item.Item.{Item}
use Rattle.load_lives.specs.Lives.{IsLeft}
use Rattle.load_lives.specs.Stops.{IsBeginning}
use Rattle.load_record.specs.RecordText.{record_text}
use Rattle.load_record.specs.declared.version.Version.TheVariants.{Second}
use Rattle.record_file.specs.Beginning.{Course, IsBeside, new_name}
use Rattle.record_file.specs.declared.made.Made.{Made}
use Rattle.tape_image.specs.Plan.{PlanValue}

-- a life of a plan: the progress that it began with, in which no start was marked, the record that it found, the core that it became, and what it said
pub record StoppedLife : Type 0 where
  pub plan : PlanValue
  pub progress : Progress
  pub no_mark : progress.going ≡ false
  pub old : List ℕ
  pub core : Core
  pub items : List Item

-- a crash leaves of a name the text of a record, as that life leaves it
abbrev pub LeavesRecordOf : StoppedLife → Option (List ℕ) → Type 0
LeavesRecordOf life left = (now : List ℕ) × (left ≡ Some now) × IsLeft life.plan life.progress life.core life.items life.old now

-- where it stopped while its record was begun beside the old one, with the words that it went on from; nothing was typed yet that starts a program
abbrev pub BeginningsAreStops : Type 0
BeginningsAreStops =
    (life : StoppedLife) (name : List ℕ) (words : ℕ) (was is : Made) (course : Course) (history : History) (later earlier : List Event) → words ≤ life.core.verified
    → (Contains (keys_of life.items) go → ⊥) → ((left : Option (List ℕ)) → Leaves (disk_of history) name left → left ≡ Some life.old)
    → IsBeside name (record_text Second life.plan words false) was course is (told (later ++ earlier)) → AreSo (new_name name) history (later ++ earlier)
    → (left : Option (List ℕ)) → Leaves (disk_of (more history earlier)) name left → LeavesRecordOf life left

-- or later: what it appended begins the record of all that it verified, and where `G` was typed all of that was synced, the mark with it
abbrev pub AppendsAreStops : Type 0
AppendsAreStops =
    (life : StoppedLife) (name begun synced pending : List ℕ) (history : History) (i : ℕ) (events : List Event) → history.kind ≡ InOrder
    → IsDurable (disk_of history) name i begun → AreAppends i begun synced pending events
    → IsBeginning (synced ++ pending) (record_text Second life.plan life.core.verified life.core.going)
    → (Contains (keys_of life.items) go → (pending ≡ []) × (synced ≡ record_text Second life.plan life.core.verified true))
    → (left : Option (List ℕ)) → Leaves (disk_of (more history events)) name left → LeavesRecordOf life left
