-- A disk: names, files, what a program sees of them, and what a crash may leave.
use Rattle.std.specs.Prelude.{◌≡◌, ◌⊎◌, ℕ, ◌+◌, ◌≤◌, List, [], ◌∷◌, ◌++◌, take, drop, length, Option, Some, None, ⊤}
use Rattle.record_file.specs.DiskStep.{DiskStep, Did, Open, Link, Rename, Remove, SyncFolder, Cut, SyncFile}
use Rattle.record_file.specs.Folder.{IsFolderOf}
use Rattle.record_file.specs.declared.disk.Access.TheVariants.{New}

-- what is so of a name: it leads to this file, or to none
abbrev pub Names : Type 1
Names = List ℕ → Option ℕ → Type 0

-- what is so of a file: it holds these bytes
abbrev pub Files : Type 1
Files = ℕ → List ℕ → Type 0

-- a disk: what a name leads to and a file holds as each program sees it, and all that a crash may leave of a name and of a file
pub record Disk : Type 1 where
  pub leads : Names
  pub may_lead : Names
  pub holds : Files
  pub may_hold : Files

-- a text with these bytes at this place
abbrev pub put : ℕ → List ℕ → List ℕ → List ℕ
put at bytes text = take at text ++ (bytes ++ drop (at + length bytes) text)

-- two kinds of disks: a file that is not synced may hold anything; or a front of the bytes is there, where all that stands before them is
pub data Kind : Type 0 where
  Weakest : Kind
  InOrder : Kind

-- what a crash may leave of a write of these bytes at this place that was not synced, where it might have left this before it
abbrev pub torn_by : Kind → ℕ → (bytes before after : List ℕ) → Type 0
torn_by Weakest at bytes before after = ⊤
torn_by InOrder at bytes before after = (front : List ℕ) × (rest : List ℕ) × (bytes ≡ front ++ rest) × (after ≡ put at front before) × (at ≤ length before)

-- what happens to a disk: it was asked for a step, which made or was about this file; bytes were written at a place of a file; or what was written
-- to it was brought to the disk
pub data Event : Type 0 where
  Asked : ℕ → DiskStep → Event
  Written : ℕ → ℕ → List ℕ → Event
  Synced : ℕ → Event

-- ---- the table

abbrev pub made : Disk → List ℕ → ℕ → Disk
made d name i = record {
  leads = λ n x. ((n ≡ name) × (x ≡ Some i)) ⊎ (((n ≡ name) → ⊥) × d.leads n x);
  may_lead = λ n x. d.may_lead n x ⊎ ((n ≡ name) × (x ≡ Some i));
  holds = λ j t. ((j ≡ i) × (t ≡ [])) ⊎ (((j ≡ i) → ⊥) × d.holds j t);
  may_hold = λ j t. d.may_hold j t ⊎ ((j ≡ i) × (t ≡ []));
}

abbrev pub linked : Disk → List ℕ → List ℕ → Disk
linked d from to = record d {
  leads = λ n x. ((n ≡ to) × d.leads from x) ⊎ (((n ≡ to) → ⊥) × d.leads n x);
  may_lead = λ n x. d.may_lead n x ⊎ ((n ≡ to) × d.leads from x);
}

-- each of the two names, on its own, may have changed on the disk or not: nothing is asked of a rename but that the second name always leads somewhere
abbrev pub renamed : Disk → List ℕ → List ℕ → Disk
renamed d from to = record d {
  leads = λ n x. ((n ≡ to) × d.leads from x) ⊎ ((n ≡ from) × (x ≡ None)) ⊎ (((n ≡ to) → ⊥) × ((n ≡ from) → ⊥) × d.leads n x);
  may_lead = λ n x. d.may_lead n x ⊎ ((n ≡ to) × d.leads from x) ⊎ ((n ≡ from) × (x ≡ None));
}

abbrev pub removed : Disk → List ℕ → Disk
removed d name = record d {
  leads = λ n x. ((n ≡ name) × (x ≡ None)) ⊎ (((n ≡ name) → ⊥) × d.leads n x);
  may_lead = λ n x. d.may_lead n x ⊎ ((n ≡ name) × (x ≡ None));
}

abbrev pub folder_synced : Disk → List ℕ → Disk
folder_synced d folder = record d { may_lead = λ n x. d.may_lead n x × (IsFolderOf n folder → d.leads n x) }

abbrev pub file_synced : Disk → ℕ → Disk
file_synced d i = record d { may_hold = λ j t. d.may_hold j t × ((j ≡ i) → d.holds j t) }

abbrev pub cut : Disk → ℕ → ℕ → Disk
cut d i n = record d {
  holds = λ j t. ((j ≡ i) × (u : List ℕ) × d.holds j u × (t ≡ take n u)) ⊎ (((j ≡ i) → ⊥) × d.holds j t);
  may_hold = λ j t. d.may_hold j t ⊎ ((j ≡ i) × (u : List ℕ) × d.may_hold j u × (m : ℕ) × (t ≡ take (n + m) u));
}

abbrev pub written : Kind → Disk → ℕ → ℕ → List ℕ → Disk
written kind d i at bytes = record d {
  holds = λ j t. ((j ≡ i) × (u : List ℕ) × d.holds j u × (t ≡ put at bytes u)) ⊎ (((j ≡ i) → ⊥) × d.holds j t);
  may_hold = λ j t. d.may_hold j t ⊎ ((j ≡ i) × (u : List ℕ) × d.may_hold j u × torn_by kind at bytes u t);
}

-- a disk after an event: a row for each call that changes it. What failed has changed nothing, nor has a look, an opening or a lock. A file that is made
-- where a link leads to has no row yet
abbrev pub after : Kind → Disk → Event → Disk
after kind d (Asked i (Did (Open New name))) = made d name i
after kind d (Asked i (Did (Link from to))) = linked d from to
after kind d (Asked i (Did (Rename from to left))) = renamed d from to
after kind d (Asked i (Did (Remove name))) = removed d name
after kind d (Asked i (Did (SyncFolder folder))) = folder_synced d folder
after kind d (Asked i (Did (Cut text n))) = cut d i n
after kind d (Asked i (Did (SyncFile text))) = file_synced d i
after kind d (Asked i other) = d
after kind d (Written i at bytes) = written kind d i at bytes
after kind d (Synced i) = file_synced d i

-- what stood on a disk, all of it durable, and whatever happened to it since, the latest first
pub record History : Type 0 where
  pub kind : Kind
  pub names : List ℕ → Option ℕ
  pub texts : ℕ → List ℕ
  pub events : List Event

abbrev pub at_first : (List ℕ → Option ℕ) → (ℕ → List ℕ) → Disk
at_first names texts = record {
  leads = λ n x. names n ≡ x;
  may_lead = λ n x. names n ≡ x;
  holds = λ j t. texts j ≡ t;
  may_hold = λ j t. texts j ≡ t;
}

abbrev pub after_all : Kind → Disk → List Event → Disk
after_all kind d [] = d
after_all kind d (event ∷ earlier) = after kind (after_all kind d earlier) event

abbrev pub disk_of : History → Disk
disk_of history = after_all history.kind (at_first history.names history.texts) history.events

-- a history, and more events, the latest first
abbrev pub more : History → List Event → History
more history events = record history { events = events ++ history.events }

-- ---- a crash

-- what a crash may leave of a name: nothing has it, or its file holds this
pub data Leaves (d : Disk) (name : List ℕ) : Option (List ℕ) → Type 0 where
  Nothing : d.may_lead name None → Leaves d name None
  File : (i : ℕ) (text : List ℕ) → d.may_lead name (Some i) → d.may_hold i text → Leaves d name (Some text)

-- ---- what a disk tells

-- what of these events a disk tells, the first of them first: what is written to a file it does not
abbrev pub told : List Event → List DiskStep
told [] = []
told (Asked i step ∷ earlier) = told earlier ++ step ∷ []
told (Written i at bytes ∷ earlier) = told earlier
told (Synced i ∷ earlier) = told earlier
