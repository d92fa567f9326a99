-- A tape comes to its name whole.
use Rattle.std.proofs.Common.{◌≡◌, ◌⊎◌, ℕ, ◌+◌, Bool, true, false, List, [], ◌∷◌, ◌++◌, length, take, Option, Some, None, inl, inr, refl, arith, ap, sym, subst, ◌∙◌, append-nil}
use Rattle.std.specs.Prelude.{codes, ⊤}
use Rattle.std.proofs.lemmas.List.{take_at}
use Rattle.record_file.specs.DiskStep.{DiskStep, Did, Failed, LedTo, LookAtName, Open, Link, Rename, Remove, SyncFolder, Cut, SyncFile, FindFile, step_by}
use Rattle.record_file.specs.Folder.{IsFolderOf}
use Rattle.record_file.specs.InPlace.{IsFrontOf}
use Rattle.record_file.specs.declared.disk.Access.TheVariants.{New}
use Rattle.tape_shelf.specs.ShelfDisk.{Place, Room, part_name, IsGone, Goes, HasAnother, LeaveAll, IsSearch, Free, There, Unknown, NoFileName, IsNaming, Linked, LinkRefused, NotFoundFree, Renamed, NotRenamed, IsTakenBack, HasItsOwn, RenamedBack, syncing, IsNamed, Unsynced, Unnamed, Named, Unsettled}
use Rattle.tape_shelf.specs.declared.shelf.ShelfFault.{ShelfFault}
use Rattle.disk_law.specs.Disk.{Disk, Event, Asked, Written, Synced, Kind, History, Leaves, Nothing, File, disk_of, more, told, after, linked, renamed, file_synced, cut}
use Rattle.disk_law.specs.Shelf.{IsSoOf, AreSoOf, IsWrittenBeside, ATapeComesWhole, ATapeStays}
use Rattle.disk_law.proofs.Stays.{ends_same, seen}

-- ---- what the steps do to names

-- no name comes, goes or changes
abbrev Keeps : DiskStep → Type 0
Keeps (Did (Open New n)) = ⊥
Keeps (Did (Link from to)) = ⊥
Keeps (Did (Rename from to left)) = ⊥
Keeps (Did (Remove n)) = ⊥
Keeps other = ⊤

abbrev AllKeep : List DiskStep → Type 0
AllKeep [] = ⊤
AllKeep (step ∷ steps) = Keeps step × AllKeep steps

-- only these two names change, each for the other's file; and no file is cut, unless that may be
abbrev Names : Type 0 → List ℕ → List ℕ → DiskStep → Type 0
Names C own name (Did (Open New n)) = ⊥
Names C own name (Did (Link from to)) = (from ≡ own) × (to ≡ name)
Names C own name (Did (Rename from to left)) = ((from ≡ own) × (to ≡ name)) ⊎ ((from ≡ name) × (to ≡ own))
Names C own name (Did (Remove n)) = (n ≡ own) ⊎ (n ≡ name)
Names C own name (Did (Cut wrote n)) = C
Names C own name other = ⊤

abbrev AllName : Type 0 → List ℕ → List ℕ → List DiskStep → Type 0
AllName C own name [] = ⊤
AllName C own name (step ∷ steps) = Names C own name step × AllName C own name steps

keeps_name : (own name : List ℕ) (step : DiskStep) → Keeps step → Names ⊤ own name step
keeps_name own name (Did (Open New n)) k = absurd k
keeps_name own name (Did (Link from to)) k = absurd k
keeps_name own name (Did (Rename from to left)) k = absurd k
keeps_name own name (Did (Remove n)) k = absurd k
keeps_name own name other k = tt

all_keep_name : (own name : List ℕ) (steps : List DiskStep) → AllKeep steps → AllName ⊤ own name steps
all_keep_name own name [] k = tt
all_keep_name own name (step ∷ steps) k = (keeps_name own name step k.0, all_keep_name own name steps k.1)

uncut_name : (own name : List ℕ) (step : DiskStep) → Names ⊥ own name step → Names ⊤ own name step
uncut_name own name (Did (Cut wrote n)) k = tt
uncut_name own name other k = k

all_uncut_name : (own name : List ℕ) (steps : List DiskStep) → AllName ⊥ own name steps → AllName ⊤ own name steps
all_uncut_name own name [] k = tt
all_uncut_name own name (step ∷ steps) k = (uncut_name own name step k.0, all_uncut_name own name steps k.1)

both_name : (C : Type 0) (own name : List ℕ) (xs ys : List DiskStep) → AllName C own name xs → AllName C own name ys → AllName C own name (xs ++ ys)
both_name C own name [] ys k l = l
both_name C own name (x ∷ xs) ys k l = (k.0, both_name C own name xs ys k.1 l)

-- ---- the lists of a shelf

leave_keeps : (own : List ℕ) (steps : List DiskStep) → LeaveAll own steps → AllKeep steps
leave_keeps own [] leave = tt
leave_keeps own (Did (Open New n) ∷ more) leave = absurd leave.0
leave_keeps own (Did (Link from to) ∷ more) leave = absurd leave.0
leave_keeps own (Did (Rename from to left) ∷ more) leave = absurd leave.0
leave_keeps own (Did (Remove n) ∷ more) leave = absurd leave.0
leave_keeps own (Did other ∷ more) leave = (tt, leave_keeps own more leave.1)
leave_keeps own (Failed request ∷ more) leave = (tt, leave_keeps own more leave.1)
leave_keeps own (LedTo name target ∷ more) leave = absurd leave

unsynced_keeps : (room : Room) (cut : Bool) (steps : List DiskStep) → LeaveAll room.name steps → AllKeep (step_by (Cut room.written room.length) cut ∷ steps)
unsynced_keeps room true steps leave = (tt, leave_keeps room.name steps leave)
unsynced_keeps room false steps leave = (tt, leave_keeps room.name steps leave)

search_keeps : (name : List ℕ) (fault : Option ShelfFault) (steps : List DiskStep) → IsSearch name fault steps → AllKeep steps
search_keeps name fault steps Free = (tt, tt)
search_keeps name fault steps There = (tt, tt)
search_keeps name fault steps Unknown = (tt, tt)
search_keeps name fault steps (NoFileName is) = tt

-- a name that is not given
unnamed_keeps : (own name : List ℕ) (fault : ShelfFault) (steps : List DiskStep) → IsNaming own name (Some fault) steps → AllKeep steps
unnamed_keeps own name fault steps LinkRefused = (tt, tt)
unnamed_keeps own name fault steps (NotFoundFree why looking search) = (tt, search_keeps name (Some why) looking search)
unnamed_keeps own name fault steps (NotRenamed left) = (tt, (tt, (tt, tt)))

naming_names : (own name : List ℕ) (steps : List DiskStep) → IsNaming own name None steps → AllName ⊥ own name steps
naming_names own name steps Linked = ((refl, refl), tt)
naming_names own name steps (Renamed left) = (tt, (tt, (inl (refl, refl), tt)))

gone_names : (own name n : List ℕ) (wrote : Option (List ℕ)) (steps : List DiskStep) → (n ≡ own) ⊎ (n ≡ name) → IsGone n wrote steps → AllName ⊥ own name steps
gone_names own name n wrote steps is (Goes true) = (tt, (is, tt))
gone_names own name n wrote steps is (Goes false) = (tt, (tt, tt))
gone_names own name n wrote steps is HasAnother = (tt, tt)

back_names : (own name : List ℕ) (wrote : Option (List ℕ)) (steps : List DiskStep) → IsTakenBack own name wrote steps → AllName ⊥ own name steps
back_names own name wrote steps (HasItsOwn taking gone) = (tt, gone_names own name name wrote taking (inr refl) gone)
back_names own name wrote steps (RenamedBack left true) = (tt, (inr (refl, refl), tt))
back_names own name wrote steps (RenamedBack left false) = (tt, (tt, tt))

settled_names : (place : Place) (room : Room) (naming going : List DiskStep) → IsNaming room.name place.name None naming → IsGone room.name room.written going
    → AllName ⊥ room.name place.name (naming ++ Did (SyncFolder place.folder) ∷ going)
settled_names place room naming going n g =
    both_name ⊥ room.name place.name naming (Did (SyncFolder place.folder) ∷ going) (naming_names room.name place.name naming n)
    (tt, gone_names room.name place.name room.name room.written going (inl refl) g)

unsettled_names : (place : Place) (room : Room) (naming taking : List DiskStep) → IsNaming room.name place.name None naming → IsTakenBack room.name place.name room.written taking
    → AllName ⊥ room.name place.name (naming ++ Failed (SyncFolder place.folder) ∷ taking)
unsettled_names place room naming taking n t =
    both_name ⊥ room.name place.name naming (Failed (SyncFolder place.folder) ∷ taking) (naming_names room.name place.name naming n)
    (tt, back_names room.name place.name room.written taking t)

named_names : (place : Place) (room : Room) (fault : Option ShelfFault) (steps : List DiskStep) → IsNamed place room fault steps → AllName ⊤ room.name place.name steps
named_names place room fault steps (Unsynced at idle leave failed) =
    all_keep_name room.name place.name (step_by (Cut room.written room.length) at ∷ idle) (unsynced_keeps room at idle leave)
named_names place room fault steps (Unnamed why naming n) =
    (tt, (tt, (tt, all_keep_name room.name place.name naming (unnamed_keeps room.name place.name why naming n))))
named_names place room fault steps (Named naming going n g) =
    (tt, (tt, (tt, all_uncut_name room.name place.name (naming ++ Did (SyncFolder place.folder) ∷ going) (settled_names place room naming going n g))))
named_names place room fault steps (Unsettled naming taking n t) =
    (tt, (tt, (tt, all_uncut_name room.name place.name (naming ++ Failed (SyncFolder place.folder) ∷ taking) (unsettled_names place room naming taking n t))))

-- ---- the events of a list

-- an event is told, and this holds of its step
abbrev pub Tells : (DiskStep → Type 0) → Event → Type 0
Tells P (Asked i step) = P step
Tells P other = ⊤

abbrev pub TellAll : (DiskStep → Type 0) → List Event → Type 0
TellAll P [] = ⊤
TellAll P (event ∷ earlier) = TellAll P earlier × Tells P event

abbrev pub Each : (DiskStep → Type 0) → List DiskStep → Type 0
Each P [] = ⊤
Each P (step ∷ steps) = P step × Each P steps

front_each : (P : DiskStep → Type 0) (xs ys : List DiskStep) → Each P (xs ++ ys) → Each P xs
front_each P [] ys each = tt
front_each P (x ∷ xs) ys each = (each.0, front_each P xs ys each.1)

back_each : (P : DiskStep → Type 0) (xs ys : List DiskStep) → Each P (xs ++ ys) → Each P ys
back_each P [] ys each = each
back_each P (x ∷ xs) ys each = back_each P xs ys each.1

pub of_told : (P : DiskStep → Type 0) (events : List Event) → Each P (told events) → TellAll P events
of_told P [] each = tt
of_told P (Asked i step ∷ earlier) each = (of_told P earlier (front_each P (told earlier) (step ∷ []) each), (back_each P (told earlier) (step ∷ []) each).0)
of_told P (Written i at bytes ∷ earlier) each = (of_told P earlier each, tt)
of_told P (Synced i ∷ earlier) each = (of_told P earlier each, tt)

pub earlier_tell : (P : DiskStep → Type 0) (later earlier : List Event) → TellAll P (later ++ earlier) → TellAll P earlier
earlier_tell P [] earlier all = all
earlier_tell P (event ∷ later) earlier all = earlier_tell P later earlier all.0

keep_each : (steps : List DiskStep) → AllKeep steps → Each Keeps steps
keep_each [] k = tt
keep_each (step ∷ steps) k = (k.0, keep_each steps k.1)

name_each : (C : Type 0) (own name : List ℕ) (steps : List DiskStep) → AllName C own name steps → Each (Names C own name) steps
name_each C own name [] k = tt
name_each C own name (step ∷ steps) k = (k.0, name_each C own name steps k.1)

earlier_so : (part : ℕ) (history : History) (later earlier : List Event) → AreSoOf part history (later ++ earlier) → AreSoOf part history earlier
earlier_so part history [] earlier so = so
earlier_so part history (event ∷ later) earlier so = earlier_so part history later earlier so.0

-- ---- where names are kept

kept_step : (kind : Kind) (d : Disk) (part : ℕ) (event : Event) → IsSoOf part d event → Tells Keeps event → (n : List ℕ) (x : Option ℕ)
    → (after kind d event).may_lead n x → d.may_lead n x
kept_step kind d part (Asked i (Did (Open New name))) so keeps n x may = absurd keeps
kept_step kind d part (Asked i (Did (Link from to))) so keeps n x may = absurd keeps
kept_step kind d part (Asked i (Did (Rename from to left))) so keeps n x may = absurd keeps
kept_step kind d part (Asked i (Did (Remove name))) so keeps n x may = absurd keeps
kept_step kind d part (Asked i (Did (SyncFolder folder))) so keeps n x may = may.0
kept_step kind d part (Asked i (Did (Cut wrote m))) so keeps n x may = may
kept_step kind d part (Asked i (Did (SyncFile wrote))) so keeps n x may = may
kept_step kind d part (Asked i other) so keeps n x may = may
kept_step kind d part (Written i at bytes) so keeps n x may = absurd so
kept_step kind d part (Synced i) so keeps n x may = absurd so

kept_all : (part : ℕ) (history : History) (events : List Event) → AreSoOf part history events → TellAll Keeps events → (n : List ℕ) (x : Option ℕ)
    → (disk_of (more history events)).may_lead n x → (disk_of history).may_lead n x
kept_all part history [] so keep n x may = may
kept_all part history (event ∷ earlier) so keep n x may =
    kept_all part history earlier so.0 keep.0 n x (kept_step history.kind (disk_of (more history earlier)) part event so.1 keep.1 n x may)

-- ---- each other name

-- no name but the two may lead to the file beside
abbrev IsOnly : Disk → List ℕ → List ℕ → ℕ → Type 0
IsOnly d own name part = (n : List ℕ) → ((n ≡ own) → ⊥) → ((n ≡ name) → ⊥) → d.may_lead n (Some part) → ⊥

-- for any other name
other_lead : (kind : Kind) (d : Disk) (own name : List ℕ) (part : ℕ) (event : Event) → IsSoOf part d event → Tells (Names ⊤ own name) event
    → (n : List ℕ) (x : Option ℕ) → ((n ≡ own) → ⊥) → ((n ≡ name) → ⊥) → (after kind d event).may_lead n x → d.may_lead n x
other_lead kind d own name part (Asked i (Did (Open New made))) so names n x a b may = absurd names
other_lead kind d own name part (Asked i (Did (Link from to))) so names n x a b (inl may) = may
other_lead kind d own name part (Asked i (Did (Link from to))) so names n x a b (inr led) = absurd (b (led.0 ∙ names.1))
other_lead kind d own name part (Asked i (Did (Rename from to left))) so names n x a b (inl may) = may
other_lead kind d own name part (Asked i (Did (Rename from to left))) so (inl names) n x a b (inr (inl led)) = absurd (b (led.0 ∙ names.1))
other_lead kind d own name part (Asked i (Did (Rename from to left))) so (inr names) n x a b (inr (inl led)) = absurd (a (led.0 ∙ names.1))
other_lead kind d own name part (Asked i (Did (Rename from to left))) so (inl names) n x a b (inr (inr gone)) = absurd (a (gone.0 ∙ names.0))
other_lead kind d own name part (Asked i (Did (Rename from to left))) so (inr names) n x a b (inr (inr gone)) = absurd (b (gone.0 ∙ names.0))
other_lead kind d own name part (Asked i (Did (Remove gone))) so names n x a b (inl may) = may
other_lead kind d own name part (Asked i (Did (Remove gone))) so (inl is) n x a b (inr same) = absurd (a (same.0 ∙ is))
other_lead kind d own name part (Asked i (Did (Remove gone))) so (inr is) n x a b (inr same) = absurd (b (same.0 ∙ is))
other_lead kind d own name part (Asked i (Did (SyncFolder folder))) so names n x a b may = may.0
other_lead kind d own name part (Asked i (Did (Cut wrote m))) so names n x a b may = may
other_lead kind d own name part (Asked i (Did (SyncFile wrote))) so names n x a b may = may
other_lead kind d own name part (Asked i other) so names n x a b may = may
other_lead kind d own name part (Written i at bytes) so names n x a b may = absurd so
other_lead kind d own name part (Synced i) so names n x a b may = absurd so

-- what a file may hold that is not the one beside
other_hold : (kind : Kind) (d : Disk) (own name : List ℕ) (part : ℕ) (event : Event) → IsSoOf part d event → Tells (Names ⊤ own name) event
    → (j : ℕ) (t : List ℕ) → ((j ≡ part) → ⊥) → (after kind d event).may_hold j t → d.may_hold j t
other_hold kind d own name part (Asked i (Did (Open New made))) so names j t a may = absurd names
other_hold kind d own name part (Asked i (Did (Link from to))) so names j t a may = may
other_hold kind d own name part (Asked i (Did (Rename from to left))) so names j t a may = may
other_hold kind d own name part (Asked i (Did (Remove gone))) so names j t a may = may
other_hold kind d own name part (Asked i (Did (SyncFolder folder))) so names j t a may = may
other_hold kind d own name part (Asked i (Did (Cut wrote m))) so names j t a (inl may) = may
other_hold kind d own name part (Asked i (Did (Cut wrote m))) so names j t a (inr was) = absurd (a (was.0 ∙ so))
other_hold kind d own name part (Asked i (Did (SyncFile wrote))) so names j t a may = may.0
other_hold kind d own name part (Asked i other) so names j t a may = may
other_hold kind d own name part (Written i at bytes) so names j t a may = absurd so
other_hold kind d own name part (Synced i) so names j t a may = absurd so

-- where a crash leaves another name's file, it is one that it might have left before
others : (own name : List ℕ) (part : ℕ) (history : History) (events : List Event) → AreSoOf part history events → TellAll (Names ⊤ own name) events
    → IsOnly (disk_of history) own name part → (n : List ℕ) (left : Option (List ℕ)) → ((n ≡ own) → ⊥) → ((n ≡ name) → ⊥)
    → Leaves (disk_of (more history events)) n left → Leaves (disk_of history) n left
others own name part history [] so names only n left a b leaves = leaves
others own name part history (event ∷ earlier) so names only n left a b leaves =
    others own name part history earlier so.0 names.0 only n left a b (back leaves)
  where
    d : Disk
    d = disk_of (more history earlier)

    only_all : (earlier : List Event) → AreSoOf part history earlier → TellAll (Names ⊤ own name) earlier → IsOnly (disk_of (more history earlier)) own name part
    only_all [] so names n a b may = only n a b may
    only_all (event ∷ earlier) so names n a b may =
        only_all earlier so.0 names.0 n a b (other_lead history.kind (disk_of (more history earlier)) own name part event so.1 names.1 n (Some part) a b may)

    back : {left : Option (List ℕ)} → Leaves (after history.kind d event) n left → Leaves d n left
    back (Nothing may) = Nothing (other_lead history.kind d own name part event so.1 names.1 n None a b may)
    back (File j t may has) =
        let lead = other_lead history.kind d own name part event so.1 names.1 n (Some j) a b may in
        File j t lead (other_hold history.kind d own name part event so.1 names.1 j t
        (λ is. only_all earlier so.0 names.0 n a b (subst (λ k. d.may_lead n (Some k)) is lead)) has)

-- ---- once the file beside is on the disk

-- it holds the text, whatever a crash leaves of it; and each of the two names leads to it, or to nothing
record IsThere (d : Disk) (own name : List ℕ) (part : ℕ) (text : List ℕ) : Type 0 where
  pub whole : (t : List ℕ) → d.may_hold part t → t ≡ text
  pub own_leads : (x : Option ℕ) → d.leads own x → (x ≡ None) ⊎ (x ≡ Some part)
  pub leads : (x : Option ℕ) → d.leads name x → (x ≡ None) ⊎ (x ≡ Some part)
  pub may : (x : Option ℕ) → d.may_lead name x → (x ≡ None) ⊎ (x ≡ Some part)

-- what leads there by either name
of_two : (d : Disk) (own name : List ℕ) (part : ℕ) (text : List ℕ) → IsThere d own name part text → (n : List ℕ) → (n ≡ own) ⊎ (n ≡ name)
    → (x : Option ℕ) → d.leads n x → (x ≡ None) ⊎ (x ≡ Some part)
of_two d own name part text there n (inl is) x led = there.own_leads x (subst (λ m. d.leads m x) is led)
of_two d own name part text there n (inr is) x led = there.leads x (subst (λ m. d.leads m x) is led)

from_of : (own name from to : List ℕ) → ((from ≡ own) × (to ≡ name)) ⊎ ((from ≡ name) × (to ≡ own)) → (from ≡ own) ⊎ (from ≡ name)
from_of own name from to (inl is) = inl is.0
from_of own name from to (inr is) = inr is.0

there_step : (kind : Kind) (d : Disk) (own name : List ℕ) (part : ℕ) (text : List ℕ) (event : Event) → IsSoOf part d event → Tells (Names ⊥ own name) event
    → IsThere d own name part text → IsThere (after kind d event) own name part text
there_step kind d own name part text (Asked i (Did (Open New made))) so names there = absurd names
there_step kind d own name part text (Asked i (Did (Link from to))) so names there = record {
  whole = there.whole;
  own_leads = λ x led. elim led [ inl new ↦ of_two d own name part text there from (inl names.0) x new.1 | inr old ↦ there.own_leads x old.1 ];
  leads = λ x led. elim led [ inl new ↦ of_two d own name part text there from (inl names.0) x new.1 | inr old ↦ there.leads x old.1 ];
  may = λ x may. elim may [ inl old ↦ there.may x old | inr new ↦ of_two d own name part text there from (inl names.0) x new.1 ];
}
there_step kind d own name part text (Asked i (Did (Rename from to left))) so names there = record {
  whole = there.whole;
  own_leads = λ x led. elim led [
    | inl new ↦ of_two d own name part text there from (from_of own name from to names) x new.1
    | inr rest ↦ elim rest [ inl gone ↦ inl gone.1 | inr old ↦ there.own_leads x old.2 ]
  ];
  leads = λ x led. elim led [
    | inl new ↦ of_two d own name part text there from (from_of own name from to names) x new.1
    | inr rest ↦ elim rest [ inl gone ↦ inl gone.1 | inr old ↦ there.leads x old.2 ]
  ];
  may = λ x may. elim may [
    | inl old ↦ there.may x old
    | inr rest ↦ elim rest [ inl new ↦ of_two d own name part text there from (from_of own name from to names) x new.1 | inr gone ↦ inl gone.1 ]
  ];
}
there_step kind d own name part text (Asked i (Did (Remove gone))) so names there = record {
  whole = there.whole;
  own_leads = λ x led. elim led [ inl none ↦ inl none.1 | inr old ↦ there.own_leads x old.1 ];
  leads = λ x led. elim led [ inl none ↦ inl none.1 | inr old ↦ there.leads x old.1 ];
  may = λ x may. elim may [ inl old ↦ there.may x old | inr none ↦ inl none.1 ];
}
there_step kind d own name part text (Asked i (Did (SyncFolder folder))) so names there = record {
  whole = there.whole;
  own_leads = there.own_leads;
  leads = there.leads;
  may = λ x may. there.may x may.0;
}
there_step kind d own name part text (Asked i (Did (Cut wrote m))) so names there = absurd names
there_step kind d own name part text (Asked i (Did (SyncFile wrote))) so names there = record {
  whole = λ t may. there.whole t may.0;
  own_leads = there.own_leads;
  leads = there.leads;
  may = there.may;
}
there_step kind d own name part text (Asked i other) so names there = there
there_step kind d own name part text (Written i at bytes) so names there = absurd so
there_step kind d own name part text (Synced i) so names there = absurd so

there_all : (own name : List ℕ) (part : ℕ) (text : List ℕ) (history : History) (later earlier : List Event) → AreSoOf part history (later ++ earlier)
    → TellAll (Names ⊥ own name) later → IsThere (disk_of (more history earlier)) own name part text → IsThere (disk_of (more history (later ++ earlier))) own name part text
there_all own name part text history [] earlier so names there = there
there_all own name part text history (event ∷ later) earlier so names there =
    there_step history.kind (disk_of (more history (later ++ earlier))) own name part text event so.1 names.1
    (there_all own name part text history later earlier so.0 names.0 there)

-- then a crash leaves the text by the name, or nothing
left_whole : (d : Disk) (own name : List ℕ) (part : ℕ) (text : List ℕ) → IsThere d own name part text → (left : Option (List ℕ)) → Leaves d name left
    → (left ≡ None) ⊎ (left ≡ Some text)
left_whole d own name part text there left (Nothing may) = inl refl
left_whole d own name part text there left (File j t may has) = elim (there.may (Some j) may) [
  | inl none ↦ absurd (nothing none)
  | inr is ↦ inr (ap Some (there.whole t (subst (λ k. d.may_hold k t) (same is) has)))
]
  where
    nothing : Some j ≡ None → ⊥
    nothing e = cc e

    same : Some j ≡ Some part → j ≡ part
    same e = cc e

-- ---- it is brought there

-- behind the three calls by which the file beside is brought to the disk
on_disk : (kind : Kind) (d : Disk) (own name : List ℕ) (part i j k : ℕ) (text : List ℕ) (wrote : Option (List ℕ)) (n : ℕ) → n ≡ length text → i ≡ part → j ≡ part
    → ((x : Option ℕ) → d.leads own x → x ≡ Some part) → ((x : Option ℕ) → d.leads name x → x ≡ None) → ((x : Option ℕ) → d.may_lead name x → x ≡ None)
    → ((t : List ℕ) → d.holds part t → IsFrontOf text t) → IsThere (file_synced (cut d i n) j) own name part text
on_disk kind d own name part i j k text wrote n size at at' led named free stands = record {
  whole = λ t may. cut_text t (may.1 (sym at'));
  own_leads = λ x lead. inr (led x lead);
  leads = λ x lead. inl (named x lead);
  may = λ x may. inl (free x may);
}
  where
    cut_text : (t : List ℕ) → (cut d i n).holds part t → t ≡ text
    cut_text t (inl (same, u, has, is)) =
        let front = stands u has in
        is ∙ ap (λ m. take m u) size ∙ ap (take (length text)) (sym front.1) ∙ take_at text front.0 (length text) refl
    cut_text t (inr (other, has)) = absurd (other (sym at))

-- ---- the list in two

snoc_of : (y : DiskStep) (ys : List DiskStep) → (init : List DiskStep) × (last : DiskStep) × (y ∷ ys ≡ init ++ last ∷ [])
snoc_of y [] = ([], y, refl)
snoc_of y (z ∷ zs) = let rest = snoc_of z zs in (y ∷ rest.0, rest.1, ap (λ l. y ∷ l) rest.2)

appended : (xs ys zs : List DiskStep) → xs ++ (ys ++ zs) ≡ (xs ++ ys) ++ zs
appended [] ys zs = refl
appended (x ∷ xs) ys zs = ap (λ l. x ∷ l) (appended xs ys zs)

record Split (events : List Event) (xs ys : List DiskStep) : Type 0 where
  pub then : List Event
  pub first : List Event
  pub all : events ≡ then ++ first
  pub told_first : told first ≡ xs
  pub told_then : told then ≡ ys

empty_both : (xs ys : List DiskStep) → [] ≡ xs ++ ys → (xs ≡ []) × (ys ≡ [])
empty_both [] ys is = (refl, sym is)
empty_both (x ∷ xs) ys is = absurd (cc is)

longer_split : (i : ℕ) (step : DiskStep) (earlier : List Event) (xs ys init : List DiskStep) (last : DiskStep) → step ≡ last → ys ≡ init ++ last ∷ []
    → Split earlier xs init → Split (Asked i step ∷ earlier) xs ys
longer_split i step earlier xs ys init last same is rest = record {
  then = Asked i step ∷ rest.then;
  first = rest.first;
  all = ap (λ l. Asked i step ∷ l) rest.all;
  told_first = rest.told_first;
  told_then = ap (λ l. l ++ step ∷ []) rest.told_then ∙ ap (λ s. init ++ s ∷ []) same ∙ sym is;
}

split : (part : ℕ) (history : History) (events : List Event) (xs ys : List DiskStep) → AreSoOf part history events → told events ≡ xs ++ ys → Split events xs ys
split part history events xs [] so is = record { then = []; first = events; all = refl; told_first = is ∙ append-nil xs; told_then = refl }
split part history [] xs (y ∷ ys) so is = absurd (none (empty_both xs (y ∷ ys) is).1)
  where
    none : y ∷ ys ≡ [] → ⊥
    none e = cc e
split part history (Asked i step ∷ earlier) xs (y ∷ ys) so is =
    let snoc = snoc_of y ys in
    let ends = ends_same (told earlier) (xs ++ snoc.0) step snoc.1 (is ∙ ap (λ l. xs ++ l) snoc.2 ∙ appended xs snoc.0 (snoc.1 ∷ [])) in
    longer_split i step earlier xs (y ∷ ys) snoc.0 snoc.1 ends.1 snoc.2 (split part history earlier xs snoc.0 so.0 ends.0)
split part history (Written i at bytes ∷ earlier) xs (y ∷ ys) so is = absurd so.1
split part history (Synced i ∷ earlier) xs (y ∷ ys) so is = absurd so.1

told_none : (part : ℕ) (history : History) (events : List Event) → AreSoOf part history events → told events ≡ [] → events ≡ []
told_none part history [] so is = refl
told_none part history (Asked i step ∷ earlier) so is = absurd (longer (told earlier) is)
  where
    longer : (xs : List DiskStep) → xs ++ step ∷ [] ≡ [] → ⊥
    longer [] e = cc e
    longer (x ∷ xs) e = cc e
told_none part history (Written i at bytes ∷ earlier) so is = absurd so.1
told_none part history (Synced i ∷ earlier) so is = absurd so.1

-- the last of some events, and those before it
record Last (part : ℕ) (history : History) (events : List Event) (xs : List DiskStep) (x : DiskStep) : Type 0 where
  pub file : ℕ
  pub earlier : List Event
  pub all : events ≡ Asked file x ∷ earlier
  pub before : told earlier ≡ xs

last_of : (part : ℕ) (history : History) (events : List Event) (xs : List DiskStep) (x : DiskStep) → AreSoOf part history events → told events ≡ xs ++ x ∷ []
    → Last part history events xs x
last_of part history [] xs x so is = absurd (none (empty_both xs (x ∷ []) is).1)
  where
    none : x ∷ [] ≡ [] → ⊥
    none e = cc e
last_of part history (Asked i step ∷ earlier) xs x so is =
    let ends = ends_same (told earlier) xs step x is in record { file = i; earlier = earlier; all = ap (λ s. Asked i s ∷ earlier) ends.1; before = ends.0 }
last_of part history (Written i at bytes ∷ earlier) xs x so is = absurd so.1
last_of part history (Synced i ∷ earlier) xs x so is = absurd so.1

-- where some events are cut short that are two parts
cut_off : (later earlier two one : List Event) → later ++ earlier ≡ two ++ one
    → ((two' : List Event) × (earlier ≡ two' ++ one) × (two ≡ later ++ two')) ⊎ ((one' : List Event) × (one ≡ one' ++ earlier))
cut_off [] earlier two one is = inl (two, is, refl)
cut_off (e ∷ later) earlier [] one is = inr (e ∷ later, sym is)
cut_off (e ∷ later) earlier (f ∷ two) one is = elim (cut_off later earlier two one (cc is)) [
  | inl in_two ↦ inl (in_two.0, in_two.1, cc (is, in_two.2))
  | inr in_one ↦ inr in_one
]

-- ---- the whole

-- behind all three calls
brought : (room : Room) (name : List ℕ) (text : List ℕ) (history : History) (part : ℕ) (events : List Event) → AreSoOf part history events
    → told events ≡ Did (Cut room.written room.length) ∷ Did (SyncFile room.written) ∷ Did (FindFile room.name room.written) ∷ [] → room.length ≡ length text
    → IsWrittenBeside (disk_of history) name part text → IsThere (disk_of (more history events)) room.name name part text
brought room name text history part events so is size beside =
    subst (λ e. IsThere (disk_of (more history e)) room.name name part text) (sym whole)
    (on_disk history.kind (disk_of history) room.name name part cutting.file syncing.file finding.file text room.written room.length size so_cut so_sync so_find
    (λ x lead. beside.free x (seen history name x lead)) beside.free beside.stands)
  where
    finding : Last part history events (Did (Cut room.written room.length) ∷ Did (SyncFile room.written) ∷ []) (Did (FindFile room.name room.written))
    finding = last_of part history events (Did (Cut room.written room.length) ∷ Did (SyncFile room.written) ∷ []) (Did (FindFile room.name room.written)) so is

    so1 : AreSoOf part history (Asked finding.file (Did (FindFile room.name room.written)) ∷ finding.earlier)
    so1 = subst (AreSoOf part history) finding.all so

    syncing : Last part history finding.earlier (Did (Cut room.written room.length) ∷ []) (Did (SyncFile room.written))
    syncing = last_of part history finding.earlier (Did (Cut room.written room.length) ∷ []) (Did (SyncFile room.written)) so1.0 finding.before

    so2 : AreSoOf part history (Asked syncing.file (Did (SyncFile room.written)) ∷ syncing.earlier)
    so2 = subst (AreSoOf part history) syncing.all so1.0

    cutting : Last part history syncing.earlier [] (Did (Cut room.written room.length))
    cutting = last_of part history syncing.earlier [] (Did (Cut room.written room.length)) so2.0 syncing.before

    so3 : AreSoOf part history (Asked cutting.file (Did (Cut room.written room.length)) ∷ cutting.earlier)
    so3 = subst (AreSoOf part history) cutting.all so2.0

    first : cutting.earlier ≡ []
    first = told_none part history cutting.earlier so3.0 cutting.before

    last_two : finding.earlier ≡ Asked syncing.file (Did (SyncFile room.written)) ∷ Asked cutting.file (Did (Cut room.written room.length)) ∷ []
    last_two = syncing.all ∙ ap (λ l. Asked syncing.file (Did (SyncFile room.written)) ∷ l) (cutting.all ∙ ap (λ l. Asked cutting.file (Did (Cut room.written room.length)) ∷ l) first)

    whole : events ≡ Asked finding.file (Did (FindFile room.name room.written)) ∷ Asked syncing.file (Did (SyncFile room.written)) ∷ Asked cutting.file (Did (Cut room.written room.length)) ∷ []
    whole = finding.all ∙ ap (λ l. Asked finding.file (Did (FindFile room.name room.written)) ∷ l) last_two

    so_cut : cutting.file ≡ part
    so_cut = so3.1

    so_sync : syncing.file ≡ part
    so_sync = so2.1

    so_find : (x : Option ℕ) → (disk_of history).leads room.name x → x ≡ Some part
    so_find = subst (λ l. (x : Option ℕ) → (disk_of (more history l)).leads room.name x → x ≡ Some part) last_two so1.1

-- where only names are kept nothing has FILE's
not_there : (name : List ℕ) (text : List ℕ) (history : History) (part : ℕ) (events : List Event) → AreSoOf part history events → TellAll Keeps events
    → IsWrittenBeside (disk_of history) name part text → (left : Option (List ℕ)) → Leaves (disk_of (more history events)) name left → (left ≡ None) ⊎ (left ≡ Some text)
not_there name text history part events so keep beside left (Nothing may) = inl refl
not_there name text history part events so keep beside left (File j t may has) = absurd (none (beside.free (Some j) (kept_all part history events so keep name (Some j) may)))
  where
    none : Some j ≡ None → ⊥
    none e = cc e

-- where the file beside is brought to the disk, and then only names change
tape_behind : (place : Place) (room : Room) (text : List ℕ) (history : History) (part : ℕ) (later earlier : List Event) (steps : List DiskStep)
    → told (later ++ earlier) ≡ (Did (Cut room.written room.length) ∷ Did (SyncFile room.written) ∷ Did (FindFile room.name room.written) ∷ []) ++ steps
    → AllName ⊥ room.name place.name steps → room.length ≡ length text → AreSoOf part history (later ++ earlier)
    → IsWrittenBeside (disk_of history) place.name part text → (left : Option (List ℕ)) → Leaves (disk_of (more history earlier)) place.name left → (left ≡ None) ⊎ (left ≡ Some text)
tape_behind place room text history part later earlier steps is names size so beside left leaves =
    elim (cut_off later earlier parts.then parts.first parts.all) [
      | inl in_two ↦
          left_whole (disk_of (more history earlier)) room.name place.name part text
          (subst (λ e. IsThere (disk_of (more history e)) room.name place.name part text) (sym in_two.1)
          (there_all room.name place.name part text history in_two.0 parts.first (subst (AreSoOf part history) in_two.1 (earlier_so part history later earlier so))
          (earlier_tell (Names ⊥ room.name place.name) later in_two.0 (subst (TellAll (Names ⊥ room.name place.name)) in_two.2 then_names)) there)) left leaves
      | inr in_one ↦
          not_there place.name text history part earlier (earlier_so part history later earlier so)
          (earlier_tell Keeps in_one.0 earlier (subst (TellAll Keeps) in_one.1 first_keeps)) beside left leaves
    ]
  where
    three : List DiskStep
    three = Did (Cut room.written room.length) ∷ Did (SyncFile room.written) ∷ Did (FindFile room.name room.written) ∷ []

    parts : Split (later ++ earlier) three steps
    parts = split part history (later ++ earlier) three steps so is

    so_first : AreSoOf part history parts.first
    so_first = earlier_so part history parts.then parts.first (subst (AreSoOf part history) parts.all so)

    there : IsThere (disk_of (more history parts.first)) room.name place.name part text
    there = brought room place.name text history part parts.first so_first parts.told_first size beside

    then_names : TellAll (Names ⊥ room.name place.name) parts.then
    then_names = of_told (Names ⊥ room.name place.name) parts.then (subst (Each (Names ⊥ room.name place.name)) (sym parts.told_then) (name_each ⊥ room.name place.name steps names))

    first_keeps : TellAll Keeps parts.first
    first_keeps = of_told Keeps parts.first (subst (Each Keeps) (sym parts.told_first) (tt, (tt, (tt, tt))))

-- calls that keep each name leave the tape without one
kept_apart : (place : Place) (text : List ℕ) (history : History) (part : ℕ) (later earlier : List Event) (steps : List DiskStep) → told (later ++ earlier) ≡ steps → AllKeep steps
    → AreSoOf part history (later ++ earlier) → IsWrittenBeside (disk_of history) place.name part text
    → (left : Option (List ℕ)) → Leaves (disk_of (more history earlier)) place.name left → (left ≡ None) ⊎ (left ≡ Some text)
kept_apart place text history part later earlier steps is keep so beside left leaves =
    not_there place.name text history part earlier (earlier_so part history later earlier so)
    (earlier_tell Keeps later earlier (of_told Keeps (later ++ earlier) (subst (Each Keeps) (sym is) (keep_each steps keep)))) beside left leaves

tape_of : (place : Place) (room : Room) (fault : Option ShelfFault) (text : List ℕ) (history : History) (part : ℕ) (later earlier : List Event) (steps : List DiskStep)
    → told (later ++ earlier) ≡ steps → IsNamed place room fault steps → room.length ≡ length text → AreSoOf part history (later ++ earlier)
    → IsWrittenBeside (disk_of history) place.name part text → (left : Option (List ℕ)) → Leaves (disk_of (more history earlier)) place.name left → (left ≡ None) ⊎ (left ≡ Some text)
tape_of place room fault text history part later earlier steps is (Unsynced at idle leave failed) size so beside left leaves =
    kept_apart place text history part later earlier (step_by (Cut room.written room.length) at ∷ idle) is (unsynced_keeps room at idle leave) so beside left leaves
tape_of place room fault text history part later earlier steps is (Unnamed why naming n) size so beside left leaves =
    kept_apart place text history part later earlier (syncing room ++ naming) is (tt, (tt, (tt, unnamed_keeps room.name place.name why naming n))) so beside left leaves
tape_of place room fault text history part later earlier steps is (Named naming going n g) size so beside left leaves =
    tape_behind place room text history part later earlier (naming ++ Did (SyncFolder place.folder) ∷ going) is (settled_names place room naming going n g) size so beside left leaves
tape_of place room fault text history part later earlier steps is (Unsettled naming taking n t) size so beside left leaves =
    tape_behind place room text history part later earlier (naming ++ Failed (SyncFolder place.folder) ∷ taking) is (unsettled_names place room naming taking n t) size so beside left leaves

pub a_tape_comes_whole : ATapeComesWhole
a_tape_comes_whole place room fault text history part later earlier list own size so beside = record {
  tape = tape_of place room fault text history part later earlier (told (later ++ earlier)) refl list size so beside;
  others = λ n left not_name not_part leaves. others room.name place.name part history earlier (earlier_so part history later earlier so)
      (earlier_tell (Names ⊤ room.name place.name) later earlier
      (of_told (Names ⊤ room.name place.name) (later ++ earlier) (name_each ⊤ room.name place.name (told (later ++ earlier)) (named_names place room fault (told (later ++ earlier)) list))))
      (λ n a b may. beside.only n (λ is. a (is ∙ sym own)) may) n left (λ is. not_part (is ∙ own)) not_name leaves;
}

-- ---- and stays

-- the file beside has the text, and FILE's name leads to it
record IsNamedThere (d : Disk) (name : List ℕ) (part : ℕ) (text : List ℕ) : Type 0 where
  pub whole : (t : List ℕ) → d.may_hold part t → t ≡ text
  pub leads : (x : Option ℕ) → d.leads name x → x ≡ Some part

-- also behind a crash
record IsTape (d : Disk) (name : List ℕ) (part : ℕ) (text : List ℕ) : Type 0 where
  pub whole : (t : List ℕ) → d.may_hold part t → t ≡ text
  pub may : (x : Option ℕ) → d.may_lead name x → x ≡ Some part

-- no name comes, goes or changes but that this one may go, and no file is cut
abbrev Spares : List ℕ → DiskStep → Type 0
Spares own (Did (Open New n)) = ⊥
Spares own (Did (Link from to)) = ⊥
Spares own (Did (Rename from to left)) = ⊥
Spares own (Did (Remove n)) = n ≡ own
Spares own (Did (Cut wrote n)) = ⊥
Spares own other = ⊤

gone_spares : (own : List ℕ) (wrote : Option (List ℕ)) (steps : List DiskStep) → IsGone own wrote steps → Each (Spares own) steps
gone_spares own wrote steps (Goes true) = (tt, (refl, tt))
gone_spares own wrote steps (Goes false) = (tt, (tt, tt))
gone_spares own wrote steps HasAnother = (tt, tt)

tape_step : (kind : Kind) (d : Disk) (own name : List ℕ) (part : ℕ) (text : List ℕ) (event : Event) → ((name ≡ own) → ⊥) → IsSoOf part d event → Tells (Spares own) event
    → IsTape d name part text → IsTape (after kind d event) name part text
tape_step kind d own name part text (Asked i (Did (Open New made))) other so spares tape = absurd spares
tape_step kind d own name part text (Asked i (Did (Link from to))) other so spares tape = absurd spares
tape_step kind d own name part text (Asked i (Did (Rename from to left))) other so spares tape = absurd spares
tape_step kind d own name part text (Asked i (Did (Remove gone))) other so spares tape = record {
  whole = tape.whole;
  may = λ x may. elim may [ inl old ↦ tape.may x old | inr none ↦ absurd (other (none.0 ∙ spares)) ];
}
tape_step kind d own name part text (Asked i (Did (SyncFolder folder))) other so spares tape = record { whole = tape.whole; may = λ x may. tape.may x may.0 }
tape_step kind d own name part text (Asked i (Did (Cut wrote m))) other so spares tape = absurd spares
tape_step kind d own name part text (Asked i (Did (SyncFile wrote))) other so spares tape = record { whole = λ t may. tape.whole t may.0; may = tape.may }
tape_step kind d own name part text (Asked i other_step) other so spares tape = tape
tape_step kind d own name part text (Written i at bytes) other so spares tape = absurd so
tape_step kind d own name part text (Synced i) other so spares tape = absurd so

tape_all : (own name : List ℕ) (part : ℕ) (text : List ℕ) (history : History) (later earlier : List Event) → ((name ≡ own) → ⊥) → AreSoOf part history (later ++ earlier)
    → TellAll (Spares own) later → IsTape (disk_of (more history earlier)) name part text → IsTape (disk_of (more history (later ++ earlier))) name part text
tape_all own name part text history [] earlier other so spares tape = tape
tape_all own name part text history (event ∷ later) earlier other so spares tape =
    tape_step history.kind (disk_of (more history (later ++ earlier))) own name part text event other so.1 spares.1
    (tape_all own name part text history later earlier other so.0 spares.0 tape)

-- FILE's name is not that of the file beside
pub not_beside : (name : List ℕ) → name ≡ part_name name → ⊥
not_beside name e = longer (ap length e ∙ both name (codes ".part"))
  where
    both : (xs ys : List ℕ) → length (xs ++ ys) ≡ length xs + length ys
    both [] ys = omega arith
    both (x ∷ xs) ys = let rest = both xs ys in omega (arith, rest)

    longer : length name ≡ length name + 5 → ⊥
    longer e = omega arith

by_link : (d : Disk) (own name : List ℕ) (part : ℕ) (text : List ℕ) → IsThere d own name part text → ((x : Option ℕ) → d.leads own x → x ≡ Some part)
    → IsNamedThere (linked d own name) name part text
by_link d own name part text there led = record {
  whole = there.whole;
  leads = λ x lead. elim lead [ inl new ↦ led x new.1 | inr old ↦ absurd (old.0 refl) ];
}

by_rename : (d : Disk) (own name : List ℕ) (part : ℕ) (text : List ℕ) → ((name ≡ own) → ⊥) → IsThere d own name part text
    → ((x : Option ℕ) → d.leads own x → x ≡ Some part) → IsNamedThere (renamed d own name) name part text
by_rename d own name part text other there led = record {
  whole = there.whole;
  leads = λ x lead. elim lead [
    | inl new ↦ led x new.1
    | inr rest ↦ elim rest [ inl gone ↦ absurd (other gone.0) | inr old ↦ absurd (old.0 refl) ]
  ];
}

-- its own name leads to it right behind the three calls
own_led : (room : Room) (name : List ℕ) (text : List ℕ) (history : History) (part : ℕ) (events : List Event) → AreSoOf part history events
    → told events ≡ Did (Cut room.written room.length) ∷ Did (SyncFile room.written) ∷ Did (FindFile room.name room.written) ∷ []
    → (x : Option ℕ) → (disk_of (more history events)).leads room.name x → x ≡ Some part
own_led room name text history part events so is =
    let finding = last_of part history events (Did (Cut room.written room.length) ∷ Did (SyncFile room.written) ∷ []) (Did (FindFile room.name room.written)) so is in
    let so' = subst (AreSoOf part history) finding.all so in
    subst (λ e. (x : Option ℕ) → (disk_of (more history e)).leads room.name x → x ≡ Some part) (sym finding.all) so'.1

named_there : (place : Place) (room : Room) (text : List ℕ) (history : History) (part : ℕ) (events : List Event) (naming : List DiskStep)
    → ((place.name ≡ room.name) → ⊥) → AreSoOf part history events
    → told events ≡ (Did (Cut room.written room.length) ∷ Did (SyncFile room.written) ∷ Did (FindFile room.name room.written) ∷ []) ++ naming
    → IsNaming room.name place.name None naming → room.length ≡ length text → IsWrittenBeside (disk_of history) place.name part text
    → IsNamedThere (disk_of (more history events)) place.name part text
named_there place room text history part events naming other so is Linked size beside =
    subst (λ e. IsNamedThere (disk_of (more history e)) place.name part text) (sym link.all)
    (by_link (disk_of (more history link.earlier)) room.name place.name part text (brought room place.name text history part link.earlier so'.0 link.before size beside)
    (own_led room place.name text history part link.earlier so'.0 link.before))
  where
    link : Last part history events (Did (Cut room.written room.length) ∷ Did (SyncFile room.written) ∷ Did (FindFile room.name room.written) ∷ []) (Did (Link room.name place.name))
    link = last_of part history events _ (Did (Link room.name place.name)) so is

    so' : AreSoOf part history (Asked link.file (Did (Link room.name place.name)) ∷ link.earlier)
    so' = subst (AreSoOf part history) link.all so
named_there place room text history part events naming other so is (Renamed left) size beside =
    subst (λ e. IsNamedThere (disk_of (more history e)) place.name part text) (sym whole)
    (by_rename (disk_of (more history linking.earlier)) room.name place.name part text other
    (brought room place.name text history part linking.earlier so3.0 linking.before size beside) (own_led room place.name text history part linking.earlier so3.0 linking.before))
  where
    three : List DiskStep
    three = Did (Cut room.written room.length) ∷ Did (SyncFile room.written) ∷ Did (FindFile room.name room.written) ∷ []

    rename : Last part history events (three ++ Failed (Link room.name place.name) ∷ Failed (LookAtName place.name) ∷ []) (Did (Rename room.name place.name left))
    rename = last_of part history events (three ++ Failed (Link room.name place.name) ∷ Failed (LookAtName place.name) ∷ []) (Did (Rename room.name place.name left)) so is

    so1 : AreSoOf part history (Asked rename.file (Did (Rename room.name place.name left)) ∷ rename.earlier)
    so1 = subst (AreSoOf part history) rename.all so

    looking : Last part history rename.earlier (three ++ Failed (Link room.name place.name) ∷ []) (Failed (LookAtName place.name))
    looking = last_of part history rename.earlier (three ++ Failed (Link room.name place.name) ∷ []) (Failed (LookAtName place.name)) so1.0 rename.before

    so2 : AreSoOf part history (Asked looking.file (Failed (LookAtName place.name)) ∷ looking.earlier)
    so2 = subst (AreSoOf part history) looking.all so1.0

    linking : Last part history looking.earlier three (Failed (Link room.name place.name))
    linking = last_of part history looking.earlier three (Failed (Link room.name place.name)) so2.0 looking.before

    so3 : AreSoOf part history (Asked linking.file (Failed (Link room.name place.name)) ∷ linking.earlier)
    so3 = subst (AreSoOf part history) linking.all so2.0

    whole : events ≡ Asked rename.file (Did (Rename room.name place.name left)) ∷ Asked looking.file (Failed (LookAtName place.name)) ∷ Asked linking.file (Failed (Link room.name place.name)) ∷ linking.earlier
    whole = rename.all ∙ ap (λ l. Asked rename.file (Did (Rename room.name place.name left)) ∷ l) (looking.all ∙ ap (λ l. Asked looking.file (Failed (LookAtName place.name)) ∷ l) linking.all)

-- behind the sync of the folder
settled : (place : Place) (room : Room) (text : List ℕ) (history : History) (part : ℕ) (events : List Event) (xs naming : List DiskStep) → ((place.name ≡ room.name) → ⊥)
    → xs ≡ (Did (Cut room.written room.length) ∷ Did (SyncFile room.written) ∷ Did (FindFile room.name room.written) ∷ []) ++ naming → AreSoOf part history events
    → told events ≡ xs ++ Did (SyncFolder place.folder) ∷ [] → IsNaming room.name place.name None naming → IsFolderOf place.name place.folder → room.length ≡ length text
    → IsWrittenBeside (disk_of history) place.name part text → IsTape (disk_of (more history events)) place.name part text
settled place room text history part events xs naming other same so is n of size beside =
    subst (λ e. IsTape (disk_of (more history e)) place.name part text) (sym sync.all) (record { whole = named.whole; may = λ x may. named.leads x (may.1 of) })
  where
    sync : Last part history events xs (Did (SyncFolder place.folder))
    sync = last_of part history events xs (Did (SyncFolder place.folder)) so is

    so' : AreSoOf part history (Asked sync.file (Did (SyncFolder place.folder)) ∷ sync.earlier)
    so' = subst (AreSoOf part history) sync.all so

    named : IsNamedThere (disk_of (more history sync.earlier)) place.name part text
    named = named_there place room text history part sync.earlier naming other so'.0 (sync.before ∙ same) n size beside

stays_by : (place : Place) (room : Room) (text : List ℕ) (history : History) (part : ℕ) (events : List Event) (fault : Option ShelfFault) (steps : List DiskStep) → fault ≡ None
    → told events ≡ steps → IsNamed place room fault steps → ((place.name ≡ room.name) → ⊥) → room.length ≡ length text → IsFolderOf place.name place.folder
    → AreSoOf part history events → IsWrittenBeside (disk_of history) place.name part text → IsTape (disk_of (more history events)) place.name part text
stays_by place room text history part events fault steps none is (Unsynced at idle leave failed) other size of so beside = absurd (cc none)
stays_by place room text history part events fault steps none is (Unnamed why naming n) other size of so beside = absurd (cc none)
stays_by place room text history part events fault steps none is (Unsettled naming taking n t) other size of so beside = absurd (cc none)
stays_by place room text history part events fault steps none is (Named naming going n gone) other size of so beside =
    subst (λ e. IsTape (disk_of (more history e)) place.name part text) (sym parts.all)
    (tape_all room.name place.name part text history parts.then parts.first other (subst (AreSoOf part history) parts.all so)
    (of_told (Spares room.name) parts.then (subst (Each (Spares room.name)) (sym parts.told_then) (gone_spares room.name room.written going gone)))
    (settled place room text history part parts.first (three ++ naming) naming other refl
    (earlier_so part history parts.then parts.first (subst (AreSoOf part history) parts.all so)) parts.told_first n of size beside))
  where
    three : List DiskStep
    three = Did (Cut room.written room.length) ∷ Did (SyncFile room.written) ∷ Did (FindFile room.name room.written) ∷ []

    parts : Split events ((three ++ naming) ++ Did (SyncFolder place.folder) ∷ []) going
    parts = split part history events ((three ++ naming) ++ Did (SyncFolder place.folder) ∷ []) going so
        (is ∙ appended three naming (Did (SyncFolder place.folder) ∷ going) ∙ appended (three ++ naming) (Did (SyncFolder place.folder) ∷ []) going)

pub a_tape_stays : ATapeStays
a_tape_stays place room text history part events list own size of so beside left leaves = by left leaves
  where
    tape : IsTape (disk_of (more history events)) place.name part text
    tape = stays_by place room text history part events None (told events) refl refl list (λ is. not_beside place.name (is ∙ own)) size of so beside

    none : let x : Option ℕ = None in x ≡ Some part → ⊥
    none e = cc e

    same : (j : ℕ) → Some j ≡ Some part → j ≡ part
    same j e = cc e

    by : (left : Option (List ℕ)) → Leaves (disk_of (more history events)) place.name left → left ≡ Some text
    by _ (Nothing may) = absurd (none (tape.may None may))
    by _ (File j t may has) = ap Some (tape.whole t (subst (λ k. (disk_of (more history events)).may_hold k t) (same j (tape.may (Some j) may)) has))
