-- A new record that has come to the old one's place stays.
use Rattle.std.proofs.Common.{◌≡◌, ℕ, List, [], ◌∷◌, ◌++◌, Option, Some, None, inl, inr, refl, ap, sym, subst, ◌∙◌}
use Rattle.load_record.specs.Keeper.{Lasts}
use Rattle.record_file.specs.Beginning.{Course, Replaced, new_name, IsBeside, Whole, Unsynced, NotRenamed, Stopped}
use Rattle.record_file.specs.DiskStep.{DiskStep, Did, FindSoleFile, Look, Open, Link, Rename, Remove, SyncFolder, Cut, SyncFile}
use Rattle.record_file.specs.Folder.{IsFolderOf}
use Rattle.record_file.specs.declared.disk.Access.TheVariants.{New}
use Rattle.record_file.specs.declared.made.Made.{Made}
use Rattle.disk_law.specs.Disk.{Disk, Event, Asked, Written, Synced, Kind, History, Leaves, Nothing, File, disk_of, more, told, renamed, folder_synced, file_synced, written, after, at_first, after_all}
use Rattle.disk_law.specs.Laws.{FoldersAreKept, IsOnDisk, IsBesideOnly, IsSo, AreSo, ANewRecordStays}
use Rattle.disk_law.proofs.Kept.{not_itself, by_synced, by_written, same_text}

pub led : (d : Disk) (name from : List ℕ) (x : Option ℕ) → ((name ≡ from) → ⊥) → (renamed d from name).leads name x → d.leads from x
led d name from x other (inl to) = to.1
led d name from x other (inr (inl gone)) = absurd (other gone.0)
led d name from x other (inr (inr same)) = absurd (same.0 refl)

pub folders_are_kept : FoldersAreKept
folders_are_kept name folder history i j of leads x may = leads x (may.1 of)

-- ---- what is seen a crash may leave

seen_step : (kind : Kind) (d : Disk) (event : Event) → ((n : List ℕ) (x : Option ℕ) → d.leads n x → d.may_lead n x)
    → (n : List ℕ) (x : Option ℕ) → (after kind d event).leads n x → (after kind d event).may_lead n x
seen_step kind d (Asked i (Did (Open New name))) seen n x (inl same) = inr same
seen_step kind d (Asked i (Did (Open New name))) seen n x (inr other) = inl (seen n x other.1)
seen_step kind d (Asked i (Did (Link from to))) seen n x (inl led) = inr led
seen_step kind d (Asked i (Did (Link from to))) seen n x (inr other) = inl (seen n x other.1)
seen_step kind d (Asked i (Did (Rename from to left))) seen n x (inl led) = inr (inl led)
seen_step kind d (Asked i (Did (Rename from to left))) seen n x (inr (inl gone)) = inr (inr gone)
seen_step kind d (Asked i (Did (Rename from to left))) seen n x (inr (inr other)) = inl (seen n x other.2)
seen_step kind d (Asked i (Did (Remove name))) seen n x (inl gone) = inr gone
seen_step kind d (Asked i (Did (Remove name))) seen n x (inr other) = inl (seen n x other.1)
seen_step kind d (Asked i (Did (SyncFolder folder))) seen n x leads = (seen n x leads, λ of. leads)
seen_step kind d (Asked i (Did (Cut wrote m))) seen n x leads = seen n x leads
seen_step kind d (Asked i (Did (SyncFile wrote))) seen n x leads = seen n x leads
seen_step kind d (Asked i other_step) seen n x leads = seen n x leads
seen_step kind d (Written i at bytes) seen n x leads = seen n x leads
seen_step kind d (Synced i) seen n x leads = seen n x leads

seen_all : (kind : Kind) (d : Disk) (events : List Event) → ((n : List ℕ) (x : Option ℕ) → d.leads n x → d.may_lead n x)
    → (n : List ℕ) (x : Option ℕ) → (after_all kind d events).leads n x → (after_all kind d events).may_lead n x
seen_all kind d [] seen = seen
seen_all kind d (event ∷ earlier) seen = seen_step kind (after_all kind d earlier) event (seen_all kind d earlier seen)

pub seen : (history : History) (n : List ℕ) (x : Option ℕ) → (disk_of history).leads n x → (disk_of history).may_lead n x
seen history = seen_all history.kind (at_first history.names history.texts) history.events (λ n x leads. leads)

-- ---- the last two calls

pub ends_same : (xs ys : List DiskStep) (x y : DiskStep) → xs ++ x ∷ [] ≡ ys ++ y ∷ [] → (xs ≡ ys) × (x ≡ y)
ends_same [] [] x y is = (refl, cc is)
ends_same [] (b ∷ []) x y is = absurd (cc is)
ends_same [] (b ∷ b' ∷ ys) x y is = absurd (cc is)
ends_same (a ∷ []) [] x y is = absurd (cc is)
ends_same (a ∷ a' ∷ xs) [] x y is = absurd (cc is)
ends_same (a ∷ xs) (b ∷ ys) x y is = let rest = ends_same xs ys x y (cc is) in (cc (is, rest.0), rest.1)

-- what is renamed has the text on the disk, where the disk tells it
renamed_so : (d : Disk) (new from to text : List ℕ) (left : Option (List ℕ)) (i : ℕ) → Lasts left (Some text) → IsSo new d (Asked i (Did (Rename from to left)))
    → IsOnDisk d from text
renamed_so d new from to text None i lasts so = absurd so
renamed_so d new from to text (Some whole) i lasts so = subst (λ t. IsOnDisk d from t) (same_text text whole lasts) so

by_rename : (d : Disk) (name text : List ℕ) → IsOnDisk d (new_name name) text → IsOnDisk (renamed d (new_name name) name) name text
by_rename d name text there x leads = there x (led d name (new_name name) x (not_itself name) leads)

by_write : (kind : Kind) (d : Disk) (name text : List ℕ) (i at : ℕ) (bytes : List ℕ) → ((n : List ℕ) (x : Option ℕ) → d.leads n x → d.may_lead n x)
    → IsBesideOnly d (new_name name) i → IsOnDisk d name text → IsOnDisk (written kind d i at bytes) name text
by_write kind d name text i at bytes is_seen only there x leads = let some = there x leads in (some.0, some.1, λ t may. the_text some.0 some.1 some.2 t may)
  where
    the_text : (j : ℕ) → x ≡ Some j → ((t : List ℕ) → d.may_hold j t → t ≡ text) → (t : List ℕ) → (written kind d i at bytes).may_hold j t → t ≡ text
    the_text j is whole_there t (inl may) = whole_there t may
    the_text j is whole_there t (inr wrote) =
        absurd (only name (not_itself name) (subst (λ k. d.may_lead name (Some k)) wrote.0 (subst (λ y. d.may_lead name y) is (is_seen name x leads))))

by_sync : (d : Disk) (name text : List ℕ) (i : ℕ) → IsOnDisk d name text → IsOnDisk (file_synced d i) name text
by_sync d name text i there x leads = let some = there x leads in (some.0, some.1, λ t may. some.2 t may.0)

-- behind the rename the name is seen to lead to the new record, whatever is written since
behind_rename : (name text : List ℕ) (left : Option (List ℕ)) (history : History) (events : List Event) (front : List DiskStep)
    → told events ≡ front ++ Did (Rename (new_name name) name left) ∷ [] → Lasts left (Some text) → AreSo (new_name name) history events
    → IsOnDisk (disk_of (more history events)) name text
behind_rename name text left history [] [] list lasts so = absurd (cc list)
behind_rename name text left history [] (x ∷ front) list lasts so = absurd (cc list)
behind_rename name text left history (Asked i step ∷ earlier) front list lasts so =
    let last = ends_same (told earlier) front step (Did (Rename (new_name name) name left)) list in
    subst (λ s. IsOnDisk (after history.kind (disk_of (more history earlier)) (Asked i s)) name text) (sym last.1)
    (by_rename (disk_of (more history earlier)) name text
    (renamed_so (disk_of (more history earlier)) (new_name name) (new_name name) name text left i lasts
    (subst (λ s. IsSo (new_name name) (disk_of (more history earlier)) (Asked i s)) last.1 so.1)))
behind_rename name text left history (Written i at bytes ∷ earlier) front list lasts so =
    by_write history.kind (disk_of (more history earlier)) name text i at bytes (seen (more history earlier)) so.1
    (behind_rename name text left history earlier front list lasts so.0)
behind_rename name text left history (Synced i ∷ earlier) front list lasts so =
    by_sync (disk_of (more history earlier)) name text i (behind_rename name text left history earlier front list lasts so.0)

-- and behind the sync of its folder a crash leaves the new one alone
by_folder : (d : Disk) (name folder text : List ℕ) → IsFolderOf name folder → IsOnDisk d name text → (left : Option (List ℕ)) → Leaves (folder_synced d folder) name left → left ≡ Some text
by_folder d name folder text of there left (Nothing may) = let some = there None (may.1 of) in absurd (none some.0 some.1) where
  none : (i : ℕ) → let x : Option ℕ = None in x ≡ Some i → ⊥
  none i e = cc e
by_folder d name folder text of there left (File j t may has) = let some = there (Some j) (may.1 of) in
    ap Some (some.2 t (subst (λ k. d.may_hold k t) (same some.0 some.1) has))
  where
    same : (i : ℕ) → let x : Option ℕ = Some j in x ≡ Some i → j ≡ i
    same i e = cc e

stays : (name folder text : List ℕ) (renamed_left : Option (List ℕ)) (history : History) (events : List Event) (front : List DiskStep) → IsFolderOf name folder
    → told events ≡ (front ++ Did (Rename (new_name name) name renamed_left) ∷ []) ++ Did (SyncFolder folder) ∷ [] → Lasts renamed_left (Some text)
    → AreSo (new_name name) history events → (left : Option (List ℕ)) → Leaves (disk_of (more history events)) name left → left ≡ Some text
stays name folder text renamed_left history [] [] of list lasts so left leaves = absurd (cc list)
stays name folder text renamed_left history [] (x ∷ front) of list lasts so left leaves = absurd (cc list)
stays name folder text renamed_left history (Asked i step ∷ earlier) front of list lasts so left leaves =
    let last = ends_same (told earlier) (front ++ Did (Rename (new_name name) name renamed_left) ∷ []) step (Did (SyncFolder folder)) list in
    by_folder (disk_of (more history earlier)) name folder text of (behind_rename name text renamed_left history earlier front last.0 lasts so.0) left
    (subst (λ s. Leaves (after history.kind (disk_of (more history earlier)) (Asked i s)) name left) last.1 leaves)
stays name folder text renamed_left history (Written i at bytes ∷ earlier) front of list lasts so left leaves =
    stays name folder text renamed_left history earlier front of list lasts so.0 left
    (by_written history.kind (disk_of (more history earlier)) (new_name name) i at bytes name left so.1 (not_itself name) leaves)
stays name folder text renamed_left history (Synced i ∷ earlier) front of list lasts so left leaves =
    stays name folder text renamed_left history earlier front of list lasts so.0 left (by_synced (disk_of (more history earlier)) i name left leaves)

-- a list of calls that ends so, with what was told of the rename
pub record EndsSo (name text : List ℕ) (steps : List DiskStep) : Type 0 where
  pub front : List DiskStep
  pub folder : List ℕ
  pub left : Option (List ℕ)
  pub of : IsFolderOf name folder
  pub lasts : Lasts left (Some text)
  pub all : steps ≡ (front ++ Did (Rename (new_name name) name left) ∷ []) ++ Did (SyncFolder folder) ∷ []

appended : (xs ys zs : List DiskStep) → xs ++ (ys ++ zs) ≡ (xs ++ ys) ++ zs
appended [] ys zs = refl
appended (x ∷ xs) ys zs = ap (λ l. x ∷ l) (appended xs ys zs)

pub beside_ends : (name text : List ℕ) (was : Made) (course : Course) (is : Made) (steps : List DiskStep) → course ≡ Replaced → IsBeside name text was course is steps → EndsSo name text steps
beside_ends name text was course is steps replaced (Whole before left folder whole f) = record {
  front = Did (FindSoleFile name) ∷ (before ++ Did (Look name) ∷ []);
  folder = folder;
  left = left;
  of = f;
  lasts = whole.2;
  all = ap (λ l. Did (FindSoleFile name) ∷ l) (appended before (Did (Look name) ∷ []) (Did (Rename (new_name name) name left) ∷ Did (SyncFolder folder) ∷ [])
      ∙ appended (before ++ Did (Look name) ∷ []) (Did (Rename (new_name name) name left) ∷ []) (Did (SyncFolder folder) ∷ []));
}
beside_ends name text was course is steps replaced (Unsynced before left folder whole) = absurd (cc replaced)
beside_ends name text was course is steps replaced (NotRenamed same leave f) = absurd (cc replaced)
beside_ends name text was course is steps replaced (Stopped same leave) = absurd (cc replaced)

pub a_new_record_stays : ANewRecordStays
a_new_record_stays name text was is history events list so left leaves =
    let ends = beside_ends name text was Replaced is (told events) refl list in
    stays name ends.folder text ends.left history events ends.front ends.of ends.all ends.lasts so left leaves
