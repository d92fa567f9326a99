-- A part that was made, or taken up, is found again.
use Rattle.std.proofs.Common.{◌≡◌, ◌⊎◌, ℕ, List, [], ◌∷◌, ◌++◌, Option, Some, inl, inr, refl, sym, subst}
use Rattle.record_file.specs.DiskStep.{DiskStep, Did, FindFile, FindSoleFile, Hold, Open, SyncFile, SyncFolder}
use Rattle.record_file.specs.Folder.{IsFolderOf}
use Rattle.record_file.specs.declared.disk.Access.TheVariants.{New, ReadOnly, ReadWrite}
use Rattle.tape_shelf.specs.ShelfDisk.{making, part_name, taking_left}
use Rattle.tape_shelf.proofs.OnShelf.{part_folder}
use Rattle.disk_law.specs.Disk.{Disk, Event, Asked, Written, Synced, Kind, History, after, disk_of, more, told}
use Rattle.disk_law.specs.Shelf.{AreFoundAs, APartBegins, IsFoundAs}
use Rattle.disk_law.proofs.Stays.{ends_same}

-- what a crash may leave of a name each program sees
abbrev pub IsKept : List ℕ → Disk → Type 0
IsKept own d = (x : Option ℕ) → d.may_lead own x → d.leads own x

-- each program sees it lead to this file
abbrev IsLed : List ℕ → ℕ → Disk → Type 0
IsLed own part d = (x : Option ℕ) → d.leads own x → x ≡ Some part

pub synced : (own folder : List ℕ) (history : History) (events : List Event) (front : List DiskStep) → IsFolderOf own folder
    → told events ≡ front ++ Did (SyncFolder folder) ∷ [] → IsKept own (disk_of (more history events))
synced own folder history [] [] of list = absurd (cc list)
synced own folder history [] (x ∷ front) of list = absurd (cc list)
synced own folder history (Asked i step ∷ earlier) front of list =
    let last = ends_same (told earlier) front step (Did (SyncFolder folder)) list in
    subst (λ s. IsKept own (after history.kind (disk_of (more history earlier)) (Asked i s))) (sym last.1) (λ x may. may.1 of)
synced own folder history (Written i at bytes ∷ earlier) front of list = synced own folder history earlier front of list
synced own folder history (Synced i ∷ earlier) front of list = synced own folder history earlier front of list

-- so it is behind a call that changes nothing
behind_idle : (own : List ℕ) (history : History) (events : List Event) (front : List DiskStep) (idle : DiskStep)
    → ((kind : Kind) (d : Disk) (i : ℕ) → after kind d (Asked i idle) ≡ d) → told events ≡ front ++ idle ∷ []
    → ((earlier : List Event) → told earlier ≡ front → IsKept own (disk_of (more history earlier))) → IsKept own (disk_of (more history events))
behind_idle own history [] [] idle same list kept = absurd (cc list)
behind_idle own history [] (x ∷ front) idle same list kept = absurd (cc list)
behind_idle own history (Asked i step ∷ earlier) front idle same list kept =
    let last = ends_same (told earlier) front step idle list in
    subst (λ s. IsKept own (after history.kind (disk_of (more history earlier)) (Asked i s))) (sym last.1)
    (subst (IsKept own) (sym (same history.kind (disk_of (more history earlier)) i)) (kept earlier last.0))
behind_idle own history (Written i at bytes ∷ earlier) front idle same list kept = behind_idle own history earlier front idle same list kept
behind_idle own history (Synced i ∷ earlier) front idle same list kept = behind_idle own history earlier front idle same list kept

found : (own : List ℕ) (wrote : Option (List ℕ)) (history : History) (part : ℕ) (events : List Event) (front : List DiskStep)
    → told events ≡ front ++ Did (FindFile own wrote) ∷ [] → AreFoundAs part history events → IsLed own part (disk_of (more history events))
found own wrote history part [] [] list so = absurd (cc list)
found own wrote history part [] (x ∷ front) list so = absurd (cc list)
found own wrote history part (Asked i step ∷ earlier) front list so =
    let last = ends_same (told earlier) front step (Did (FindFile own wrote)) list in
    subst (λ s. IsLed own part (after history.kind (disk_of (more history earlier)) (Asked i s))) (sym last.1)
    (subst (λ s. IsFoundAs part (disk_of (more history earlier)) (Asked i s)) last.1 so.1)
found own wrote history part (Written i at bytes ∷ earlier) front list so = found own wrote history part earlier front list so.0
found own wrote history part (Synced i ∷ earlier) front list so = found own wrote history part earlier front list so.0

-- where the folder is synced behind that, a crash leaves it so
then_synced : (own folder : List ℕ) (wrote : Option (List ℕ)) (history : History) (part : ℕ) (events : List Event) (front : List DiskStep) → IsFolderOf own folder
    → told events ≡ (front ++ Did (FindFile own wrote) ∷ []) ++ Did (SyncFolder folder) ∷ [] → AreFoundAs part history events → IsLed own part (disk_of (more history events))
then_synced own folder wrote history part [] [] of list so = absurd (cc list)
then_synced own folder wrote history part [] (x ∷ front) of list so = absurd (cc list)
then_synced own folder wrote history part (Asked i step ∷ earlier) front of list so =
    let last = ends_same (told earlier) (front ++ Did (FindFile own wrote) ∷ []) step (Did (SyncFolder folder)) list in
    subst (λ s. IsLed own part (after history.kind (disk_of (more history earlier)) (Asked i s))) (sym last.1)
    (found own wrote history part earlier front last.0 so.0)
then_synced own folder wrote history part (Written i at bytes ∷ earlier) front of list so = then_synced own folder wrote history part earlier front of list so.0
then_synced own folder wrote history part (Synced i ∷ earlier) front of list so = then_synced own folder wrote history part earlier front of list so.0

pub a_part_begins : APartBegins
a_part_begins name folder wrote history part events of list so = record {
  named = λ x may. both list x may;
  left = λ t may. (t, refl);
  seen = λ t has. (t, refl);
}
  where
    own : List ℕ
    own = part_name name

    is_of : IsFolderOf own folder
    is_of = part_folder name folder of

    both : (told events ≡ making own folder wrote) ⊎ (told events ≡ taking_left own wrote ++ Did (SyncFolder folder) ∷ [])
        → (x : Option ℕ) → (disk_of (more history events)).may_lead own x → x ≡ Some part
    both (inl made) x may = found own wrote history part events (first ++ Did (Open ReadWrite own) ∷ []) made so x (kept x may)
      where
        before : List DiskStep
        before = Did (Open New own) ∷ Did (Hold own) ∷ Did (SyncFile wrote) ∷ []

        first : List DiskStep
        first = before ++ Did (SyncFolder folder) ∷ []

        kept : IsKept own (disk_of (more history events))
        kept =
            behind_idle own history events (first ++ Did (Open ReadWrite own) ∷ []) (Did (FindFile own wrote)) (λ kind d i. refl) made
            (λ earlier list. behind_idle own history earlier first (Did (Open ReadWrite own)) (λ kind d i. refl) list
            (λ earliest list. synced own folder history earliest before is_of list))
    both (inr taken) x may =
        then_synced own folder wrote history part events opened is_of taken so x (synced own folder history events (opened ++ Did (FindFile own wrote) ∷ []) is_of taken x may)
      where
        opened : List DiskStep
        opened = Did (FindSoleFile own) ∷ Did (Open ReadWrite own) ∷ Did (Hold own) ∷ Did (Open ReadOnly own) ∷ Did (Open ReadWrite own) ∷ []
