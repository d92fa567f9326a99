-- Rows of the tables of what is asked, by what came of a call.
use Rattle.std.proofs.Common.{◌≡◌, ℕ, ◌+◌, ◌<◌, ◌≤◌, ◌⊎◌, inl, inr, ◌∙◌, sym, ap, subst, refl, List, [], ◌∷◌, ◌++◌, length, Bool, true, false, Option, Some, None, Result, Ok, Err}
use Rattle.record_file.proofs.Aside.{GoesHeld, both_aside, held_aside}
use Rattle.record_file.specs.Beginning.{new_name, Course, NotReplaced, GivenUp, Replaced, course, IsBeside, Whole, Unsynced, NotRenamed, Stopped, IsFileCut, CutAndSynced, NotCut, IsLetGo, Goes, LeadsElsewhere, Stays, StaysBehindLink, IsMadeReady, ReadyDevice, FolderShut, IsAllWritten, IsWrittenOver, Device as OverDevice, PlainFile as OverFile, Replaces}
use Rattle.host_devices.proofs.Told.{tells_join}
use Rattle.host_devices.specs.Told.{HasAsked, Tells}
use Rattle.record_file.specs.DiskStep.{DiskStep, DiskRequest, LedTo, Look, LookAtName, FindSoleFile, FindFile, Open, Hold, Link, Rename, Remove, SyncFolder, Cut, SyncFile, Did, Failed, step_by, answered, IsSeen, Seen, Unseen, AreAside, HasFailed}
use Rattle.record_file.specs.Folder.{IsFolderOf}
use Rattle.record_file.specs.Holding.{hold_steps, IsHeld, Moved, Linked, Appeared, LeadsNowhere, IsOpened, Strange, IsTry, Taken as TakenIn, NotHeld, AreTries, OneMore, IsHolding}
use Rattle.record_file.specs.declared.disk.Access.TheVariants.{ReadOnly, ReadWrite, New, Created}
use Rattle.load_record.specs.Keeper.{Lasts}
use Rattle.std.specs.Bool.{then_some}
use Rattle.std.specs.Io.KnownBytes.{Appends}
use Rattle.std.specs.Prelude.{IfSome, OnSome, is_some}
use Rattle.std.specs.Result.{IsErr, IfOk, OnErr, OnOk}
use Rattle.record_file.specs.Known.{kind_of}
use Rattle.record_file.specs.declared.held_file.HeldFile.{HeldFile}
use Rattle.record_file.specs.declared.held_file.Opened.{Opened}
use Rattle.record_file.specs.declared.record_fault.RecordFault.{RecordFault}
use Rattle.record_file.specs.Reading.{IsWayFound, Device as WayOfDevice, Reached, OutOfReach}
use Rattle.record_file.specs.declared.old_record.Writable.TheVariants.{InPlace, Anew}
use Rattle.record_file.specs.declared.made.Made.{Made}
use Rattle.record_file.specs.declared.made.Made.TheVariants.{Before, Here, BehindLink}

pub seen : (look : DiskRequest) (as_it_should : Bool) → IsSeen look as_it_should (Did look ∷ [])
seen look true = Seen
seen look false = Unseen true

pub strange : {A E : Type 0} (name : List ℕ) (look : Result A E) → IsOpened name None (answered (Look name) look ∷ [])
strange name (Ok value) = Strange true
strange name (Err error) = Strange false

pub moved : {A E : Type 0} (name : List ℕ) (device : Bool) (look : Result A E) → IsHeld name None (hold_steps name device true ++ answered (Look name) look ∷ [])
moved name device (Ok value) = Moved device true
moved name device (Err error) = Moved device false

-- ---- steps that leave each file but one as it is

pub failed_behind : (xs ys : List DiskStep) → HasFailed ys → HasFailed (xs ++ ys)
failed_behind [] ys f = f
failed_behind (Failed request ∷ xs) ys f = tt
failed_behind (Did request ∷ xs) ys f = failed_behind xs ys f
failed_behind (LedTo name target ∷ xs) ys f = failed_behind xs ys f

-- before the new file is made
pub aside_first : (own name folder : List ℕ) (a b c : Option (List DiskStep)) → Tells a b (Did (FindSoleFile name) ∷ []) → Tells b c (Did (Open ReadOnly folder) ∷ [])
    → HasAsked a c (AreAside own false)
aside_first own name folder a b c s t =
    (Did (FindSoleFile name) ∷ Did (Open ReadOnly folder) ∷ [], tells_join a b c (Did (FindSoleFile name) ∷ []) (Did (Open ReadOnly folder) ∷ []) s t, ((λ held. tt), refl))

-- the same, where something failed in the second part
pub failed_join : (own : List ℕ) (a b c : Option (List DiskStep)) → HasAsked a b (AreAside own false) → HasAsked b c (λ steps. AreAside own false steps × HasFailed steps)
    → HasAsked a c (λ steps. AreAside own false steps × HasFailed steps)
failed_join own a b c p q = (p.0 ++ q.0, tells_join a b c p.0 q.0 p.1 q.1, (both_aside own false p.0 q.0 p.2 q.2.0, failed_behind p.0 q.0 q.2.1))

pub left : (new : List ℕ) (held : Bool) → AreAside new held (Did (LookAtName new) ∷ Did (Open ReadOnly new) ∷ step_by (Hold new) held ∷ [])
left new true = ((λ was. (refl, tt)), refl)
left new false = ((λ was. tt), refl)

pub looked_at : {A E : Type 0} (own name : List ℕ) (look : Result A E) → AreAside own false (answered (LookAtName name) look ∷ [])
looked_at own name (Ok value) = ((λ held. tt), refl)
looked_at own name (Err error) = ((λ held. tt), refl)

pub fresh : {A E : Type 0} (own : List ℕ) (making : Result A E) → AreAside own false (answered (Open New own) making ∷ [])
fresh own (Ok file) = ((λ held. (refl, tt)), refl)
fresh own (Err error) = ((λ held. tt), refl)

again_so : {A B E F : Type 0} (own : List ℕ) (removal : Result A E) (making : Result B F) → GoesHeld own (answered (Remove own) removal ∷ answered (Open New own) making ∷ [])
again_so own (Ok u) (Ok file) = ((refl, refl, (refl, tt)), refl)
again_so own (Ok u) (Err error) = ((refl, refl, tt), refl)
again_so own (Err e) (Ok file) = ((refl, tt), refl)
again_so own (Err e) (Err error) = (tt, refl)

-- a file that was left goes, and another is made: whatever was held before
pub again : {A B E F : Type 0} (own : List ℕ) (removal : Result A E) (making : Result B F) (a b c : Option (List DiskStep)) → HasAsked a b (AreAside own true)
    → Tells b c (answered (Remove own) removal ∷ answered (Open New own) making ∷ []) → HasAsked a c (AreAside own false)
again own removal making a b c p t = (
  p.0 ++ (answered (Remove own) removal ∷ answered (Open New own) making ∷ []),
  tells_join a b c p.0 (answered (Remove own) removal ∷ answered (Open New own) making ∷ []) p.1 t,
  held_aside own p.0 _ p.2 (again_so own removal making),
)

pub goes_again : {A E : Type 0} (own name : List ℕ) (removal : Result A E) → own ≡ name → GoesHeld name (answered (Remove own) removal ∷ [])
goes_again own name (Ok u) is = ((is, refl, tt), refl)
goes_again own name (Err e) is = (tt, refl)

pub then_held : (own : List ℕ) → AreAside own true (Did (Hold own) ∷ [])
then_held own = ((λ held. (refl, tt)), refl)

pub not_held_then : (own : List ℕ) → AreAside own false (Failed (Hold own) ∷ [])
not_held_then own = ((λ held. tt), refl)

seen_but : (own name : List ℕ) (found : Bool) (steps : List DiskStep) → IsSeen (Look name) found steps → AreAside own false steps
seen_but own name found steps Seen = ((λ held. tt), refl)
seen_but own name found steps (Unseen true) = ((λ held. tt), refl)
seen_but own name found steps (Unseen false) = ((λ held. tt), refl)

pub goes : {A E : Type 0} (name : List ℕ) (made : Made) (removal : Result A E) (steps : List DiskStep) → made ≡ Here → IsSeen (Look name) true steps
    → IsLetGo name made (steps ++ answered (Remove name) removal ∷ [])
goes name made (Ok u) steps is Seen = subst (λ m. IsLetGo name m (Did (Look name) ∷ Did (Remove name) ∷ [])) (sym is) (Goes true)
goes name made (Err e) steps is Seen = subst (λ m. IsLetGo name m (Did (Look name) ∷ Failed (Remove name) ∷ [])) (sym is) (Goes false)

pub leads_elsewhere : (name : List ℕ) (made : Made) (steps : List DiskStep) → made ≡ Here → IsSeen (Look name) false steps → IsLetGo name made steps
leads_elsewhere name made steps is (Unseen found) = subst (λ m. IsLetGo name m (step_by (Look name) found ∷ [])) (sym is) (LeadsElsewhere found)

pub stays : (name : List ℕ) (made : Made) → (made ≡ Before) ⊎ (made ≡ BehindLink) → IsLetGo name made []
stays name made (inl is) = subst (λ m. IsLetGo name m []) (sym is) Stays
stays name made (inr is) = subst (λ m. IsLetGo name m []) (sym is) StaysBehindLink

-- what was told of a file is told still: who tells no longer does not begin again
pub still : (X : Type 0) (a b : Option (List DiskStep)) (steps : List DiskStep) → Tells a b steps → OnSome a X → OnSome b X
still X None None steps t h = tt
still X None (Some y) steps t h = absurd t
still X (Some x) None steps t h = tt
still X (Some x) (Some y) steps t h = h

-- what the file of a rename has on the disk may be told as it is said to be: where nobody tells, it need not be told
left_as : (a b : Option (List DiskStep)) (left : Option (List ℕ)) (text : List ℕ) (step : Option (List ℕ) → DiskStep) → OnSome a (Lasts left (Some text))
    → Tells a b (step left ∷ []) → (left' : Option (List ℕ)) × Lasts left' (Some text) × Tells a b (step left' ∷ [])
left_as None None left text step h t = (None, tt, tt)
left_as None (Some x) left text step h t = absurd t
left_as (Some x) b left text step h t = (left, h, t)

pub whole : (name new folder text : List ℕ) (made : Made) (left : Option (List ℕ)) (steps : List DiskStep) (a b c d : Option (List DiskStep)) → IsFolderOf name folder
    → new ≡ new_name name → OnSome a (Lasts left (Some text)) → Tells a b steps → Tells b c (Did (Rename new name left) ∷ [])
    → Tells c d (Did (SyncFolder folder) ∷ []) → IsSeen (Look name) true steps → HasAsked a d (Replaces name text made Replaced Before)
whole name new folder text made left steps a b c d f is h t r s Seen =
    let l = left_as b c left text (λ left'. Did (Rename (new_name name) name left')) (still (Lasts left (Some text)) a b (Did (Look name) ∷ []) t h)
    (subst (λ n. Tells b c (Did (Rename n name left) ∷ [])) is r) in (
      Did (Look name) ∷ Did (Rename (new_name name) name l.0) ∷ Did (SyncFolder folder) ∷ [],
      tells_join a b d (Did (Look name) ∷ []) (Did (Rename (new_name name) name l.0) ∷ Did (SyncFolder folder) ∷ []) t
          (tells_join b c d (Did (Rename (new_name name) name l.0) ∷ []) (Did (SyncFolder folder) ∷ []) l.2 s),
      λ before aside. Whole before l.0 folder (aside.0 false, aside.1, l.1) f,
    )

pub unsynced : (name new folder text : List ℕ) (made : Made) (left : Option (List ℕ)) (steps : List DiskStep) (a b c d : Option (List DiskStep)) → new ≡ new_name name
    → OnSome a (Lasts left (Some text)) → Tells a b steps → Tells b c (Did (Rename new name left) ∷ [])
    → Tells c d (Failed (SyncFolder folder) ∷ []) → IsSeen (Look name) true steps → HasAsked a d (Replaces name text made GivenUp Before)
unsynced name new folder text made left steps a b c d is h t r s Seen =
    let l = left_as b c left text (λ left'. Did (Rename (new_name name) name left')) (still (Lasts left (Some text)) a b (Did (Look name) ∷ []) t h)
    (subst (λ n. Tells b c (Did (Rename n name left) ∷ [])) is r) in (
      Did (Look name) ∷ Did (Rename (new_name name) name l.0) ∷ Failed (SyncFolder folder) ∷ [],
      tells_join a b d (Did (Look name) ∷ []) (Did (Rename (new_name name) name l.0) ∷ Failed (SyncFolder folder) ∷ []) t
          (tells_join b c d (Did (Rename (new_name name) name l.0) ∷ []) (Failed (SyncFolder folder) ∷ []) l.2 s),
      λ before aside. Unsynced before l.0 folder (aside.0 false, aside.1, l.1),
    )

pub not_renamed : {A E : Type 0} (name new text : List ℕ) (before : List DiskStep) (made : Made) (left : Option (List ℕ)) (removal : Result A E) (steps : List DiskStep)
    → new ≡ new_name name → AreAside (new_name name) true before → IsSeen (Look name) true steps
    → IsBeside name text made NotReplaced made (Did (FindSoleFile name) ∷ (before ++ (steps ++ Failed (Rename new name left) ∷ answered (Remove new) removal ∷ [])))
not_renamed name new text before made left removal steps is aside Seen =
    NotRenamed _ (held_aside (new_name name) before _ aside (goes_again new (new_name name) removal is)) (failed_behind before _ tt)

pub moved_away : {A E : Type 0} (name new text : List ℕ) (before : List DiskStep) (made : Made) (removal : Result A E) (steps : List DiskStep) → new ≡ new_name name
    → AreAside (new_name name) true before → IsSeen (Look name) false steps
    → IsBeside name text made GivenUp made (Did (FindSoleFile name) ∷ (before ++ (steps ++ answered (Remove new) removal ∷ [])))
moved_away name new text before made removal steps is aside (Unseen true) =
    Stopped _ (held_aside (new_name name) before _ aside (goes_again new (new_name name) removal is))
moved_away name new text before made removal steps is aside (Unseen false) =
    Stopped _ (held_aside (new_name name) before _ aside (goes_again new (new_name name) removal is))

-- a text that was written to a new file, and lasts there, is what the file has on the disk
pub on_disk : (a : Option (List DiskStep)) (fresh wrote left : Option (List ℕ)) (text : List ℕ) → OnSome a (fresh ≡ Some []) → Appends fresh wrote text
    → Lasts left wrote → OnSome a (Lasts left (Some text))
on_disk None fresh wrote left text f w l = tt
on_disk (Some x) None wrote left text f w l = absurd (cc f)
on_disk (Some x) (Some y) None left text f w l = absurd w
on_disk (Some x) (Some y) (Some z) left text f w l = subst (λ t. Lasts left (Some t)) (w ∙ ap (λ front. front ++ text) (some_is y [] f)) l where
  some_is : (a b : List ℕ) → Some a ≡ Some b → a ≡ b
  some_is a b e = cc e

-- so of a file that was made, which is written and made to last
pub lies_on_disk : {T : Type 0} (contents : T → Option (List ℕ)) (a : Option (List DiskStep)) (made : Option T) (file now : T) (wrote lasting left : Option (List ℕ)) (text : List ℕ)
    → made ≡ Some file → IfSome made (λ new. OnSome a (contents new ≡ Some [])) → contents now ≡ contents file → Appends (contents now) wrote text → Lasts lasting wrote
    → left ≡ lasting → OnSome a (Lasts left (Some text))
lies_on_disk contents a made file now wrote lasting left text is fresh same w l there =
    on_disk a (contents now) wrote left text
    (subst (λ x. OnSome a (x ≡ Some [])) (sym same) (subst (λ m. IfSome m (λ new. OnSome a (contents new ≡ Some []))) is fresh)) w
    (subst (λ x. Lasts x wrote) (sym there) l)

-- ---- opening

pub not_a_link : (name : List ℕ) (steps : List DiskStep) → IsSeen (LookAtName name) false steps → IsOpened name None (Failed (Look name) ∷ Failed (Open New name) ∷ steps)
not_a_link name steps (Unseen found) = Appeared found

pub made_there : (name : List ℕ) (steps : List DiskStep) → IsSeen (LookAtName name) true steps
    → IsOpened name (Some BehindLink) (Failed (Look name) ∷ Failed (Open New name) ∷ (steps ++ Did (Open Created name) ∷ []))
made_there name steps Seen = Linked

pub not_made_there : (name : List ℕ) (steps : List DiskStep) → IsSeen (LookAtName name) true steps
    → IsOpened name None (Failed (Look name) ∷ Failed (Open New name) ∷ (steps ++ Failed (Open Created name) ∷ []))
not_made_there name steps Seen = LeadsNowhere

-- what was asked behind a first step, where a file was opened, or none
pub then_ok : {T E : Type 0} (P : Option Made → List DiskStep → Type 0) (step : DiskStep) (a b c : Option (List DiskStep)) (result : Result (Opened T) E) → Tells a b (step ∷ [])
    → IfOk result (λ opened. HasAsked b c (λ steps. P (Some opened.made) (step ∷ steps))) → IfOk result (λ opened. HasAsked a c (P (Some opened.made)))
then_ok P step a b c (Ok opened) first h = (step ∷ h.0, tells_join a b c (step ∷ []) h.0 first h.1, h.2)
then_ok P step a b c (Err reason) first h = tt

pub then_err : {A E : Type 0} (P : List DiskStep → Type 0) (step : DiskStep) (a b c : Option (List DiskStep)) (result : Result A E) → Tells a b (step ∷ [])
    → OnErr result (HasAsked b c (λ steps. P (step ∷ steps))) → OnErr result (HasAsked a c P)
then_err P step a b c (Ok opened) first h = tt
then_err P step a b c (Err reason) first h = (step ∷ h.0, tells_join a b c (step ∷ []) h.0 first h.1, h.2)

-- an open file that is then held, or not
pub tried_ok : {T E : Type 0} (name : List ℕ) (made : Made) (a b c : Option (List DiskStep)) (result : Result (HeldFile T) E)
    → HasAsked a b (IsOpened name (Some made)) → IfOk result (λ held. held.made ≡ made) → IfOk result (λ held. HasAsked b c (IsHeld name (Some held.device)))
    → IfOk result (λ held. HasAsked a c (IsTry name (Some (kind_of held))))
tried_ok name made a b c (Err reason) o m h = tt
tried_ok name made a b c (Ok held) o m h =
    (o.0 ++ h.0, tells_join a b c o.0 h.0 o.1 h.1, subst (λ kind. IsTry name (Some (kind, held.device)) (o.0 ++ h.0)) (sym m) (TakenIn made held.device o.0 h.0 o.2 h.2))

pub tried_err : {A E : Type 0} (name : List ℕ) (made : Made) (a b c : Option (List DiskStep)) (result : Result A E)
    → HasAsked a b (IsOpened name (Some made)) → OnErr result (HasAsked b c (IsHeld name None)) → OnErr result (HasAsked a c (IsTry name None))
tried_err name made a b c (Err reason) o h = (o.0 ++ h.0, tells_join a b c o.0 h.0 o.1 h.1, NotHeld made o.0 h.0 o.2 h.2)
tried_err name made a b c (Ok held) o h = tt

-- ---- how it may be begun anew

pub device_found : (name : List ℕ) (device : Bool) → device ≡ true → IsWayFound name device Anew []
device_found name device is = subst (λ d. IsWayFound name d Anew []) (sym is) WayOfDevice

pub reached : (name : List ℕ) (device : Bool) → device ≡ false → IsWayFound name device Anew (Did (FindSoleFile name) ∷ [])
reached name device is = subst (λ d. IsWayFound name d Anew (Did (FindSoleFile name) ∷ [])) (sym is) Reached

pub out_of_reach : (name : List ℕ) (device : Bool) → device ≡ false → IsWayFound name device InPlace (Failed (FindSoleFile name) ∷ [])
out_of_reach name device is = subst (λ d. IsWayFound name d InPlace (Failed (FindSoleFile name) ∷ [])) (sym is) OutOfReach

-- ---- where the file stands
-- the steps by which the place of a file is synced, before its name is looked at
abbrev pub IsPlaceSynced : List ℕ → Made → List DiskStep → Type 0
IsPlaceSynced name made steps = IsMadeReady name made false (steps ++ Did (Look name) ∷ []) × AreAside (new_name name) false steps

pub folder_shut : {A E : Type 0} (name place target folder : List ℕ) (made : Made) (a b : Option (List DiskStep)) (done : Result A E) → place ≡ target → OnOk done (made ≡ Before)
    → IsFolderOf place folder → Tells a b (LedTo name target ∷ Failed (Open ReadOnly folder) ∷ []) → OnOk done (HasAsked a b (IsPlaceSynced name made))
folder_shut name place target folder made a b (Ok value) same is f t =
    (LedTo name target ∷ Failed (Open ReadOnly folder) ∷ [], t, (FolderShut target folder (subst (λ p. IsFolderOf p folder) same f) is, ((λ held. tt), refl)))
folder_shut name place target folder made a b (Err fault) same is f t = tt

-- of a file that is known to be the same kind as before
pub same_place : (name : List ℕ) (before after : Made × Bool) (a b : Option (List DiskStep)) → after ≡ before
    → HasAsked a b (IsPlaceSynced name after.0) → HasAsked a b (IsPlaceSynced name before.0)
same_place name before after a b is h = subst (λ kind. HasAsked a b (IsPlaceSynced name kind.0)) is h

-- ---- what came of a part

-- the steps before it, and those of the renaming
pub beside_behind : (name text : List ℕ) (made : Made) (way : Course) (after : Made) (a b c d : Option (List DiskStep)) → Tells a b (Did (FindSoleFile name) ∷ [])
    → HasAsked b c (AreAside (new_name name) true) → HasAsked c d (Replaces name text made way after) → HasAsked a d (IsBeside name text made way after)
beside_behind name text made way after a b c d s p q = (
  Did (FindSoleFile name) ∷ (p.0 ++ q.0),
  tells_join a b d (Did (FindSoleFile name) ∷ []) (p.0 ++ q.0) s (tells_join b c d p.0 q.0 p.1 q.1),
  q.2 p.0 p.2,
)

pub not_renamed_for : (name new text : List ℕ) (made : Made) (a b : Option (List DiskStep)) → new ≡ new_name name
    → HasAsked a b (λ steps. AreAside new false steps × HasFailed steps) → HasAsked a b (IsBeside name text made NotReplaced made)
not_renamed_for name new text made a b is h = (h.0, h.1, NotRenamed h.0 (subst (λ n. AreAside n false h.0) is h.2.0) h.2.1)

pub stopped : (name new text : List ℕ) (made : Made) (a b : Option (List DiskStep)) → new ≡ new_name name → HasAsked a b (AreAside new false)
    → HasAsked a b (IsBeside name text made GivenUp made)
stopped name new text made a b is h = (h.0, h.1, Stopped h.0 (subst (λ n. AreAside n false h.0) is h.2))

-- what was written is taken away again
pub taken_back : {A E : Type 0} (own : List ℕ) (removal : Result A E) (a b c d : Option (List DiskStep)) → HasAsked a b (AreAside own false) → HasAsked b c (AreAside own true)
    → Tells c d (answered (Remove own) removal ∷ []) → HasAsked a d (AreAside own false)
taken_back own removal a b c d p q t = let last : List DiskStep = answered (Remove own) removal ∷ [] in (
  (p.0 ++ q.0) ++ last,
  tells_join a c d (p.0 ++ q.0) last (tells_join a b c p.0 q.0 p.1 q.1) t,
  held_aside own (p.0 ++ q.0) last (both_aside own true p.0 q.0 p.2 q.2) (goes_again own own removal refl),
)

pub but_new : (name new : List ℕ) (holds : Bool) (a b : Option (List DiskStep)) → new ≡ new_name name → HasAsked a b (AreAside new holds) → HasAsked a b (AreAside (new_name name) holds)
but_new name new holds a b is h = (h.0, h.1, subst (λ n. AreAside n holds h.0) is h.2)

-- what a new file was asked, where it is known what came of it
pub made_some : {A : Type 0} (new : List ℕ) (a b : Option (List DiskStep)) (kept : Option A) (file : A) → kept ≡ Some file
    → HasAsked a b (AreAside new (is_some kept)) → HasAsked a b (AreAside new true)
made_some new a b kept file is h = subst (λ k. HasAsked a b (AreAside new (is_some k))) is h

pub beside_failed : {A E : Type 0} (name text : List ℕ) (made after : Made) (a b : Option (List DiskStep)) (result : Result (Option A) E) → IsErr result
    → HasAsked a b (IsBeside name text made GivenUp after) → HasAsked a b (IsBeside name text made (course is_some result) after)
beside_failed name text made after a b (Ok value) is h = absurd (cc is)
beside_failed name text made after a b (Err fault) is h = h

pub beside_kept : {A : Type 0} (name text : List ℕ) (made after : Made) (a b : Option (List DiskStep)) (kept : Option A) (replaced : Bool) (keeper : A)
    → kept ≡ then_some replaced keeper → HasAsked a b (IsBeside name text made (course {E = RecordFault} (λ (is : Bool). is) (Ok replaced)) after)
    → HasAsked a b (IsBeside name text made (course {E = RecordFault} is_some (Ok kept)) after)
beside_kept name text made after a b kept true keeper is h = subst (λ k. HasAsked a b (IsBeside name text made (course {E = RecordFault} is_some (Ok k)) after)) (sym is) h
beside_kept name text made after a b kept false keeper is h = subst (λ k. HasAsked a b (IsBeside name text made (course {E = RecordFault} is_some (Ok k)) after)) (sym is) h

-- ---- in place

pub ready_device : (name : List ℕ) (made : Made) (device : Bool) → device ≡ true → IsMadeReady name made device []
ready_device name made device is = subst (λ d. IsMadeReady name made d []) (sym is) ReadyDevice

looked : (name : List ℕ) (made : Made) (steps look : List DiskStep) → IsPlaceSynced name made steps → IsSeen (Look name) true look
    → IsMadeReady name made false (steps ++ look)
looked name made steps look s Seen = s.0

pub ready_file : (name : List ℕ) (made : Made) (device : Bool) (a b c : Option (List DiskStep)) → device ≡ false
    → HasAsked a b (IsPlaceSynced name made) → HasAsked b c (IsSeen (Look name) true) → HasAsked a c (IsMadeReady name made device)
ready_file name made device a b c is h l =
    (h.0 ++ l.0, tells_join a b c h.0 l.0 h.1 l.1, subst (λ d. IsMadeReady name made d (h.0 ++ l.0)) (sym is) (looked name made h.0 l.0 h.2 l.2))

pub unready_file : (name : List ℕ) (made : Made) (a b c : Option (List DiskStep)) → HasAsked a b (IsPlaceSynced name made)
    → HasAsked b c (IsSeen (Look name) false) → HasAsked a c (AreAside (new_name name) false)
unready_file name made a b c h l =
    (h.0 ++ l.0, tells_join a b c h.0 l.0 h.1 l.1, both_aside (new_name name) false h.0 l.0 h.2.1 (seen_but (new_name name) name false l.0 l.2))

pub not_cut : (before wrote : Option (List ℕ)) (text : List ℕ) (size : ℕ) (a b : Option (List DiskStep)) → IsAllWritten before text wrote → size ≡ length text
    → Tells a b (Failed (Cut wrote size) ∷ []) → HasAsked a b (IsFileCut before text false)
not_cut before wrote text size a b w is t =
    (Failed (Cut wrote (length text)) ∷ [], subst (λ n. Tells a b (Failed (Cut wrote n) ∷ [])) is t, NotCut wrote w)

pub cut_behind_text : (before wrote : Option (List ℕ)) (text : List ℕ) (size : ℕ) (synced : Bool) (a b c : Option (List DiskStep)) → IsAllWritten before text wrote
    → size ≡ length text → Tells a b (Did (Cut wrote size) ∷ []) → Tells b c (step_by (SyncFile wrote) synced ∷ []) → HasAsked a c (IsFileCut before text synced)
cut_behind_text before wrote text size synced a b c w is t s = (
  Did (Cut wrote (length text)) ∷ step_by (SyncFile wrote) synced ∷ [],
  tells_join a b c (Did (Cut wrote (length text)) ∷ []) (step_by (SyncFile wrote) synced ∷ []) (subst (λ n. Tells a b (Did (Cut wrote n) ∷ [])) is t) s,
  CutAndSynced wrote synced w,
)

pub over_device : (name : List ℕ) (made : Made) (before : Option (List ℕ)) (text : List ℕ) (device known : Bool) (a b : Option (List DiskStep)) → known ≡ device → known ≡ true
    → HasAsked a b (IsMadeReady name made device) → HasAsked a b (IsWrittenOver name made before text device)
over_device name made before text device known a b same is =
    subst (λ d. HasAsked a b (IsMadeReady name made d) → HasAsked a b (IsWrittenOver name made before text d)) (sym is ∙ same) (λ h. (h.0, h.1, OverDevice h.0 h.2))

pub over_file : (name : List ℕ) (made : Made) (before : Option (List ℕ)) (text : List ℕ) (device known : Bool) (a b c : Option (List DiskStep)) → known ≡ device
    → known ≡ false → HasAsked a b (IsMadeReady name made device) → HasAsked b c (IsFileCut before text true)
    → HasAsked a c (IsWrittenOver name made before text device)
over_file name made before text device known a b c same is h q =
    subst (λ d. HasAsked a b (IsMadeReady name made d) → HasAsked a c (IsWrittenOver name made before text d)) (sym is ∙ same)
    (λ r. (r.0 ++ q.0, tells_join a b c r.0 q.0 r.1 q.1, OverFile r.0 q.0 r.2 q.2))
    h

-- the file was at its front, and this was written from there on
pub all_written : (before contents wrote : Option (List ℕ)) (text : List ℕ) → (before ≡ Some [] → contents ≡ Some []) → Appends contents wrote text
    → IsAllWritten before text wrote
all_written before None wrote text f w is = absurd (cc (f is))
all_written before (Some x) None text f w is = absurd w
all_written before (Some x) (Some y) text f w is = ap Some (w ∙ ap (λ front. front ++ text) (inner x (f is))) where
  inner : (x : List ℕ) → Some x ≡ Some [] → x ≡ []
  inner x e = cc e

-- ---- tries

pub one_more : (name : List ℕ) (kind : Option (Made × Bool)) (a b c : Option (List DiskStep)) (count : ℕ) → HasAsked a b (AreTries name count None)
    → HasAsked b c (IsTry name kind) → HasAsked a c (AreTries name (count + 1) kind)
one_more name kind a b c count p q = (p.0 ++ q.0, tells_join a b c p.0 q.0 p.1 q.1, OneMore count kind p.0 q.0 p.2 q.2)

pub tried : (name : List ℕ) (kind : Option (Made × Bool)) (a b : Option (List DiskStep)) (count : ℕ) → 0 < count → count ≤ 8
    → HasAsked a b (AreTries name count kind) → HasAsked a b (IsHolding name kind)
tried name kind a b count some few p = (p.0, p.1, (count, some, few, p.2))
