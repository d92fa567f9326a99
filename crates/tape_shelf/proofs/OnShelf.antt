-- What the disk of a shelf was asked, by what came of a call.
use Rattle.std.proofs.Common.{◌≡◌, ℕ, ◌+◌, ◌-◌, List, [], ◌∷◌, ◌++◌, length, take, Bool, true, false, Option, Some, None, Result, Ok, Err, refl, sym, subst, ap, append_assoc, ◌∙◌, arith, inl, inr, OnOk, eqb}
use Rattle.std.proofs.lemmas.Bool.{eqb-false, eqb-true}
use Rattle.std.specs.Bool.{IsTrue, OnFalse, OnTrue}
use Rattle.std.specs.Io.KnownBytes.{Appends}
use Rattle.std.proofs.KnownBytes.{Appends-nil}
use Rattle.std.proofs.lemmas.List.Elements.{All-cons, All-contains, All-nil, Contains-append_cases}
use Rattle.std.specs.Prelude.{All, Contains, OnSome, codes, option_map, is_err, replicate, IfErr, IfSome, IsErrAnd, OnErr, MatchBool, ⊤}
use Rattle.std.specs.String.{string_bytes}
use Rattle.byte_io.specs.Output.{WritesPrefix}
use Rattle.host_devices.specs.Failures.{fault_of}
use Rattle.record_file.proofs.Aside.{GoesHeld, held_aside}
use Rattle.host_devices.specs.Told.{HasAsked, Tells}
use Rattle.record_file.specs.DiskStep.{DiskRequest, DiskStep, Did, Failed, answered, step_by, LookAtName, FindFile, FindSoleFile, Open, Hold, Link, Rename, Remove, SyncFolder, Cut, SyncFile, LeaveAllBut, held_behind}
use Rattle.byte_io.specs.Text.{name_slash}
use Rattle.record_file.specs.Folder.{Current, IsFolderOf, Named as InNamed, Root, StandsBeforeSlash}
use Rattle.record_file.specs.declared.disk.Access.TheVariants.{ReadOnly, ReadWrite, New}
use Rattle.host_devices.proofs.Told.{tells_join, tells_none}
use Rattle.request_values.specs.Change.{◌⇒◌}
use Rattle.tape_shelf.specs.ShelfDisk.{Place, Room, room_of, ShelfDisk, HasPart, HasRoom, IsAdding, IsGone, Goes, HasAnother, IsClosed, IsNaming, Renamed, NotRenamed, IsNamed, Named, Unsynced, Unnamed, Unsettled, IsTakenBack, InFolder, Opened, IsUnmade, NotMade, IsNotReserved, NoFile, IsUntaken, IsPut, Put as PutWhole, Nowhere, NoRoom, IsNoFileName, IsSearch, Free, LeavesAll, making, taking_left, syncing, part_name}
use Rattle.tape_shelf.specs.Shelf.{add_step, put_step}
use Rattle.tape_shelf.specs.ShelfTold.{AsksFor}
use Rattle.tape_shelf.specs.declared.new_file.Part.{Part}
use Rattle.tape_shelf.specs.declared.shelf.ShelfFault.{ShelfFault}
use Rattle.tape_shelf.specs.declared.shelf.ShelfFault.TheVariants.{IsThere, PartIsThere, NotOfSave, Write, Memory}

-- the folder of a room is open, and was opened under this name
abbrev pub IsFolderOpened : {T : Type 0} → (T → List ℕ → Type 0) → Option (Part T) → List ℕ → Type 0
IsFolderOpened opened part folder = IfSome part (λ files. opened files.folder folder)

-- ---- what is known of an answer

-- what holds where a list is still told held where it was told before
pub still : {A : Type 0} (P : Type 0) (a b : Option (List A)) (more : List A) → Tells a b more → OnSome a P → OnSome b P
still P None None more g h = tt
still P None (Some grown) more g h = absurd g
still P (Some items) None more g h = tt
still P (Some items) (Some grown) more g h = h

pub done : {A E : Type 0} (P : Type 0) (result : Result A E) → false ≡ is_err result → OnOk result P → P
done P (Ok value) is p = p
done P (Err error) is p = absurd (cc is)

-- .. or not
pub failed : {A E : Type 0} (P : Type 0) (result : Result A E) → true ≡ is_err result → OnErr result P → P
failed P (Ok value) is p = absurd (cc is)
failed P (Err error) is p = p

-- nothing was written
pub nothing_written : (out : Option (List ℕ)) (text : List ℕ) → WritesPrefix out out text
nothing_written out text = (text, record { written = []; whole = refl; appended = Appends-nil out })

-- what is known of the error that a result has is known of the result
pub error_is : {T E : Type 0} (r : Result T E) (error : E) (P : E → Type 0) → IsErrAnd r (λ e. e ≡ error) → P error → IfErr r P
error_is (Ok x) error P is h = tt
error_is (Err e) error P is h = subst P (sym is) h

-- ---- names

pub gone : {A E : Type 0} (name : List ℕ) (written : Option (List ℕ)) (removal : Result A E)
    → IsGone name written (Did (FindFile name written) ∷ answered (Remove name) removal ∷ [])
gone name written (Ok u) = Goes true
gone name written (Err e) = Goes false

-- the same of a name that is told otherwise
pub gone_as : (name name' : List ℕ) (written : Option (List ℕ)) (a b : Option (List DiskStep)) → name ≡ name' → HasAsked a b (IsGone name written)
    → HasAsked a b (IsGone name' written)
gone_as name name' written a b is h = (h.0, h.1, subst (λ n. IsGone n written h.0) is h.2)

no_name : (name : List ℕ) → true ≡ eqb (length name) 0 → IsNoFileName name
no_name [] is = inl refl
no_name (byte ∷ name) is = absurd (omega (arith, eqb-true (length (byte ∷ name)) 0 (sym is)))

pub empty_name : (name : List ℕ) (empty : Bool) → empty ≡ eqb (length name) 0 → true ≡ eqb (length name) 0 → (IsTrue empty → IsNoFileName name) × (IsNoFileName name → IsTrue empty)
empty_name name true same is = (λ _. no_name name is, λ _. refl)
empty_name name false same is = absurd (cc (same, is))

-- a name that is not empty is a folder's where it ends in a slash
pub folder_name : (name : List ℕ) (ends : Bool) → false ≡ eqb (length name) 0
    → (ends ≡ true → name ≡ take (length name - 1) name ++ (47 ∷ [])) × ((front : List ℕ) → name ≡ front ++ (47 ∷ []) → ends ≡ true)
    → (IsTrue ends → IsNoFileName name) × (IsNoFileName name → IsTrue ends)
folder_name name true some h = (λ _. inr (take (length name - 1) name, h.0 refl), λ _. refl)
folder_name name false some h = (λ e. absurd (cc e), either) where
  either : IsNoFileName name → IsTrue false
  either (inl none) = absurd (omega (arith, ap length none, eqb-false (length name) 0 (sym some)))
  either (inr folder) = absurd (cc (h.1 folder.0 folder.1))

pub renamed : (own name : List ℕ) (left : Option (List ℕ)) (steps : List DiskStep) → IsSearch name None steps
    → IsNaming own name None (Failed (Link own name) ∷ (steps ++ Did (Rename own name left) ∷ []))
renamed own name left steps Free = Renamed left

pub not_renamed : (own name : List ℕ) (left : Option (List ℕ)) (steps : List DiskStep) → IsSearch name None steps
    → IsNaming own name (Some Write) (Failed (Link own name) ∷ (steps ++ Failed (Rename own name left) ∷ []))
not_renamed own name left steps Free = NotRenamed left

-- ---- the folder

-- the file beside is in it, too
abbrev IsOther : ℕ → Type 0
IsOther code = code ≡ name_slash → ⊥

others : All IsOther (codes ".part")
others =
    let none : List ℕ = [] in
    All-cons IsOther 46 (112 ∷ 97 ∷ 114 ∷ 116 ∷ none) (λ e. absurd (omega (arith, e)))
    (All-cons IsOther 112 (97 ∷ 114 ∷ 116 ∷ none) (λ e. absurd (omega (arith, e)))
    (All-cons IsOther 97 (114 ∷ 116 ∷ none) (λ e. absurd (omega (arith, e)))
    (All-cons IsOther 114 (116 ∷ none) (λ e. absurd (omega (arith, e)))
    (All-cons IsOther 116 none (λ e. absurd (omega (arith, e))) (All-nil IsOther)))))

no_slash : Contains (codes ".part") name_slash → ⊥
no_slash has = All-contains IsOther (codes ".part") name_slash others has refl

nor_behind : (text : List ℕ) → (Contains text name_slash → ⊥) → Contains (text ++ codes ".part") name_slash → ⊥
nor_behind text none has = elim (Contains-append_cases text (codes ".part") name_slash has) [ inl front ↦ none front | inr part ↦ no_slash part ]

part_before_slash : (name front : List ℕ) → StandsBeforeSlash name front → StandsBeforeSlash (part_name name) front
part_before_slash name front (rest, is, none) =
    (rest ++ codes ".part", ap part_name is ∙ append_assoc front (name_slash ∷ rest) (codes ".part"), nor_behind rest none)

pub part_folder : (name folder : List ℕ) → IsFolderOf name folder → IsFolderOf (part_name name) folder
part_folder name folder (Current none) = Current (nor_behind name none)
part_folder name folder (Root stands) = Root (part_before_slash name [] stands)
part_folder name folder (InNamed front some stands) = InNamed front some (part_before_slash name front stands)

-- it is opened, and then this comes of the file beside
pub in_folder : (P : List ℕ → ShelfFault → List DiskStep → Type 0) (name folder own : List ℕ) (fault : ShelfFault) (a b c : Option (List DiskStep)) → own ≡ part_name name
    → IsFolderOf name folder → Tells a b (Did (Open ReadOnly folder) ∷ []) → HasAsked b c (P own fault) → HasAsked a c (InFolder name (P (part_name name)) fault)
in_folder P name folder own fault a b c is of opened h = (
  Did (Open ReadOnly folder) ∷ h.0,
  tells_join a b c (Did (Open ReadOnly folder) ∷ []) h.0 opened h.1,
  Opened folder fault h.0 of (subst (λ n. P n fault h.0) is h.2),
)

-- ---- room

-- a disk with a shelf that was asked this, and has this name and this room
abbrev pub disk_at : Option (List DiskStep) → List ℕ → Option Room → ShelfDisk
disk_at asked name room = record { asked = asked; name = name; room = room }

-- a file that was filled holds just what it was filled with, where the disk still tells
pub filled_with : (before after : Option (List ℕ)) (zeros : List ℕ) (steps : List DiskStep) (a b : Option (List DiskStep)) → OnSome a (before ≡ Some [])
    → Tells a b steps → Appends before after zeros → OnSome b (after ≡ Some zeros)
filled_with before after zeros steps None None fresh t g = tt
filled_with before after zeros steps None (Some told) fresh t g = absurd t
filled_with before after zeros steps (Some items) None fresh t g = tt
filled_with before after zeros steps (Some items) (Some told) fresh t g = held before after zeros fresh g
  where
    held : (before after : Option (List ℕ)) (zeros : List ℕ) → before ≡ Some [] → Appends before after zeros → after ≡ Some zeros
    held None after zeros is g = absurd (cc is)
    held (Some xs) None zeros is g = absurd g
    held (Some xs) (Some ys) zeros is g = let none : xs ≡ [] = cc is in ap (λ (list : List ℕ). Some list) (g ∙ ap (λ list. list ++ zeros) none)

abbrev pub made_steps : List ℕ → List DiskStep
made_steps own = Did (Open New own) ∷ Did (Hold own) ∷ []

abbrev pub room_steps : List ℕ → List ℕ → Option (List ℕ) → List DiskStep
room_steps own dir filled = Did (SyncFile filled) ∷ Did (SyncFolder dir) ∷ Did (Open ReadWrite own) ∷ []

-- the file that was filled still has its name
pub room_made : (own dir : List ℕ) (filled : Option (List ℕ)) (a b c d : Option (List DiskStep)) → HasAsked a b (λ steps. steps ≡ made_steps own)
    → HasAsked b c (λ steps. steps ≡ room_steps own dir filled) → Tells c d (Did (FindFile own filled) ∷ []) → HasAsked a d (λ steps. steps ≡ making own dir filled)
room_made own dir filled a b c d made taken found = let last : List DiskStep = Did (FindFile own filled) ∷ [] in (
  made.0 ++ (taken.0 ++ last),
  tells_join a b d made.0 (taken.0 ++ last) made.1 (tells_join b c d taken.0 last taken.1 found),
  ap (λ steps. steps ++ (taken.0 ++ last)) made.2 ∙ ap (λ steps. Did (Open New own) ∷ Did (Hold own) ∷ (steps ++ last)) taken.2,
)

-- or has it no more
pub room_lost : (own dir : List ℕ) (filled : Option (List ℕ)) (a b c d : Option (List DiskStep)) → HasAsked a b (λ steps. steps ≡ made_steps own)
    → HasAsked b c (λ steps. steps ≡ room_steps own dir filled) → Tells c d (Failed (FindFile own filled) ∷ []) → HasAsked a d (IsUnmade own Write)
room_lost own dir filled a b c d made taken found = let last : List DiskStep = Failed (FindFile own filled) ∷ [] in (
  made.0 ++ (taken.0 ++ last),
  tells_join a b d made.0 (taken.0 ++ last) made.1 (tells_join b c d taken.0 last taken.1 found),
  subst (λ steps. IsUnmade own Write (steps ++ (taken.0 ++ last))) (sym made.2)
      (subst (λ steps. IsUnmade own Write (made_steps own ++ (steps ++ last))) (sym taken.2)
      (NotMade true (Did (Hold own) ∷ (room_steps own dir filled ++ last)) ((λ held. (refl, (refl, (refl, tt)))), refl))),
)

-- what goes is this load's own
gone_held : (own : List ℕ) (written : Option (List ℕ)) (steps : List DiskStep) → IsGone own written steps → GoesHeld own steps
gone_held own written steps (Goes true) = ((refl, refl, tt), refl)
gone_held own written steps (Goes false) = (tt, refl)
gone_held own written steps HasAnother = (tt, refl)

-- one that could not be filled goes
pub not_filled : (own : List ℕ) (filled : Option (List ℕ)) (a b c d : Option (List DiskStep)) → HasAsked a b (λ steps. steps ≡ made_steps own)
    → HasAsked b c (λ steps. LeaveAllBut own true steps × (held_behind true steps ≡ true)) → HasAsked c d (IsGone own filled) → HasAsked a d (IsUnmade own Write)
not_filled own filled a b c d made taken going = (
  (made.0 ++ taken.0) ++ going.0,
  tells_join a c d (made.0 ++ taken.0) going.0 (tells_join a b c made.0 taken.0 made.1 taken.1) going.1,
  subst (λ steps. IsUnmade own Write ((steps ++ taken.0) ++ going.0)) (sym made.2)
      (NotMade true (Did (Hold own) ∷ (taken.0 ++ going.0))
      (held_aside own (made_steps own ++ taken.0) going.0 ((λ held. (refl, (refl, taken.2.0))), taken.2.1) (gone_held own filled going.0 going.2))),
)

pub reserved : (name folder own : List ℕ) (filled : Option (List ℕ)) (a b c : Option (List DiskStep)) → own ≡ part_name name → Tells a b (Did (Open ReadOnly folder) ∷ [])
    → HasAsked b c (λ steps. steps ≡ making own folder filled) → HasAsked a c (λ steps. steps ≡ Did (Open ReadOnly folder) ∷ making (part_name name) folder filled)
reserved name folder own filled a b c is opened made = (
  Did (Open ReadOnly folder) ∷ made.0,
  tells_join a b c (Did (Open ReadOnly folder) ∷ []) made.0 opened made.1,
  ap (λ steps. Did (Open ReadOnly folder) ∷ steps) (made.2 ∙ ap (λ n. making n folder filled) is),
)

-- nothing had the name, and then the room was made, or not
then_reserved : (name : List ℕ) (more : List DiskStep) (a b c : Option (List DiskStep)) → HasAsked a b (IsSearch name None) → HasAsked b c (λ steps. steps ≡ more)
    → HasAsked a c (λ steps. steps ≡ Failed (LookAtName name) ∷ more)
then_reserved name more a b c search made = (search.0 ++ made.0, tells_join a b c search.0 made.0 search.1 made.1, behind name more search.0 made.0 search.2 made.2) where
  behind : (name : List ℕ) (more front back : List DiskStep) → IsSearch name None front → back ≡ more → front ++ back ≡ Failed (LookAtName name) ∷ more
  behind name more front back Free is = ap (λ steps. Failed (LookAtName name) ∷ steps) is

pub then_not_reserved : (name : List ℕ) (fault : ShelfFault) (a b c : Option (List DiskStep)) → HasAsked a b (IsSearch name None)
    → HasAsked b c (InFolder name (IsUnmade (part_name name)) fault) → HasAsked a c (IsNotReserved name fault)
then_not_reserved name fault a b c search made =
    (search.0 ++ made.0, tells_join a b c search.0 made.0 search.1 made.1, behind name fault search.0 made.0 search.2 made.2) where
      behind : (name : List ℕ) (fault : ShelfFault) (front back : List DiskStep) → IsSearch name None front
          → InFolder name (IsUnmade (part_name name)) fault back → IsNotReserved name fault (front ++ back)
      behind name fault front back Free unmade = NoFile fault back unmade

pub has_room_on : {T : Type 0} (opened : T → List ℕ → Type 0) (size : ℕ) (contents : T → Option (List ℕ)) (name : List ℕ) (room : Option Room) (part : Part T) (a b c : Option (List DiskStep))
    → string_bytes part.name ≡ part_name name → (part.length ≡ 0) × (part.kept ≡ false) → OnSome c (contents part.file ≡ Some []) → OnSome c (contents part.held ≡ Some (replicate size 0)) → HasAsked a b (IsSearch name None)
    → (folder : List ℕ) × opened part.folder folder × IsFolderOf name folder × HasAsked b c (λ steps. steps ≡ Did (Open ReadOnly folder) ∷ making (part_name name) folder (contents part.held))
    → (folder : List ℕ) × IsFolderOpened opened (Some part) folder
    × HasAsked a c (HasRoom folder size (disk_at a name room ⇒ disk_at c name (Some (room_of contents part))))
has_room_on opened size contents name room part a b c own new fresh filled search made =
    let h = then_reserved name (Did (Open ReadOnly made.0) ∷ making (part_name name) made.0 (contents part.held)) a b c search made.3 in (
      made.0,
      made.1,
      (
        h.0,
        h.1,
        record {
          folder_of = made.2;
          filled = contents part.held;
          taken = filled;
          reserved = h.2;
          room = (contents part.file, (λ i. Some (record { name = own i; written = contents part.file; length = new.0 i; kept = new.1 i })), fresh);
        },
      ),
    )

-- ---- a block

-- a text was added to the room that there is, or it was not
pub add_answer : {T : Type 0} (contents : T → Option (List ℕ)) (folder name text : List ℕ) (before : Option (Part T)) (part part' : Part T) (answer : Result ⊤ ShelfFault) (a b : Option (List DiskStep))
    → Some part ≡ before → OnOk answer (HasAsked a b (IsAdding text true (Some (room_of contents part)) (Some (room_of contents part'))))
    → OnErr answer (HasAsked a b (IsAdding text false (Some (room_of contents part)) (Some (room_of contents part'))))
    → HasAsked a b (AsksFor folder (add_step text answer) (disk_at a name (option_map (room_of contents) before) ⇒ disk_at b name (Some (room_of contents part'))))
add_answer contents folder name text before part part' (Ok done) a b is added unadded =
    subst (λ o. HasAsked a b (IsAdding text true (option_map (room_of contents) o) (Some (room_of contents part')))) is added
add_answer contents folder name text before part part' (Err fault) a b is added unadded =
    subst (λ o. HasAsked a b (IsAdding text false (option_map (room_of contents) o) (Some (room_of contents part')))) is unadded

-- nor without room
pub not_added_nowhere : {T : Type 0} (contents : T → Option (List ℕ)) (text : List ℕ) (before after : Option (Part T)) (a : Option (List DiskStep)) → None ≡ before → after ≡ None
    → HasAsked a a (IsAdding text false (option_map (room_of contents) before) (option_map (room_of contents) after))
not_added_nowhere contents text before after a is none =
    subst (λ o. HasAsked a a (IsAdding text false (option_map (room_of contents) o) (option_map (room_of contents) after))) is
    (subst (λ o. HasAsked a a (IsAdding text false None (option_map (room_of contents) o))) (sym none) ([], tells_none a, NoRoom))

-- the folder is the same
pub opened_still : {T : Type 0} (opened : T → List ℕ → Type 0) (before : Option (Part T)) (part part' : Part T) (folder : List ℕ) → Some part ≡ before → part'.folder ≡ part.folder
    → IsFolderOpened opened before folder → IsFolderOpened opened (Some part') folder
opened_still opened before part part' folder is same h = subst (λ f. opened f folder) (sym same) (subst (λ o. IsFolderOpened opened o folder) (sym is) h)

-- ---- the tape

pub synced : (room : Room) (name : List ℕ) (a b c : Option (List DiskStep)) → name ≡ room.name
    → Tells a b (Did (Cut room.written room.length) ∷ Did (SyncFile room.written) ∷ []) → Tells b c (Did (FindFile name room.written) ∷ [])
    → HasAsked a c (λ steps. steps ≡ syncing room)
synced room name a b c is brought found = (
  Did (Cut room.written room.length) ∷ Did (SyncFile room.written) ∷ Did (FindFile name room.written) ∷ [],
  tells_join a b c (Did (Cut room.written room.length) ∷ Did (SyncFile room.written) ∷ []) (Did (FindFile name room.written) ∷ []) brought found,
  ap (λ n. Did (Cut room.written room.length) ∷ Did (SyncFile room.written) ∷ Did (FindFile n room.written) ∷ []) is,
)

-- the file beside was cut and synced, and then its name was still its own, or not
pub found_or_not : (room : Room) (name : List ℕ) (found : Bool) (a b c : Option (List DiskStep)) → name ≡ room.name
    → Tells a b (Did (Cut room.written room.length) ∷ Did (SyncFile room.written) ∷ []) → Tells b c (step_by (FindFile name room.written) found ∷ [])
    → OnTrue found (HasAsked a c (λ steps. steps ≡ syncing room)) × ((place : Place) → OnFalse found (HasAsked a c (IsNamed place room (Some Write))))
found_or_not room name true a b c is brought found = (synced room name a b c is brought found, λ place. tt)
found_or_not room name false a b c is brought found = (
  tt,
  λ place. (
    Did (Cut room.written room.length) ∷ Did (SyncFile room.written) ∷ Failed (FindFile name room.written) ∷ [],
    tells_join a b c (Did (Cut room.written room.length) ∷ Did (SyncFile room.written) ∷ []) (Failed (FindFile name room.written) ∷ []) brought found,
    Unsynced true (Did (SyncFile room.written) ∷ Failed (FindFile name room.written) ∷ []) (tt, (tt, tt)) tt,
  ),
)

-- it could not be linked, and was renamed, or not
pub link_then_rename : (own name : List ℕ) (fault : Option ShelfFault) (a b c : Option (List DiskStep)) → Tells a b (Failed (Link own name) ∷ [])
    → HasAsked b c (λ steps. IsNaming own name fault (Failed (Link own name) ∷ steps)) → HasAsked a c (IsNaming own name fault)
link_then_rename own name fault a b c linked asked =
    (Failed (Link own name) ∷ asked.0, tells_join a b c (Failed (Link own name) ∷ []) asked.0 linked asked.1, asked.2)

pub not_named : (place : Place) (room : Room) (fault : ShelfFault) (own : List ℕ) (a b c : Option (List DiskStep)) → own ≡ room.name
    → HasAsked a b (λ steps. steps ≡ syncing room) → HasAsked b c (IsNaming own place.name (Some fault)) → HasAsked a c (IsNamed place room (Some fault))
not_named place room fault own a b c is disk naming = (
  disk.0 ++ naming.0,
  tells_join a b c disk.0 naming.0 disk.1 naming.1,
  subst (λ steps. IsNamed place room (Some fault) (steps ++ naming.0)) (sym disk.2)
      (Unnamed fault naming.0 (subst (λ n. IsNaming n place.name (Some fault) naming.0) is naming.2)),
)

-- behind its new name
behind_name : (place : Place) (room : Room) (fault : Option ShelfFault) (own : List ℕ) (last : List DiskStep) (a b c d : Option (List DiskStep)) → own ≡ room.name
    → HasAsked a b (λ steps. steps ≡ syncing room) → HasAsked b c (IsNaming own place.name None) → Tells c d last
    → ((naming : List DiskStep) → IsNaming room.name place.name None naming → IsNamed place room fault (syncing room ++ (naming ++ last))) → HasAsked a d (IsNamed place room fault)
behind_name place room fault own last a b c d is disk naming told by = (
  disk.0 ++ (naming.0 ++ last),
  tells_join a b d disk.0 (naming.0 ++ last) disk.1 (tells_join b c d naming.0 last naming.1 told),
  subst (λ steps. IsNamed place room fault (steps ++ (naming.0 ++ last))) (sym disk.2) (by naming.0 (subst (λ n. IsNaming n place.name None naming.0) is naming.2)),
)

pub named : (place : Place) (room : Room) (own own' : List ℕ) (a b c d e : Option (List DiskStep)) → own ≡ room.name → own' ≡ room.name
    → HasAsked a b (λ steps. steps ≡ syncing room) → HasAsked b c (IsNaming own place.name None) → Tells c d (Did (SyncFolder place.folder) ∷ [])
    → HasAsked d e (IsGone own' room.written) → HasAsked a e (IsNamed place room None)
named place room own own' a b c d e is is' disk naming sync going =
    behind_name place room None own (Did (SyncFolder place.folder) ∷ going.0) a b c e is disk naming
    (tells_join c d e (Did (SyncFolder place.folder) ∷ []) going.0 sync going.1)
    (λ front n. Named front going.0 n (subst (λ m. IsGone m room.written going.0) is' going.2))

pub unsettled : (place : Place) (room : Room) (own own' : List ℕ) (a b c d e : Option (List DiskStep)) → own ≡ room.name → own' ≡ room.name
    → HasAsked a b (λ steps. steps ≡ syncing room) → HasAsked b c (IsNaming own place.name None) → Tells c d (Failed (SyncFolder place.folder) ∷ [])
    → HasAsked d e (IsTakenBack own' place.name room.written) → HasAsked a e (IsNamed place room (Some Write))
unsettled place room own own' a b c d e is is' disk naming sync taking =
    behind_name place room (Some Write) own (Failed (SyncFolder place.folder) ∷ taking.0) a b c e is disk naming
    (tells_join c d e (Failed (SyncFolder place.folder) ∷ []) taking.0 sync taking.1)
    (λ front n. Unsettled front taking.0 n (subst (λ m. IsTakenBack m place.name room.written taking.0) is' taking.2))

pub put_written : (place : Place) (text : List ℕ) (room : Room) (written : Option (List ℕ)) (all : ℕ) (fault : Option ShelfFault) (a b : Option (List DiskStep))
    → Appends room.written written text → all ≡ room.length + length text → HasAsked a b (IsNamed place (record room { written = written; length = all }) fault)
    → HasAsked a b (IsPut place text (Some room) fault)
put_written place text room written all fault a b appends is naming =
    (naming.0, naming.1, PutWhole room written fault naming.0 appends (subst (λ n. IsNamed place (record room { written = written; length = n }) fault naming.0) is naming.2))

-- what a put asks where there is room, and where there is none
abbrev IsPutOn : {T : Type 0} → (T → Option (List ℕ)) → List ℕ → List ℕ → List ℕ → Option ShelfFault → Option (Part T) → Option (Part T) → List DiskStep → Type 0
IsPutOn contents folder name text fault before after steps =
    IsPut (record { folder = folder; name = name }) text (option_map (room_of contents) before) fault steps × (option_map (room_of contents) after ≡ None)

pub in_room : {T : Type 0} (opened : T → List ℕ → Type 0) (contents : T → Option (List ℕ)) (name text folder : List ℕ) (fault : Option ShelfFault) (before : Option (Part T))
    (part : Part T) (after : Option (Part T)) (a b : Option (List DiskStep)) → Some part ≡ before → after ≡ None
    → ((dir : List ℕ) → opened part.folder dir → HasAsked a b (IsPut (record { folder = dir; name = name }) text (Some (room_of contents part)) fault)) → IsFolderOpened opened before folder
    → HasAsked a b (IsPutOn contents folder name text fault before after)
in_room opened contents name text folder fault before part after a b is none put =
    subst (λ room. IsFolderOpened opened room folder → HasAsked a b (IsPutOn contents folder name text fault room after)) is
    (λ open_so. let h = put folder open_so in (h.0, h.1, (h.2, ap (option_map (room_of contents)) none)))

pub in_no_room : {T : Type 0} (contents : T → Option (List ℕ)) (name text folder : List ℕ) (before after : Option (Part T)) (a : Option (List DiskStep)) → None ≡ before → after ≡ None
    → HasAsked a a (IsPutOn contents folder name text (Some Write) before after)
in_no_room contents name text folder before after a is none =
    subst (λ room. HasAsked a a (IsPutOn contents folder name text (Some Write) room after)) is ([], tells_none a, (Nowhere, ap (option_map (room_of contents)) none))

-- ---- what is let go

pub left : (room : Room) (own : List ℕ) (a b : Option (List DiskStep)) → own ≡ room.name → room.kept ≡ false → HasAsked a b (IsGone own room.written)
    → HasAsked a b (IsClosed (Some room))
left room own a b is not h =
    subst (λ k. HasAsked a b (λ steps. MatchBool k (steps ≡ []) (IsGone room.name room.written steps))) (sym not) (gone_as own room.name room.written a b is h)

pub stays : (room : Room) (a : Option (List DiskStep)) → room.kept ≡ true → HasAsked a a (IsClosed (Some room))
stays room a is = subst (λ k. HasAsked a a (λ steps. MatchBool k (steps ≡ []) (IsGone room.name room.written steps))) (sym is) ([], tells_none a, refl)

pub closed : {T : Type 0} (contents : T → Option (List ℕ)) (before : Option (Part T)) (part : Part T) (a b : Option (List DiskStep)) → before ≡ Some part
    → HasAsked a b (IsClosed (Some (room_of contents part))) → HasAsked a b (IsClosed (option_map (room_of contents) before))
closed contents before part a b is h = subst (λ room. HasAsked a b (IsClosed (option_map (room_of contents) room))) (sym is) h

-- ---- what was answered

pub put_answer : {T : Type 0} (contents : T → Option (List ℕ)) (folder name text : List ℕ) (answer : Result ⊤ ShelfFault) (before after : Option (Part T)) (a b : Option (List DiskStep))
    → HasAsked a b (IsPutOn contents folder name text (fault_of answer) before after)
    → HasAsked a b (AsksFor folder (put_step text answer) (disk_at a name (option_map (room_of contents) before) ⇒ disk_at b name (option_map (room_of contents) after)))
put_answer contents folder name text (Ok done) before after a b h = h
put_answer contents folder name text (Err fault) before after a b h = h

-- ---- a part that was left

-- what is refused behind a call that went well, before it was taken up
behind_one : (own : List ℕ) (fault : ShelfFault) (request : DiskRequest) (steps : List DiskStep) → (fault ≡ Write → ⊥) → LeavesAll own request → IsUntaken own fault steps
    → IsUntaken own fault (Did request ∷ steps)
behind_one own IsThere request steps soon leaves untaken = untaken
behind_one own PartIsThere request steps soon leaves (idle, inl has) = ((leaves, idle), inl has)
behind_one own PartIsThere request steps soon leaves (idle, inr (front, is)) = ((leaves, idle), inr (Did request ∷ front, ap (λ list. Did request ∷ list) is))
behind_one own NotOfSave request steps soon leaves (idle, none) = ((leaves, idle), none)
behind_one own Write request steps soon leaves untaken = absurd (soon refl)
behind_one own Memory request steps soon leaves (idle, none) = ((leaves, idle), none)

pub held_untaken : (own : List ℕ) (fault : ShelfFault) (a b c : Option (List DiskStep)) → (fault ≡ Write → ⊥)
    → HasAsked a b (λ steps. steps ≡ Did (FindSoleFile own) ∷ Did (Open ReadWrite own) ∷ Did (Hold own) ∷ []) → HasAsked b c (IsUntaken own fault) → HasAsked a c (IsUntaken own fault)
held_untaken own fault a b c soon held untaken = (
  held.0 ++ untaken.0,
  tells_join a b c held.0 untaken.0 held.1 untaken.1,
  subst (λ steps. IsUntaken own fault (steps ++ untaken.0)) (sym held.2)
      (behind_one own fault _ _ soon tt (behind_one own fault _ _ soon refl (behind_one own fault _ _ soon tt untaken.2))),
)

pub read_untaken : (own : List ℕ) (fault : ShelfFault) (a b c : Option (List DiskStep)) → HasAsked a b (λ steps. steps ≡ Did (Open ReadOnly own) ∷ [])
    → fault ≡ PartIsThere → HasAsked b c (IsUntaken own PartIsThere) → HasAsked a c (IsUntaken own fault)
read_untaken own fault a b c read is untaken = subst (λ f. HasAsked a c (IsUntaken own f)) (sym is) (
  read.0 ++ untaken.0,
  tells_join a b c read.0 untaken.0 read.1 untaken.1,
  subst (λ steps. IsUntaken own PartIsThere (steps ++ untaken.0)) (sym read.2) (behind_one own PartIsThere _ _ (λ e. absurd (cc e)) tt untaken.2),
)

-- the folder is opened, and the part is taken up, and then the folder is synced
pub resumed : (name own folder : List ℕ) (held : Option (List ℕ)) (a b c d : Option (List DiskStep)) → own ≡ part_name name → Tells a b (Did (Open ReadOnly folder) ∷ [])
    → HasAsked b c (λ steps. steps ≡ taking_left own held) → Tells c d (Did (SyncFolder folder) ∷ [])
    → HasAsked a d (λ steps. steps ≡ Did (Open ReadOnly folder) ∷ (taking_left (part_name name) held ++ Did (SyncFolder folder) ∷ []))
resumed name own folder held a b c d is opened taken synced = let last : List DiskStep = Did (SyncFolder folder) ∷ [] in (
  Did (Open ReadOnly folder) ∷ (taken.0 ++ last),
  tells_join a b d (Did (Open ReadOnly folder) ∷ []) (taken.0 ++ last) opened (tells_join b c d taken.0 last taken.1 synced),
  ap (λ steps. Did (Open ReadOnly folder) ∷ (steps ++ last)) (taken.2 ∙ ap (λ n. taking_left n held) is),
)

-- or that fails
pub not_synced : (name own folder : List ℕ) (held : Option (List ℕ)) (b c d : Option (List DiskStep)) → own ≡ part_name name → IsFolderOf name folder
    → HasAsked b c (λ steps. steps ≡ taking_left own held) → Tells c d (Failed (SyncFolder folder) ∷ []) → HasAsked b d (IsUntaken own Write)
not_synced name own folder held b c d is of taken unsynced = (
  taken.0 ++ Failed (SyncFolder folder) ∷ [],
  tells_join b c d taken.0 (Failed (SyncFolder folder) ∷ []) taken.1 unsynced,
  (held, folder, subst (λ n. IsFolderOf n folder) (sym is) (part_folder name folder of), ap (λ steps. steps ++ Failed (SyncFolder folder) ∷ []) taken.2),
)

-- how a part that was taken up is called of a shelf
pub has_part_on : {T : Type 0} (opened : T → List ℕ → Type 0) (contents : T → Option (List ℕ)) (name numbers : List ℕ) (room : Option Room) (part : Part T) (a b : Option (List DiskStep))
    → string_bytes part.name ≡ part_name name → part.length ≡ 0 → (part.kept ≡ false → numbers ≡ []) → OnSome b (contents part.file ≡ Some []) → OnSome b (contents part.held ≡ Some [])
    → (folder : List ℕ) × opened part.folder folder × IsFolderOf name folder × HasAsked a b (λ steps. steps ≡ Did (Open ReadOnly folder) ∷ (taking_left (part_name name) (contents part.held) ++ Did (SyncFolder folder) ∷ []))
    → (folder : List ℕ) × IsFolderOpened opened (Some part) folder
    × HasAsked a b (HasPart folder numbers (disk_at a name room ⇒ disk_at b name (Some (room_of contents part))))
has_part_on opened contents name numbers room part a b own empty stays fresh untouched taken = (
  taken.0,
  taken.1,
  (
    taken.3.0,
    taken.3.1,
    record {
      folder_of = taken.2;
      held = contents part.held;
      untouched = untouched;
      resumed = taken.3.2;
      kept = part.kept;
      stays = stays;
      room = (contents part.file, (λ i. Some (record { name = own i; written = contents part.file; length = empty i; kept = part.kept })), fresh);
    },
  ),
)
