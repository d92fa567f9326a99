-- Calls that begin a record beside the old one keep a record.
use Rattle.std.proofs.Common.{◌≡◌, ℕ, ◌+◌, ◌⊎◌, List, [], ◌∷◌, ◌++◌, length, Option, Some, None, inl, inr, arith, ap, subst, ◌∙◌}
use Rattle.std.specs.Prelude.{codes, ⊤}
use Rattle.load_record.specs.Keeper.{Lasts}
use Rattle.record_file.specs.Beginning.{new_name}
use Rattle.record_file.specs.DiskStep.{Did, Open, Link, Rename, Remove, SyncFolder, Cut, SyncFile}
use Rattle.record_file.specs.declared.disk.Access.TheVariants.{New}
use Rattle.disk_law.specs.Disk.{Disk, Event, Asked, Written, Synced, Kind, History, Leaves, Nothing, File, disk_of, more, told, after, made, renamed, removed, folder_synced, file_synced, written}
use Rattle.disk_law.specs.Laws.{IsFresh, IsOnDisk, IsBesideOnly, IsSo, AreSo, ARecordIsKept}
use Rattle.disk_law.proofs.Names.{HasNames, HaveNames, front_of, back_of, beside}

-- the record's name is not that of the new file
pub not_itself : (name : List ℕ) → name ≡ new_name name → ⊥
not_itself name e = longer (ap length e ∙ both name (codes ".ldaodt-new"))
  where
    both : (xs ys : List ℕ) → length (xs ++ ys) ≡ length xs + length ys
    both [] ys = omega arith
    both (x ∷ xs) ys = let rest = both xs ys in omega (arith, rest)

    longer : length name ≡ length name + 11 → ⊥
    longer e = omega arith

by_made : (d : Disk) (name text : List ℕ) (new : List ℕ) (i : ℕ) (n : List ℕ) (left : Option (List ℕ)) → IsFresh d i → ((n ≡ new) → ⊥) → Leaves (made d new i) n left → Leaves d n left
by_made d name text new i n left fresh other (Nothing (inl may)) = Nothing may
by_made d name text new i n left fresh other (Nothing (inr same)) = absurd (other same.0)
by_made d name text new i n left fresh other (File j t (inl may) (inl has)) = File j t may has
by_made d name text new i n left fresh other (File j t (inl may) (inr same)) = absurd (fresh.unnamed n (subst (λ k. d.may_lead n (Some k)) same.0 may))
by_made d name text new i n left fresh other (File j t (inr same) has) = absurd (other same.0)

by_removed : (d : Disk) (new : List ℕ) (n : List ℕ) (left : Option (List ℕ)) → ((n ≡ new) → ⊥) → Leaves (removed d new) n left → Leaves d n left
by_removed d new n left other (Nothing (inl may)) = Nothing may
by_removed d new n left other (Nothing (inr same)) = absurd (other same.0)
by_removed d new n left other (File j t (inl may) has) = File j t may has
by_removed d new n left other (File j t (inr same) has) = absurd (other same.0)

by_renamed : (d : Disk) (name text from : List ℕ) (n : List ℕ) (left : Option (List ℕ)) → IsOnDisk d from text → ((n ≡ from) → ⊥) → Leaves (renamed d from name) n left
    → Leaves d n left ⊎ ((n ≡ name) × (left ≡ Some text))
by_renamed d name text from n left whole other (Nothing (inl may)) = inl (Nothing may)
by_renamed d name text from n left whole other (Nothing (inr (inl led))) =
    let some = whole None led.1 in absurd (none some.0 some.1)
  where
    none : (i : ℕ) → let x : Option ℕ = None in x ≡ Some i → ⊥
    none i e = cc e
by_renamed d name text from n left whole other (Nothing (inr (inr same))) = absurd (other same.0)
by_renamed d name text from n left whole other (File j t (inl may) has) = inl (File j t may has)
by_renamed d name text from n left whole other (File j t (inr (inl led)) has) =
    let some = whole (Some j) led.1 in
    inr (led.0, ap Some (some.2 t (subst (λ k. d.may_hold k t) (same some.0 some.1) has)))
  where
    same : (i : ℕ) → let x : Option ℕ = Some j in x ≡ Some i → j ≡ i
    same i e = cc e
by_renamed d name text from n left whole other (File j t (inr (inr same)) has) = absurd (other same.0)

by_folder : (d : Disk) (folder : List ℕ) (n : List ℕ) (left : Option (List ℕ)) → Leaves (folder_synced d folder) n left → Leaves d n left
by_folder d folder n left (Nothing may) = Nothing may.0
by_folder d folder n left (File j t may has) = File j t may.0 has

pub by_synced : (d : Disk) (i : ℕ) (n : List ℕ) (left : Option (List ℕ)) → Leaves (file_synced d i) n left → Leaves d n left
by_synced d i n left (Nothing may) = Nothing may
by_synced d i n left (File j t may has) = File j t may has.0

pub by_written : (kind : Kind) (d : Disk) (new : List ℕ) (i at : ℕ) (bytes : List ℕ) (n : List ℕ) (left : Option (List ℕ)) → IsBesideOnly d new i → ((n ≡ new) → ⊥)
    → Leaves (written kind d i at bytes) n left → Leaves d n left
by_written kind d new i at bytes n left only other (Nothing may) = Nothing may
by_written kind d new i at bytes n left only other (File j t may (inl has)) = File j t may has
by_written kind d new i at bytes n left only other (File j t may (inr same)) = absurd (only n other (subst (λ k. d.may_lead n (Some k)) same.0 may))

-- an event has such names, where the disk tells it
abbrev pub Names : List ℕ → List ℕ → Event → Type 0
Names name text (Asked i step) = HasNames name text step
Names name text other = ⊤

abbrev pub AllNames : List ℕ → List ℕ → List Event → Type 0
AllNames name text [] = ⊤
AllNames name text (event ∷ earlier) = AllNames name text earlier × Names name text event

pub same_text : (text other : List ℕ) → Lasts (Some other) (Some text) → other ≡ text
same_text text other is = cc is

step : (kind : Kind) (d : Disk) (name text : List ℕ) (event : Event) (n : List ℕ) (left : Option (List ℕ)) → Names name text event → IsSo (new_name name) d event
    → ((n ≡ new_name name) → ⊥) → Leaves (after kind d event) n left → Leaves d n left ⊎ ((n ≡ name) × (left ≡ Some text))
step kind d name text (Asked i (Did (Open New new))) n left names so other leaves =
    inl (by_made d name text new i n left so (λ e. other (e ∙ names)) leaves)
step kind d name text (Asked i (Did (Link from to))) n left names so other leaves = absurd names
step kind d name text (Asked i (Did (Rename from to None))) n left names so other leaves = absurd so
step kind d name text (Asked i (Did (Rename from to (Some whole)))) n left names so other leaves =
    let come = by_renamed d to whole from n left so (λ e. other (e ∙ names.0)) leaves in
    elim come as (λ c. Leaves d n left ⊎ ((n ≡ name) × (left ≡ Some text)))
    [ inl l ↦ inl l | inr r ↦ inr (r.0 ∙ names.1, r.1 ∙ ap Some (same_text text whole names.2)) ]
step kind d name text (Asked i (Did (Remove new))) n left names so other leaves = inl (by_removed d new n left (λ e. other (e ∙ names)) leaves)
step kind d name text (Asked i (Did (SyncFolder folder))) n left names so other leaves = inl (by_folder d folder n left leaves)
step kind d name text (Asked i (Did (Cut wrote m))) n left names so other leaves = absurd names
step kind d name text (Asked i (Did (SyncFile wrote))) n left names so other leaves = inl (by_synced d i n left leaves)
step kind d name text (Asked i other_step) n left names so other leaves = inl leaves
step kind d name text (Written i at bytes) n left names so other leaves = inl (by_written kind d (new_name name) i at bytes n left so other leaves)
step kind d name text (Synced i) n left names so other leaves = inl (by_synced d i n left leaves)

all_steps : (name text : List ℕ) (history : History) (events : List Event) → AllNames name text events → AreSo (new_name name) history events → (n : List ℕ) (left : Option (List ℕ))
    → ((n ≡ new_name name) → ⊥) → Leaves (disk_of (more history events)) n left → Leaves (disk_of history) n left ⊎ ((n ≡ name) × (left ≡ Some text))
all_steps name text history [] names so n left other leaves = inl leaves
all_steps name text history (event ∷ earlier) names so n left other leaves =
    let come = step history.kind (disk_of (more history earlier)) name text event n left names.1 so.1 other leaves in
    elim come as (λ c. Leaves (disk_of history) n left ⊎ ((n ≡ name) × (left ≡ Some text)))
    [ inl l ↦ all_steps name text history earlier names.0 so.0 n left other l | inr r ↦ inr r ]

-- what is told has such names, and so have the events
names_of : (name text : List ℕ) (events : List Event) → HaveNames name text (told events) → AllNames name text events
names_of name text [] have = tt
names_of name text (Asked i step ∷ earlier) have =
    (names_of name text earlier (front_of name text (told earlier) (step ∷ []) have), (back_of name text (told earlier) (step ∷ []) have).0)
names_of name text (Written i at bytes ∷ earlier) have = (names_of name text earlier have, tt)
names_of name text (Synced i ∷ earlier) have = (names_of name text earlier have, tt)

-- ---- a front of them

earlier_names : (name text : List ℕ) (later earlier : List Event) → AllNames name text (later ++ earlier) → AllNames name text earlier
earlier_names name text [] earlier names = names
earlier_names name text (event ∷ later) earlier names = earlier_names name text later earlier names.0

earlier_so : (new : List ℕ) (history : History) (later earlier : List Event) → AreSo new history (later ++ earlier) → AreSo new history earlier
earlier_so new history [] earlier so = so
earlier_so new history (event ∷ later) earlier so = earlier_so new history later earlier so.0

pub a_record_is_kept : ARecordIsKept
a_record_is_kept name text was is course history later earlier list so = record {
  record_is = λ left leaves. old_or_new left (all_steps name text history earlier names true name left (not_itself name) leaves);
  others = λ n left not_name not_new leaves. rest n left not_name (all_steps name text history earlier names true n left not_new leaves);
}
  where
    names : AllNames name text earlier
    names = earlier_names name text later earlier (names_of name text (later ++ earlier) (beside name text was course is (told (later ++ earlier)) list))

    true : AreSo (new_name name) history earlier
    true = earlier_so (new_name name) history later earlier so

    old_or_new : (left : Option (List ℕ)) → Leaves (disk_of history) name left ⊎ ((name ≡ name) × (left ≡ Some text)) → Leaves (disk_of history) name left ⊎ (left ≡ Some text)
    old_or_new left (inl l) = inl l
    old_or_new left (inr r) = inr r.1

    rest : (n : List ℕ) (left : Option (List ℕ)) → ((n ≡ name) → ⊥) → Leaves (disk_of history) n left ⊎ ((n ≡ name) × (left ≡ Some text)) → Leaves (disk_of history) n left
    rest n left not_name (inl l) = l
    rest n left not_name (inr r) = absurd (not_name r.0)
