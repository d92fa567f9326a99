-- A new record that has come to the old one's place is durable there.
use Rattle.std.proofs.Common.{◌≡◌, ◌∷◌, [], ◌++◌, List, ℕ, Some, append-nil, arith, inl, inr, refl, sym}
use Rattle.record_file.specs.Beginning.{Replaced, new_name}
use Rattle.record_file.specs.DiskStep.{Did, Rename}
use Rattle.disk_law.specs.Disk.{Disk, File, InOrder, Kind, Weakest, disk_of, made, more, put, told, torn_by, written}
use Rattle.disk_law.specs.Laws.{ANewRecordIsDurable, WhatIsRenamedIsSeen}
use Rattle.disk_law.proofs.Kept.{not_itself}
use Rattle.disk_law.proofs.OnDisk.{leads_to, what_is_synced_is_on_disk}
use Rattle.disk_law.proofs.Parts.{synced}
use Rattle.disk_law.proofs.Stays.{EndsSo, a_new_record_stays, beside_ends, led, seen}

pub a_new_record_is_durable : ANewRecordIsDurable
a_new_record_is_durable name text was is history i events list so saw = record {
  named = λ x may. (saw.led x).0 (synced name ends.folder history events (ends.front ++ Did (Rename (new_name name) name ends.left) ∷ []) ends.of ends.all x may);
  left = left;
  seen = λ t has. left t (saw.held t has);
}
  where
    d : Disk
    d = disk_of (more history events)

    ends : EndsSo name text (told events)
    ends = beside_ends name text was Replaced is (told events) refl list

    left : (t : List ℕ) → d.may_hold i t → t ≡ text
    left t may = cc (a_new_record_stays name text was is history events list so (Some t) (File i t (seen (more history events) name (Some i) ((saw.led (Some i)).1 refl)) may))

-- a write at the front may be there whole
torn : (kind : Kind) (text u t : List ℕ) → t ≡ put 0 text u → torn_by kind 0 text u t
torn Weakest text u t is = tt
torn InOrder text u t is = (text, [], sym (append-nil text), is, omega arith)

held : (kind : Kind) (d : Disk) (new text : List ℕ) (i : ℕ) → ((t : List ℕ) → d.holds i t → t ≡ []) → (t : List ℕ) → (written kind (made d new i) i 0 text).holds i t
    → (written kind (made d new i) i 0 text).may_hold i t
held kind d new text i empty t (inl (same, u, inl (same', none), is)) = inr (refl, u, inr (refl, none), torn kind text u t is)
held kind d new text i empty t (inl (same, u, inr (other, has), is)) = absurd (other refl)
held kind d new text i empty t (inr (other, has)) = absurd (other refl)

pub what_is_renamed_is_seen : WhatIsRenamedIsSeen
what_is_renamed_is_seen name folder text history i fresh empty = let so = what_is_synced_is_on_disk name text history i fresh empty in (
  ((so.0, so.1), tt),
  record {
    led = λ x. (
      λ leads. leads_to (disk_of history) (new_name name) i x (led (made (disk_of history) (new_name name) i) name (new_name name) x (not_itself name) leads),
      λ is. inl (refl, inl (refl, is)),
    );
    held = λ t has. (held history.kind (disk_of history) (new_name name) text i empty t has, λ same. has);
  },
)
