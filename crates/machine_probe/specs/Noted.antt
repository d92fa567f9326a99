-- What a line's notes are true of.
use Rattle.std.specs.Prelude.{◌≡◌, List, Option, Some, None, ⊤}
use Rattle.host_devices.specs.declared.item.Item.{Item}
use Rattle.probe_report.specs.Notes.{Noted, notes_of}

-- a line that told at first what was said on it still tells, and these are the notes of all of it
abbrev pub AreNotesSince : Option (List Item) → Option (List Item) → Noted → Type 0
AreNotesSince None now notes = ⊤
AreNotesSince (Some first) None notes = ⊥
AreNotesSince (Some first) (Some items) notes = notes ≡ notes_of items
