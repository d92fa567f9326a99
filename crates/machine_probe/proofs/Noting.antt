-- How the notes of a line go on.
use Rattle.std.proofs.Common.{◌≡◌, List, [], ◌∷◌, ◌++◌, Option, Some, None, ap, sym, ◌∙◌}
use Rattle.tape_values.specs.Told.{IsAsTold}
use Rattle.host_devices.specs.declared.item.Item.{Item}
use Rattle.host_devices.specs.Told.{Gains, SaysNothing}
use Rattle.probe_report.specs.Notes.{Noted, notes_of}
use Rattle.machine_probe.specs.Noted.{AreNotesSince}

pub noted_at_first : (told : Option (List Item)) → IsAsTold told [] → AreNotesSince told told (notes_of [])
noted_at_first None fresh = tt
noted_at_first (Some items) fresh = ap notes_of fresh

pub still_noted : (first told told' : Option (List Item)) (notes : Noted) → SaysNothing told told' → AreNotesSince first told notes → AreNotesSince first told' notes
still_noted None told told' notes keeps are = tt
still_noted (Some first) None told' notes keeps are = absurd are
still_noted (Some first) (Some items) None notes keeps are = absurd keeps
still_noted (Some first) (Some items) (Some same) notes keeps are = are ∙ ap notes_of (sym keeps)

pub noted_too : (first told told' : Option (List Item)) (notes notes' : Noted) (item : Item) → Gains told told' (item ∷ []) →
    ((items : List Item) → notes ≡ notes_of items → notes' ≡ notes_of (items ++ item ∷ [])) → AreNotesSince first told notes → AreNotesSince first told' notes'
noted_too None told told' notes notes' item gains next are = tt
noted_too (Some first) None told' notes notes' item gains next are = absurd are
noted_too (Some first) (Some items) None notes notes' item gains next are = absurd gains
noted_too (Some first) (Some items) (Some grown) notes notes' item gains next are = next items are ∙ ap notes_of (sym gains)
