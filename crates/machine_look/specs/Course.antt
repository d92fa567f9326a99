-- What looks and reading came to, and what is closed behind them.
use Rattle.std.specs.Prelude.{◌≡◌, ℕ, ◌+◌, ◌*◌, ◌≤◌, Bool, true, false, if◌then◌else◌, List, ◌++◌, length, Option, Some, None, ⊤}
use Rattle.tape_values.specs.Block.{top}
use Rattle.reading_core.specs.Reader.{ended}
use Rattle.reading_core.specs.declared.care.Care.{Care}
use Rattle.looking_engine.specs.Stopping.{TellsEnd}
use Rattle.request_values.specs.Change.{◌⇒◌}
use Rattle.tape_shelf.specs.SavedSteps.{adds, closes, full}
use Rattle.tape_shelf.specs.SavedTape.{last_text}
use Rattle.tape_shelf.specs.ShelfAt.{HasDoneThere, ShelfAt}
use Rattle.tape_shelf.specs.ShelfTold.{AreDone}
use Rattle.machine_look.specs.declared.reading_blocks.Course.{Course}
use Rattle.machine_look.specs.declared.reading_blocks.Course.TheVariants.{HeldUp, Read}
use Rattle.machine_look.specs.declared.save_end.SaveEnd.{SaveEnd}
use Rattle.machine_look.specs.declared.save_report.SaveCounts.{SaveCounts}
use Rattle.machine_look.specs.declared.saving.SaveOptions.{SaveOptions}
use Rattle.machine_look.specs.declared.look_fault.LookFault.{LookFault}
use Rattle.machine_look.specs.Behind.{IsHeldUp, IsRead, Saving}
use Rattle.machine_look.specs.LookFault.{IsKeepFault}
use Rattle.machine_look.specs.Save.{SaveAt, counts_held, counts_read, has_all}
use Rattle.machine_look.specs.SaveReport.{held_end, save_end}
use Rattle.machine_look.specs.Trust.{are_trusted}

-- looks held a save up, and the shelf is as it was; or what was found stood, and the words behind it were read, and each full block of both is on the
-- shelf, in the same folder
abbrev pub IsCourse : Saving → SaveAt → SaveAt → Course → Type 0
IsCourse saving before after (HeldUp looked) =
    IsHeldUp saving (before.console ⇒ after.console) looked × (after.shelf.told ≡ before.shelf.told)
IsCourse saving before after (Read looks last stop) =
    IsRead saving (before.console ⇒ after.console) (record { looks = looks; last = last; stop = Some stop }) × TellsEnd stop (ended last.phase)
    × ((folder : List ℕ) → before.shelf.is_opened_as folder → after.shelf.is_opened_as folder
    × AreDone folder (adds saving.options.range.from (saving.found ++ last.values) (full (saving.found ++ last.values))) before.shelf.told after.shelf.told)

-- what is counted of it
abbrev pub counts_of : Saving → Course → SaveCounts
counts_of saving (HeldUp looked) = counts_held saving.options looked.reader
counts_of saving (Read looks last stop) = counts_read saving.options saving.found looks last

-- how it ends, where its words are looked at with this care
abbrev pub end_of : Care → Course → SaveEnd
end_of care (HeldUp looked) = held_end looked.finding looked.stop
end_of care (Read looks last stop) = save_end stop (are_trusted care looks last)

-- the tape of numbers is closed where they are all that can be had; else nothing more is done on the shelf
abbrev pub IsClosedWhere : Bool → ℕ → List ℕ → ℕ → ShelfAt → ShelfAt → Type 0
IsClosedWhere true from numbers start before after = HasDoneThere (closes from numbers start) before after
IsClosedWhere false from numbers start before after = after.told ≡ before.told

-- the tape is closed, where all was read that can be had
abbrev pub IsTapeClosed : Saving → Course → ShelfAt → ShelfAt → Type 0
IsTapeClosed saving (HeldUp looked) before after = after.told ≡ before.told
IsTapeClosed saving (Read looks last stop) before after =
    IsClosedWhere (has_all stop (are_trusted saving.options.care looks last)) saving.options.range.from (saving.found ++ last.values) saving.options.start before after

-- the text with which it is closed then
abbrev pub closing_text : Saving → Course → Option (List ℕ)
closing_text saving (HeldUp looked) = None
closing_text saving (Read looks last stop) =
    if has_all stop (are_trusted saving.options.care looks last) then Some (last_text saving.options.range.from (saving.found ++ last.values) saving.options.start) else None

-- it can't be closed with this text, if with any
abbrev pub IsUnclosed : Option (List ℕ) → ShelfAt → ShelfAt → LookFault → Type 0
IsUnclosed None before after fault = ⊥
IsUnclosed (Some text) before after fault = IsKeepFault text before after fault

-- what is counted has room
abbrev pub HasRoomForCounts : SaveOptions → List ℕ → Course → Type 0
HasRoomForCounts options found (HeldUp looked) = ⊤
HasRoomForCounts options found (Read looks last stop) =
    (looks.spent + last.patience ≤ options.patience) × (options.range.from + 2 * (length found + length last.values) ≤ top)
