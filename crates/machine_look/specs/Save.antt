-- What `save` does (this project's own).
use Rattle.std.specs.Prelude.{◌≡◌, ℕ, ◌+◌, ◌<◌, ◌≤◌, Bool, true, false, List, [], ◌∷◌, ◌++◌, length, Option, Some, None, Ok, IfSome}
use Rattle.std.specs.Io.KnownBytes.{Appends, Keeps}
use Rattle.tape_values.specs.Tape.{plain_text}
use Rattle.console_lines.specs.Console.{ConsoleTold}
use Rattle.console_lines.specs.declared.consoles.Consoles.{Ghosts as Consoles}
use Rattle.host_devices.specs.Devices.{LineTold}
use Rattle.console_lines.specs.Dialling.{Call, LineRequest}
use Rattle.byte_io.specs.Output.{WritesAllBut}
use Rattle.reading_core.specs.Reader.{Reader, ended}
use Rattle.looking_engine.specs.Stopping.{LookStop, TellsEnd}
use Rattle.reading_core.specs.declared.phase.End.TheVariants.{Complete, NoWord}
use Rattle.request_values.specs.Change.{◌⇒◌}
use Rattle.request_values.specs.declared.range.AddressRange.{AddressRange}
use Rattle.sample_looks.specs.declared.looking.Looked.{Looked}
use Rattle.machine_look.specs.Behind.{IsHeldUp, IsRead, addresses_in, tape_to_save}
use Rattle.tape_shelf.specs.FoundPart.{AreFoundInPart, FillBlocks}
use Rattle.machine_look.specs.declared.save_end.SaveEnd.{SaveEnd}
use Rattle.machine_look.specs.declared.save_report.SaveCounts.{SaveCounts}
use Rattle.machine_look.specs.declared.saving.SaveOptions.{SaveOptions}
use Rattle.tape_shelf.specs.declared.shelf.Shelf.{Ghosts as Shelf}
use Rattle.tape_shelf.specs.declared.shelf.ShelfFault.{ShelfFault}
use Rattle.tape_shelf.specs.declared.shelf.ShelfFault.TheVariants.{PartIsThere}
use Rattle.tape_shelf.specs.SavedSteps.{adds, full, not_all_added, not_put, puts}
use Rattle.tape_shelf.specs.SavedTape.{room_for, words_in}
use Rattle.machine_look.specs.SavedWords.{HoldsWhatWasRead}
use Rattle.machine_look.specs.Trust.{are_trusted}
use Rattle.machine_look.specs.SaveReport.{save_end, held_end, save_report}
use Rattle.tape_shelf.specs.Shelf.{ShelfStep, Reserve, NotReserved, Resume, written}
use Rattle.tape_shelf.specs.ShelfAt.{ShelfAt, shelf_at}
use Rattle.tape_shelf.specs.ShelfTold.{ShelfTold, HasDone}

-- what a save's shelf, console and output tell: the first what was done on it; what was asked for a line, where the second leads and what its
-- lines tell that were given back, and what the third holds
pub record SaveTold : Type 0 where
  pub shelf : ShelfTold
  pub asked : Option (List LineRequest)
  pub call : Call
  pub lines : Option (List LineTold)
  pub out : Option (List ℕ)

-- a save at a moment: its shelf, and what its console tells, where nothing is written
pub record SaveAt : Type 1 where
  pub shelf : ShelfAt
  pub console : ConsoleTold

-- so it is of this shelf and these consoles, of which this one is called
abbrev pub save_at : {S C L : Type 0} → Shelf S → Consoles C L → Call → S → C → SaveAt
save_at shelf_tell tell call shelf consoles = record {
  shelf = shelf_at shelf_tell shelf;
  console = record { asked = tell.asked consoles; call = call; lines = tell.lines consoles; out = None };
}

-- what a shelf, and a console with an output tell
abbrev pub save_told : ShelfTold → ConsoleTold → SaveTold
save_told shelf console = record { shelf = shelf; asked = console.asked; call = console.call; lines = console.lines; out = console.out }

-- what its console alone tells
abbrev pub console_of : SaveTold → ConsoleTold
console_of told = record { asked = told.asked; call = told.call; lines = told.lines; out = None }

-- a shelf is taken up for a save of a range, where this text had been left, and these numbers are found there: none, in room that is new; or those
-- of the blocks of that text
pub data TakesUp (range : AddressRange) (left : Option (List ℕ)) : List ℕ → List ShelfStep → Type 0 where
  InNewRoom : TakesUp range left [] (Reserve (room_for range) ∷ [])
  BehindPart : (found : List ℕ) → FillBlocks range found → IfSome left (λ text. AreFoundInPart range text found)
      → TakesUp range left found (NotReserved (room_for range) PartIsThere ∷ Resume found ∷ [])

-- the tape of numbers is what the words of the range say, and what is put on the shelf is that tape, byte for byte, and needs no more room than was
-- taken
pub record IsTapeOf (options : SaveOptions) (numbers : List ℕ) : Type 0 where
  pub holds : HoldsWhatWasRead (addresses_in options.range) numbers (tape_to_save options numbers)
  pub whole : 0 < length numbers → written (puts options.range.from numbers options.start) ≡ plain_text (tape_to_save options numbers)
  pub fits : length (plain_text (tape_to_save options numbers)) ≤ room_for options.range

-- what a save counts whose words were read behind those that were found: what looks and reading sent and met together
abbrev pub counts_read : SaveOptions → List ℕ → Reader → Reader → SaveCounts
counts_read options found looks last = record {
  sent = looks.sent + last.sent;
  spent = looks.spent + last.spent;
  read = length found + length last.values;
  words = words_in options.range;
}

-- what it counts that its looks held up: no word
abbrev pub counts_held : SaveOptions → Reader → SaveCounts
counts_held options looks = record { sent = looks.sent; spent = looks.spent; read = 0; words = words_in options.range }

-- a shelf was taken up, what was found there stood, and the words behind it were read, which stopped so (None: a block could not be added)
pub record IsSaveRead (stop : Option LookStop) (options : SaveOptions) (before after : SaveTold) : Type 0 where
  pub found : List ℕ
  pub taking : List ShelfStep
  pub taken_up : TakesUp options.range before.shelf.left found taking
  pub looks : Reader
  pub last : Reader
  pub read : IsRead (record { options = options; found = found }) (console_of before ⇒ console_of after)
      (record { looks = looks; last = last; stop = stop })

-- the numbers that it has then
abbrev pub numbers_of : {stop : Option LookStop} {options : SaveOptions} {before after : SaveTold} → IsSaveRead stop options before after → List ℕ
numbers_of read = read.found ++ read.last.values

-- whether a reading that stopped so has all that can be had, every word, or each below the end of memory, and may be believed
abbrev pub has_all : LookStop → (trusted : Bool) → Bool
has_all (Ok Complete) trusted = trusted
has_all (Ok (NoWord address)) trusted = trusted
has_all other trusted = false

-- whether what a save read may be believed
abbrev pub trusts : {stop : Option LookStop} {options : SaveOptions} {before after : SaveTold} → IsSaveRead stop options before after → Bool
trusts {stop} {options} read = are_trusted options.care read.looks read.last

-- what was found and what was read is all that can be had, and was put where the tape goes
pub record IsShelved (options : SaveOptions) (before after : SaveTold) : Type 0 where
  pub stop : LookStop
  pub read : IsSaveRead (Some stop) options before after
  pub end : TellsEnd stop (ended read.last.phase)
  pub all : has_all stop (trusts read) ≡ true
  pub tape : IsTapeOf options (numbers_of read)
  pub is_put : HasDone (read.taking ++ puts options.range.from (numbers_of read) options.start) before.shelf after.shelf

-- more could be had, or what was read may not be believed: the tape has not its place, and each full block of what was found and what was read is on the shelf, for a save that goes on
pub record IsLeftInPart (options : SaveOptions) (before after : SaveTold) : Type 0 where
  pub stop : LookStop
  pub read : IsSaveRead (Some stop) options before after
  pub end : TellsEnd stop (ended read.last.phase)
  pub not_all : has_all stop (trusts read) ≡ false
  pub is_left : HasDone (read.taking ++ adds options.range.from (numbers_of read) (full (numbers_of read))) before.shelf after.shelf

-- looks held it up, and what is on the shelf is as it was
pub record IsHeld (options : SaveOptions) (before after : SaveTold) : Type 0 where
  pub found : List ℕ
  pub taking : List ShelfStep
  pub taken_up : TakesUp options.range before.shelf.left found taking
  pub looked : Looked
  pub held : IsHeldUp (record { options = options; found = found }) (console_of before ⇒ console_of after) looked
  pub untouched : HasDone taking before.shelf after.shelf

-- a save is over, with these counts and this end
pub data IsOver (options : SaveOptions) (before after : SaveTold) : SaveCounts → SaveEnd → Type 0 where
  Shelved : (s : IsShelved options before after)
      → IsOver options before after (counts_read options s.read.found s.read.looks s.read.last) (save_end s.stop (trusts s.read))
  LeftInPart : (s : IsLeftInPart options before after)
      → IsOver options before after (counts_read options s.read.found s.read.looks s.read.last) (save_end s.stop (trusts s.read))
  HeldUp : (h : IsHeld options before after)
      → IsOver options before after (counts_held options h.looked.reader) (held_end h.looked.finding h.looked.stop)

-- it was reported, too
pub record IsSavedAndReported (options : SaveOptions) (before after : SaveTold) (end : SaveEnd) : Type 0 where
  pub counts : SaveCounts
  pub over : IsOver options before after counts end
  pub reported : Appends before.out after.out (save_report counts end)

-- the same, with a report that may be cut short
pub record IsSavedUnreported (options : SaveOptions) (before after : SaveTold) : Type 0 where
  pub counts : SaveCounts
  pub end : SaveEnd
  pub over : IsOver options before after counts end
  pub missing : List ℕ
  pub reported : WritesAllBut before.out after.out (save_report counts end) missing

-- what was found and read is all that can be had, and could not have its place there, and nothing was reported
pub record IsUnput (fault : ShelfFault) (options : SaveOptions) (before after : SaveTold) : Type 0 where
  pub stop : LookStop
  pub read : IsSaveRead (Some stop) options before after
  pub all : has_all stop (trusts read) ≡ true
  pub refused : HasDone
      (read.taking ++ not_put options.range.from (numbers_of read) options.start fault)
      before.shelf after.shelf
  pub nothing_reported : Keeps before.out after.out

-- a block could not be added: nothing more was read, and nothing reported, and the blocks before it had been added
pub record IsUnadded (options : SaveOptions) (before after : SaveTold) : Type 0 where
  pub read : IsSaveRead None options before after
  pub number : ℕ
  pub within : number < full (numbers_of read)
  pub refused : HasDone
      (read.taking ++ not_all_added options.range.from (numbers_of read) number)
      before.shelf after.shelf
  pub nothing_reported : Keeps before.out after.out
