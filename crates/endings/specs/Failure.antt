-- How the program's failures are named, told and ended with (this project's own).
use Rattle.std.specs.Prelude.{◌≡◌, ℕ, Bool, true, false, ◌-◌, nat_lt, if◌then◌else◌, List, [], ◌∷◌, ◌++◌, length, slice_get}
use Rattle.std.specs.Prelude.{Option, Some, None, codes, decimal, encode_utf8}
use Rattle.std.specs.Borrow.{Bor}
use Rattle.std.specs.Char.{is_control}
use Rattle.std.specs.Char.Escape.{escape_default}
use Rattle.std.specs.List.{flat_map}
use Rattle.std.specs.Str.{chars}
use Rattle.tape_blocks.specs.declared.fault.Fault.{Fault}
use Rattle.tape_blocks.specs.Fault.{fault_text, refused_tape_text}
use Rattle.tape_blocks.specs.OutOfMemory.{memory_text}
use Rattle.endings.specs.FaultOutput.{StandardError, IsSaidOnError}
use Rattle.endings.specs.declared.failure.Failure.{Failure}
use Rattle.endings.specs.declared.failure.Failure.TheVariants.{CannotRead, CannotWrite, CannotWriteFile, CannotConnect}
use Rattle.endings.specs.declared.failure.Failure.TheVariants.{FileIsThere, PartIsThere, PartNotOfSave, PartStale, RecordInUse}
use Rattle.endings.specs.declared.failure.Failure.TheVariants.{LineFailed, StartInDoubt, TapeRefused, OneTapeRefused, ScriptRefused}
use Rattle.endings.specs.declared.failure.Failure.TheVariants.{WordsRefused, RecordRefused}
use Rattle.endings.specs.declared.failure.Failure.TheVariants.{RecordStale, TooLarge, Misplaced, BadWord, NoMemory}
use Rattle.endings.specs.LineReason.{line_failed}
use Rattle.endings.specs.declared.place.Place.{Place}
use Rattle.endings.specs.declared.place.Place.TheVariants.{LineOfLoad, LineOfVerify, LineOfSave, LineOfProbe, LineOfMemory, Tape, Script, Words, Record}
use Rattle.endings.specs.declared.command_fault.CommandFault.{CommandFault}
use Rattle.endings.specs.declared.command_fault.CommandFault.TheVariants as fault
use Rattle.load_record.specs.declared.reader.RecordError.TheVariants as why
use Rattle.tape_making.specs.Refusal.{refusal_text}
use Rattle.endings.specs.declared.status.Status.{Status}
use Rattle.endings.specs.declared.status.Status.TheVariants.{BadCommandLine, Refused, DeviceFailed, NotLoaded, NoMemory as OutOfMemory}

-- the exit status that tells of a failure
abbrev pub status_of : Failure → Status
status_of (CannotRead name) = DeviceFailed
status_of CannotWrite = DeviceFailed
status_of (CannotWriteFile name) = DeviceFailed
status_of (FileIsThere name) = DeviceFailed
status_of (PartIsThere name) = DeviceFailed
status_of (PartNotOfSave name) = Refused
status_of (PartStale name) = NotLoaded
status_of (RecordInUse name) = DeviceFailed
status_of (CannotConnect address) = DeviceFailed
status_of (LineFailed fault) = DeviceFailed
status_of (StartInDoubt fault) = DeviceFailed
status_of (TapeRefused refusal) = Refused
status_of (OneTapeRefused number refusal) = Refused
status_of (ScriptRefused number) = Refused
status_of (WordsRefused refusal) = Refused
status_of (RecordRefused reason) = Refused
status_of RecordStale = NotLoaded
status_of TooLarge = BadCommandLine
status_of (Misplaced name place) = BadCommandLine
status_of BadWord = BadCommandLine
status_of NoMemory = OutOfMemory

-- the number of one of several tapes, and why it is refused
abbrev pub one_tape_text : ℕ → Fault → List ℕ
one_tape_text number fault = decimal number ++ (codes " " ++ fault_text fault)

-- the line at which a script or a record is refused
abbrev pub refused_line_text : ℕ → List ℕ
refused_line_text number = codes "refused at " ++ (codes "line " ++ decimal number)

-- a character of a name, as a fault shows it: a control character by its escape, any other as it is
abbrev pub shown_char : ℕ → List ℕ
shown_char c = if is_control c then escape_default c else encode_utf8 c

-- a name as a fault shows it: one that is empty by its quotes alone
abbrev pub shown_name : List ℕ → List ℕ
shown_name [] = codes "''"
shown_name (b ∷ bs) = flat_map shown_char (chars (b ∷ bs))

-- what a failure's line says after the program's name, up to the name in it where it has one
abbrev pub failure_words : Failure → List ℕ
failure_words (CannotRead name) = codes "cannot read "
failure_words CannotWrite = codes "cannot write output"
failure_words (CannotWriteFile name) = codes "cannot write "
failure_words (CannotConnect address) = codes "cannot connect to "
failure_words (FileIsThere name) = []
failure_words (PartIsThere name) = []
failure_words (PartNotOfSave name) = []
failure_words (PartStale name) = codes "memory does not hold what "
failure_words (Misplaced name place) = []
failure_words (RecordInUse name) = codes "record in use: "
failure_words (LineFailed fault) = line_failed fault
failure_words (StartInDoubt fault) = line_failed fault
failure_words (TapeRefused refusal) = refused_tape_text refusal
failure_words (OneTapeRefused number refusal) = codes "tape " ++ one_tape_text number refusal
failure_words (ScriptRefused number) = codes "script " ++ refused_line_text number
failure_words (WordsRefused refusal) = refusal_text refusal
failure_words (RecordRefused why.NotARecord) = codes "record refused: NotARecord"
failure_words (RecordRefused (why.Foreign number)) = codes "record " ++ refused_line_text number
failure_words RecordStale = codes "memory does not hold what the record says: load with --recheck"
failure_words TooLarge = codes "machine too large"
failure_words BadWord = codes "a word of the command line is not UTF-8"
failure_words NoMemory = memory_text

-- the name of a file, that the part beside it says something, and the name again
abbrev pub stale_names : List ℕ → List ℕ
stale_names name = shown_name name ++ (codes ".part says: remove " ++ shown_name name)

-- the name in a failure's line, where it has one
abbrev pub failure_name : Failure → List ℕ
failure_name (CannotRead name) = shown_name name.now
failure_name (CannotWriteFile name) = shown_name name.now
failure_name (FileIsThere name) = shown_name name.now
failure_name (PartIsThere name) = shown_name name.now
failure_name (PartNotOfSave name) = shown_name name.now
failure_name (PartStale name) = stale_names name.now
failure_name (RecordInUse name) = shown_name name.now
failure_name (Misplaced name place) = shown_name name.now
failure_name (CannotConnect address) = shown_name address.now
failure_name other = []

-- what is told of a name that can't be what its place asks for, and the line's end: a line has to be a serial device, and nothing that is read a
-- terminal
abbrev pub misplaced_end : Place → List ℕ
misplaced_end LineOfLoad = codes " is no serial device: load TAPE LINE [MORE]..\n"
misplaced_end LineOfVerify = codes " is no serial device: verify TAPE LINE [MORE]..\n"
misplaced_end LineOfSave = codes " is no serial device: save FILE LINE FROM TO\n"
misplaced_end LineOfProbe = codes " is no serial device: probe LINE\n"
misplaced_end LineOfMemory = codes " is no serial device: memory LINE [FROM] [TO]\n"
misplaced_end Tape = codes " is a terminal, no tape\n"
misplaced_end Script = codes " is a terminal, no script\n"
misplaced_end Words = codes " is a terminal, no words\n"
misplaced_end Record = codes " is a terminal, no record\n"

-- what stands behind the name, and the line's end; where the start may have gone out, a line of its own says so
abbrev pub failure_end : Failure → List ℕ
failure_end (FileIsThere name) = codes " is there already\n"
failure_end (PartIsThere name) = codes ".part is there already\n"
failure_end (PartNotOfSave name) = codes ".part is not of this save\n"
failure_end (PartStale name) = codes ".part to begin again\n"
failure_end (Misplaced name place) = misplaced_end place
failure_end (StartInDoubt fault) = codes "\nldaodt: the start may have gone out: look at the machine first\n"
failure_end other = codes "\n"

-- the line of a failure on standard error
abbrev pub fault_line : Failure → List ℕ
fault_line failure = codes "ldaodt: " ++ (failure_words failure ++ (failure_name failure ++ failure_end failure))

-- standard error tells of a failure: its line was said there and nothing else
abbrev pub IsPrinted : StandardError → StandardError → Failure → Type 0
IsPrinted err err' failure = IsSaidOnError err err' (fault_line failure)

-- standard error tells of a failure, unless nobody is to hear of it: then it is as it was
abbrev pub IsPrintedUnless : Bool → StandardError → StandardError → Failure → Type 0
IsPrintedUnless true err err' failure = err' ≡ err
IsPrintedUnless false err err' failure = IsPrinted err err' failure

-- nobody is to hear of this failure, of what does nothing but print or does more: output that nobody reads any more can't be written
abbrev pub is_unheard : Bool → Bool → Failure → Bool
is_unheard true true CannotWrite = true
is_unheard prints unread failure = false

-- the failure is that a file of this name can't be read
abbrev pub NamesFile : List ℕ → Failure → Type 0
NamesFile text (CannotRead name) = name.now ≡ text
NamesFile text other = ⊥

-- the failure is that the tape of this name can't be read, or standard input where it has no name
abbrev pub NamesTape : Option (Bor (List ℕ)) → Failure → Type 0
NamesTape (Some name) failure = failure ≡ CannotRead name
NamesTape None failure = NamesFile (codes "standard input") failure

-- the failure that a command's fault is, where its tapes and its script have these names: of several tapes the number is told
abbrev pub IsFailureOf : CommandFault → List (Bor (List ℕ)) → List ℕ → Failure → Type 0
IsFailureOf (fault.Tape number refusal) tapes script failure =
    failure ≡ (if nat_lt 1 (length tapes) then OneTapeRefused number refusal else TapeRefused refusal)
IsFailureOf (fault.Script number) tapes script failure = failure ≡ ScriptRefused number
IsFailureOf fault.TooLarge tapes script failure = failure ≡ TooLarge
IsFailureOf (fault.ReadTape number) tapes script failure = NamesTape (slice_get tapes (number - 1)) failure
IsFailureOf fault.ReadScript tapes script failure = NamesFile script failure
IsFailureOf fault.ReadKeys tapes script failure = NamesFile (codes "standard input") failure
IsFailureOf fault.Write tapes script failure = failure ≡ CannotWrite
IsFailureOf fault.Memory tapes script failure = failure ≡ NoMemory
