-- The table of a host that only looks: what it does on what it hears (this project's choice). It types one
-- character at a time and waits in a phase for what the console has to answer (host_core's Answers). Of a word it
-- types the address, `/`, and after the six digits that memory holds CR, which closes the word as it was. A number
-- that it doubts it takes only where a second look, right behind the first, reads the same.
use Rattle.std.specs.Prelude.{ℕ, ◌+◌, Bool, true, false, ◌==◌, nat_lt, if◌then◌else◌, List, [], ◌∷◌, ◌++◌, length, Option, Some, None}
use Rattle.octal.specs.Octal.{digit_of}
use Rattle.tape_image.specs.Word.{WordValue, merged}
use Rattle.host_core.specs.declared.answers.Reply.{Reply}
use Rattle.host_core.specs.declared.answers.Reply.TheVariants.{On, Over, Wrong}
use Rattle.host_core.specs.declared.answers.Echo.{Echo}
use Rattle.host_core.specs.declared.answers.Echo.TheVariants.{More, Whole, NoEcho}
use Rattle.host_core.specs.declared.answers.Reading.{Reading}
use Rattle.host_core.specs.declared.answers.Reading.TheVariants.{Digits, Number, NoMemory, NoReading}
use Rattle.host_core.specs.declared.heard.Heard.{Heard}
use Rattle.host_core.specs.declared.heard.Heard.TheVariants.{Got, Quiet}
use Rattle.host_core.specs.Answers.{resynchronise_reply, return_reply, digit_echo, reading_start, reading_rest}
use Rattle.host_core.specs.Console.{resynchronise, carriage_return, slash}
use Rattle.host_core.specs.Core.{word_nr}
use Rattle.reading_core.specs.Foreign.{count_after, is_foreign}
use Rattle.reading_core.specs.Reader.{Reader, address_under_way, looks_twice}
use Rattle.reading_core.specs.declared.care.Care.{Care}
use Rattle.reading_core.specs.declared.care.Care.TheVariants.{Once, Twice, TwiceWhereOther}
use Rattle.reading_core.specs.declared.phase.Phase.{Phase}
use Rattle.reading_core.specs.declared.phase.Phase.TheVariants.{Settle, Sync, Address, Slash, Before, Value, Close, Refused, Ended}
use Rattle.reading_core.specs.declared.phase.End.TheVariants.{Complete, GaveUp, NoWord}
use Rattle.reading_core.specs.declared.turn.Turn.{Turn}
use Rattle.reading_core.specs.declared.turn.Turn.TheVariants.{Listen, Key, Read, Again, Next, Stop, Stray, Timeout}

-- behind the answer to `Z` comes the next word
abbrev pub synced : Reply → Turn
synced (On place) = Listen (Sync place)
synced Over = Next
synced Wrong = Stray

-- behind the echo of a digit of the address the next is typed, after the sixth `/`
abbrev pub addressed : ℕ → Echo → Turn
addressed place (More digit) = Key digit (Address (place + 1))
addressed place Whole = Key slash Slash
addressed place NoEcho = Stray

-- Slash: the echo of `/`
abbrev pub slash_hears : ℕ → Turn
slash_hears c = if c == slash then Listen Before else Stray

-- the word that is looked at: its address, how it is read, what is expected of it, and what an earlier look read
pub record Target : Type 0 where
  pub address : ℕ
  pub care : Care
  pub expected : WordValue
  pub earlier : Option ℕ

-- the word under way
abbrev pub target_of : Reader → Target
target_of r = record {
  address = address_under_way r;
  care = r.manner.care;
  expected = word_nr r.manner.expected (length r.values);
  earlier = r.earlier;
}

-- whether a number has to be read twice, where this is expected of its word
abbrev pub doubts : Care → WordValue → ℕ → Bool
doubts Once word number = false
doubts Twice word number = true
doubts TwiceWhereOther word number = if merged word number == number then false else true

-- a whole number, behind an earlier look or none
abbrev pub judged : Option ℕ → Bool → ℕ → Turn
judged None doubted number = if doubted then Again number else Read number
judged (Some first) doubted number = if number == first then Read number else Stray

-- a `?` in the place of a reading; a host that looks twice believes it only with the rest of the refusal behind it
abbrev pub questioned : Bool → ℕ → Turn
questioned twice address = if twice then Listen (Refused 0) else Stop (NoWord address)

-- a reading of the word: it goes on, it is whole, or there is no memory
abbrev pub reads : Target → Reading → Turn
reads t (Digits value count) = Listen (Value value count)
reads t (Number value) = judged t.earlier (doubts t.care t.expected value) value
reads t NoMemory = questioned (looks_twice t.care) t.address
reads t NoReading = Stray

-- behind the answer to the CR that closes the word comes the next
abbrev pub closed : Reply → Turn
closed (On place) = Listen (Close place)
closed Over = Next
closed Wrong = Stray

-- behind the whole refusal of `/` there is no memory at the address
abbrev pub refused : ℕ → Reply → Turn
refused address (On place) = Listen (Refused place)
refused address Over = Stop (NoWord address)
refused address Wrong = Stray

-- a character is heard, where this word is under way
abbrev pub hears : Target → Phase → ℕ → Turn
hears t Settle c = Listen Settle
hears t (Sync place) c = synced (resynchronise_reply place c)
hears t (Address place) c = addressed place (digit_echo t.address place c)
hears t Slash c = slash_hears c
hears t Before c = reads t (reading_start c)
hears t (Value value place) c = reads t (reading_rest value place c)
hears t (Close place) c = closed (return_reply place c)
hears t (Refused place) c = refused t.address (return_reply place c)
hears t (Ended end) c = Listen (Ended end)

-- nothing is heard for the quiet time
abbrev pub waits : Phase → Turn
waits Settle = Key resynchronise (Sync 0)
waits (Ended end) = Listen (Ended end)
waits _ = Timeout

-- a reader after a step, and the character that it sends
pub record ReaderStep : Type 0 where
  pub next : Reader
  pub key : Option ℕ

-- the reader goes on in a phase, nothing is sent
abbrev pub listens : Reader → Phase → ReaderStep
listens r phase = record { next = record r { phase = phase }; key = None }

-- the reader goes on in a phase and sends a character
abbrev pub sends : Reader → ℕ → Phase → ReaderStep
sends r key phase = record { next = record r { sent = r.sent + 1; phase = phase }; key = Some key }

-- the next word's address, or the end
abbrev pub next_word : Reader → ReaderStep
next_word r =
    if nat_lt (length r.values) (length r.addresses) then sends r (digit_of (address_under_way r) 1) (Address 1)
    else listens r (Ended Complete)

-- what a turn of the table does to the reader: a mishap is a character that the phase doesn't list, or a quiet time
abbrev pub taken : Reader → Turn → ReaderStep
taken r (Listen phase) = listens r phase
taken r (Key key phase) = sends r key phase
taken r (Read value) = sends (record r { values = r.values ++ value ∷ []; earlier = None }) carriage_return (Close 0)
taken r (Again value) = sends (record r { earlier = Some value }) carriage_return (Close 0)
taken r Next = next_word r
taken r (Stop end) = listens r (Ended end)
taken r Stray =
    if nat_lt r.spent r.patience then listens (record r { spent = r.spent + 1; earlier = None }) Settle
    else listens r (Ended GaveUp)
taken r Timeout =
    if nat_lt r.spent r.patience then sends (record r { spent = r.spent + 1; earlier = None }) resynchronise (Sync 0)
    else listens r (Ended GaveUp)

-- the numbers read so far, after a turn
abbrev pub values_after : List ℕ → Turn → List ℕ
values_after values (Read value) = values ++ value ∷ []
values_after values _ = values

-- whether a turn takes a number
abbrev pub is_read : Turn → Bool
is_read (Read value) = true
is_read _ = false

-- the turn that the table gives for a reader
abbrev pub turn_of : Reader → Heard → Turn
turn_of r (Got c) = hears (target_of r) r.phase c
turn_of r Quiet = waits r.phase

-- a reader that has counted what it hears where no loss explains it
abbrev pub counted : Reader → Heard → Reader
counted r heard = record r { foreign = count_after r.foreign (is_foreign (address_under_way r) r.phase heard) }

-- one step of the reading host
abbrev pub ask : Reader → Heard → ReaderStep
ask r heard = taken (counted r heard) (turn_of r heard)
