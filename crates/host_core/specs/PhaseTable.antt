-- The phase table: what the host does on what it hears (this project's choice). A host types one
-- character at a time, and waits in a phase for what the console has to answer (Answers). One table for a plain host, the default, and a careful
-- one, whose rows differ in the first look, in what differs behind a deposit, in a `?` for a reading, and in the key that resynchronises.
use Rattle.std.specs.Prelude.{ℕ, ◌+◌, Bool, true, not, ◌&&◌, ◌==◌, nat_lt, if◌then◌else◌, length, Option, Some, None}
use Rattle.octal.specs.Octal.{digit_of}
use Rattle.tape_image.specs.Word.{WordValue, merged}
use Rattle.host_core.specs.Answers.{refusal_reply, return_reply, digit_echo, reading_start, reading_rest}
use Rattle.host_core.specs.Console.{resynchronise_of, carriage_return, slash, go}
use Rattle.host_core.specs.Core.{Core, word_under_way, start_of}
use Rattle.host_core.specs.declared.answers.Reply.{Reply}
use Rattle.host_core.specs.declared.answers.Reply.TheVariants.{On, Over, Wrong}
use Rattle.host_core.specs.declared.answers.Echo.{Echo}
use Rattle.host_core.specs.declared.answers.Echo.TheVariants.{More, Whole, NoEcho}
use Rattle.host_core.specs.declared.answers.Reading.{Reading}
use Rattle.host_core.specs.declared.answers.Reading.TheVariants.{Digits, Number, NoMemory, NoReading}
use Rattle.host_core.specs.declared.phase.Phase.{Phase}
use Rattle.host_core.specs.declared.phase.Phase.TheVariants.{Settle, Sync, Address, Slash, Before, Value, Deposit, Return, Start, Go, Ended}
use Rattle.host_core.specs.declared.phase.Try.{Try}
use Rattle.host_core.specs.declared.phase.Try.TheVariants.{Only, First, Second}
use Rattle.host_core.specs.declared.phase.Visit.{Visit}
use Rattle.host_core.specs.declared.phase.Visit.TheVariants.{Look, Again, Check}
use Rattle.host_core.specs.declared.phase.Reason.{Reason}
use Rattle.host_core.specs.declared.phase.Reason.TheVariants.{Store, Reopen, Missing, Close}
use Rattle.host_core.specs.declared.phase.End.TheVariants.{Loaded, Started, Uncertain, GaveUp, NoWord, WontHold}
use Rattle.host_core.specs.declared.heard.Heard.{Heard}
use Rattle.host_core.specs.declared.heard.Heard.TheVariants.{Got, Quiet}
use Rattle.host_core.specs.declared.turn.Turn.{Turn}
use Rattle.host_core.specs.declared.turn.Turn.TheVariants.{Listen, Key, Verified, Revisit, Next, Mark, Stop, Stray, Timeout}

-- behind the answer to the key that resynchronises comes the next word
abbrev pub synced : Reply → Turn
synced (On place) = Listen (Sync place)
synced Over = Next
synced Wrong = Stray

-- Sync: the answer to that key
abbrev pub sync_hears : Bool → ℕ → ℕ → Turn
sync_hears careful place c = synced (refusal_reply (resynchronise_of careful) place c)

-- behind the echo of a digit the next is typed, to go on in phase `next`; after the sixth comes `last`
abbrev pub echoed : Echo → Phase → Turn → Turn
echoed (More digit) next last = Key digit next
echoed Whole next last = last
echoed NoEcho next last = Stray

-- Address: the echo of each of the six digits, then `/`
abbrev pub address_hears : ℕ → Visit → ℕ → ℕ → Turn
address_hears address visit place c = echoed (digit_echo address place c) (Address visit (place + 1)) (Key slash (Slash visit))

-- Slash: the echo of `/`
abbrev pub slash_hears : Visit → ℕ → Turn
slash_hears visit c = if c == slash then Listen (Before visit) else Stray

-- this value is deposited
abbrev pub mends : Try → ℕ → Turn
mends deposit value = Key (digit_of value 1) (Deposit deposit value 1)

-- the look of a plain host: the word stands where laying it over the reading changes nothing, else it is mended
abbrev pub looked_once : WordValue → ℕ → Turn
looked_once word value = if merged word value == value then Verified else mends Only (merged word value)

-- the first look of a careful host: where the tape gives the whole word and another one seems to stand there, nothing hangs on what was read;
-- else it is read again
abbrev pub looked_carefully : WordValue → ℕ → Turn
looked_carefully word value =
    if word.mask == 0o177777 && not (merged word value == value) then mends First (merged word value)
    else Key carriage_return (Return (Reopen value) 0)

-- a whole reading at the first look
abbrev pub looked : Bool → WordValue → ℕ → Turn
looked careful word value = if careful then looked_carefully word value else looked_once word value

-- the second look has to read the same
abbrev pub looked_again : WordValue → ℕ → ℕ → Turn
looked_again word first value =
    if not (value == first) then Stray
    else (if merged word value == value then Verified else mends First (merged word value))

-- a check that differs: memory doesn't hold the value, or a careful host deposits it once more, and then both checks have to read the same
abbrev pub differs : WordValue → Try → ℕ → ℕ → Turn
differs word Only stored value = Stop (WontHold word.address)
differs word First stored value = mends (Second value) stored
differs word (Second before) stored value = if not (value == before) then Stray else Stop (WontHold word.address)

-- the check after a deposit
abbrev pub checked : WordValue → Try → ℕ → ℕ → Turn
checked word deposit stored value = if merged word value == value then Verified else differs word deposit stored value

-- a whole reading on a visit
abbrev pub read : Bool → WordValue → Visit → ℕ → Turn
read careful word Look value = looked careful word value
read careful word (Again first) value = looked_again word first value
read careful word (Check deposit stored) value = checked word deposit stored value

-- a `?` for a reading: no memory answers at the address. One changed character can make it, so a careful host awaits the rest of the refusal
abbrev pub absent : Bool → ℕ → Turn
absent careful address = if careful then Listen (Return (Missing address) 0) else Stop (NoWord address)

-- a reading of the word on a visit: it goes on, it is whole, or there is no memory
abbrev pub reads : Bool → WordValue → Visit → Reading → Turn
reads careful word visit (Digits value count) = Listen (Value visit value count)
reads careful word visit (Number value) = read careful word visit value
reads careful word visit NoMemory = absent careful word.address
reads careful word visit NoReading = Stray

-- Before: the beginning of the reading
abbrev pub before_hears : Bool → WordValue → Visit → ℕ → Turn
before_hears careful word visit c = reads careful word visit (reading_start c)

-- Value: the rest of the reading
abbrev pub value_hears : Bool → WordValue → Visit → ℕ → ℕ → ℕ → Turn
value_hears careful word visit value place c = reads careful word visit (reading_rest value place c)

-- Deposit: the echo of each of the six digits, then CR
abbrev pub deposit_hears : Try → ℕ → ℕ → ℕ → Turn
deposit_hears deposit value place c =
    echoed (digit_echo value place c) (Deposit deposit value (place + 1)) (Key carriage_return (Return (Store deposit value) 0))

-- at the prompt after a CR: a stored word is read back, one that was looked at is looked at again, after a verified word comes the next. And
-- behind the rest of a refusal: no memory answers at the address
abbrev pub returned : Reason → Turn
returned (Store deposit value) = Revisit (Check deposit value)
returned (Reopen first) = Revisit (Again first)
returned (Missing address) = Stop (NoWord address)
returned Close = Next

-- the answer to the CR that was typed for a reason
abbrev pub returns : Reason → Reply → Turn
returns reason (On place) = Listen (Return reason place)
returns reason Over = returned reason
returns reason Wrong = Stray

-- Return: the answer to CR
abbrev pub return_hears : Reason → ℕ → ℕ → Turn
return_hears reason place c = returns reason (return_reply place c)

-- Start: the echo of each of the start address's six digits, then `G`
abbrev pub start_hears : ℕ → ℕ → ℕ → Turn
start_hears start place c = echoed (digit_echo start place c) (Start (place + 1)) Mark

-- Go: the echo of `G`
abbrev pub go_hears : ℕ → Turn
go_hears c = if c == go then Stop Started else Stop Uncertain

-- a character is heard, where `word` is under way and the start address is `start`
abbrev pub hears : Bool → WordValue → ℕ → Phase → ℕ → Turn
hears careful word start Settle c = Listen Settle
hears careful word start (Sync place) c = sync_hears careful place c
hears careful word start (Address visit place) c = address_hears word.address visit place c
hears careful word start (Slash visit) c = slash_hears visit c
hears careful word start (Before visit) c = before_hears careful word visit c
hears careful word start (Value visit value place) c = value_hears careful word visit value place c
hears careful word start (Deposit deposit value place) c = deposit_hears deposit value place c
hears careful word start (Return reason place) c = return_hears reason place c
hears careful word start (Start place) c = start_hears start place c
hears careful word start Go c = go_hears c
hears careful word start (Ended end) c = Listen (Ended end)

-- nothing is heard for the quiet time
abbrev pub waits : Bool → Phase → Turn
waits careful Settle = Key (resynchronise_of careful) (Sync 0)
waits careful Go = Stop Uncertain
waits careful (Ended end) = Listen (Ended end)
waits careful _ = Timeout

-- a core after a step, and the character that it sends
pub record Move : Type 0 where
  pub next : Core
  pub key : Option ℕ

-- the core goes on in a phase, nothing is sent
abbrev pub listens : Core → Phase → Move
listens core phase = record {
  next = record core { phase = phase };
  key = None;
}

-- the core goes on in a phase and sends a character
abbrev pub sends : Core → ℕ → Phase → Move
sends core key phase = record {
  next = record core { sent = core.sent + 1; phase = phase };
  key = Some key;
}

-- with all words verified: the start address, where there is one
abbrev pub after_words : Core → Option ℕ → Move
after_words core (Some start) = sends core (digit_of start 1) (Start 1)
after_words core None = listens core (Ended Loaded)

-- the next word's address, or the start
abbrev pub next_word : Core → Move
next_word core =
    if nat_lt core.verified (length core.plan.words) then sends core (digit_of (word_under_way core).address 1) (Address Look 1)
    else after_words core core.plan.start

-- what a turn of the table does to the core: a mishap is a character that the phase doesn't list, or a quiet time
abbrev pub taken : Core → Turn → Move
taken core (Listen phase) = listens core phase
taken core (Key key phase) = sends core key phase
taken core Verified = sends (record core { verified = core.verified + 1 }) carriage_return (Return Close 0)
taken core (Revisit visit) = sends core (digit_of (word_under_way core).address 1) (Address visit 1)
taken core Next = next_word core
taken core Mark = sends (record core { going = true }) go Go
taken core (Stop end) = listens core (Ended end)
taken core Stray =
    if nat_lt core.spent core.patience then listens (record core { spent = core.spent + 1 }) Settle
    else listens core (Ended GaveUp)
taken core Timeout =
    if nat_lt core.spent core.patience then sends (record core { spent = core.spent + 1 }) (resynchronise_of core.careful) (Sync 0)
    else listens core (Ended GaveUp)

-- the turn that the table gives for a core
abbrev pub turn_of : Core → Heard → Turn
turn_of core (Got c) = hears core.careful (word_under_way core) (start_of core) core.phase c
turn_of core Quiet = waits core.careful core.phase

-- one step of the host
abbrev pub move : Core → Heard → Move
move core heard = taken core (turn_of core heard)
