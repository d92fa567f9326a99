-- The table of a host that tests memory: what it does on what it hears (this project's choice). It types one character at a
-- time and waits in a phase for what the console has to answer (host_core's Answers). Of a word it types the address and `/`, reads
-- the six digits that memory holds and closes it with CR; it looks once more, and where it reads the same it types the digits of
-- another number, and CR, which stores it; it looks whether memory holds that, and types what the word held before into the word
-- that is open anyway; and looks once more.
use Rattle.std.specs.Prelude.{◌≡◌, ℕ, ◌+◌, Bool, true, false, ◌==◌, ◌⊎◌, nat_lt, if◌then◌else◌, List, [], ◌∷◌, ◌++◌, length, Option, Some, None, ⊤}
use Rattle.octal.specs.Octal.{digit_of, is_digit}
use Rattle.host_core.specs.declared.answers.Reply.{Reply}
use Rattle.host_core.specs.declared.answers.Reply.TheVariants.{On, Over, Wrong}
use Rattle.host_core.specs.declared.answers.Echo.{Echo}
use Rattle.host_core.specs.declared.answers.Echo.TheVariants.{More, Whole, NoEcho}
use Rattle.host_core.specs.declared.answers.Reading.{Reading}
use Rattle.host_core.specs.declared.answers.Reading.TheVariants.{Digits, Number, NoMemory, NoReading}
use Rattle.host_core.specs.declared.heard.Heard.{Heard}
use Rattle.host_core.specs.declared.heard.Heard.TheVariants.{Got, Quiet}
use Rattle.memory_core.specs.declared.phase.Visit.{Visit}
use Rattle.memory_core.specs.declared.phase.Visit.TheVariants.{Look, Check}
use Rattle.host_core.specs.Answers.{resynchronise_reply, return_reply, digit_echo, reading_start, reading_rest}
use Rattle.host_core.specs.Console.{resynchronise, carriage_return, slash}
use Rattle.memory_core.specs.Tester.{Tester, address_under_way}
use Rattle.memory_core.specs.Stage.{number_of}
use Rattle.memory_core.specs.declared.phase.Phase.{Phase}
use Rattle.memory_core.specs.declared.phase.Phase.TheVariants.{Settle, Sync, Address, Slash, Before, Value, Deposit, Return, Close, Ended}
use Rattle.memory_core.specs.declared.phase.End.TheVariants.{Complete, GaveUp, NoWord}
use Rattle.memory_core.specs.declared.seen.Seen.{Seen}
use Rattle.memory_core.specs.declared.seen.Seen.TheVariants.{Unsteady, Tested}
use Rattle.memory_core.specs.declared.stage.Stage.{Stage}
use Rattle.memory_core.specs.declared.stage.Stage.TheVariants.{Unseen, Once, Turned, Returned}
use Rattle.memory_core.specs.declared.turn.Turn.{Turn}
use Rattle.memory_core.specs.declared.turn.Turn.TheVariants.{Listen, Key, LooksAgain, Deposits, Counts, ReadBack, Next, Stop, Stray, Timeout}

-- Sync: behind the answer to `Z` comes the word under way, from its address on
abbrev pub synced : Reply → Turn
synced (On place) = Listen (Sync place)
synced Over = Next
synced Wrong = Stray

-- Address: behind the echo of a digit the next is typed, after the sixth `/`
abbrev pub addressed : Visit → ℕ → Echo → Turn
addressed visit place (More digit) = Key digit (Address visit (place + 1))
addressed visit place Whole = Key slash (Slash visit)
addressed visit place NoEcho = Stray

-- Slash: the echo of `/`
abbrev pub slash_hears : Visit → ℕ → Turn
slash_hears visit c = if c == slash then Listen (Before visit) else Stray

-- two looks at the word: where they read alike, this is what it holds, and the complement is typed into it; else it is a bad word
abbrev pub second_look : ℕ → ℕ → Turn
second_look first second = if second == first then Deposits (Turned second) else Counts (Unsteady first second)

-- a whole reading of the word under way
abbrev pub read : Stage → Visit → ℕ → Turn
-- it was read for the first time: nothing is typed into it before it was read twice
read Unseen visit value = LooksAgain value
read (Once first) visit value = second_look first value
-- behind the deposit of the complement this is what it reads as, right or wrong: what it held is typed into it again
read (Turned old) Check value = Deposits (Returned old value)
-- behind the deposit of that this is what it reads as, right or wrong: that was all
read (Returned old turned) Check value = Counts (Tested (record { old = old; turned = turned; back = value }))
-- behind a mishap the number that was to be deposited is typed once more, whatever the word holds
read (Turned old) Look value = Deposits (Turned old)
read (Returned old turned) Look value = Deposits (Returned old turned)

-- Before and Value: a reading of the word goes on, it is whole, or there is no memory
abbrev pub reads : ℕ → Stage → Visit → Reading → Turn
reads address stage visit (Digits value count) = Listen (Value visit value count)
reads address stage visit (Number value) = read stage visit value
reads address stage visit NoMemory = Stop (NoWord address)
reads address stage visit NoReading = Stray

-- Deposit: behind the echo of a digit the next is typed, after the sixth CR
abbrev pub deposited : ℕ → Echo → Turn
deposited place (More digit) = Key digit (Deposit (place + 1))
deposited place Whole = Key carriage_return (Return 0)
deposited place NoEcho = Stray

-- Return: behind the answer to the CR that stores the word is read back
abbrev pub returned : Reply → Turn
returned (On place) = Listen (Return place)
returned Over = ReadBack
returned Wrong = Stray

-- Close: behind the answer to the CR that closes the word comes the next
abbrev pub closed : Reply → Turn
closed (On place) = Listen (Close place)
closed Over = Next
closed Wrong = Stray

-- a character is heard, where the word at `address` is under way and this is known of it
abbrev pub hears : ℕ → Stage → Phase → ℕ → Turn
hears address stage Settle c = Listen Settle
hears address stage (Sync place) c = synced (resynchronise_reply place c)
hears address stage (Address visit place) c = addressed visit place (digit_echo address place c)
hears address stage (Slash visit) c = slash_hears visit c
hears address stage (Before visit) c = reads address stage visit (reading_start c)
hears address stage (Value visit value place) c = reads address stage visit (reading_rest value place c)
hears address stage (Deposit place) c = deposited place (digit_echo (number_of stage) place c)
hears address stage (Return place) c = returned (return_reply place c)
hears address stage (Close place) c = closed (return_reply place c)
hears address stage (Ended end) c = Listen (Ended end)

-- nothing is heard for the quiet time
abbrev pub waits : Phase → Turn
waits Settle = Key resynchronise (Sync 0)
waits (Ended end) = Listen (Ended end)
waits _ = Timeout

-- a tester after a step, and the character that it sends
pub record TesterStep : Type 0 where
  pub next : Tester
  pub key : Option ℕ

-- the tester goes on in a phase, nothing is sent
abbrev pub listens : Tester → Phase → TesterStep
listens t phase = record { next = record t { phase = phase }; key = None }

-- the tester goes on in a phase and sends a character
abbrev pub sends : Tester → ℕ → Phase → TesterStep
sends t key phase = record { next = record t { sent = t.sent + 1; phase = phase }; key = Some key }

-- the word under way, from its address on, or the end
abbrev pub next_word : Tester → TesterStep
next_word t =
    if nat_lt (length t.seen) (length t.addresses) then sends t (digit_of (address_under_way t) 1) (Address Look 1)
    else listens t (Ended Complete)

-- what a turn of the table does to the tester: a mishap is a character that the phase doesn't list, or a quiet time
abbrev pub taken : Tester → Turn → TesterStep
taken t (Listen phase) = listens t phase
taken t (Key key phase) = sends t key phase
taken t (LooksAgain first) = sends (record t { stage = Once first }) carriage_return (Close 0)
taken t (Deposits stage) = sends (record t { stage = stage }) (digit_of (number_of stage) 1) (Deposit 1)
taken t (Counts word) = sends (record t { seen = t.seen ++ word ∷ []; stage = Unseen }) carriage_return (Close 0)
taken t ReadBack = sends t (digit_of (address_under_way t) 1) (Address Check 1)
taken t Next = next_word t
taken t (Stop end) = listens t (Ended end)
taken t Stray =
    if nat_lt t.spent t.patience then listens (record t { spent = t.spent + 1 }) Settle
    else listens t (Ended GaveUp)
taken t Timeout =
    if nat_lt t.spent t.patience then sends (record t { spent = t.spent + 1 }) resynchronise (Sync 0)
    else listens t (Ended GaveUp)

-- what was read so far, after a turn
abbrev pub seen_after : List Seen → Turn → List Seen
seen_after seen (Counts word) = seen ++ word ∷ []
seen_after seen _ = seen

-- whether a word counts with a turn
abbrev pub counts : Turn → Bool
counts (Counts word) = true
counts _ = false

-- the turn that the table gives for a tester
abbrev pub turn_of : Tester → Heard → Turn
turn_of t (Got c) = hears (address_under_way t) t.stage t.phase c
turn_of t Quiet = waits t.phase

-- one step of the tester
abbrev pub ask : Tester → Heard → TesterStep
ask t heard = taken t (turn_of t heard)

-- a key that starts nothing, whatever the console is in the middle of: a digit, `/`, CR or `Z`
abbrev pub IsTesting : ℕ → Type 0
IsTesting c = (is_digit c ≡ true) ⊎ ((c ≡ slash) ⊎ ((c ≡ carriage_return) ⊎ (c ≡ resynchronise)))

-- the character that is sent, if any, is so
abbrev pub KeyTests : Option ℕ → Type 0
KeyTests None = ⊤
KeyTests (Some c) = IsTesting c
