-- The table of a host that tries whether a console forgets digits: what it does on what it hears (this project's choice). It
-- opens the word at its address as a host does that only looks, types three digits into it, then `Z`, and at the prompt `a`. It
-- types no CR, which alone stores, and no `G`, which alone starts a program.
use Rattle.std.specs.Prelude.{◌≡◌, ℕ, ◌+◌, true, ◌==◌, ◌⊎◌, nat_lt, if◌then◌else◌, Option, Some, None, ⊤}
use Rattle.octal.specs.Octal.{digit_of, is_digit}
use Rattle.host_core.specs.declared.answers.Reply.{Reply}
use Rattle.host_core.specs.declared.answers.Reply.TheVariants.{On, Over, Wrong}
use Rattle.host_core.specs.declared.answers.Echo.{Echo}
use Rattle.host_core.specs.declared.answers.Echo.TheVariants.{More, Whole, NoEcho}
use Rattle.host_core.specs.declared.answers.Reading.{Reading}
use Rattle.host_core.specs.declared.answers.Reading.TheVariants.{Digits, Number, NoMemory, NoReading}
use Rattle.host_core.specs.declared.heard.Heard.{Heard}
use Rattle.host_core.specs.declared.heard.Heard.TheVariants.{Got, Quiet}
use Rattle.host_core.specs.Answers.{refusal_reply, resynchronise_reply, digit_echo, reading_start, reading_rest}
use Rattle.host_core.specs.Console.{resynchronise, slash}
use Rattle.trial_core.specs.declared.phase.Phase.{Phase}
use Rattle.trial_core.specs.declared.phase.Phase.TheVariants.{Settle, Sync, Address, Slash, Before, Value, Typed, Done, Letter, Refused, Ended}
use Rattle.trial_core.specs.declared.phase.End.TheVariants.{Tried, GaveUp, NoWord}
use Rattle.trial_core.specs.declared.letter.SmallLetters.{SmallLetters}
use Rattle.trial_core.specs.declared.letter.SmallLetters.TheVariants.{Kept, Folded}
use Rattle.trial_core.specs.declared.turn.Turn.{Turn}
use Rattle.trial_core.specs.declared.turn.Turn.TheVariants.{Listen, Key, Stop, Stray, Timeout}
use Rattle.trial_core.specs.declared.trial.Trial.{Trial}
use Rattle.trial_core.specs.Letter.{small_letter, capital_letter}
use Rattle.trial_core.specs.Style.{seen_after}

-- Sync: behind the first answer to `Z` the address is typed
abbrev pub synced : ℕ → Reply → Turn
synced address (On place) = Listen (Sync place)
synced address Over = Key (digit_of address 1) (Address 1)
synced address Wrong = Stray

-- Address: behind the echo of a digit of the address the next is typed, after the sixth `/`
abbrev pub addressed : ℕ → Echo → Turn
addressed place (More digit) = Key digit (Address (place + 1))
addressed place Whole = Key slash Slash
addressed place NoEcho = Stray

-- Slash: the echo of `/`
abbrev pub slash_hears : ℕ → Turn
slash_hears c = if c == slash then Listen Before else Stray

-- Before and Value: behind a whole reading the word is open, and the first of the last three digits is typed into it
abbrev pub reads : ℕ → Reading → Turn
reads digits (Digits number count) = Listen (Value count)
reads digits (Number number) = Key (digit_of digits 4) (Typed 1)
reads digits NoMemory = Stop NoWord
reads digits NoReading = Stray

-- Typed: behind the echo of a digit that was typed into the open word the next is typed, after the third `Z`
abbrev pub typed : ℕ → Echo → Turn
typed place (More digit) = Key digit (Typed (place + 1))
typed place Whole = Key resynchronise (Done 0)
typed place NoEcho = Stray

-- Done: behind the last answer to `Z` the small letter is typed
abbrev pub finished : Reply → Turn
finished (On place) = Listen (Done place)
finished Over = Key small_letter Letter
finished Wrong = Stray

-- Letter: the echo of the small letter, as it was typed or as a capital; with anything else the trial is over, and nothing was seen of it
abbrev pub echoed : ℕ → Turn
echoed c = if c == small_letter then Listen (Refused Kept 1) else (if c == capital_letter then Listen (Refused Folded 1) else Stop Tried)

-- Refused: the rest of the answer to the small letter; behind it, and with anything else, the trial is over
abbrev pub refused : SmallLetters → Reply → Turn
refused letters (On place) = Listen (Refused letters place)
refused letters Over = Stop Tried
refused letters Wrong = Stop Tried

-- a character is heard; which number the word holds was read before, so its digits are counted as those of zero
abbrev pub hears : ℕ → ℕ → Phase → ℕ → Turn
hears address digits Settle c = Listen Settle
hears address digits (Sync place) c = synced address (resynchronise_reply place c)
hears address digits (Address place) c = addressed place (digit_echo address place c)
hears address digits Slash c = slash_hears c
hears address digits Before c = reads digits (reading_start c)
hears address digits (Value place) c = reads digits (reading_rest 0 place c)
hears address digits (Typed place) c = typed place (digit_echo digits (place + 3) c)
hears address digits (Done place) c = finished (resynchronise_reply place c)
hears address digits Letter c = echoed c
hears address digits (Refused letters place) c = refused letters (refusal_reply small_letter place c)
hears address digits (Ended end) c = Listen (Ended end)

-- nothing is heard for the quiet time
abbrev pub waits : Phase → Turn
waits Settle = Key resynchronise (Sync 0)
waits Letter = Stop Tried
waits (Refused letters place) = Stop Tried
waits (Ended end) = Listen (Ended end)
waits _ = Timeout

-- a trial after a step, and the character that it sends
pub record TrialStep : Type 0 where
  pub next : Trial
  pub key : Option ℕ

-- the trial goes on in a phase, nothing is sent
abbrev pub listens : Trial → Phase → TrialStep
listens t phase = record { next = record t { phase = phase }; key = None }

-- the trial goes on in a phase and sends a character
abbrev pub sends : Trial → ℕ → Phase → TrialStep
sends t key phase = record { next = record t { phase = phase }; key = Some key }

-- what a turn of the table does to the trial: a mishap is a character that the phase doesn't list, or a quiet time
abbrev pub taken : Trial → Turn → TrialStep
taken t (Listen phase) = listens t phase
taken t (Key key phase) = sends t key phase
taken t (Stop end) = listens t (Ended end)
taken t Stray =
    if nat_lt t.spent t.patience then listens (record t { spent = t.spent + 1 }) Settle
    else listens t (Ended GaveUp)
taken t Timeout =
    if nat_lt t.spent t.patience then sends (record t { spent = t.spent + 1 }) resynchronise (Sync 0)
    else listens t (Ended GaveUp)

-- the turn that the table gives for a trial
abbrev pub turn_of : Trial → Heard → Turn
turn_of t (Got c) = hears t.address t.digits t.phase c
turn_of t Quiet = waits t.phase

-- the trial notes what it sees of the console's style
abbrev pub noted : Trial → Heard → Trial
noted t heard = record t { seen = seen_after t.seen t.phase heard }

-- one step of the trial
abbrev pub ask : Trial → Heard → TrialStep
ask t heard = taken (noted t heard) (turn_of t heard)

-- a key that stores nothing and starts nothing, whatever the console is in the middle of: a digit, `/`, `Z` or `a`
abbrev pub IsTrying : ℕ → Type 0
IsTrying c = (is_digit c ≡ true) ⊎ ((c ≡ slash) ⊎ ((c ≡ resynchronise) ⊎ (c ≡ small_letter)))

-- the character that is sent, if any, is so
abbrev pub KeyTries : Option ℕ → Type 0
KeyTries None = ⊤
KeyTries (Some c) = IsTrying c
