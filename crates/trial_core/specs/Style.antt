-- What a trial sees of a console's style, and of small letters, in the answers that it hears (this project's choice).
use Rattle.std.specs.Prelude.{ℕ, ◌==◌, if◌then◌else◌}
use Rattle.octal.specs.Octal.{is_first_digit}
use Rattle.host_core.specs.declared.heard.Heard.{Heard}
use Rattle.host_core.specs.declared.heard.Heard.TheVariants.{Got}
use Rattle.host_core.specs.declared.answers.Reply.{Reply}
use Rattle.host_core.specs.declared.answers.Reply.TheVariants.{Over}
use Rattle.host_core.specs.Answers.{refusal_reply}
use Rattle.host_core.specs.Console.{resynchronise, question_mark, carriage_return, line_feed, space}
use Rattle.trial_core.specs.declared.phase.Phase.{Phase}
use Rattle.trial_core.specs.declared.phase.Phase.TheVariants.{Sync, Before, Done, Refused}
use Rattle.trial_core.specs.declared.habit.Habit.{Habit}
use Rattle.trial_core.specs.declared.habit.Habit.TheVariants.{Unseen, Yes, No, Mixed}
use Rattle.trial_core.specs.declared.habit.Seen.{Seen}
use Rattle.trial_core.specs.declared.letter.SmallLetters.{SmallLetters}
use Rattle.trial_core.specs.Letter.{small_letter}

-- a thing that was seen once more: seen both ways it is mixed
abbrev pub and_then : Habit → Habit → Habit
and_then Unseen now = now
and_then before Unseen = before
and_then Yes Yes = Yes
and_then No No = No
and_then _ _ = Mixed

-- of two characters that may come at a place, one shows that the console does a thing, and the other that it does not
abbrev pub shown : ℕ → ℕ → ℕ → Habit
shown does does_not c = if c == does then Yes else if c == does_not then No else Unseen

-- the first character of the answer to `Z`: its echo, or `?`
abbrev pub echo_seen : Seen → ℕ → Seen
echo_seen seen c = record seen { echo_illegal = and_then seen.echo_illegal (shown resynchronise question_mark c) }

-- behind the first CR of a prompt: a second one, or LF
abbrev pub returns_seen : Seen → ℕ → Seen
returns_seen seen c = record seen { two_returns = and_then seen.two_returns (shown carriage_return line_feed c) }

-- behind the echo of `/`: a space, or the first digit, which is 0 or 1
abbrev pub space_seen : Seen → ℕ → Seen
space_seen seen c =
    record seen { space_before = and_then seen.space_before (if c == space then Yes else if is_first_digit c then No else Unseen) }

-- the answer to `Z`, at a place
abbrev pub reply_seen : Seen → ℕ → ℕ → Seen
reply_seen seen place c = if place == 0 then echo_seen seen c else if place == 3 then returns_seen seen c else seen

-- the answer to the small letter: what its echo showed holds once the prompt is there
abbrev pub letters_seen : Seen → SmallLetters → Reply → Seen
letters_seen seen letters Over = record seen { small_letters = letters }
letters_seen seen letters reply = seen

-- what was seen, after one thing more was heard in a phase
abbrev pub seen_after : Seen → Phase → Heard → Seen
seen_after seen (Sync place) (Got c) = reply_seen seen place c
seen_after seen (Done place) (Got c) = reply_seen seen place c
seen_after seen Before (Got c) = space_seen seen c
seen_after seen (Refused letters place) (Got c) = letters_seen seen letters (refusal_reply small_letter place c)
seen_after seen phase heard = seen
