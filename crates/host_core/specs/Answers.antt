-- What a console answers to what a host types, and how far one character brings the answer: said once for every host, each of
-- which says in its own table what it makes of that (this project's choice). Places are counted as in the phases: the digits of
-- a number from 1, all others from 0.
use Rattle.std.specs.Prelude.{ℕ, ◌+◌, ◌*◌, ◌==◌, nat_lt, if◌then◌else◌}
use Rattle.octal.specs.Octal.{digit_of, digit_value, is_digit, is_first_digit}
use Rattle.host_core.specs.Console.{resynchronise, question_mark, carriage_return, line_feed, prompt, space}
use Rattle.host_core.specs.declared.answers.Reply.{Reply}
use Rattle.host_core.specs.declared.answers.Reply.TheVariants.{On, Over, Wrong}
use Rattle.host_core.specs.declared.answers.Echo.{Echo}
use Rattle.host_core.specs.declared.answers.Echo.TheVariants.{More, Whole, NoEcho}
use Rattle.host_core.specs.declared.answers.Reading.{Reading}
use Rattle.host_core.specs.declared.answers.Reading.TheVariants.{Digits, Number, NoMemory, NoReading}

-- the answer to a key that is no command, with or without its echo, with one CR or two, up to the prompt
abbrev pub refusal_reply : ℕ → ℕ → ℕ → Reply
refusal_reply key place c =
    if place == 0 then (if c == key then On 1 else (if c == question_mark then On 2 else Wrong))
    else (if place == 1 then (if c == question_mark then On 2 else Wrong)
    else (if place == 2 then (if c == carriage_return then On 3 else Wrong)
    else (if place == 3 then (if c == carriage_return then On 4 else (if c == line_feed then On 5 else Wrong))
    else (if place == 4 then (if c == line_feed then On 5 else Wrong)
    else (if c == prompt then Over else Wrong)))))

-- the answer to `Z`
abbrev pub resynchronise_reply : ℕ → ℕ → Reply
resynchronise_reply place c = refusal_reply resynchronise place c

-- the answer to CR, one CR or two, up to the prompt
abbrev pub return_reply : ℕ → ℕ → Reply
return_reply place c =
    if place == 0 then (if c == carriage_return then On 1 else Wrong)
    else (if place == 1 then (if c == carriage_return then On 2 else (if c == line_feed then On 3 else Wrong))
    else (if place == 2 then (if c == line_feed then On 3 else Wrong)
    else (if c == prompt then Over else Wrong)))

-- the echo of one of a number's six digits: the next one is to be typed, or the number is whole
abbrev pub digit_echo : ℕ → ℕ → ℕ → Echo
digit_echo number place c = if c == digit_of number place then (if nat_lt place 6 then More (digit_of number (place + 1)) else Whole) else NoEcho

-- the first of a reading's six digits, which is 0 or 1
abbrev pub first_digit : ℕ → Reading
first_digit c = if is_first_digit c then Digits (digit_value c) 1 else NoReading

-- the beginning of a reading, with or without a space before it, or `?` where there is no memory
abbrev pub reading_start : ℕ → Reading
reading_start c =
    if c == space then Digits 0 0
    else (if c == question_mark then NoMemory
    else first_digit c)

-- the rest of a reading, of which so many digits came, that make this number: six digits and then a space
abbrev pub reading_rest : ℕ → ℕ → ℕ → Reading
reading_rest number count c =
    if count == 0 then first_digit c
    else (if nat_lt count 6 then (if is_digit c then Digits (8 * number + digit_value c) (count + 1) else NoReading)
    else (if c == space then Number number else NoReading))
