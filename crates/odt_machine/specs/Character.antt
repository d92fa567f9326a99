-- The characters that the console reads and prints, in ASCII (the console ODT chapter of DEC's
-- Microcomputer Processor Handbook). Digits are those of the crate octal.
use Rattle.std.specs.Prelude.{ℕ}

-- CR, which closes an open word when typed, and begins each new line
abbrev pub carriage_return : ℕ
carriage_return = 13

-- LF
abbrev pub line_feed : ℕ
line_feed = 10

-- `@`, which asks for a command
abbrev pub prompt : ℕ
prompt = 64

-- `?`, for a key that is illegal and where no memory answers
abbrev pub question_mark : ℕ
question_mark = 63

-- the space that stands after the digits of an opened word
abbrev pub space : ℕ
space = 32

-- `/`, which opens the word at the address typed before it
abbrev pub slash : ℕ
slash = 47

-- `G`, which starts the program at the address typed before it
abbrev pub go : ℕ
go = 71

-- `Z`, which no command uses (this project's choice)
abbrev pub resynchronise : ℕ
resynchronise = 90
