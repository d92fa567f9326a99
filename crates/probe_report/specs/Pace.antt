-- How fast a probe went, as it is printed (this project's own).
use Rattle.std.specs.Prelude.{ℕ, ◌+◌, ◌*◌, ◌/◌, ◌%◌, nat_lt, if◌then◌else◌, List, [], ◌++◌, codes, decimal, Option, Some, None}
use Rattle.byte_io.specs.Text.{line}

-- how many units a time is, rounded to the nearest
abbrev pub nearest : ℕ → ℕ → ℕ
nearest time unit = (time + unit / 2) / unit

-- the time of a key, given in microseconds, in milliseconds with one place
abbrev pub key_lines : Option ℕ → List ℕ
key_lines None = []
key_lines (Some key) = line (codes "key " ++ decimal (nearest key 100 / 10) ++ codes "." ++ decimal (nearest key 100 % 10) ++ codes " ms")

-- the characters on the line for a word that is deposited: 22 keys and 40 answers
abbrev pub load_characters : ℕ
load_characters = 62

-- and for one that is looked at: 8 keys and 17 answers. So what a look takes in microseconds a character takes in twenty-fifths of one
abbrev pub look_characters : ℕ
look_characters = 25

-- the time of a load of so many words, in twenty-fifths of a microsecond
abbrev pub load_time : ℕ → ℕ → ℕ
load_time look words = look * load_characters * words

-- a second, in these
abbrev pub second : ℕ
second = 1000000 * look_characters

-- a minute, in these
abbrev pub minute : ℕ
minute = 60 * second

-- an hour, in these
abbrev pub hour : ℕ
hour = 60 * minute

-- a time that is given in twenty-fifths of a microsecond: in seconds below 120 of them, in minutes below 120 of them, else in hours
abbrev pub duration_text : ℕ → List ℕ
duration_text time =
    if nat_lt time (120 * second) then decimal (nearest time second) ++ codes " seconds"
    else if nat_lt time (120 * minute) then decimal (nearest time minute) ++ codes " minutes"
    else decimal (nearest time hour) ++ codes " hours"

-- the time of a load of so many words, where a look took so many microseconds
abbrev pub load_lines : Option ℕ → ℕ → List ℕ
load_lines None words = []
load_lines (Some look) words =
    line (codes "a load of " ++ decimal words ++ codes " words takes " ++ duration_text (load_time look words) ++ codes " at this pace")
