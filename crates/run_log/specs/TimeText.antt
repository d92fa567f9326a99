-- A time as a text (this project's own).
use Rattle.std.specs.Prelude.{◌≡◌, ◌⊎◌, ℕ, ◌+◌, ◌/◌, ◌%◌, ◌<◌, List, [], ◌∷◌, ◌++◌, Option, Some, None, codes, pos, unsigned_abs}
use Rattle.jiff_core.specs.Date.{epoch_day}
use Rattle.jiff_core.specs.declared.civil.date.Date.{Date}

-- a number below 100 in two digits
abbrev pub two_digits : ℕ → List ℕ
two_digits n = (48 + n / 10) ∷ (48 + n % 10) ∷ []

-- a date of the years 0 to 9999: YYYY-MM-DD
abbrev pub date_text : Date → List ℕ
date_text date =
    two_digits (unsigned_abs date.year / 100) ++ (two_digits (unsigned_abs date.year % 100)
    ++ (codes "-" ++ (two_digits date.month ++ (codes "-" ++ two_digits date.day))))

-- a second of a day: HH:MM:SS
abbrev pub clock_text : ℕ → List ℕ
clock_text second = two_digits (second / 3600) ++ (codes ":" ++ (two_digits (second / 60 % 60) ++ (codes ":" ++ two_digits (second % 60))))

-- the text is the time so many seconds behind the beginning of 1970, in UTC
pub record IsUtc (seconds : ℕ) (text : List ℕ) : Type 0 where
  pub date : Date
  pub day : epoch_day date ≡ pos (seconds / 86400)
  pub text_is : text ≡ date_text date ++ (codes "T" ++ (clock_text (seconds % 86400) ++ codes "Z"))

-- the text is the time that a clock has, in seconds since 1970 began, where it can be read; a day behind the year 9999 has no text
abbrev pub IsTimeText : Option ℕ → List ℕ → Type 0
IsTimeText None text = text ≡ codes "-"
IsTimeText (Some seconds) text = IsUtc seconds text ⊎ ((2_932_896 < seconds / 86400) × (text ≡ codes "-"))
