-- The lines of a script, which `rehearse` plays. Their forms are this project's choice (docs/SCRIPTS.md).
use Rattle.std.specs.Prelude.{◌≡◌, ℕ, ◌+◌, ◌*◌, ◌<◌, ◌≤◌, ◌⊎◌, List, [], ◌∷◌, ◌++◌, length, codes, ⊤}
use Rattle.std.specs.Char.{digit_value}
use Rattle.std.specs.Str.Parse.{AllDigits, digits_value}
use Rattle.octal.specs.Octal.{IsOct6}
use Rattle.odt_machine.specs.Machine.{largest_words}
use Rattle.odt_machine.specs.Style.{largest_style, style_number}
use Rattle.line_world.specs.declared.event.Event.TheVariants.{Take, Hear, LoseDown, LoseUp, ChangeDown, ChangeUp, Quiet, Restart}
use Rattle.line_world.specs.Wire.{most_waiting}
use Rattle.loss_scripts.specs.declared.line.ScriptLine.{ScriptLine}
use Rattle.loss_scripts.specs.declared.line.ScriptLine.TheVariants as line
use Rattle.loss_scripts.specs.declared.line.Setting.{Setting}
use Rattle.loss_scripts.specs.declared.line.Setting.TheVariants.{Words, OfStyle, Patience, Wait, Put}
use Rattle.loss_scripts.specs.declared.line.ScriptStep.{ScriptStep}
use Rattle.loss_scripts.specs.declared.line.ScriptStep.TheVariants.{Times, Until, Clean}

-- one to ten decimal digits, leading zeros among them, and their number
pub record IsNumber (text : List ℕ) (n : ℕ) : Type 0 where
  pub some : 0 < length text
  pub few : length text ≤ 10
  pub digits : AllDigits 10 text
  pub value : digits_value 10 text ≡ n

-- the largest number of 32 bits: a patience, the words that a restart keeps and the number of a `to` are no larger
abbrev pub largest_number : ℕ
largest_number = 4294967295

-- the last place in a queue that a line can name: no queue of a rehearsal is longer than that (this project's choice)
abbrev pub last_place : ℕ
last_place = 255

-- the most that one line repeats an event (this project's choice)
abbrev pub most_times : ℕ
most_times = 1000000

-- a form of line that has one number: its keyword, the least number that it may have and the largest
pub record Field : Type 0 where
  pub keyword : List ℕ
  pub low : ℕ
  pub high : ℕ

abbrev pub field : List ℕ → ℕ → ℕ → Field
field keyword low high = record { keyword = keyword; low = low; high = high }

-- a keyword with its space, and then a number from low to high
pub record HasNumber (text : List ℕ) (field : Field) (n : ℕ) : Type 0 where
  pub rest : List ℕ
  pub spelled : text ≡ field.keyword ++ rest
  pub number : IsNumber rest n
  pub above : field.low ≤ n
  pub below : n ≤ field.high

-- the text begins with the code of a character: a space and two hexadecimal digits, letters in either case
pub record BeginsWithCode (text : List ℕ) (c : ℕ) (rest : List ℕ) : Type 0 where
  pub high : ℕ
  pub low : ℕ
  pub spelled : text ≡ 32 ∷ high ∷ low ∷ rest
  pub high_digit : digit_value high < 16
  pub low_digit : digit_value low < 16
  pub value : c ≡ 16 * digit_value high + digit_value low

-- the text is the codes of these characters, and nothing else
abbrev pub AreCodes : List ℕ → List ℕ → Type 0
AreCodes text [] = text ≡ []
AreCodes text (c ∷ cs) = (rest : List ℕ) × BeginsWithCode text c rest × AreCodes rest cs

-- the line of one or more waiting characters, of no more than may wait
pub record IsWait (text characters : List ℕ) : Type 0 where
  pub rest : List ℕ
  pub spelled : text ≡ codes "wait" ++ rest
  pub codes : AreCodes rest characters
  pub some : 0 < length characters
  pub few : length characters ≤ most_waiting

-- the line that puts a word into memory: two numbers of six octal digits
pub record IsPut (text : List ℕ) (address value : ℕ) : Type 0 where
  pub first : List ℕ
  pub second : List ℕ
  pub spelled : text ≡ codes "put " ++ (first ++ 32 ∷ second)
  pub where_to : IsOct6 address first
  pub what : IsOct6 value second

-- what a setup line says, one row for each form
abbrev pub IsSetting : List ℕ → Setting → Type 0
IsSetting text (Words n) = HasNumber text (field (codes "words ") 0 largest_words) n
IsSetting text (OfStyle style) = HasNumber text (field (codes "style ") 0 largest_style) (style_number style)
IsSetting text (Patience n) = HasNumber text (field (codes "patience ") 0 largest_number) n
IsSetting text (Wait waiting) = IsWait text waiting.items
IsSetting text (Put address value) = IsPut text address value

-- an event so many times: the keyword alone for once, or with a count
abbrev pub IsCounted : List ℕ → List ℕ → List ℕ → ℕ → Type 0
IsCounted text alone counted n = ((text ≡ alone) × (n ≡ 1)) ⊎ HasNumber text (field counted 1 most_times) n

-- what an event line says, one row for each form; no line changes a character
abbrev pub IsStep : List ℕ → ScriptStep → Type 0
IsStep text (Times Take n) = IsCounted text (codes "take") (codes "take ") n
IsStep text (Times Hear n) = IsCounted text (codes "hear") (codes "hear ") n
IsStep text (Times (LoseDown k) n) = HasNumber text (field (codes "down ") 0 last_place) k × (n ≡ 1)
IsStep text (Times (LoseUp k) n) = HasNumber text (field (codes "up ") 0 last_place) k × (n ≡ 1)
IsStep text (Times (ChangeDown k c) n) = ⊥
IsStep text (Times (ChangeUp k c) n) = ⊥
IsStep text (Times Quiet n) = (text ≡ codes "quiet") × (n ≡ 1)
IsStep text (Times (Restart k) n) = HasNumber text (field (codes "restart ") 0 largest_number) k × (n ≡ 1)
IsStep text (Until n) = HasNumber text (field (codes "to ") 1 largest_number) n
IsStep text Clean = text ≡ codes "clean"

-- an empty line, or a comment, which begins with a number sign
abbrev pub IsBlank : List ℕ → Type 0
IsBlank [] = ⊤
IsBlank (c ∷ cs) = c ≡ 35

-- what a line of a script says
abbrev pub IsLine : List ℕ → ScriptLine → Type 0
IsLine text line.Blank = IsBlank text
IsLine text (line.Setting s) = IsSetting text s
IsLine text (line.Step s) = IsStep text s
