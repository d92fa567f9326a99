-- Words as octal text: what a line says, and what a text says (this project's own).
use Rattle.std.specs.Prelude.{◌≡◌, ◌==◌, ◌⊎◌, ◌||◌, ℕ, ◌+◌, ◌-◌, ◌*◌, ◌%◌, ◌<◌, ◌≤◌, Bool, not, nat_lt, if◌then◌else◌}
use Rattle.std.specs.Prelude.{List, [], ◌∷◌, ◌++◌, length, replicate, Option, Some, None, Result, Ok, Err}
use Rattle.std.specs.List.{AllZip, filter, slice_split, before_first, after_first, position_or_len, flat_map}
use Rattle.std.specs.Option.{option_to_list}
use Rattle.octal.specs.Octal.{IsOct6}
use Rattle.tape_values.specs.Block.{BlockValue, block_at, low_first, top}
use Rattle.tape_making.specs.declared.refusal.WordsWhy.{WordsWhy}
use Rattle.tape_making.specs.declared.refusal.WordsWhy.TheVariants.{BadNumber, NoWords, OddAddress, PastTop, TooLong}
use Rattle.tape_making.specs.declared.refusal.Refusal.{Refusal}

-- what parts numbers: a space, a tab, and the CR of a line that ends with CR LF
abbrev pub is_blank : ℕ → Bool
is_blank c = c == 32 || (c == 9 || c == 13)

-- what begins a remark: `;` and `#`
abbrev pub is_remark : ℕ → Bool
is_remark c = c == 59 || c == 35

-- `/`, which ODT shows behind an address
abbrev pub is_slash : ℕ → Bool
is_slash c = c == 47

-- a number: one to six characters, which with zeros before them are the six octal digits of a word, so 177777 at most
pub record IsNumber (text : List ℕ) (n : ℕ) : Type 0 where
  pub some : 0 < length text
  pub few : length text ≤ 6
  pub padded : IsOct6 n (replicate (6 - length text) 48 ++ text)

-- what stands between blanks
abbrev pub fields : List ℕ → List (List ℕ)
fields text = filter (λ field. not (length field == 0)) (slice_split is_blank text)

-- a text is these numbers, with blanks between them and around
abbrev pub AreNumbers : List ℕ → List ℕ → Type 0
AreNumbers text numbers = AllZip IsNumber (fields text) numbers

-- a line without its remark
abbrev pub without_remark : List ℕ → List ℕ
without_remark line = before_first is_remark line

-- a text is these numbers, and a slash may stand behind the first of them
pub record HasNumbers (text numbers : List ℕ) : Type 0 where
  pub before : List ℕ
  pub behind : List ℕ
  pub are : AreNumbers (before_first is_slash text) before
  pub are_behind : AreNumbers (after_first is_slash text) behind
  pub slash : position_or_len is_slash text < length text → length before ≡ 1
  pub all : numbers ≡ before ++ behind

-- what the numbers of a line say: nothing, or the bytes of these words from an address on, low bytes first; or why they are wrong
abbrev pub judged : List ℕ → Result (Option BlockValue) WordsWhy
judged [] = Ok None
judged (address ∷ []) = Err NoWords
judged (address ∷ (word ∷ words)) =
    if address % 2 == 1 then Err OddAddress
    else (if nat_lt top (address + 2 * length (word ∷ words)) then Err PastTop
    else Ok (Some (block_at address (flat_map low_first (word ∷ words)))))

-- what a line says, or why it is wrong
abbrev pub Says : List ℕ → Result (Option BlockValue) WordsWhy → Type 0
Says line said =
    ((numbers : List ℕ) × HasNumbers (without_remark line) numbers × (said ≡ judged numbers))
    ⊎ (((numbers : List ℕ) → HasNumbers (without_remark line) numbers → ⊥) × (said ≡ Err BadNumber))

-- the lines of a text: what stands between line feeds
abbrev pub lines : List ℕ → List (List ℕ)
lines text = slice_split (λ c. c == 10) text

-- lines say these things, and none is wrong
abbrev pub AllSay : List (List ℕ) → List (Option BlockValue) → Type 0
AllSay lines said = AllZip (λ line row. Says line (Ok row)) lines said

-- the most bytes that a text of words may have: 2 to the 22nd, which is 146 for each word of the largest memory; so an input without end
-- is refused
abbrev pub words_limit : ℕ
words_limit = 4194304

-- the rows of a text: what its lines say that say something, in their order
pub record HasRows (text : List ℕ) (rows : List BlockValue) : Type 0 where
  pub within : length text ≤ words_limit
  pub said : List (Option BlockValue)
  pub each : AllSay (lines text) said
  pub all : rows ≡ flat_map option_to_list said

-- the first line that is wrong, by its number, and why
pub record IsWrongLine (text : List ℕ) (refusal : Refusal) : Type 0 where
  pub before : List (List ℕ)
  pub wrong : List ℕ
  pub after : List (List ℕ)
  pub all : lines text ≡ before ++ wrong ∷ after
  pub number : refusal.line ≡ length before + 1
  pub said : List (Option BlockValue)
  pub each : AllSay before said
  pub why : Says wrong (Err refusal.why)

-- a text that is too long
abbrev pub too_long : Refusal
too_long = record { line = 0; why = TooLong }

-- what a text says: its rows, or why it is refused
abbrev pub IsReading : List ℕ → Result (List BlockValue) Refusal → Type 0
IsReading text (Ok rows) = HasRows text rows
IsReading text (Err refusal) = ((refusal ≡ too_long) × (words_limit < length text)) ⊎ ((length text ≤ words_limit) × IsWrongLine text refusal)

-- a text says one thing, and no second
abbrev pub OneReading : Type 0
OneReading = (text : List ℕ) (said other : Result (List BlockValue) Refusal) → IsReading text said → IsReading text other → said ≡ other
