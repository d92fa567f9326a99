-- What the arguments and options of a command come to (this project's own).
use Rattle.std.specs.Prelude.{◌≡◌, ◌==◌, ◌||◌, ℕ, Bool, true, false, List, [], ◌∷◌, Option, Some, None, map, codes}
use Rattle.std.specs.Option.{option_map_or}
use Rattle.std.specs.List.{list_any}
use Rattle.std.specs.Borrow.{Bor}
use Rattle.std.specs.Str.Parse.{digits_value, without_leading_plus}
use Rattle.clap.specs.Matches.{first_value, matched_of, one_text, raw_values}
use Rattle.clap.specs.declared.parser.matches.Found.{Found}
use Rattle.tape_image.specs.declared.start.Start.{Start}
use Rattle.tape_image.specs.declared.start.Start.TheVariants.{OfTape, At, Nowhere}
use Rattle.request_values.specs.declared.range.AddressRange.{AddressRange}
use Rattle.console_lines.specs.Path.{has_slash}
use Rattle.odt_machine.specs.Machine.{largest_words}
use Rattle.odt_machine.specs.Style.{style_number}
use Rattle.request_values.specs.declared.request.Console.{Console}
use Rattle.command_line.specs.Addresses.{IsEvenText, IsOctalText, IsWordText}

-- the decimal number that a text is
abbrev pub written_number : List ℕ → ℕ
written_number text = digits_value 10 (without_leading_plus text)

-- the number that an option gives, where it is given
pub record IsNumberGiven (found : Found) (name : List ℕ) (number : Option ℕ) : Type 0 where
  pub none : one_text found name ≡ None → number ≡ None
  pub some : (text : List ℕ) → one_text found name ≡ Some text → number ≡ Some (written_number text)

-- the number that an option gives, or the one that is meant without it
pub record IsNumberOf (found : Found) (name : List ℕ) (otherwise number : ℕ) : Type 0 where
  pub none : one_text found name ≡ None → number ≡ otherwise
  pub some : (text : List ℕ) → one_text found name ≡ Some text → number ≡ written_number text

-- whether an option without a value is given
pub record IsFlag (found : Found) (name : List ℕ) (is_set : Bool) : Type 0 where
  pub none : one_text found name ≡ None → is_set ≡ false
  pub yes : one_text found name ≡ Some (codes "true") → is_set ≡ true
  pub no : one_text found name ≡ Some (codes "false") → is_set ≡ false

-- the start in place of the tapes', where the address of one is given: no start, that address, or that of the tapes
abbrev pub IsStartAt : Bool → Option (List ℕ) → Start → Type 0
IsStartAt true given start = start ≡ Nowhere
IsStartAt false None start = start ≡ OfTape
IsStartAt false (Some text) (At address) = IsEvenText text address
IsStartAt false (Some text) other = ⊥

-- the start in place of the tapes', by two options
pub record IsStartOf (found : Found) (start : Start) : Type 0 where
  pub is_nowhere : Bool
  pub flag : IsFlag found (codes "no-start") is_nowhere
  pub start_is : IsStartAt is_nowhere (first_value found (codes "start")) start

-- the start address of a saved tape: the one that is given, or that which starts nothing
abbrev pub IsSavedStart : Option (List ℕ) → ℕ → Type 0
IsSavedStart None start = start ≡ 1
IsSavedStart (Some text) start = IsOctalText text start

-- the file of octal words: the one that is given, or standard input
abbrev pub IsWordsFile : Option (List ℕ) → List ℕ → Type 0
IsWordsFile None name = name ≡ codes "-"
IsWordsFile (Some text) name = name ≡ text

-- the address of the word at which a probe is made: the one that is given, or 001000
abbrev pub IsProbedWord : Option (List ℕ) → ℕ → Type 0
IsProbedWord None address = address ≡ 0o001000
IsProbedWord (Some text) address = IsWordText text address

-- the names of further tapes, in order
abbrev pub more_in : Found → List (List ℕ)
more_in found = option_map_or raw_values (matched_of found (codes "MORE")) []

-- the names of the tapes are these, the first before all others
abbrev pub NamesTapes : Found → List (Bor (List ℕ)) → Type 0
NamesTapes found names = (first : List ℕ) × ((first_value found (codes "TAPE") ≡ Some first) × (map (λ name. name.now) names ≡ first ∷ more_in found))

-- a simulated console is what its two options say: all memory and the plain style where nothing else is said
pub record IsConsoleOf (found : Found) (console : Console) : Type 0 where
  pub words : IsNumberOf found (codes "words") largest_words console.words
  pub style : IsNumberOf found (codes "style") 0 (style_number console.style)

-- the quiet time, in milliseconds, where nothing else is said: too short is dangerous, too long costs little, and adapters hold back far less
abbrev pub plain_quiet : ℕ
plain_quiet = 2000

-- it has a colon
abbrev pub has_colon : List ℕ → Bool
has_colon text = list_any (λ c. c == 58) text

-- the text can be a line: HOST:PORT has a colon, and the path of a device a slash
abbrev pub is_line : List ℕ → Bool
is_line text = has_colon text || has_slash text

-- a range is that of two addresses
pub record IsRangeOf (found : Found) (range : AddressRange) : Type 0 where
  pub from : (text : List ℕ) × ((first_value found (codes "FROM") ≡ Some text) × IsWordText text range.from)
  pub to : (text : List ℕ) × ((first_value found (codes "TO") ≡ Some text) × IsWordText text range.to)

-- the words of which some are tested: all for which memory has room, or those of the addresses that are given
abbrev pub IsTestedRange : Option (List ℕ) → Found → AddressRange → Type 0
IsTestedRange None found range = (range.from ≡ 0) × (range.to ≡ 0o157776)
IsTestedRange (Some first) found range = IsRangeOf found range

-- of how many words one is tested where nothing else is said: of 64 in all memory, and every word where addresses are given
abbrev pub plain_step : Option (List ℕ) → ℕ
plain_step None = 64
plain_step (Some first) = 1
