-- What an earlier save of the same words left, and what is found in it (this project's own).
use Rattle.std.specs.Prelude.{◌≡◌, ◌⊎◌, ℕ, ◌+◌, ◌*◌, ◌<◌, ◌≤◌, All, List, ◌++◌, length, take, drop, get_or, Option, IfSome, ⊤}
use Rattle.std.specs.List.{flat_map}
use Rattle.tape_values.specs.Block.{block_at, data_block, low_first}
use Rattle.request_values.specs.declared.range.AddressRange.{AddressRange}
use Rattle.tape_shelf.specs.declared.shelf.ShelfFault.{ShelfFault}
use Rattle.tape_shelf.specs.declared.shelf.ShelfFault.TheVariants.{NotOfSave}
use Rattle.tape_shelf.specs.SavedSteps.{adds, full}
use Rattle.tape_shelf.specs.SavedTape.{block_words, room_for, words_in}
use Rattle.tape_shelf.specs.Shelf.{written}

-- numbers that fill blocks of a range, from its first word on, and leave none that is shorter
pub record FillBlocks (range : AddressRange) (numbers : List ℕ) : Type 0 where
  pub whole : length numbers ≡ block_words * full numbers
  pub within : length numbers ≤ words_in range
  pub small : All (λ n. n < 65536) numbers

-- a text has only bytes 00, as a file that was made and to which no block was added
abbrev pub IsBlank : List ℕ → Type 0
IsBlank text = All (λ b. b ≡ 0) text

-- it begins as a block does whose first byte is for this address: 1, 0, two bytes of its length, and the address, low byte first
abbrev pub BeginsAt : ℕ → List ℕ → Type 0
BeginsAt from text = (get_or text 0 0 ≡ 1) × (get_or text 1 0 ≡ 0) × (get_or text 4 0 + 256 * get_or text 5 0 ≡ from)

-- a text may be what a save of this range left: it is as long as its tape may be, and it has no block, or begins with the range's first word
abbrev pub IsPartOf : AddressRange → List ℕ → Type 0
IsPartOf range text = (length text ≡ room_for range) × (IsBlank text ⊎ BeginsAt range.from text)

-- numbers make a complete block whose first byte is for this address, and this is its text
pub record MakeBlock (address : ℕ) (numbers block : List ℕ) : Type 0 where
  pub whole : length numbers ≡ block_words
  pub text : block ≡ data_block (block_at address (flat_map low_first numbers))

-- a text is that of a complete block for this address
abbrev pub IsCompleteBlock : ℕ → List ℕ → Type 0
IsCompleteBlock address text = (numbers : List ℕ) × MakeBlock address numbers text

-- a text has a complete block of a range, of this number, from 0 on: 519 bytes behind those of so many others
abbrev pub HasBlock : AddressRange → List ℕ → ℕ → Type 0
HasBlock range text n = (block_words * n + block_words ≤ words_in range) × IsCompleteBlock (range.from + 2 * block_words * n) (take 519 (drop (519 * n) text))

-- numbers are found in a text: it begins with the blocks that they fill, and no complete one comes behind these
pub record AreFoundIn (range : AddressRange) (text numbers : List ℕ) : Type 0 where
  pub fill : FillBlocks range numbers
  pub begins : (behind : List ℕ) × (text ≡ written (adds range.from numbers (full numbers)) ++ behind)
  pub all : HasBlock range text (full numbers) → ⊥

-- they are found in a text that may be what a save of the range left
abbrev pub AreFoundInPart : AddressRange → List ℕ → List ℕ → Type 0
AreFoundInPart range text numbers = IsPartOf range text × AreFoundIn range text numbers

-- what was left there, as far as that is told, is refused as none of such a save only where it is none
abbrev pub IsRefusedPart : AddressRange → Option (List ℕ) → ShelfFault → Type 0
IsRefusedPart range left NotOfSave = IfSome left (λ text. IsPartOf range text → ⊥)
IsRefusedPart range left other = ⊤
