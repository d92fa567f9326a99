-- What `check --blocks` lists of tapes (this project's own).
use Rattle.std.specs.Prelude.{◌≡◌, ℕ, ◌+◌, ◌-◌, ◌≤◌, if◌then◌else◌, Bool, nat_lt, List, [], ◌∷◌, ◌++◌, length, codes, decimal}
use Rattle.std.specs.Prelude.{Option, Some, None, IsSome}
use Rattle.std.specs.FinMap.{get}
use Rattle.octal.specs.Octal.{octal_text}
use Rattle.tape_values.specs.Block.{BlockValue}
use Rattle.tape_values.specs.Tape.{TapeValue}
use Rattle.tape_blocks.specs.declared.layout.Layout.{Layout}
use Rattle.tape_image.specs.Image.{Image}
use Rattle.tape_image.specs.Plan.{plan_of_all}
use Rattle.byte_io.specs.Text.{line}
use Rattle.input_files.specs.Tapes.{TapeText, AreLaidOut, tapes_of}

-- which block of its tape it is, and at which byte of the tape's file it begins
abbrev pub place_text : ℕ → ℕ → List ℕ
place_text number place = codes "block " ++ decimal number ++ codes " at " ++ decimal place ++ codes " "

-- a first and a last address
abbrev pub addresses_text : ℕ → ℕ → List ℕ
addresses_text first last = octal_text first ++ codes " to " ++ octal_text last

-- a block's first and last address, and how many bytes it has
abbrev pub extent_text : BlockValue → List ℕ
extent_text b = addresses_text b.address (b.address + length b.bytes - 1) ++ codes " bytes " ++ decimal (length b.bytes)

-- a line for each block, numbered from here on
abbrev pub block_lines : ℕ → List BlockValue → List ℕ → List ℕ
block_lines n [] places = []
block_lines n (b ∷ blocks) [] = []
block_lines n (b ∷ blocks) (place ∷ places) = line (place_text n place ++ extent_text b) ++ block_lines (n + 1) blocks places

-- of several tapes each has its number before its blocks
abbrev pub heading : Bool → ℕ → List ℕ
heading several number = if several then line (codes "tape " ++ decimal number) else []

-- the blocks of each tape, the tapes numbered from here on
abbrev pub tape_lines : Bool → ℕ → List TapeValue → List Layout → List ℕ
tape_lines several n [] layouts = []
tape_lines several n (tape ∷ tapes) [] = []
tape_lines several n (tape ∷ tapes) (layout ∷ layouts) =
    (heading several n ++ block_lines 1 tape.blocks layout.places.items) ++ tape_lines several (n + 1) tapes layouts

-- the lowest and the highest address for which an image has a byte, where it has any
abbrev pub IsSpan : Image → Option (ℕ × ℕ) → Type 0
IsSpan image None = (a : ℕ) → get image a ≡ None
IsSpan image (Some span) =
    IsSome (get image span.0) × IsSome (get image span.1) × ((a : ℕ) → IsSome (get image a) → (span.0 ≤ a) × (a ≤ span.1))

abbrev pub span_text : Option (ℕ × ℕ) → List ℕ
span_text None = codes "no addresses"
span_text (Some span) = codes "addresses " ++ addresses_text span.0 span.1

-- of several tapes the start of the last one counts
abbrev pub counting_text : ℕ → List ℕ
counting_text tapes = if nat_lt 1 tapes then line (codes "start of tape " ++ decimal tapes) else []

-- all of it
abbrev pub block_list : List TapeValue → List Layout → Option (ℕ × ℕ) → List ℕ
block_list tapes layouts span = tape_lines (nat_lt 1 (length tapes)) 1 tapes layouts ++ (line (span_text span) ++ counting_text (length tapes))

-- it is that of tapes which lie so in their bytes, and of the image that they make together
pub record IsBlockList (texts : List TapeText) (text : List ℕ) : Type 0 where
  pub layouts : List Layout
  pub laid : AreLaidOut texts layouts
  pub span : Option (ℕ × ℕ)
  pub is_span : IsSpan (plan_of_all (tapes_of texts)).image span
  pub all : text ≡ block_list (tapes_of texts) layouts span
