-- The text that `check` prints of tapes (this project's own).
use Rattle.std.specs.Prelude.{◌≡◌, ℕ, ◌%◌, ◌==◌, if◌then◌else◌, Bool, true, false, nat_eq, List, ◌++◌, length, sum_by, codes, decimal, Option}
use Rattle.std.specs.List.{flat_map, AllByRecursion}
use Rattle.std.specs.Cmp.Lexicographic.{pointwise}
use Rattle.std.specs.Io.KnownBytes.{Appends}
use Rattle.octal.specs.Octal.{octal_text}
use Rattle.tape_values.specs.Block.{BlockValue}
use Rattle.tape_values.specs.Tape.{TapeValue, IsTape, plain_text}
use Rattle.tape_image.specs.Word.{WordValue, word_fields}
use Rattle.tape_image.specs.Plan.{plan_of_all}
use Rattle.byte_io.specs.Text.{line}
use Rattle.byte_io.specs.Output.{WritesProperPrefix}
use Rattle.request_values.specs.Change.{Change}
use Rattle.input_files.specs.Tapes.{TapeText, AreTaken, AreLaidOut, tapes_of}
use Rattle.tape_blocks.specs.declared.layout.Layout.{Layout}
use Rattle.tape_commands.specs.BlockList.{IsBlockList}

-- how many data bytes the blocks have together
abbrev pub data_count : List BlockValue → ℕ
data_count blocks = sum_by (λ b. length b.bytes) blocks

-- how many blocks there are, how many data bytes in them, and how many bytes the tape has
abbrev pub blocks_text : TapeValue → ℕ → List ℕ
blocks_text tape count =
    codes "blocks " ++ decimal (length tape.blocks) ++ codes " data " ++ decimal (data_count tape.blocks)
    ++ codes " read " ++ decimal count

-- the start address; an odd one starts nothing
abbrev pub start_text : ℕ → List ℕ
start_text start = (if start % 2 == 0 then codes "start " else codes "no start ") ++ octal_text start

-- the two texts are the same, byte for byte
abbrev pub is_same : List ℕ → List ℕ → Bool
is_same = pointwise nat_eq

-- the line's words that say whether a tape is canonical
abbrev pub canonical_text : Bool → List ℕ
canonical_text is_canonical = codes "canonical " ++ (if is_canonical then codes "yes" else codes "no")

-- how many words there are, and a line for each
abbrev pub words_text : List WordValue → List ℕ
words_text words = line (codes "words " ++ decimal (length words)) ++ flat_map (λ w. line (word_fields w)) words

-- the three lines of a tape
abbrev pub tape_text : TapeText → List ℕ
tape_text t = line (blocks_text t.tape (length t.text)) ++ line (start_text t.tape.start) ++ line (canonical_text (is_same t.text (plain_text t.tape)))

-- what `check` prints of tapes and the bytes that they were read from: three lines of each, and then once the words of all
abbrev pub check_text : List TapeText → List ℕ
check_text texts = flat_map tape_text texts ++ words_text (plan_of_all (tapes_of texts)).words

-- the same, behind a list of the blocks where that is asked for
abbrev pub IsCheckText : Bool → List TapeText → List ℕ → Type 0
IsCheckText false texts text = text ≡ check_text texts
IsCheckText true texts text = (blocks : List ℕ) × IsBlockList texts blocks × (text ≡ blocks ++ check_text texts)

-- tapes were taken of the inputs, and their text for `check` was written, with a list of the blocks or without, and nothing else
pub record IsChecked (blocks : Bool) (inputs : Change (List (Option (List ℕ)))) (out : Change (Option (List ℕ))) : Type 0 where
  pub texts : List TapeText
  pub taken : AreTaken inputs.before inputs.after texts
  pub text : List ℕ
  pub is_text : IsCheckText blocks texts text
  pub written : Appends out.before out.after text

-- the same, but a proper prefix of the text was written
pub record IsCheckedInPart (blocks : Bool) (inputs : Change (List (Option (List ℕ)))) (out : Change (Option (List ℕ))) : Type 0 where
  pub texts : List TapeText
  pub taken : AreTaken inputs.before inputs.after texts
  pub text : List ℕ
  pub is_text : IsCheckText blocks texts text
  pub written : WritesProperPrefix out.before out.after text

-- tapes of these texts, which lie so in them
pub record AreTexts (tapes : List TapeValue) (layouts : List Layout) (texts : List TapeText) : Type 0 where
  pub tapes_are : tapes ≡ tapes_of texts
  pub laid : AreLaidOut texts layouts
  pub each : AllByRecursion (λ t. IsTape t.text t.tape.blocks t.tape.start) texts
