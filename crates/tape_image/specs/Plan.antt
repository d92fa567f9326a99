-- The plan: the image of a tape as the words that the host types, and the program's start.
use Rattle.std.specs.Prelude.{◌≡◌, ◌↔◌, ℕ, zero, suc, ◌+◌, ◌*◌, ◌%◌, ◌<◌, ◌≤◌, ◌==◌, if◌then◌else◌}
use Rattle.std.specs.Prelude.{List, [], ◌∷◌, ◌++◌, length, Option, Some, None, All, AllPairs, IfSome, refl}
use Rattle.std.specs.Coded.{Coded, code_by, coded×, coded_ℕ, coded_list, coded_option}
use Rattle.std.specs.List.{flat_map}
use Rattle.std.specs.Option.{option_to_list}
use Rattle.std.specs.FinMap.{get, code}
use Rattle.tape_values.specs.Block.{BlockValue, top}
use Rattle.tape_values.specs.Tape.{TapeValue}
use Rattle.tape_image.specs.Memory.{half, most_words}
use Rattle.tape_image.specs.Word.{WordValue, word_code, IsWord, gives}
use Rattle.tape_image.specs.Image.{Image, image_of}
use Rattle.tape_image.specs.declared.start.Start.{Start}
use Rattle.tape_image.specs.declared.start.Start.TheVariants.{OfTape, At, Nowhere}

-- the word for an even address, by the image's bytes there and at the next: none where it has neither, a mask of
-- 000377 for the first and 177400 for the second, and 0 outside the mask
abbrev pub word_of : ℕ → Option ℕ → Option ℕ → Option WordValue
word_of a None None = None
word_of a (Some low) None = Some (record { address = a; mask = 0o377; value = low })
word_of a None (Some high) = Some (record { address = a; mask = 0o177400; value = 256 * high })
word_of a (Some low) (Some high) = Some (record { address = a; mask = 0o177777; value = low + 256 * high })

-- the words for the first n even addresses, rising
unfoldable pub words_below : Image → ℕ → List WordValue
words_below image zero = []
words_below image (suc n) = words_below image n ++ option_to_list (word_of (2 * n) (get image (2 * n)) (get image (2 * n + 1)))

-- the words of the image: one for each even address below 160000 with a byte of the image at it or after it
unfoldable pub words_of : Image → List WordValue
words_of image = words_below image most_words

-- the byte for an address in the first of the words that gives it, or none
abbrev pub given_byte : List WordValue → ℕ → Option ℕ
given_byte [] b = None
given_byte (w ∷ words) b = if gives w b then Some (half b w.value) else given_byte words b

-- words whose addresses rise, and which together give each byte of the image and no other
pub record AreWordsOf (image : Image) (words : List WordValue) : Type 0 where
  pub each : All IsWord words
  pub rising : AllPairs (λ v w. v.address < w.address) words
  pub bytes : (b : ℕ) → given_byte words b ≡ get image b

-- these words are the image's, and no others are
abbrev pub AreTheWordsOf : Image → List WordValue → Type 0
AreTheWordsOf image words = (others : List WordValue) → AreWordsOf image others ↔ (others ≡ words)

-- an even start address is where the program begins, an odd one says: do not start
abbrev pub program_start : ℕ → Option ℕ
program_start start = if start % 2 == 0 then Some start else None

-- the image, its words, and the program's start where it has one
pub record PlanValue : Type 0 where
  pub image : Image
  pub words : List WordValue
  pub start : Option ℕ

-- a plan is stored as its three fields
abbrev pub plan_code : Coded PlanValue
plan_code =
    code_by (Image × (List WordValue × Option ℕ)) (coded× (code coded_ℕ coded_ℕ) (coded× (coded_list word_code) (coded_option coded_ℕ)))
    (λ p. (p.image, (p.words, p.start))) (λ p. record { image = p.0; words = p.1.0; start = p.1.1 }) (λ _. refl)

-- the plan of an image and a start
abbrev pub plan_with : Image → Option ℕ → PlanValue
plan_with image start = record { image = image; words = words_of image; start = start }

-- the plan of a tape
abbrev pub plan_of : TapeValue → PlanValue
plan_of tape = record { image = image_of tape.blocks; words = words_of (image_of tape.blocks); start = program_start tape.start }

-- the blocks of all tapes, joined in their order
abbrev pub blocks_of_all : List TapeValue → List BlockValue
blocks_of_all tapes = flat_map (λ (tape : TapeValue). tape.blocks) tapes

-- the start of the last tape alone
abbrev pub start_of_all : List TapeValue → Option ℕ
start_of_all [] = None
start_of_all (tape ∷ []) = program_start tape.start
start_of_all (tape ∷ (next ∷ more)) = start_of_all (next ∷ more)

-- the plan of several tapes as one: a later tape's byte replaces an earlier one's
abbrev pub plan_of_all : List TapeValue → PlanValue
plan_of_all tapes = plan_with (image_of (blocks_of_all tapes)) (start_of_all tapes)

-- the same image and words, with the start that is asked for in place of the tape's
abbrev pub starting : PlanValue → Start → PlanValue
starting plan OfTape = plan
starting plan (At address) = record plan { start = program_start address }
starting plan Nowhere = record plan { start = None }

-- what every plan keeps, however it was made
pub record IsPlan (p : PlanValue) : Type 0 where
  pub words_of_image : p.words ≡ words_of p.image
  pub each : All IsWord p.words
  pub rising : AllPairs (λ v w. v.address < w.address) p.words
  pub few : length p.words ≤ most_words
  pub image_of_words : (b : ℕ) → get p.image b ≡ given_byte p.words b
  pub within : (b : ℕ) → IfSome (get p.image b) (λ _. b < top)
  pub bytes : (b : ℕ) → IfSome (get p.image b) (λ byte. byte < 256)
  pub start_even : IfSome p.start (λ start. (start % 2 ≡ 0) × (start < 65536))
