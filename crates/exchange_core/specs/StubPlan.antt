-- The plan by which a stub is brought in: its words at a window of the tape's words, and soundings of the words before it (this project's choice).
use Rattle.std.specs.Prelude.{◌≡◌, ℕ, ◌+◌, ◌-◌, ◌*◌, ◌/◌, ◌%◌, ◌<◌, ◌≤◌, ◌⊎◌, ◌==◌, true, if◌then◌else◌}
use Rattle.std.specs.Prelude.{All, List, [], ◌∷◌, ◌++◌, length, Some, None, IsSome, slice_index}
use Rattle.std.specs.FinMap.{get}
use Rattle.std.specs.List.{flat_map}
use Rattle.tape_values.specs.Block.{BlockValue, HoldsBytes, IsBlock, block_at, low_first}
use Rattle.tape_values.specs.Tape.{TapeValue, written_length}
use Rattle.tape_image.specs.Image.{byte_at}
use Rattle.tape_image.specs.Memory.{half}
use Rattle.tape_image.specs.Plan.{PlanValue, IsPlan}
use Rattle.tape_image.specs.Word.{WordValue, gives}
use Rattle.host_core.specs.Core.{word_nr}
use Rattle.exchange_core.specs.Chunking.{bytes_of}

-- one word in each 4,096, and the last one, of the words from one number up to another
pub record IsSounding (from to j : ℕ) : Type 0 where
  pub begins : from ≤ j
  pub ends : j < to
  pub place : ((j - from) % 4096 ≡ 4095) ⊎ (j + 1 ≡ to)

-- the address of the word at which the stub lies
abbrev pub place_of : PlanValue → ℕ → ℕ
place_of tape window = (word_nr tape.words window).address

-- an address is one of the stub's
pub record IsOfStub (place : ℕ) (words : List ℕ) (b : ℕ) : Type 0 where
  pub from : place ≤ b
  pub to : b < place + 2 * length words

-- a plan that starts where the window is, with the stub's words there and the tape's own bytes at the soundings, and no others
pub record IsStubPlan (tape : PlanValue) (from window : ℕ) (words : List ℕ) (stub : PlanValue) : Type 0 where
  pub sound : IsPlan stub
  pub start : stub.start ≡ Some (place_of tape window)
  pub code : (b : ℕ) → IsOfStub (place_of tape window) words b → get stub.image b ≡ Some (half b (slice_index words ((b - place_of tape window) / 2)))
  pub sounded : (j : ℕ) → IsSounding from window j → (b : ℕ) → gives (word_nr tape.words j) b ≡ true → get stub.image b ≡ get tape.image b
  pub others : (b : ℕ) → (IsOfStub (place_of tape window) words b → ⊥) → IsSome (get stub.image b) →
      (j : ℕ) × IsSounding from window j × (gives (word_nr tape.words j) b ≡ true)

-- a plan that touches bytes of a tape's image alone, and none of its first words
pub record LiesBehind (tape : PlanValue) (from : ℕ) (stub : PlanValue) : Type 0 where
  pub inside : (b : ℕ) → IsSome (get stub.image b) → IsSome (get tape.image b)
  pub behind : (i : ℕ) → i < from → (b : ℕ) → gives (word_nr tape.words i) b ≡ true → get stub.image b ≡ None

-- the bytes that a word has under its mask
abbrev pub bytes_in : WordValue → List ℕ
bytes_in w = if w.mask == 0o377 then w.value % 256 ∷ [] else if w.mask == 0o177400 then w.value / 256 ∷ [] else low_first w.value

-- the block of a word
abbrev pub block_of : WordValue → BlockValue
block_of w = block_at (bytes_of w).from (bytes_in w)

-- the blocks of the soundings before number n, of the words from one number up to another
pub record AreSoundingsBefore (plan : PlanValue) (from to n : ℕ) (blocks : List BlockValue) : Type 0 where
  pub each : All IsBlock blocks
  pub holds : All HoldsBytes blocks
  pub short : written_length blocks ≤ 7 + 9 * (n - from)
  pub sounded : (j : ℕ) → IsSounding from to j → j < n → (b : ℕ) → gives (word_nr plan.words j) b ≡ true → byte_at blocks b ≡ get plan.image b
  pub others : (b : ℕ) → IsSome (byte_at blocks b) → (j : ℕ) × IsSounding from to j × (gives (word_nr plan.words j) b ≡ true)

-- the blocks of all soundings of the words from one number up to another
abbrev pub AreSoundings : PlanValue → ℕ → ℕ → List BlockValue → Type 0
AreSoundings plan from to blocks = AreSoundingsBefore plan from to to blocks

-- the tape of a stub's plan: the soundings, and then the stub's words as one block
pub record IsStubTape (plan : PlanValue) (from window : ℕ) (words : List ℕ) (tape : TapeValue) : Type 0 where
  pub sound : IsPlan plan
  pub soundings : List BlockValue
  pub are : AreSoundings plan from window soundings
  pub blocks_are : tape.blocks ≡ soundings ++ block_at (place_of plan window) (flat_map low_first words) ∷ []
  pub start_is : tape.start ≡ place_of plan window
