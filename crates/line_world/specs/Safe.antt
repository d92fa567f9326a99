-- Safety of a memory against an earlier one: of the host it speaks of the plan, the words that count as verified, and the mark alone.
use Rattle.std.specs.Prelude.{ℕ, ◌≡◌, ◌<◌, ◌⊎◌, true, List, length, Some}
use Rattle.std.specs.FinMap.{get}
use Rattle.tape_image.specs.Memory.{byte_of, top_of}
use Rattle.tape_image.specs.Word.{WordValue, Stands}
use Rattle.tape_image.specs.Plan.{PlanValue}
use Rattle.tape_image.specs.Image.{Image}
use Rattle.host_core.specs.Core.{Core, word_nr}
use Rattle.tape_image.specs.Overlay.{IsOverlay}
use Rattle.odt_machine.specs.Machine.{is_word, word_at}

-- the word numbered i lies in memory
abbrev pub WordLies : List WordValue → List ℕ → ℕ → Type 0
WordLies words memory i = is_word memory (word_nr words i).address ≡ true

-- so many of the words, from the first on, lie in memory and stand there
pub record FirstStand (words : List WordValue) (count : ℕ) (memory : List ℕ) : Type 0 where
  pub lies : (i : ℕ) → i < count → WordLies words memory i
  pub stands : (i : ℕ) → i < count → Stands (word_nr words i) (word_at memory (word_nr words i).address)

-- each byte is the earlier one, or the image's at its address
pub record OnlyImage (before : List ℕ) (image : Image) (now : List ℕ) : Type 0 where
  pub size : length now ≡ length before
  pub bytes : (b : ℕ) → b < top_of before → (byte_of now b ≡ byte_of before b) ⊎ (get image b ≡ Some (byte_of now b))

-- memory has a word at each of the plan's addresses, and is the overlay of the image
pub record IsLoaded (before : List ℕ) (plan : PlanValue) (now : List ℕ) : Type 0 where
  pub lies : (i : ℕ) → i < length plan.words → WordLies plan.words now i
  pub overlay : IsOverlay before plan.image now

-- what a host counts as verified is true of a memory, which is safe against an earlier one
pub record IsSafe (before : List ℕ) (core : Core) (now : List ℕ) : Type 0 where
  pub verified : FirstStand core.plan.words core.verified now
  pub bytes : OnlyImage before core.plan.image now
  pub going : core.going ≡ true → IsLoaded before core.plan now
