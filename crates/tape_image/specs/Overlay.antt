-- Laying an image over a machine's memory.
use Rattle.std.specs.Prelude.{◌≡◌, ◌↔◌, ℕ, ◌/◌, ◌<◌, nat_lt, if◌then◌else◌, List, [], ◌∷◌, length, slice_index, slice_set, unwrap_or}
use Rattle.std.specs.FinMap.{get}
use Rattle.std.specs.List.Sorted.{IsPermutation}
use Rattle.tape_image.specs.Memory.{byte_of, top_of}
use Rattle.tape_image.specs.Word.{WordValue, merged}
use Rattle.tape_image.specs.Image.{Image}

-- the memory is as large as before, and has at each address the image's byte where there is one, else the byte before
pub record IsOverlay (before : List ℕ) (image : Image) (now : List ℕ) : Type 0 where
  pub size : length now ≡ length before
  pub bytes : (b : ℕ) → b < top_of before → byte_of now b ≡ unwrap_or (get image b) (byte_of before b)

-- the memory after the word is merged into it at its address; a word above the memory changes nothing
abbrev pub merge_at : List ℕ → WordValue → List ℕ
merge_at memory w =
    if nat_lt (w.address / 2) (length memory)
    then slice_set memory (w.address / 2) (merged w (slice_index memory (w.address / 2)))
    else memory

-- the memory after the words are merged into it, one after another
unfoldable pub merge_all : List ℕ → List WordValue → List ℕ
merge_all memory [] = memory
merge_all memory (w ∷ words) = merge_all (merge_at memory w) words

-- merged words make the overlay: for every memory, in every order of the words, what they leave is the one overlay
abbrev pub MakesOverlay : Image → List WordValue → Type 0
MakesOverlay image words =
    (before now : List ℕ) (ordered : List WordValue) → IsPermutation words ordered
    → IsOverlay before image now ↔ (now ≡ merge_all before ordered)
