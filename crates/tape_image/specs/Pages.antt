-- An image in pages of 512 addresses.
use Rattle.std.specs.Prelude.{◌≡◌, ℕ, ◌+◌, ◌*◌, ◌/◌, ◌%◌, ◌<◌, Bool, false, List, Option, Some, None, slice_get, slice_index, slice_index_or}
use Rattle.std.specs.Bool.{then_some}
use Rattle.std.specs.Option.{option_or}
use Rattle.std.specs.Global.{Box}
use Rattle.std.specs.FinMap.{get}
use Rattle.tape_image.specs.Image.{Image}
use Rattle.tape_image.specs.Word.{WordValue}
use Rattle.tape_image.specs.Plan.{words_below}

-- the byte at an offset of a page, if its mark is set
abbrev pub marked_byte : List Bool → List ℕ → ℕ → Option ℕ
marked_byte marks bytes offset = then_some (slice_index_or marks offset false) (slice_index bytes offset)

-- the byte at an offset of a page that is there, and none of one that is not
abbrev pub byte_in_page : Option (Option (Box Image)) → ℕ → Option ℕ
byte_in_page (Some (Some page)) offset = get page.value offset
byte_in_page (Some None) offset = None
byte_in_page None offset = None

-- the byte at an address, in the table's page for that address
abbrev pub byte_in_table : List (Option (Box Image)) → ℕ → Option ℕ
byte_in_table table a = byte_in_page (slice_get table (a / 512)) (a % 512)

-- the image after has the byte that is laid at an address, where there is one, and else the byte before
abbrev pub IsLaid : (ℕ → Option ℕ) → Image → Image → Type 0
IsLaid laid before after = (a : ℕ) → get after a ≡ option_or (laid a) (get before a)

-- words of any image that has the page's bytes in the page of this number: those below the page before, those below
-- the next page after
abbrev pub AddsPageWords : ℕ → Image → List WordValue → List WordValue → Type 0
AddsPageWords number page before after =
    (image : Image) → ((offset : ℕ) → offset < 512 → get image (512 * number + offset) ≡ get page offset)
    → before ≡ words_below image (256 * number) → after ≡ words_below image (256 * (number + 1))
