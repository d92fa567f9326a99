-- The image of a tape: which byte it leaves at which address (RT-11 Software Support Manual, absolute binary format).
use Rattle.std.specs.Prelude.{◌≡◌, ℕ, zero, suc, ◌-◌, nat_le, if◌then◌else◌, List, [], ◌∷◌, Option, Some, None, slice_get}
use Rattle.std.specs.Option.{option_or}
use Rattle.std.specs.Ordering.{nat_cmp}
use Rattle.std.specs.FinMap.{FinMap, empty, insert, get}
use Rattle.tape_values.specs.Block.{BlockValue, top}

-- the byte that a block has for an address
abbrev pub byte_in : BlockValue → ℕ → Option ℕ
byte_in block a = if nat_le block.address a then slice_get block.bytes (a - block.address) else None

-- the byte for an address in the last block that covers it, or none: a later byte replaces an earlier one
abbrev pub byte_at : List BlockValue → ℕ → Option ℕ
byte_at [] a = None
byte_at (block ∷ later) a = option_or (byte_at later a) (byte_in block a)

-- a set of addresses, with a byte for each
abbrev pub Image : Type 0
Image = FinMap nat_cmp ℕ

-- at each address the image has the byte that the blocks have for it
abbrev pub IsImageOf : List BlockValue → Image → Type 0
IsImageOf blocks image = (a : ℕ) → get image a ≡ byte_at blocks a

-- the image with this byte for an address, if there is one
abbrev pub with_byte : Image → ℕ → Option ℕ → Image
with_byte image a None = image
with_byte image a (Some byte) = insert image a byte

-- the image whose bytes below n are those that f answers
unfoldable pub image_below : (ℕ → Option ℕ) → ℕ → Image
image_below f zero = empty
image_below f (suc n) = with_byte (image_below f n) n (f n)

-- the addresses below 160000 that a block covers, with the bytes that the last ones have for them
unfoldable pub image_of : List BlockValue → Image
image_of blocks = image_below (byte_at blocks) top
