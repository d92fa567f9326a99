-- A sheet of memory: a byte for each address, where there is one.
use Rattle.std.specs.Prelude.{◌≡◌, ℕ, List, Option, None, length, slice_index_or}
use Rattle.tape_values.specs.Block.{BlockValue, top}
use Rattle.tape_image.specs.Image.{byte_at}
use Rattle.tape_making.specs.declared.sheet.Sheet.{Sheet}

-- what a sheet has for each address, from 0 on
abbrev pub bytes_on : Sheet → List (Option ℕ)
bytes_on sheet = sheet.bytes.items

-- a sheet has for each address below 160000 the byte of the last row that has one, and no other bytes
pub record HoldsRows (rows : List BlockValue) (sheet : Sheet) : Type 0 where
  pub size : length (bytes_on sheet) ≡ top
  pub bytes : (a : ℕ) → slice_index_or (bytes_on sheet) a None ≡ byte_at rows a
