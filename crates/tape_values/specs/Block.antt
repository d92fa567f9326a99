-- Blocks of an absolute loader tape, as the RT-11 Software Support Manual lays out absolute binary.
use Rattle.std.specs.Prelude.{ℕ, ◌+◌, ◌-◌, ◌/◌, ◌%◌, ◌<◌, ◌≤◌, ◌^◌, List, [], ◌∷◌, ◌++◌, length, sum, All, refl}
use Rattle.std.specs.Coded.{Coded, code_by, coded×, coded_list, coded_ℕ}

-- bytes to be stored, and the address of the first of them
pub record BlockValue : Type 0 where
  pub address : ℕ
  pub bytes : List ℕ

-- these bytes at this address
abbrev pub block_at : ℕ → List ℕ → BlockValue
block_at a bs = record { address = a; bytes = bs }

-- a block is stored as the pair of its fields
abbrev pub block_code : Coded BlockValue
block_code =
    code_by (ℕ × List ℕ) (coded× coded_ℕ (coded_list coded_ℕ)) (λ b. (b.address, b.bytes))
    (λ p. record { address = p.0; bytes = p.1 }) (λ _. refl)

-- 160000 octal, where memory ends and the I/O page begins (this project's choice as the highest end)
abbrev pub top : ℕ
top = 0o160000

-- a word as two bytes, low byte first
abbrev pub low_first : ℕ → List ℕ
low_first n = n % 256 ∷ n / 256 ∷ []

-- all of a block but its checksum: 01 00, the count of these very bytes, the address, the data
abbrev pub counted : ℕ → List ℕ → List ℕ
counted address bytes = (1 ∷ 0 ∷ []) ++ low_first (6 + length bytes) ++ low_first address ++ bytes

-- the byte that makes a sum 0 modulo 256
abbrev pub checksum : List ℕ → ℕ
checksum text = (256 - sum text % 256) % 256

-- a block: its counted bytes and their checksum
abbrev pub framed : ℕ → List ℕ → List ℕ
framed address bytes = counted address bytes ++ checksum (counted address bytes) ∷ []

-- the data block of an address and its bytes
abbrev pub data_block : BlockValue → List ℕ
data_block b = framed b.address b.bytes

-- the transfer block of a start address: a block with no data, its checksum included (this project's choice)
abbrev pub transfer_block : ℕ → List ℕ
transfer_block start = framed start []

-- a block that a tape may hold: not empty, and ending at or below 160000 (this project's choice)
pub record IsBlock (b : BlockValue) : Type 0 where
  pub not_empty : 0 < length b.bytes
  pub below_top : b.address + length b.bytes ≤ top

-- each byte of the block is one
abbrev pub HoldsBytes : BlockValue → Type 0
HoldsBytes b = All (λ byte. byte < 2 ^ 8) b.bytes
