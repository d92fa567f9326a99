-- The tape that holds what was read (this project's own).
use Rattle.std.specs.Prelude.{ℕ, zero, suc, ◌+◌, ◌-◌, ◌*◌, ◌/◌, nat_lt, if◌then◌else◌, List, [], ◌∷◌, ◌++◌, length, take, drop}
use Rattle.std.specs.List.{flat_map}
use Rattle.tape_values.specs.Block.{BlockValue, block_at, data_block, low_first, transfer_block}
use Rattle.tape_values.specs.Tape.{TapeValue}
use Rattle.request_values.specs.declared.range.AddressRange.{AddressRange}

-- how many words a block holds, but for the last: 512 bytes
abbrev pub block_words : ℕ
block_words = 256

-- block number k of the numbers from an address on: so many of them, or as many as are left, each with its low byte first
abbrev pub saved_block : ℕ → List ℕ → ℕ → BlockValue
saved_block from numbers k = block_at (from + 2 * block_words * k) (flat_map low_first (take block_words (drop (block_words * k) numbers)))

-- the first n blocks
unfoldable pub saved_blocks : ℕ → List ℕ → ℕ → List BlockValue
saved_blocks from numbers zero = []
saved_blocks from numbers (suc n) = saved_blocks from numbers n ++ saved_block from numbers n ∷ []

-- the tape of the numbers that stand from an address on, in as few blocks as hold them
abbrev pub saved_tape : ℕ → List ℕ → ℕ → TapeValue
saved_tape from numbers start = record { blocks = saved_blocks from numbers ((length numbers + (block_words - 1)) / block_words); start = start }

-- the numbers that are left behind the full blocks, if there are any, as a block that is shorter
abbrev pub rest_block : ℕ → List ℕ → List ℕ
rest_block from numbers =
    let full = length numbers / block_words in if nat_lt (block_words * full) (length numbers) then data_block (saved_block from numbers full) else []

-- the last text of the tape: that block, and the transfer block
abbrev pub last_text : ℕ → List ℕ → ℕ → List ℕ
last_text from numbers start = rest_block from numbers ++ transfer_block start

-- how many words a range has, both ends included
abbrev pub words_in : AddressRange → ℕ
words_in range = (range.to - range.from) / 2 + 1

-- the room in bytes that the tape of the words of a range needs: each block and the transfer block have 7 beside their data
abbrev pub room_for : AddressRange → ℕ
room_for range = 7 + 7 * ((words_in range + 255) / 256) + 2 * words_in range
