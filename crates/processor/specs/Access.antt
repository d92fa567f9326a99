-- Words and bytes at an address: those of memory, and above it the console's registers.
use Rattle.std.specs.Prelude.{ℕ, ◌+◌, ◌*◌, ◌/◌, ◌%◌, ◌==◌, nat_lt, if◌then◌else◌, List}
use Rattle.tape_image.specs.Memory.{half, byte_of, top_of}
use Rattle.odt_machine.specs.Machine.{is_word, word_at, stored}
use Rattle.processor.specs.Console.{status, after_fetch, given}
use Rattle.processor.specs.Machine.{Machine, astray}

-- ---- reading

-- what was read, and the machine after it
pub record Got : Type 0 where
  pub value : ℕ
  pub after : Machine

-- a register of the console: the receiver's status, its character, which is fetched so, and the transmitter's status
abbrev pub device_from : Machine → ℕ → Got
device_from m a =
    if a == 0o177560 then record { value = status m.console.done; after = m }
    else if a == 0o177562 then record { value = m.console.came; after = record m { console = after_fetch m.console } }
    else if a == 0o177564 then record { value = status m.console.ready; after = m }
    else record { value = 0; after = astray m }

-- the word at an address
abbrev pub word_from : Machine → ℕ → Got
word_from m a = if is_word m.memory a then record { value = word_at m.memory a; after = m } else device_from m a

-- the byte at an address; a register has two
abbrev pub byte_from : Machine → ℕ → Got
byte_from m a =
    if nat_lt a (top_of m.memory) then record { value = byte_of m.memory a; after = m }
    else record { value = half a (device_from m (a / 2 * 2)).value; after = (device_from m (a / 2 * 2)).after }

-- ---- writing

-- the transmitter is given a character; writing another register is not described
abbrev pub device_to : Machine → ℕ → ℕ → Machine
device_to m a v = if a == 0o177566 then record m { console = given m.console v } else astray m

-- a word is written
abbrev pub word_to : Machine → ℕ → ℕ → Machine
word_to m a v = if is_word m.memory a then record m { memory = stored m.memory a v } else device_to m a v

-- a word with one of its bytes replaced: the low one for an even address, the high one for an odd one
abbrev pub with_half : ℕ → ℕ → ℕ → ℕ
with_half a word v = if a % 2 == 0 then word / 256 * 256 + v else word % 256 + 256 * v

-- a memory with one byte replaced
abbrev pub with_byte : List ℕ → ℕ → ℕ → List ℕ
with_byte memory a v = stored memory a (with_half a (word_at memory a) v)

-- a byte is written
abbrev pub byte_to : Machine → ℕ → ℕ → Machine
byte_to m a v = if nat_lt a (top_of m.memory) then record m { memory = with_byte m.memory a v } else device_to m a v
