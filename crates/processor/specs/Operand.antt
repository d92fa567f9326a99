-- The addressing modes: how six bits of an instruction name a word or a byte.
use Rattle.std.specs.Prelude.{ℕ, ◌+◌, ◌/◌, ◌%◌, ◌==◌, nat_lt, nat_le, if◌then◌else◌}
use Rattle.processor.specs.Machine.{Machine, register, with_register, astray}
use Rattle.processor.specs.Access.{Got, word_from, byte_from, word_to, byte_to}

-- an instruction is one of words or one of bytes
pub data Width : Type 0 where
  Word : Width
  Byte : Width

-- where an operand is: in a register, by its number, or at an address
pub data Location : Type 0 where
  Register : ℕ → Location
  Address : ℕ → Location

-- where an operand is, and the machine after it was found
pub record Found : Type 0 where
  pub at : Location
  pub after : Machine

-- how far a register moves on: by a word, and in an instruction of bytes by a byte, unless it is SP or PC
abbrev pub stride : Width → ℕ → ℕ
stride Word n = 2
stride Byte n = if nat_lt n 6 then 1 else 2

-- a register moves on, and what passes sixteen bits falls off
abbrev pub moved_on : Machine → ℕ → ℕ → Machine
moved_on m n by = with_register m n ((register m n + by) % 65536)

-- mode 0, `R`: the register itself
-- mode 1, `(R)`: the register has the address
-- mode 2, `(R)+`: the same, and the register moves on; with PC it is `#n`, what follows the instruction
-- mode 3, `@(R)+`: the register has the address of a word that has the address, and moves on; with PC it is `@#address`
-- the other modes are not described
abbrev pub found_by : Width → Machine → ℕ → ℕ → Found
found_by width m mode n =
    if mode == 0 then record { at = Register n; after = m }
    else if mode == 1 then record { at = Address (register m n); after = m }
    else if mode == 2 then record { at = Address (register m n); after = moved_on m n (stride width n) }
    else if mode == 3 then record { at = Address (word_from m (register m n)).value; after = moved_on (word_from m (register m n)).after n 2 }
    else record { at = Register n; after = astray m }

-- six bits are a mode and a register
abbrev pub found : Width → Machine → ℕ → Found
found width m field = found_by width m (field / 8) (field % 8)

-- what is there
abbrev pub read : Width → Machine → Location → Got
read Word m (Register n) = record { value = register m n; after = m }
read Word m (Address a) = word_from m a
read Byte m (Register n) = record { value = register m n % 256; after = m }
read Byte m (Address a) = byte_from m a

-- an operand is found and read
abbrev pub operand : Width → Machine → ℕ → Got
operand width m field = read width (found width m field).after (found width m field).at

-- a word is written there
abbrev pub write : Machine → Location → ℕ → Machine
write m (Register n) v = with_register m n v
write m (Address a) v = word_to m a v

-- a byte's sign is extended to sixteen bits
abbrev pub extended : ℕ → ℕ
extended v = if nat_le 0o200 v then v + 0o177400 else v

-- a byte is moved there: to a register with its sign extended
abbrev pub move_byte : Machine → Location → ℕ → Machine
move_byte m (Register n) v = with_register m n (extended v)
move_byte m (Address a) v = byte_to m a v
