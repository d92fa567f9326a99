-- What an input is that is refused as a tape, by its first four bytes.
use Rattle.std.specs.Prelude.{ℕ, Bool, ◌&&◌, ◌||◌, ◌==◌, nat_lt, if◌then◌else◌, Option, Some, None}
use Rattle.advice.specs.declared.instead.Instead.{Instead}
use Rattle.advice.specs.declared.instead.Instead.TheVariants.{IntelHex, SRecords, Gzip, Text}

-- a tab, an end of a line, or a printing character of ASCII
abbrev pub is_readable : ℕ → Bool
is_readable byte = (byte == 9) || ((byte == 10) || ((byte == 13) || (nat_lt 31 byte && nat_lt byte 127)))

-- four of them
abbrev pub is_text : ℕ → ℕ → ℕ → ℕ → Bool
is_text first second third fourth = is_readable first && (is_readable second && (is_readable third && is_readable fourth))

-- an S and a digit from 0 to 3
abbrev pub is_head_of_records : ℕ → ℕ → Bool
is_head_of_records first second = (first == 83) && (nat_lt 47 second && nat_lt second 52)

-- the two bytes that gzip writes first
abbrev pub is_head_of_gzip : ℕ → ℕ → Bool
is_head_of_gzip first second = (first == 31) && (second == 139)

-- Intel HEX, S-records, what gzip has compressed, or another text; or it is not known
abbrev pub instead_of : ℕ → ℕ → ℕ → ℕ → Option Instead
instead_of first second third fourth =
    if first == 58 then Some IntelHex
    else if is_head_of_records first second then Some SRecords
    else if is_head_of_gzip first second then Some Gzip
    else if is_text first second third fourth then Some Text
    else None
