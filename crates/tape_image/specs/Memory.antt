-- A machine's memory as a list of words, and the bytes in it. As on every PDP-11 a word lies at an even address,
-- its low byte there and its high byte at the next.
use Rattle.std.specs.Prelude.{ℕ, ◌*◌, ◌/◌, ◌%◌, ◌==◌, if◌then◌else◌, List, length, slice_index}

-- the byte of a word at the address b: the low one for an even b, the high one for an odd b
abbrev pub half : ℕ → ℕ → ℕ
half b word = if b % 2 == 0 then word % 256 else word / 256

-- the byte at the address b
abbrev pub byte_of : List ℕ → ℕ → ℕ
byte_of memory b = half b (slice_index memory (b / 2))

-- the most words that a memory has: those below 160000 (octal), where the I/O page begins. `largest_words` of odt_machine is the same number, since
-- neither of tape and machine may stand on the other
abbrev pub most_words : ℕ
most_words = 28672

-- the first address above the memory
abbrev pub top_of : List ℕ → ℕ
top_of memory = 2 * length memory
