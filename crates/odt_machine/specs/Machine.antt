-- The machine that a console stands on: its memory, and what the console is in the middle of.
use Rattle.std.specs.Prelude.{ℕ, ◌*◌, ◌/◌, ◌%◌, ◌<◌, ◌≤◌, Bool, ◌&&◌, ◌==◌, nat_lt, IsTrue, List, length, slice_index, slice_set, ⊤}
use Rattle.odt_machine.specs.declared.style.Style.{Style}
use Rattle.odt_machine.specs.declared.mode.Mode.{Mode}
use Rattle.odt_machine.specs.declared.mode.Mode.TheVariants.{Prompt, Number, Opened, Typing, Running}

-- a console's style, the words of its memory from address 000000 on, and its mode
pub record Machine : Type 0 where
  pub style : Style
  pub memory : List ℕ
  pub mode : Mode

-- a word lies at the address: it is even and below the top, two bytes for each word
abbrev pub is_word : List ℕ → ℕ → Bool
is_word memory a = a % 2 == 0 && nat_lt a (2 * length memory)

-- the word at an address
abbrev pub word_at : List ℕ → ℕ → ℕ
word_at memory a = slice_index memory (a / 2)

-- the memory with one word replaced
abbrev pub stored : List ℕ → ℕ → ℕ → List ℕ
stored memory a v = slice_set memory (a / 2) v

-- each word of the memory has sixteen bits
abbrev pub IsWide : List ℕ → Type 0
IsWide memory = (i : ℕ) → slice_index memory i < 65536

-- a digit count is 1 to 7 (7 stands for seven or more), and an open word lies in memory
abbrev pub ModeFits : List ℕ → Mode → Type 0
ModeFits memory Prompt = ⊤
ModeFits memory (Number value digits) = (1 ≤ digits) × (digits ≤ 7)
ModeFits memory (Opened address) = IsTrue (is_word memory address)
ModeFits memory (Typing address value digits) = IsTrue (is_word memory address) × (1 ≤ digits) × (digits ≤ 7)
ModeFits memory (Running address) = ⊤

-- the most words that a machine has: those below 160000 (octal), where the I/O page begins. `most_words` of tape_image is the same number, since
-- neither of tape and machine may stand on the other
abbrev pub largest_words : ℕ
largest_words = 28672

-- what holds of every machine: no more words than the largest, each of sixteen bits, and a mode that
-- fits
pub record IsMachine (m : Machine) : Type 0 where
  pub size : length m.memory ≤ largest_words
  pub wide : IsWide m.memory
  pub mode : ModeFits m.memory m.mode
