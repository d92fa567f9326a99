-- The stub as the host knows it: it takes characters, and answers each byte as memory holds it then.
use Rattle.std.specs.Prelude.{ℕ, ◌+◌, ◌-◌, ◌*◌, ◌/◌, ◌%◌, if◌then◌else◌, List, [], ◌∷◌, ◌++◌, Option, Some, None}
use Rattle.tape_image.specs.Memory.{byte_of}
use Rattle.processor.specs.Access.{with_byte}
use Rattle.exchange_core.specs.declared.stretch.Stretch.{Stretch}
use Rattle.exchange_core.specs.Chunk.{is_nibble}
use Rattle.exchange_core.specs.Stretch.{places}

-- memory; where the bytes belong that are still to come, in their order (where none is left, it has halted); the high nibble of the next one, where it
-- has come; and all that was answered
pub record Filling : Type 0 where
  pub memory : List ℕ
  pub left : List ℕ
  pub high : Option ℕ
  pub answers : List ℕ

-- it has just been started, with these stretches to fill
abbrev pub begun : List ℕ → List Stretch → Filling
begun memory stretches = record { memory = memory; left = places stretches; high = None; answers = [] }

-- the character in which a nibble is answered: that of its complement
abbrev pub answered : ℕ → ℕ
answered n = 0o157 - n

-- a byte of memory, as two characters
abbrev pub spelled : List ℕ → ℕ → List ℕ
spelled memory a = answered (byte_of memory a / 16) ∷ answered (byte_of memory a % 16) ∷ []

-- a nibble has come: the high one of a byte, or the low one; then the byte is in memory, and is answered
abbrev pub with_nibble : Filling → Option ℕ → ℕ → ℕ → List ℕ → Filling
with_nibble f None n a left = record f { high = Some n }
with_nibble f (Some high) n a left = record {
  memory = with_byte f.memory a (16 * high + n);
  left = left;
  high = None;
  answers = f.answers ++ spelled (with_byte f.memory a (16 * high + n)) a;
}

-- a character has come: a nibble, or it halts
abbrev pub takes : Filling → List ℕ → ℕ → Filling
takes f [] c = f
takes f (a ∷ left) c = if is_nibble c then with_nibble f f.high (c - 0o140) a left else record f { left = [] }

abbrev pub taken : Filling → ℕ → Filling
taken f c = takes f f.left c

-- these characters have come
abbrev pub after : Filling → List ℕ → Filling
after f [] = f
after f (c ∷ cs) = after (taken f c) cs
