-- What comes of an input of words (this project's own).
use Rattle.std.specs.Prelude.{◌≡◌, ℕ, ◌+◌, List, Option, Err}
use Rattle.byte_io.specs.Input.{IsTaken, TakesAtMost}
use Rattle.byte_io.specs.declared.input.InputFault.{InputFault}
use Rattle.byte_io.specs.declared.input.InputFault.TheVariants as input
use Rattle.tape_values.specs.Tape.{TapeValue, plain_text}
use Rattle.tape_making.specs.Words.{IsReading, words_limit}
use Rattle.tape_making.specs.declared.refusal.WordsFault.{WordsFault}
use Rattle.tape_making.specs.declared.refusal.WordsFault.TheVariants as words
use Rattle.tape_making.specs.declared.making.MakeFault.{MakeFault}
use Rattle.tape_making.specs.declared.making.MakeFault.TheVariants.{Words, Read, Memory}
use Rattle.tape_making.specs.MadeTape.{IsTapeSaid}

-- the most bytes that are taken of an input: one more than a text may have, so that a longer one is seen
abbrev pub input_limit : ℕ
input_limit = words_limit + 1

-- the plain text of a tape was made of the words of an input
pub record IsMade (before after : Option (List ℕ)) (start : ℕ) (made : List ℕ) : Type 0 where
  pub text : List ℕ
  pub taken : IsTaken before after input_limit text
  pub tape : TapeValue
  pub said : IsTapeSaid text start tape
  pub plain : made ≡ plain_text tape

-- why no tape was made of an input
abbrev pub IsNotMade : Option (List ℕ) → Option (List ℕ) → MakeFault → Type 0
IsNotMade before after (Words refusal) = (text : List ℕ) × IsTaken before after input_limit text × IsReading text (Err refusal)
IsNotMade before after Read = TakesAtMost before after input_limit
IsNotMade before after Memory = TakesAtMost before after input_limit

-- the same fault of an input
abbrev pub from_input : InputFault → MakeFault
from_input input.Read = Read
from_input input.Memory = Memory

-- the same fault of words
abbrev pub from_words : WordsFault → MakeFault
from_words (words.Refused refusal) = Words refusal
from_words words.Memory = Memory
