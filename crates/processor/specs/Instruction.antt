-- The instructions that are described, and the words that they are (DEC's Microcomputer Processor Handbook, the instruction set).
use Rattle.std.specs.Prelude.{ℕ, ◌/◌, ◌%◌, ◌==◌, if◌then◌else◌}

-- an instruction with the six bits of each operand (source before destination), or the eight bits of a branch's distance
pub data Instruction : Type 0 where
  Halt : Instruction
  Mov : ℕ → ℕ → Instruction
  Movb : ℕ → ℕ → Instruction
  Cmp : ℕ → ℕ → Instruction
  Bit : ℕ → ℕ → Instruction
  Bic : ℕ → ℕ → Instruction
  Add : ℕ → ℕ → Instruction
  Sub : ℕ → ℕ → Instruction
  Com : ℕ → Instruction
  Asl : ℕ → Instruction
  Asr : ℕ → Instruction
  Tstb : ℕ → Instruction
  Mtps : ℕ → Instruction
  Br : ℕ → Instruction
  Bne : ℕ → Instruction
  Beq : ℕ → Instruction
  Bpl : ℕ → Instruction
  Bhi : ℕ → Instruction
  Other : Instruction

-- the operands of a word: bits 11 to 6, bits 5 to 0, and bits 7 to 0
abbrev pub source : ℕ → ℕ
source w = w / 0o100 % 0o100

abbrev pub destination : ℕ → ℕ
destination w = w % 0o100

abbrev pub distance : ℕ → ℕ
distance w = w % 0o400

-- the instruction that a word is: four leading bits and two operands, ten and one, or eight and a distance
abbrev pub decoded : ℕ → Instruction
decoded w =
    if w == 0 then Halt
    else if w / 0o10000 == 0o01 then Mov (source w) (destination w)
    else if w / 0o10000 == 0o02 then Cmp (source w) (destination w)
    else if w / 0o10000 == 0o03 then Bit (source w) (destination w)
    else if w / 0o10000 == 0o04 then Bic (source w) (destination w)
    else if w / 0o10000 == 0o06 then Add (source w) (destination w)
    else if w / 0o10000 == 0o11 then Movb (source w) (destination w)
    else if w / 0o10000 == 0o16 then Sub (source w) (destination w)
    else if w / 0o100 == 0o0051 then Com (destination w)
    else if w / 0o100 == 0o0062 then Asr (destination w)
    else if w / 0o100 == 0o0063 then Asl (destination w)
    else if w / 0o100 == 0o1057 then Tstb (destination w)
    else if w / 0o100 == 0o1064 then Mtps (destination w)
    else if w / 0o400 == 0o001 then Br (distance w)
    else if w / 0o400 == 0o002 then Bne (distance w)
    else if w / 0o400 == 0o003 then Beq (distance w)
    else if w / 0o400 == 0o200 then Bpl (distance w)
    else if w / 0o400 == 0o202 then Bhi (distance w)
    else Other
