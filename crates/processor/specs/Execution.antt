-- What each instruction does (DEC's Microcomputer Processor Handbook, the instruction set).
use Rattle.std.specs.Prelude.{ℕ, ◌+◌, ◌-◌, ◌*◌, ◌/◌, ◌%◌, ◌==◌, nat_le, nat_lt, Bool, true, false, not, ◌&&◌, ◌||◌, if◌then◌else◌, bit_and}
use Rattle.odt_machine.specs.Machine.{is_word, word_at}
use Rattle.processor.specs.Machine.{Machine, State, Runs, Halted, Astray, astray}
use Rattle.processor.specs.Access.{Got}
use Rattle.processor.specs.Operand.{Width, Word, Byte, Location, Found, found, read, operand, write, extended, move_byte}
use Rattle.processor.specs.Instruction.{Instruction, Halt, Mov, Movb, Cmp, Bit, Bic, Add, Sub, Com, Asl, Asr, Tstb, Mtps, Other, decoded}
use Rattle.processor.specs.Instruction.{Br, Bne, Beq, Bpl, Bhi}

-- ---- numbers of sixteen bits

-- the sign bit is set
abbrev pub negative : Width → ℕ → Bool
negative Word v = nat_le 0o100000 v
negative Byte v = nat_le 0o200 v

-- two bits, or signs, are not the same
abbrev pub differ : Bool → Bool → Bool
differ true b = not b
differ false b = b

-- x + y, and x - y: what passes sixteen bits falls off
abbrev pub total : ℕ → ℕ → ℕ
total x y = (x + y) % 65536

abbrev pub difference : ℕ → ℕ → ℕ
difference x y = (x + 65536 - y) % 65536

-- x + y overflows: the signs are one, and the sum has the other
abbrev pub total_overflows : ℕ → ℕ → Bool
total_overflows x y = not (differ (negative Word x) (negative Word y)) && differ (negative Word x) (negative Word (total x y))

-- x - y overflows: the signs differ, and the difference has the sign of y
abbrev pub overflows : ℕ → ℕ → Bool
overflows x y = differ (negative Word x) (negative Word y) && not (differ (negative Word y) (negative Word (difference x y)))

-- twice a number
abbrev pub doubled : ℕ → ℕ
doubled v = 2 * v % 65536

-- half of a number, whose sign stays
abbrev pub halved : ℕ → ℕ
halved v = v / 2 + v / 0o100000 * 0o100000

-- a number is odd: bit 0 is set
abbrev pub is_odd : ℕ → Bool
is_odd v = v % 2 == 1

-- ---- results and operands

-- N and Z tell of a result; V and C are given
abbrev pub tested : Width → Machine → ℕ → Bool → Bool → Machine
tested width m value v c = record m { codes = record { n = negative width value; z = value == 0; v = v; c = c } }

-- the operands of an instruction that changes one: the source's value, that of the destination, where that is, and the machine after both were read
pub record Both : Type 0 where
  pub source : ℕ
  pub before : ℕ
  pub at : Location
  pub after : Machine

-- the destination is found and read behind the source
abbrev pub both_behind : ℕ → Found → Both
both_behind source to = record { source = source; before = (read Word to.after to.at).value; at = to.at; after = (read Word to.after to.at).after }

abbrev pub both : Machine → ℕ → ℕ → Both
both m s d = both_behind (operand Word m s).value (found Word (operand Word m s).after d)

-- the destination of an instruction with one operand
abbrev pub one : Machine → ℕ → Both
one m d = both_behind 0 (found Word m d)

-- the result goes to the destination
abbrev pub resulting : Both → ℕ → Bool → Bool → Machine
resulting b value v c = tested Word (write b.after b.at value) value v c

-- ---- each instruction

-- MOV: the source goes to the destination, which isn't read; V is cleared, C stays
abbrev pub mov : Bool → ℕ → Found → Machine
mov c value to = tested Word (write to.after to.at value) value false c

-- MOVB: the same with a byte
abbrev pub movb : Bool → ℕ → Found → Machine
movb c value to = tested Byte (move_byte to.after to.at value) value false c

-- CMP: the codes of source - destination; C where the destination is more
abbrev pub cmp : ℕ → Got → Machine
cmp source destination =
    tested Word destination.after (difference source destination.value) (overflows source destination.value) (nat_lt source destination.value)

-- BIT: the codes of the bits that both have; V is cleared, C stays
abbrev pub bit : Both → Machine
bit b = tested Word b.after (bit_and b.before b.source) false b.after.codes.c

-- BIC: the bits of the source are cleared in the destination; V is cleared, C stays
abbrev pub bic : Both → Machine
bic b = resulting b (bit_and b.before (0o177777 - b.source)) false b.after.codes.c

-- ADD: destination + source; C where that passes sixteen bits
abbrev pub add : Both → Machine
add b = resulting b (total b.before b.source) (total_overflows b.before b.source) (nat_le 65536 (b.before + b.source))

-- SUB: destination - source; C where the source is more
abbrev pub sub : Both → Machine
sub b = resulting b (difference b.before b.source) (overflows b.before b.source) (nat_lt b.before b.source)

-- COM: every bit of the destination is turned; V is cleared, C is set
abbrev pub complement : Both → Machine
complement b = resulting b (0o177777 - b.before) false true

-- ASL: twice the destination; C is the bit that falls off; V is N other than C
abbrev pub asl : Both → Machine
asl b = resulting b (doubled b.before) (differ (negative Word (doubled b.before)) (negative Word b.before)) (negative Word b.before)

-- ASR: half the destination; C is the bit that falls off; V is N other than C
abbrev pub asr : Both → Machine
asr b = resulting b (halved b.before) (differ (negative Word (halved b.before)) (is_odd b.before)) (is_odd b.before)

-- TSTB: the codes of a byte; V and C are cleared
abbrev pub tstb : Got → Machine
tstb got = tested Byte got.after got.value false false

-- MTPS: the codes and the mask of interrupts are the byte's
abbrev pub mtps : Got → Machine
mtps got =
    record got.after {
      codes = record { n = is_odd (got.value / 8); z = is_odd (got.value / 4); v = is_odd (got.value / 2); c = is_odd got.value };
      masked = is_odd (got.value / 128);
    }

-- a branch that goes: so many words on from behind the instruction, or back where the distance is negative
abbrev pub branch : Machine → Bool → ℕ → Machine
branch m goes distance = if goes then record m { pc = (m.pc + 2 * extended distance) % 65536 } else m

-- each instruction, with the program counter behind its word
abbrev pub executed : Machine → Instruction → Machine
executed m Halt = record m { state = Halted }
executed m (Mov s d) = mov m.codes.c (operand Word m s).value (found Word (operand Word m s).after d)
executed m (Movb s d) = movb m.codes.c (operand Byte m s).value (found Byte (operand Byte m s).after d)
executed m (Cmp s d) = cmp (operand Word m s).value (operand Word (operand Word m s).after d)
executed m (Bit s d) = bit (both m s d)
executed m (Bic s d) = bic (both m s d)
executed m (Add s d) = add (both m s d)
executed m (Sub s d) = sub (both m s d)
executed m (Com d) = complement (one m d)
executed m (Asl d) = asl (one m d)
executed m (Asr d) = asr (one m d)
executed m (Tstb d) = tstb (operand Byte m d)
executed m (Mtps s) = mtps (operand Byte m s)
executed m (Br distance) = branch m true distance
executed m (Bne distance) = branch m (not m.codes.z) distance
executed m (Beq distance) = branch m m.codes.z distance
executed m (Bpl distance) = branch m (not m.codes.n) distance
executed m (Bhi distance) = branch m (not (m.codes.c || m.codes.z)) distance
executed m Other = astray m

-- ---- one instruction

-- the program counter behind the word that it is at
abbrev pub advanced : Machine → Machine
advanced m = record m { pc = (m.pc + 2) % 65536 }

-- the word at the program counter is executed, where memory has it
abbrev pub fetched : Bool → ℕ → Machine → Machine
fetched true word m = executed (advanced m) (decoded word)
fetched false word m = astray m

-- a machine that runs executes the next instruction; another does nothing
abbrev pub steps : State → Machine → Machine
steps Runs m = fetched (is_word m.memory m.pc) (word_at m.memory m.pc) m
steps Halted m = m
steps Astray m = m

abbrev pub step : Machine → Machine
step m = steps m.state m
