-- A PDP-11 as a program sees it: the processor's registers, memory, and the console (DEC's Microcomputer Processor Handbook).
use Rattle.std.specs.Prelude.{ℕ, ◌==◌, Bool, if◌then◌else◌, List}
use Rattle.processor.specs.Console.{Console}

-- the condition codes: negative, zero, overflow, carry
pub record Codes : Type 0 where
  pub n : Bool
  pub z : Bool
  pub v : Bool
  pub c : Bool

-- the machine runs, or has halted, or went astray: it came to where these definitions say nothing, to another instruction, an address without
-- memory, or a device's register that is not described
pub data State : Type 0 where
  Runs : State
  Halted : State
  Astray : State

-- the general registers, the condition codes, whether interrupts are masked, the words of memory from address 000000 on, the console, and whether
-- the machine runs
pub record Machine : Type 0 where
  pub r0 : ℕ
  pub r1 : ℕ
  pub r2 : ℕ
  pub r3 : ℕ
  pub r4 : ℕ
  pub r5 : ℕ
  pub sp : ℕ
  pub pc : ℕ
  pub codes : Codes
  pub masked : Bool
  pub memory : List ℕ
  pub console : Console
  pub state : State

-- a general register by its number: 6 is the stack pointer, 7 the program counter
abbrev pub register : Machine → ℕ → ℕ
register m n =
    if n == 0 then m.r0 else if n == 1 then m.r1 else if n == 2 then m.r2 else if n == 3 then m.r3 else if n == 4 then m.r4
    else if n == 5 then m.r5 else if n == 6 then m.sp else m.pc

-- the machine with another number in a register
abbrev pub with_register : Machine → ℕ → ℕ → Machine
with_register m n v =
    if n == 0 then record m { r0 = v } else if n == 1 then record m { r1 = v } else if n == 2 then record m { r2 = v }
    else if n == 3 then record m { r3 = v } else if n == 4 then record m { r4 = v } else if n == 5 then record m { r5 = v }
    else if n == 6 then record m { sp = v } else record m { pc = v }

-- the machine where nothing is said of it any more
abbrev pub astray : Machine → Machine
astray m = record m { state = Astray }
