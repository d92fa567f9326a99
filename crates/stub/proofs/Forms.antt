-- What one instruction of each form that the stub has does to a machine.
use Rattle.std.proofs.Common.{◌≡◌, ℕ, ◌+◌, ◌-◌, ◌*◌, ◌%◌, ◌≤◌, Bool, true, false, not, List, length, ◌∷◌, ◌++◌, [], refl, arith}
use Rattle.std.specs.Prelude.{nat_lt, nat_le, ◌==◌, ◌&&◌, bit_and}
use Rattle.std.proofs.lemmas.Bool.Decides.{nat_tests}
use Rattle.tape_image.specs.Memory.{byte_of, top_of}
use Rattle.odt_machine.specs.Machine.{is_word, word_at}
use Rattle.processor.specs.Console.{status}
use Rattle.processor.specs.Machine.{Machine, Codes, Runs, Halted}
use Rattle.processor.specs.Access.{with_byte}
use Rattle.processor.specs.Operand.{Word, Byte}
use Rattle.processor.specs.Operand.{extended}
use Rattle.processor.specs.Instruction.{decoded}
use Rattle.processor.specs.Execution.{step, executed, negative, advanced, difference, overflows, differ, halved}

-- memory has this word at this address
abbrev pub Has : List ℕ → ℕ → ℕ → Type 0
Has memory a w = (is_word memory a ≡ true) × (word_at memory a ≡ w)

-- the address of the word behind one
abbrev pub behind : ℕ → ℕ
behind a = (a + 2) % 65536

-- the codes after a result
abbrev pub told : ℕ → Bool → Bool → Codes
told value v c = record { n = negative Word value; z = value == 0; v = v; c = c }

stepped : (m : Machine) (w : ℕ) → m.state ≡ Runs → Has m.memory m.pc w → step m ≡ executed (advanced m) (decoded w)
stepped m w stretches has = rw (stretches, has.0, has.1) refl

even_word : (memory : List ℕ) (a : ℕ) → is_word memory a ≡ true → (a % 2 == 0) ≡ true
even_word memory a h = grind (arith, nat_tests)

low_word : (memory : List ℕ) (a : ℕ) → is_word memory a ≡ true → nat_lt a (top_of memory) ≡ true
low_word memory a h = grind (arith, nat_tests)

-- a device's register lies above memory
pub no_word : (memory : List ℕ) (a : ℕ) → length memory ≤ 28672 → 57344 ≤ a → nat_lt a (top_of memory) ≡ false
no_word memory a short high = grind (arith, nat_tests)

-- ---- halt, and the status

pub halts : (m : Machine) → m.state ≡ Runs → Has m.memory m.pc 0 → step m ≡ record m { pc = behind m.pc; state = Halted }
halts m stretches has = rw (stepped m 0 stretches has) refl

-- mtps #340
pub masks : (m : Machine) → m.state ≡ Runs → Has m.memory m.pc 0o106427 → Has m.memory (behind m.pc) 0o340 →
    step m ≡ record m { pc = behind (behind m.pc); codes = record { n = false; z = false; v = false; c = false }; masked = true }
masks m stretches has next = rw (stepped m 0o106427 stretches has, low_word m.memory (behind m.pc) next.0, even_word m.memory (behind m.pc) next.0, next.1) refl

-- ---- words

-- mov #n,r3
pub mov_r3 : (m : Machine) (n : ℕ) → m.state ≡ Runs → Has m.memory m.pc 0o012703 → Has m.memory (behind m.pc) n →
    step m ≡ record m { r3 = n; pc = behind (behind m.pc); codes = told n false m.codes.c }
mov_r3 m n stretches has next = rw (stepped m 0o012703 stretches has, next.0, next.1) refl

-- mov #n,r5
pub mov_r5 : (m : Machine) (n : ℕ) → m.state ≡ Runs → Has m.memory m.pc 0o012705 → Has m.memory (behind m.pc) n →
    step m ≡ record m { r5 = n; pc = behind (behind m.pc); codes = told n false m.codes.c }
mov_r5 m n stretches has next = rw (stepped m 0o012705 stretches has, next.0, next.1) refl

-- mov (r5)+,r1
pub next_r1 : (m : Machine) (v : ℕ) → m.state ≡ Runs → Has m.memory m.pc 0o012501 → Has m.memory m.r5 v →
    step m ≡ record m { r1 = v; r5 = behind m.r5; pc = behind m.pc; codes = told v false m.codes.c }
next_r1 m v stretches has there = rw (stepped m 0o012501 stretches has, there.0, there.1) refl

-- mov (r5)+,r0
pub next_r0 : (m : Machine) (v : ℕ) → m.state ≡ Runs → Has m.memory m.pc 0o012500 → Has m.memory m.r5 v →
    step m ≡ record m { r0 = v; r5 = behind m.r5; pc = behind m.pc; codes = told v false m.codes.c }
next_r0 m v stretches has there = rw (stepped m 0o012500 stretches has, there.0, there.1) refl

-- mov #n,sp
pub mov_sp : (m : Machine) (n : ℕ) → m.state ≡ Runs → Has m.memory m.pc 0o012706 → Has m.memory (behind m.pc) n →
    step m ≡ record m { sp = n; pc = behind (behind m.pc); codes = told n false m.codes.c }
mov_sp m n stretches has next = rw (stepped m 0o012706 stretches has, next.0, next.1) refl

-- mov r0,r2
pub mov_r0_r2 : (m : Machine) → m.state ≡ Runs → Has m.memory m.pc 0o010002 →
    step m ≡ record m { r2 = m.r0; pc = behind m.pc; codes = told m.r0 false m.codes.c }
mov_r0_r2 m stretches has = rw (stepped m 0o010002 stretches has) refl

-- mov r0,r1
pub mov_r0_r1 : (m : Machine) → m.state ≡ Runs → Has m.memory m.pc 0o010001 →
    step m ≡ record m { r1 = m.r0; pc = behind m.pc; codes = told m.r0 false m.codes.c }
mov_r0_r1 m stretches has = rw (stepped m 0o010001 stretches has) refl

-- com r4
pub com_r4 : (m : Machine) → m.state ≡ Runs → Has m.memory m.pc 0o005104 →
    step m ≡ record m { r4 = 65535 - m.r4; pc = behind m.pc; codes = told (65535 - m.r4) false true }
com_r4 m stretches has = rw (stepped m 0o005104 stretches has) refl

-- com sp
pub com_sp : (m : Machine) → m.state ≡ Runs → Has m.memory m.pc 0o005106 →
    step m ≡ record m { sp = 65535 - m.sp; pc = behind m.pc; codes = told (65535 - m.sp) false true }
com_sp m stretches has = rw (stepped m 0o005106 stretches has) refl

-- bic #n,r4
pub bic_r4 : (m : Machine) (n : ℕ) → m.state ≡ Runs → Has m.memory m.pc 0o042704 → Has m.memory (behind m.pc) n →
    step m ≡ record m { r4 = bit_and m.r4 (65535 - n); pc = behind (behind m.pc); codes = told (bit_and m.r4 (65535 - n)) false m.codes.c }
bic_r4 m n stretches has next = rw (stepped m 0o042704 stretches has, next.0, next.1) refl

-- sub #n,r4
pub sub_r4 : (m : Machine) (n : ℕ) → m.state ≡ Runs → Has m.memory m.pc 0o162704 → Has m.memory (behind m.pc) n →
    step m ≡ record m { r4 = difference m.r4 n; pc = behind (behind m.pc); codes = told (difference m.r4 n) (overflows m.r4 n) (nat_lt m.r4 n) }
sub_r4 m n stretches has next = rw (stepped m 0o162704 stretches has, next.0, next.1) refl

-- add #n,r4
pub add_r4 : (m : Machine) (n : ℕ) → m.state ≡ Runs → Has m.memory m.pc 0o062704 → Has m.memory (behind m.pc) n →
    step m ≡ record m {
      r4 = (m.r4 + n) % 65536;
      pc = behind (behind m.pc);
      codes = told ((m.r4 + n) % 65536) (not (differ (negative Word m.r4) (negative Word n)) && differ (negative Word m.r4) (negative Word ((m.r4 + n) % 65536))) (nat_le 65536 (m.r4 + n));
    }
add_r4 m n stretches has next = rw (stepped m 0o062704 stretches has, next.0, next.1) refl

-- cmp r4,#n
pub cmp_r4 : (m : Machine) (n : ℕ) → m.state ≡ Runs → Has m.memory m.pc 0o020427 → Has m.memory (behind m.pc) n →
    step m ≡ record m { pc = behind (behind m.pc); codes = told (difference m.r4 n) (overflows m.r4 n) (nat_lt m.r4 n) }
cmp_r4 m n stretches has next = rw (stepped m 0o020427 stretches has, next.0, next.1) refl

-- cmp r0,r1
pub cmp_r0_r1 : (m : Machine) → m.state ≡ Runs → Has m.memory m.pc 0o020001 →
    step m ≡ record m { pc = behind m.pc; codes = told (difference m.r0 m.r1) (overflows m.r0 m.r1) (nat_lt m.r0 m.r1) }
cmp_r0_r1 m stretches has = rw (stepped m 0o020001 stretches has) refl

-- cmp r2,r0
pub cmp_r2_r0 : (m : Machine) → m.state ≡ Runs → Has m.memory m.pc 0o020200 →
    step m ≡ record m { pc = behind m.pc; codes = told (difference m.r2 m.r0) (overflows m.r2 m.r0) (nat_lt m.r2 m.r0) }
cmp_r2_r0 m stretches has = rw (stepped m 0o020200 stretches has) refl

-- asl r3
pub asl_r3 : (m : Machine) → m.state ≡ Runs → Has m.memory m.pc 0o006303 →
    step m ≡ record m {
      r3 = 2 * m.r3 % 65536;
      pc = behind m.pc;
      codes = told (2 * m.r3 % 65536) (differ (negative Word (2 * m.r3 % 65536)) (negative Word m.r3)) (negative Word m.r3);
    }
asl_r3 m stretches has = rw (stepped m 0o006303 stretches has) refl

-- asr r4
pub asr_r4 : (m : Machine) → m.state ≡ Runs → Has m.memory m.pc 0o006204 →
    step m ≡ record m { r4 = halved m.r4; pc = behind m.pc; codes = told (halved m.r4) (differ (negative Word (halved m.r4)) (m.r4 % 2 == 1)) (m.r4 % 2 == 1) }
asr_r4 m stretches has = rw (stepped m 0o006204 stretches has) refl

-- add r4,r3
pub add_r4_r3 : (m : Machine) → m.state ≡ Runs → Has m.memory m.pc 0o060403 →
    step m ≡ record m {
      r3 = (m.r3 + m.r4) % 65536;
      pc = behind m.pc;
      codes = told ((m.r3 + m.r4) % 65536) (not (differ (negative Word m.r3) (negative Word m.r4)) && differ (negative Word m.r3) (negative Word ((m.r3 + m.r4) % 65536))) (nat_le 65536 (m.r3 + m.r4));
    }
add_r4_r3 m stretches has = rw (stepped m 0o060403 stretches has) refl

-- ---- bytes

-- the codes after a byte
abbrev pub told_byte : ℕ → Bool → Codes
told_byte value c = record { n = negative Byte value; z = value == 0; v = false; c = c }

-- movb r3,(r0)+
pub stores : (m : Machine) → m.state ≡ Runs → Has m.memory m.pc 0o110320 → nat_lt m.r0 (top_of m.memory) ≡ true →
    step m ≡ record m { r0 = (m.r0 + 1) % 65536; pc = behind m.pc; memory = with_byte m.memory m.r0 (m.r3 % 256); codes = told_byte (m.r3 % 256) m.codes.c }
stores m stretches has low = rw (stepped m 0o110320 stretches has, low) refl

-- movb (r2),r4
pub reads : (m : Machine) → m.state ≡ Runs → Has m.memory m.pc 0o111204 → nat_lt m.r2 (top_of m.memory) ≡ true →
    step m ≡ record m { r4 = extended (byte_of m.memory m.r2); pc = behind m.pc; codes = told_byte (byte_of m.memory m.r2) m.codes.c }
reads m stretches has low = rw (stepped m 0o111204 stretches has, low) refl

-- movb (r2)+,r4
pub reads_on : (m : Machine) → m.state ≡ Runs → Has m.memory m.pc 0o112204 → nat_lt m.r2 (top_of m.memory) ≡ true →
    step m ≡ record m { r4 = extended (byte_of m.memory m.r2); r2 = (m.r2 + 1) % 65536; pc = behind m.pc; codes = told_byte (byte_of m.memory m.r2) m.codes.c }
reads_on m stretches has low = rw (stepped m 0o112204 stretches has, low) refl

-- ---- the console

-- tstb @#177560
pub tests_receiver : (m : Machine) → m.state ≡ Runs → Has m.memory m.pc 0o105737 → Has m.memory (behind m.pc) 0o177560 → length m.memory ≤ 28672 →
    step m ≡ record m { pc = behind (behind m.pc); codes = told_byte (status m.console.done % 256) false }
tests_receiver m stretches has next short = rw (stepped m 0o105737 stretches has, next.0, next.1, no_word m.memory 0o177560 short (omega arith)) refl

-- tstb @#177564
pub tests_transmitter : (m : Machine) → m.state ≡ Runs → Has m.memory m.pc 0o105737 → Has m.memory (behind m.pc) 0o177564 → length m.memory ≤ 28672 →
    step m ≡ record m { pc = behind (behind m.pc); codes = told_byte (status m.console.ready % 256) false }
tests_transmitter m stretches has next short = rw (stepped m 0o105737 stretches has, next.0, next.1, no_word m.memory 0o177564 short (omega arith)) refl

-- movb @#177562,r4, where a character has come
pub takes_character : (m : Machine) → m.state ≡ Runs → Has m.memory m.pc 0o113704 → Has m.memory (behind m.pc) 0o177562 → length m.memory ≤ 28672 → m.console.done ≡ true →
    step m ≡ record m {
      r4 = extended (m.console.came % 256);
      pc = behind (behind m.pc);
      codes = told_byte (m.console.came % 256) m.codes.c;
      console = record m.console { done = false; fetched = m.console.fetched ++ m.console.came ∷ [] };
    }
takes_character m stretches has next short done = rw (stepped m 0o113704 stretches has, next.0, next.1, no_word m.memory 0o177562 short (omega arith), done) refl

-- movb r4,@#177566
pub gives_r4 : (m : Machine) → m.state ≡ Runs → Has m.memory m.pc 0o110437 → Has m.memory (behind m.pc) 0o177566 → length m.memory ≤ 28672 →
    step m ≡ record m {
      pc = behind (behind m.pc);
      codes = told_byte (m.r4 % 256) m.codes.c;
      console = record m.console { ready = false; leaving = m.r4 % 256 % 256 };
    }
gives_r4 m stretches has next short = rw (stepped m 0o110437 stretches has, next.0, next.1, no_word m.memory 0o177566 short (omega arith)) refl

-- ---- branches: so many words on where they go, else to the instruction behind

abbrev pub at : Machine → ℕ → Machine
at m a = record m { pc = a }

-- where a branch goes whose word lies at an address
abbrev pub target : ℕ → ℕ → ℕ
target a distance = (behind a + 2 * extended distance) % 65536

pub br_byte : (m : Machine) → m.state ≡ Runs → Has m.memory m.pc 0o000750 → step m ≡ at m (target m.pc 0o350)
br_byte m stretches has = rw (stepped m 0o000750 stretches has) refl

pub br_out : (m : Machine) → m.state ≡ Runs → Has m.memory m.pc 0o000401 → step m ≡ at m (target m.pc 0o1)
br_out m stretches has = rw (stepped m 0o000401 stretches has) refl

pub br_loop : (m : Machine) → m.state ≡ Runs → Has m.memory m.pc 0o000721 → step m ≡ at m (target m.pc 0o321)
br_loop m stretches has = rw (stepped m 0o000721 stretches has) refl

pub br_next : (m : Machine) → m.state ≡ Runs → Has m.memory m.pc 0o000710 → step m ≡ at m (target m.pc 0o310)
br_next m stretches has = rw (stepped m 0o000710 stretches has) refl

pub beq_stop_goes : (m : Machine) → m.state ≡ Runs → Has m.memory m.pc 0o001466 → m.codes.z ≡ true → step m ≡ at m (target m.pc 0o66)
beq_stop_goes m stretches has f = rw (stepped m 0o001466 stretches has, f) refl

pub beq_stop_stays : (m : Machine) → m.state ≡ Runs → Has m.memory m.pc 0o001466 → m.codes.z ≡ false → step m ≡ at m (behind m.pc)
beq_stop_stays m stretches has f = rw (stepped m 0o001466 stretches has, f) refl

pub beq_idle_goes : (m : Machine) → m.state ≡ Runs → Has m.memory m.pc 0o001427 → m.codes.z ≡ true → step m ≡ at m (target m.pc 0o27)
beq_idle_goes m stretches has f = rw (stepped m 0o001427 stretches has, f) refl

pub beq_idle_stays : (m : Machine) → m.state ≡ Runs → Has m.memory m.pc 0o001427 → m.codes.z ≡ false → step m ≡ at m (behind m.pc)
beq_idle_stays m stretches has f = rw (stepped m 0o001427 stretches has, f) refl

pub beq_empty_goes : (m : Machine) → m.state ≡ Runs → Has m.memory m.pc 0o001424 → m.codes.z ≡ true → step m ≡ at m (target m.pc 0o24)
beq_empty_goes m stretches has f = rw (stepped m 0o001424 stretches has, f) refl

pub beq_empty_stays : (m : Machine) → m.state ≡ Runs → Has m.memory m.pc 0o001424 → m.codes.z ≡ false → step m ≡ at m (behind m.pc)
beq_empty_stays m stretches has f = rw (stepped m 0o001424 stretches has, f) refl

pub bne_loop_goes : (m : Machine) → m.state ≡ Runs → Has m.memory m.pc 0o001317 → m.codes.z ≡ false → step m ≡ at m (target m.pc 0o317)
bne_loop_goes m stretches has f = rw (stepped m 0o001317 stretches has, f) refl

pub bne_loop_stays : (m : Machine) → m.state ≡ Runs → Has m.memory m.pc 0o001317 → m.codes.z ≡ true → step m ≡ at m (behind m.pc)
bne_loop_stays m stretches has f = rw (stepped m 0o001317 stretches has, f) refl

pub bpl_idle_goes : (m : Machine) → m.state ≡ Runs → Has m.memory m.pc 0o100024 → m.codes.n ≡ false → step m ≡ at m (target m.pc 0o24)
bpl_idle_goes m stretches has f = rw (stepped m 0o100024 stretches has, f) refl

pub bpl_idle_stays : (m : Machine) → m.state ≡ Runs → Has m.memory m.pc 0o100024 → m.codes.n ≡ true → step m ≡ at m (behind m.pc)
bpl_idle_stays m stretches has f = rw (stepped m 0o100024 stretches has, f) refl

pub bpl_more_goes : (m : Machine) → m.state ≡ Runs → Has m.memory m.pc 0o100354 → m.codes.n ≡ false → step m ≡ at m (target m.pc 0o354)
bpl_more_goes m stretches has f = rw (stepped m 0o100354 stretches has, f) refl

pub bpl_more_stays : (m : Machine) → m.state ≡ Runs → Has m.memory m.pc 0o100354 → m.codes.n ≡ true → step m ≡ at m (behind m.pc)
bpl_more_stays m stretches has f = rw (stepped m 0o100354 stretches has, f) refl

pub bpl_loop_goes : (m : Machine) → m.state ≡ Runs → Has m.memory m.pc 0o100342 → m.codes.n ≡ false → step m ≡ at m (target m.pc 0o342)
bpl_loop_goes m stretches has f = rw (stepped m 0o100342 stretches has, f) refl

pub bpl_loop_stays : (m : Machine) → m.state ≡ Runs → Has m.memory m.pc 0o100342 → m.codes.n ≡ true → step m ≡ at m (behind m.pc)
bpl_loop_stays m stretches has f = rw (stepped m 0o100342 stretches has, f) refl

pub bpl_low_goes : (m : Machine) → m.state ≡ Runs → Has m.memory m.pc 0o100006 → m.codes.n ≡ false → step m ≡ at m (target m.pc 0o6)
bpl_low_goes m stretches has f = rw (stepped m 0o100006 stretches has, f) refl

pub bpl_low_stays : (m : Machine) → m.state ≡ Runs → Has m.memory m.pc 0o100006 → m.codes.n ≡ true → step m ≡ at m (behind m.pc)
bpl_low_stays m stretches has f = rw (stepped m 0o100006 stretches has, f) refl

pub bhi_stays_below : (m : Machine) → m.state ≡ Runs → Has m.memory m.pc 0o101010 → m.codes.c ≡ true → step m ≡ at m (behind m.pc)
bhi_stays_below m stretches has c = rw (stepped m 0o101010 stretches has, c) refl

pub bhi_stays_at : (m : Machine) → m.state ≡ Runs → Has m.memory m.pc 0o101010 → m.codes.c ≡ false → m.codes.z ≡ true → step m ≡ at m (behind m.pc)
bhi_stays_at m stretches has c z = rw (stepped m 0o101010 stretches has, c, z) refl

pub bhi_goes : (m : Machine) → m.state ≡ Runs → Has m.memory m.pc 0o101010 → m.codes.c ≡ false → m.codes.z ≡ false → step m ≡ at m (target m.pc 0o10)
bhi_goes m stretches has c z = rw (stepped m 0o101010 stretches has, c, z) refl
