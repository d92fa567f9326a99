-- Each instruction, worked out by hand.
use Rattle.std.specs.Prelude.{◌≡◌, ℕ, Bool, true, false, List, [], ◌∷◌}
use Rattle.processor.specs.Console.{Console, arrived, left}
use Rattle.processor.specs.Machine.{Machine, Codes, Runs, Halted, Astray}
use Rattle.processor.specs.Instruction.{Halt, Mov, Movb, Cmp, Bit, Bic, Add, Sub, Com, Asl, Asr, Tstb, Mtps, Br, Bne, Beq, Bpl, Bhi, Other, decoded}
use Rattle.processor.specs.Execution.{step}

-- the word of each instruction: its name in MACRO-11 behind it; then words that are none of these
abbrev pub WordsAreDecoded : Type 0
WordsAreDecoded =
    (decoded 0o000000 ≡ Halt)  -- halt
    × (decoded 0o012705 ≡ Mov 0o27 0o05)  -- mov #n,r5
    × (decoded 0o112203 ≡ Movb 0o22 0o03)  -- movb (r2)+,r3
    × (decoded 0o020427 ≡ Cmp 0o04 0o27)  -- cmp r4,#n
    × (decoded 0o032700 ≡ Bit 0o27 0o00)  -- bit #n,r0
    × (decoded 0o042704 ≡ Bic 0o27 0o04)  -- bic #n,r4
    × (decoded 0o060403 ≡ Add 0o04 0o03)  -- add r4,r3
    × (decoded 0o162704 ≡ Sub 0o27 0o04)  -- sub #n,r4
    × (decoded 0o005103 ≡ Com 0o03)  -- com r3
    × (decoded 0o006303 ≡ Asl 0o03)  -- asl r3
    × (decoded 0o006204 ≡ Asr 0o04)  -- asr r4
    × (decoded 0o105737 ≡ Tstb 0o37)  -- tstb @#n
    × (decoded 0o106427 ≡ Mtps 0o27)  -- mtps #n
    × (decoded 0o000704 ≡ Br 0o304)  -- br back
    × (decoded 0o001311 ≡ Bne 0o311)  -- bne back
    × (decoded 0o001472 ≡ Beq 0o072)  -- beq on
    × (decoded 0o100375 ≡ Bpl 0o375)  -- bpl back
    × (decoded 0o101052 ≡ Bhi 0o052)  -- bhi on
    × (decoded 0o000001 ≡ Other)  -- wait
    × (decoded 0o004737 ≡ Other)  -- jsr pc,@#n
    × (decoded 0o105103 ≡ Other)  -- comb r3
    × (decoded 0o120427 ≡ Other)  -- cmpb r4,#n
    × (decoded 0o101452 ≡ Other)  -- blos on

-- a console at rest
abbrev pub resting : Console
resting = record { done = false; came = 0; ready = true; leaving = 0; fetched = []; gone = [] }

-- a machine at address 000000 with this memory and these numbers in r1 and r2; N, Z and V are set, so that it shows where one is cleared
abbrev pub before : List ℕ → Bool → ℕ → ℕ → Machine
before memory carry r1 r2 = record {
  r0 = 0;
  r1 = r1;
  r2 = r2;
  r3 = 0;
  r4 = 0;
  r5 = 0;
  sp = 0;
  pc = 0;
  codes = record { n = true; z = true; v = true; c = carry };
  masked = false;
  memory = memory;
  console = resting;
  state = Runs;
}

-- the codes by their letters
abbrev pub nzvc : Bool → Bool → Bool → Bool → Codes
nzvc n z v c = record { n = n; z = z; v = v; c = c }

-- an instruction of r1 and r2, or of r2: with this carry and these numbers before, it leaves this number in r2, and these codes
abbrev pub Gives : ℕ → Bool → ℕ → ℕ → ℕ → Codes → Type 0
Gives word carry r1 r2 now codes = ((step (before (word ∷ []) carry r1 r2)).r2 ≡ now) × ((step (before (word ∷ []) carry r1 r2)).codes ≡ codes)

-- add r1,r2
abbrev pub AddGives : Type 0
AddGives =
    Gives 0o060102 true 1 2 3 (nzvc false false false false)
    × Gives 0o060102 false 0o000001 0o077777 0o100000 (nzvc true false true false)  -- the largest, and 1
    × Gives 0o060102 false 0o000001 0o177777 0o000000 (nzvc false true false true)  -- -1 and 1
    × Gives 0o060102 false 0o100000 0o100000 0o000000 (nzvc false true true true)  -- the least, twice
    × Gives 0o060102 false 0o177777 0o100000 0o077777 (nzvc false false true true)  -- the least, and -1
    × Gives 0o060102 false 0o177777 0o177777 0o177776 (nzvc true false false true)  -- -1, twice

-- sub r1,r2: r2 - r1
abbrev pub SubGives : Type 0
SubGives =
    Gives 0o160102 true 1 3 2 (nzvc false false false false)
    × Gives 0o160102 true 0o000140 0o000140 0o000000 (nzvc false true false false)  -- itself
    × Gives 0o160102 false 0o000001 0o000000 0o177777 (nzvc true false false true)  -- below 0
    × Gives 0o160102 true 0o000001 0o100000 0o077777 (nzvc false false true false)  -- below the least
    × Gives 0o160102 false 0o177777 0o077777 0o100000 (nzvc true false true true)  -- above the largest

-- cmp r1,r2: the codes of r1 - r2, and r2 stays
abbrev pub CmpGives : Type 0
CmpGives =
    Gives 0o020102 true 3 1 1 (nzvc false false false false)
    × Gives 0o020102 true 0o160000 0o160000 0o160000 (nzvc false true false false)  -- itself
    × Gives 0o020102 false 0o000016 0o000017 0o000017 (nzvc true false false true)  -- less
    × Gives 0o020102 true 0o100000 0o000001 0o000001 (nzvc false false true false)  -- the least, and 1
    × Gives 0o020102 false 0o077777 0o177777 0o177777 (nzvc true false true true)  -- the largest, and -1

-- bit r1,r2, bic r1,r2 and com r2
abbrev pub BitsGive : Type 0
BitsGive =
    Gives 0o030102 true 0o000017 0o001760 0o001760 (nzvc false true false true)  -- bit: none; C stays
    × Gives 0o030102 false 0o100001 0o100002 0o100002 (nzvc true false false false)  -- bit: the sign
    × Gives 0o040102 false 0o177600 0o177745 0o000145 (nzvc false false false false)  -- bic: seven bits stay
    × Gives 0o040102 true 0o000377 0o100377 0o100000 (nzvc true false false true)  -- bic: the sign stays; C does
    × Gives 0o040102 true 0o177777 0o123456 0o000000 (nzvc false true false true)  -- bic: all
    × Gives 0o005102 false 0 0o000000 0o177777 (nzvc true false false true)  -- com: C is set
    × Gives 0o005102 false 0 0o177777 0o000000 (nzvc false true false true)
    × Gives 0o005102 true 0 0o100001 0o077776 (nzvc false false false true)

-- asl r2 and asr r2
abbrev pub ShiftsGive : Type 0
ShiftsGive =
    Gives 0o006302 true 0 0o000001 0o000002 (nzvc false false false false)
    × Gives 0o006302 true 0 0o040000 0o100000 (nzvc true false true false)  -- the sign turns
    × Gives 0o006302 false 0 0o100000 0o000000 (nzvc false true true true)  -- the sign falls off
    × Gives 0o006302 false 0 0o140000 0o100000 (nzvc true false false true)  -- it falls off, and is there again
    × Gives 0o006202 true 0 0o000002 0o000001 (nzvc false false false false)
    × Gives 0o006202 false 0 0o000001 0o000000 (nzvc false true true true)  -- bit 0 falls off
    × Gives 0o006202 true 0 0o100000 0o140000 (nzvc true false true false)  -- the sign stays
    × Gives 0o006202 false 0 0o177777 0o177777 (nzvc true false false true)

-- mov r1,r2, movb r1,r2 and tstb r2
abbrev pub MovesGive : Type 0
MovesGive =
    Gives 0o010102 true 0 1 0 (nzvc false true false true)  -- mov: C stays
    × Gives 0o010102 false 0o100000 1 0o100000 (nzvc true false false false)
    × Gives 0o110102 true 0o000177 0o177777 0o000177 (nzvc false false false true)  -- movb: the largest byte
    × Gives 0o110102 false 0o000200 0 0o177600 (nzvc true false false false)  -- movb: the sign is extended
    × Gives 0o110102 false 0o123400 1 0o000000 (nzvc false true false false)  -- movb: the low byte alone
    × Gives 0o105702 true 0 0o000200 0o000200 (nzvc true false false false)  -- tstb: C is cleared
    × Gives 0o105702 true 0 0o100177 0o100177 (nzvc false false false false)
    × Gives 0o105702 true 0 0o177400 0o177400 (nzvc false true false false)

-- mtps r2: the codes, and whether interrupts are masked
abbrev pub Masks : ℕ → Codes → Bool → Type 0
Masks r2 codes masked =
    ((step (before (0o106402 ∷ []) true 0 r2)).codes ≡ codes) × ((step (before (0o106402 ∷ []) true 0 r2)).masked ≡ masked)

abbrev pub MtpsGives : Type 0
MtpsGives =
    Masks 0o340 (nzvc false false false false) true
    × Masks 0o157 (nzvc true true true true) false
    × Masks 0o012 (nzvc true false true false) false
    × Masks 0o205 (nzvc false true false true) true

-- every instruction that gives a result
abbrev pub ResultsAreRight : Type 0
ResultsAreRight = AddGives × SubGives × CmpGives × BitsGive × ShiftsGive × MovesGive × MtpsGives

-- a machine with these codes that is at address 000004, where this branch stands
abbrev pub branching : ℕ → Codes → Machine
branching word codes = record (before (0 ∷ 0 ∷ word ∷ []) false 0 0) { pc = 4; codes = codes }

abbrev pub GoesTo : ℕ → Codes → ℕ → Type 0
GoesTo word codes pc = (step (branching word codes)).pc ≡ pc

abbrev pub BranchesGo : Type 0
BranchesGo =
    GoesTo 0o000400 (nzvc false false false false) 6  -- br: no distance
    × GoesTo 0o000577 (nzvc false false false false) 0o404  -- br: the farthest on
    × GoesTo 0o000777 (nzvc false false false false) 4  -- br: to itself
    × GoesTo 0o000775 (nzvc false false false false) 0  -- br: back
    × GoesTo 0o000600 (nzvc false false false false) 0o177406  -- br: the farthest back, and around
    × GoesTo 0o001001 (nzvc true false true true) 0o10  -- bne: not Z
    × GoesTo 0o001001 (nzvc false true false false) 6
    × GoesTo 0o001401 (nzvc false true false false) 0o10  -- beq: Z
    × GoesTo 0o001401 (nzvc true false true true) 6
    × GoesTo 0o100001 (nzvc false true true true) 0o10  -- bpl: not N
    × GoesTo 0o100001 (nzvc true false false false) 6
    × GoesTo 0o101001 (nzvc true false true false) 0o10  -- bhi: neither C nor Z
    × GoesTo 0o101001 (nzvc false true false false) 6
    × GoesTo 0o101001 (nzvc false false false true) 6

-- one instruction over this memory, r1 and r2
abbrev pub stepped : List ℕ → ℕ → ℕ → Machine
stepped memory r1 r2 = step (before memory false r1 r2)

-- each addressing mode
abbrev pub OperandsAreFound : Type 0
OperandsAreFound =
    ((stepped (0o012702 ∷ 0o123456 ∷ []) 0 0).r2 ≡ 0o123456)  -- mov #123456,r2
    × ((stepped (0o012702 ∷ 0o123456 ∷ []) 0 0).pc ≡ 4)  -- the number is no instruction
    × ((stepped (0o011102 ∷ 0o123456 ∷ []) 2 0).r2 ≡ 0o123456)  -- mov (r1),r2
    × ((stepped (0o012102 ∷ 0o123456 ∷ []) 2 0).r1 ≡ 4)  -- mov (r1)+,r2: on by a word
    × ((stepped (0o112102 ∷ 0o123456 ∷ []) 2 0).r1 ≡ 3)  -- movb (r1)+,r2: on by a byte
    × ((stepped (0o112102 ∷ 0o123456 ∷ []) 3 0).r2 ≡ 0o177647)  -- movb (r1)+,r2: the high byte, its sign extended
    × ((stepped (0o013102 ∷ 4 ∷ 0o123456 ∷ []) 2 0).r2 ≡ 0o123456)  -- mov @(r1)+,r2
    × ((stepped (0o013102 ∷ 4 ∷ 0o123456 ∷ []) 2 0).r1 ≡ 4)
    × ((stepped (0o013702 ∷ 4 ∷ 0o123456 ∷ []) 0 0).r2 ≡ 0o123456)  -- mov @#4,r2
    × ((stepped (0o110112 ∷ 0o123456 ∷ []) 0o001252 3).memory ≡ 0o110112 ∷ 0o125056 ∷ [])  -- movb r1,(r2): the high byte
    × ((stepped (0o110122 ∷ 0o123456 ∷ []) 0o001252 2).memory ≡ 0o110122 ∷ 0o123652 ∷ [])  -- movb r1,(r2)+: the low one
    × ((stepped (0o010112 ∷ 0 ∷ []) 0o123456 2).memory ≡ 0o010112 ∷ 0o123456 ∷ [])  -- mov r1,(r2)
    × ((stepped (0o010112 ∷ 0 ∷ []) 1 1).state ≡ Astray)  -- mov r1,(r2): no word at an odd address
    × ((stepped (0o010112 ∷ 0 ∷ []) 1 4).state ≡ Astray)  -- mov r1,(r2): nor above memory
    × ((stepped (0o016102 ∷ 0 ∷ []) 0 0).state ≡ Astray)  -- mov n(r1),r2: not described
    × ((stepped (0o000000 ∷ []) 0 0).state ≡ Halted)
    × ((stepped (0o000000 ∷ []) 0 0).pc ≡ 2)  -- halt: behind it

-- a console at which a character has come, over another that was not fetched
abbrev pub overrun : Console
overrun = arrived (arrived resting 0o141) 0o142

-- a machine with such a console, or a busy one
abbrev pub at_console : List ℕ → Console → Machine
at_console memory console = step (record (before memory false 0o157 0) { console = console })

-- tstb @#177560 and tstb @#177564; movb @#177562,r2; movb r1,@#177566
abbrev pub ConsoleAnswers : Type 0
ConsoleAnswers =
    ((at_console (0o105737 ∷ 0o177560 ∷ []) resting).codes.n ≡ false)  -- no character has come
    × ((at_console (0o105737 ∷ 0o177560 ∷ []) overrun).codes.n ≡ true)
    × ((at_console (0o113702 ∷ 0o177562 ∷ []) overrun).r2 ≡ 0o142)  -- the last one that came
    × ((at_console (0o113702 ∷ 0o177562 ∷ []) overrun).console.done ≡ false)
    × ((at_console (0o113702 ∷ 0o177562 ∷ []) overrun).console.fetched ≡ 0o142 ∷ [])  -- the one before is lost
    × ((at_console (0o113702 ∷ 0o177562 ∷ []) (arrived resting 0o345)).r2 ≡ 0o177745)  -- bit 7 is a sign
    × ((at_console (0o105737 ∷ 0o177564 ∷ []) resting).codes.n ≡ true)  -- the transmitter is free
    × ((at_console (0o110137 ∷ 0o177566 ∷ []) resting).console.ready ≡ false)
    × ((at_console (0o110137 ∷ 0o177566 ∷ []) resting).console.leaving ≡ 0o157)
    × ((at_console (0o110137 ∷ 0o177566 ∷ []) resting).console.gone ≡ [])
    × ((left (at_console (0o110137 ∷ 0o177566 ∷ []) resting).console).gone ≡ 0o157 ∷ [])
    × ((at_console (0o110137 ∷ 0o177570 ∷ []) resting).state ≡ Astray)  -- the switches are not described
