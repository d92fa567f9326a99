-- Where the machine is, and what is so there.
use Rattle.std.proofs.Common.{◌≡◌, ℕ, zero, suc, ◌+◌, ◌-◌, ◌*◌, ◌/◌, ◌%◌, ◌<◌, ◌≤◌, ◌⊎◌, Bool, true, false, if◌then◌else◌, List, [], ◌∷◌, ◌++◌, length, Option, Some, None, inl, inr}
use Rattle.std.specs.Prelude.{nat_lt, ◌==◌, bit_and}
use Rattle.tape_image.specs.Memory.{byte_of, top_of}
use Rattle.odt_machine.specs.Machine.{IsWide}
use Rattle.processor.specs.Machine.{Machine, Runs, Halted}
use Rattle.processor.specs.Operand.{Word}
use Rattle.processor.specs.Operand.{extended}
use Rattle.processor.specs.Execution.{negative, difference, halved}
use Rattle.exchange_core.specs.declared.stretch.Stretch.{Stretch}
use Rattle.stub.specs.Words.{code_bytes, halt_bytes, stub_words}
use Rattle.exchange_core.specs.Stretch.{places_from, places}
use Rattle.stub.specs.Filling.{Filling, answered, taken}
use Rattle.stub.specs.Seen.{held}
use Rattle.stub.specs.Place.{AreThere, stub_end}
use Rattle.stub.specs.Law.{waiting, seven, filled}

-- the instructions that may be next; where a name ends in Q, nothing is owed and the stretch is not full: it waits for a character
pub data Point : Type 0 where
  Start : Point
  SetTable : Point
  SetPhase : Point
  TakeEnd : Point
  TestEnd : Point
  TakeStart : Point
  KeepStart : Point
  NewByteQ : Point
  AskQ : Point
  AskedQ : Point
  ListenQ : Point
  ListenedQ : Point
  IdleQ : Point
  IdleTestedQ : Point
  EmptyQ : Point
  EmptyTestedQ : Point
  NewByte : Point
  Ask : Point
  Asked : Point
  Listen : Point
  Listened : Point
  Fetch : Point
  Seven : Point
  Lower : Point
  Compare : Point
  Judge : Point
  Shift1 : Point
  Shift2 : Point
  Shift3 : Point
  Shift4 : Point
  Join : Point
  Joined : Point
  Store : Point
  StoredBr : Point
  Bad1 : Point
  Bad2 : Point
  Idle : Point
  IdleTested : Point
  OutWait : Point
  OutWaited : Point
  Turn : Point
  Turned : Point
  ReadHigh : Point
  Half1 : Point
  Half2 : Point
  Half3 : Point
  Half4 : Point
  HighBr : Point
  ReadLow : Point
  Flip : Point
  Bits : Point
  Up : Point
  Send : Point
  SentBr : Point
  Empty : Point
  EmptyTested : Point
  Again : Point
  Stop : Point

-- where they lie, counted from the stub's start
abbrev pub offset : Point → ℕ
offset Start = 0
offset SetTable = 4
offset SetPhase = 8
offset TakeEnd = 12
offset TestEnd = 14
offset TakeStart = 16
offset KeepStart = 18
offset NewByteQ = 20
offset AskQ = 24
offset AskedQ = 26
offset ListenQ = 28
offset ListenedQ = 32
offset IdleQ = 74
offset IdleTestedQ = 76
offset EmptyQ = 118
offset EmptyTestedQ = 120
offset NewByte = 20
offset Ask = 24
offset Asked = 26
offset Listen = 28
offset Listened = 32
offset Fetch = 34
offset Seven = 38
offset Lower = 42
offset Compare = 46
offset Judge = 50
offset Shift1 = 52
offset Shift2 = 54
offset Shift3 = 56
offset Shift4 = 58
offset Join = 60
offset Joined = 62
offset Store = 64
offset StoredBr = 66
offset Bad1 = 68
offset Bad2 = 70
offset Idle = 74
offset IdleTested = 76
offset OutWait = 78
offset OutWaited = 82
offset Turn = 84
offset Turned = 86
offset ReadHigh = 88
offset Half1 = 90
offset Half2 = 92
offset Half3 = 94
offset Half4 = 96
offset HighBr = 98
offset ReadLow = 100
offset Flip = 102
offset Bits = 104
offset Up = 108
offset Send = 112
offset SentBr = 116
offset Empty = 118
offset EmptyTested = 120
offset Again = 122
offset Stop = 124

-- how many instructions it takes at most, where a character waits and the transmitter is free, until one is fetched, or one is given to the
-- transmitter, or the machine halts
abbrev pub dist : Point → Bool → ℕ
dist Start n = 13
dist SetTable n = 12
dist SetPhase n = 11
dist TakeEnd n = 10
dist TestEnd n = 9
dist TakeStart n = 8
dist KeepStart n = 7
dist NewByteQ n = 6
dist AskQ n = 5
dist AskedQ n = 4
dist ListenQ n = 3
dist ListenedQ n = if n then 2 else 10
dist IdleQ n = 9
dist IdleTestedQ n = 8
dist EmptyQ n = 7
dist EmptyTestedQ n = 6
dist NewByte n = 21
dist Ask n = 20
dist Asked n = 19
dist Listen n = 18
dist Listened n = if n then 2 else 17
dist Fetch n = 1
dist Seven n = 33
dist Lower n = 32
dist Compare n = 31
dist Judge n = 30
dist Shift1 n = 29
dist Shift2 n = 28
dist Shift3 n = 27
dist Shift4 n = 26
dist Join n = 25
dist Joined n = 24
dist Store n = 23
dist StoredBr n = 22
dist Bad1 n = 18
dist Bad2 n = 17
dist Idle n = 16
dist IdleTested n = 15
dist OutWait n = 14
dist OutWaited n = if n then 13 else 21
dist Turn n = 12
dist Turned n = 11
dist ReadHigh n = 10
dist Half1 n = 9
dist Half2 n = 8
dist Half3 n = 7
dist Half4 n = 6
dist HighBr n = 5
dist ReadLow n = 5
dist Flip n = 4
dist Bits n = 3
dist Up n = 2
dist Send n = 1
dist SentBr n = 21
dist Empty n = 13
dist EmptyTested n = 12
dist Again n = 11
dist Stop n = 1

-- it waits for a character
abbrev pub Listens : Point → Type 0
Listens AskQ = Unit {0}
Listens AskedQ = Unit {0}
Listens ListenQ = Unit {0}
Listens ListenedQ = Unit {0}
Listens IdleQ = Unit {0}
Listens IdleTestedQ = Unit {0}
Listens EmptyQ = Unit {0}
Listens EmptyTestedQ = Unit {0}
Listens _ = ⊥

-- it has halted, or a character was fetched, or one was given to the transmitter
abbrev pub Advances : Machine → Machine → Type 0
Advances m m' = (m'.state ≡ Halted) ⊎ (((m.console.done ≡ true) × (m'.console.done ≡ false)) ⊎ (m'.console.ready ≡ false))

-- behind the first instruction interrupts are masked
abbrev pub Masked : Point → Bool → Type 0
Masked Start masked = Unit {0}
Masked _ masked = masked ≡ true

-- an address lies below the top, and is none of the stub's bytes, which lie from `place` up to `until`
pub record PlaceFits (place until top a : ℕ) : Type 0 where
  pub below : a < top
  pub apart : (a < place) ⊎ (until ≤ a)

-- all of them are such
abbrev pub PlacesFit : ℕ → ℕ → ℕ → List ℕ → Type 0
PlacesFit place until top [] = Unit {0}
PlacesFit place until top (a ∷ those) = PlaceFits place until top a × PlacesFit place until top those

-- a stub that has something left has no nibble of it
abbrev pub IsWhole : Filling → Type 0
IsWhole f = (f.left ≡ []) ⊎ (f.high ≡ None)

-- so many bytes of memory from an address on, each as two characters
abbrev pub all_spelled : List ℕ → ℕ → ℕ → List ℕ
all_spelled memory a zero = []
all_spelled memory a (suc n) = answered (byte_of memory a / 16) ∷ answered (byte_of memory a % 16) ∷ all_spelled memory (a + 1) n

-- a high nibble is one
abbrev pub HighFits : Option ℕ → Type 0
HighFits None = Unit {0}
HighFits (Some h) = h < 16

-- what r3 holds between nibbles: the bit that is to become the sign, and the high nibble behind it
abbrev pub sentinel : Option ℕ → ℕ
sentinel None = 128
sentinel (Some h) = 2048 + h

module _ (place : ℕ) (stretches : List Stretch) (top : ℕ) where
  -- r5 is so far behind the table's entry for the first of these stretches, which are the last of all
  pub record Row (behind r5 : ℕ) (left : List Stretch) : Type 0 where
    pub front : List Stretch
    pub all : stretches ≡ front ++ left
    pub at : r5 ≡ place + code_bytes + 4 * length front + behind

  -- what is left of the stretch under way begins at an address a and ends at r1; behind it come the stretches from r5 on
  pub record Within (those : List ℕ) (a r1 r5 : ℕ) : Type 0 where
    pub later : List Stretch
    pub are : those ≡ places_from (r1 - a) a ++ places later
    pub row : Row 0 r5 later
    pub below : r1 ≤ top

  -- the next byte goes to r0, its stretch's end is r1, and r5 is at the next entry
  pub record Getting (f : Filling) (r0 r1 r5 : ℕ) : Type 0 where
    pub rest : List ℕ
    pub left : f.left ≡ r0 ∷ rest
    pub below : r0 < r1
    pub within : Within rest (r0 + 1) r1 r5

  -- what comes behind this stretch: the stretches from r5 on; or nothing, and r5 is at the halt, which is a 0
  abbrev pub Behind : List ℕ → ℕ → Type 0
  Behind rest r5 = ((later : List Stretch) × (rest ≡ places later) × Row 0 r5 later) ⊎ ((rest ≡ []) × (r5 ≡ place + halt_bytes))

  -- an entry's end is in r1, and r5 is at its beginning
  pub record Half (f : Filling) (r1 r5 : ℕ) : Type 0 where
    pub stretch : Stretch
    pub later : List Stretch
    pub left : f.left ≡ places (stretch ∷ later)
    pub end : r1 ≡ stretch.to
    pub row : Row 2 r5 (stretch ∷ later)

  -- the table is at an entry, or at its end
  pub record Table (f : Filling) (r5 : ℕ) : Type 0 where
    pub later : List Stretch
    pub left : f.left ≡ places later
    pub row : Row 0 r5 later

  -- nothing is late, and nothing is left to send
  abbrev Quiet : List ℕ → List ℕ → Type 0
  Quiet late more = (late ≡ []) × (more ≡ [])

  -- a character was fetched, and is in the making
  pub record Fetched (f : Filling) (late : List ℕ) (r0 r1 r5 : ℕ) : Type 0 where
    pub getting : Getting f r0 r1 r5
    pub character : ℕ
    pub alone : late ≡ character ∷ []

  -- it is a nibble
  pub record Nibble (f : Filling) (late : List ℕ) (r0 r1 r5 n : ℕ) : Type 0 where
    pub fetched : Fetched f late r0 r1 r5
    pub is : seven fetched.character ≡ 96 + n
    pub small : n < 16

  -- the answers for the bytes from one on: the first one's low nibble, and then all others
  abbrev pub low_first : List ℕ → ℕ → ℕ → List ℕ
  low_first memory r2 r0 = answered (byte_of memory r2 % 16) ∷ all_spelled memory (r2 + 1) (r0 - (r2 + 1))

  -- what is still to be sent: the bytes from r2 up to r0; where SP is not 0, the high nibble of the first is gone
  abbrev pub Owes : List ℕ → ℕ → ℕ → ℕ → List ℕ → Type 0
  Owes memory r2 r0 sp more =
      (r2 ≤ r0) × (((sp ≡ 0) × (more ≡ all_spelled memory r2 (r0 - r2))) ⊎ ((sp ≡ 65535) × (r2 < r0) × (more ≡ low_first memory r2 r0)))

  -- the stretch is not full, and a byte is in the making
  abbrev pub Filling_in : Filling → ℕ → ℕ → ℕ → ℕ → Type 0
  Filling_in f r0 r1 r3 r5 = Getting f r0 r1 r5 × (r3 ≡ sentinel f.high)

  -- the stretch is full
  abbrev pub Full : Filling → ℕ → ℕ → ℕ → Type 0
  Full f r0 r1 r5 = (r0 ≡ r1) × (r1 ≤ top) × IsWhole f × Behind f.left r5

  -- one or the other
  abbrev pub Side : Filling → ℕ → ℕ → ℕ → ℕ → Type 0
  Side f r0 r1 r3 r5 = Filling_in f r0 r1 r3 r5 ⊎ Full f r0 r1 r5

  -- nothing is owed: it waits
  pub record Waiting (f : Filling) (late more : List ℕ) (r0 r1 r2 r3 r5 sp : ℕ) : Type 0 where
    pub quiet : (late ≡ []) × (more ≡ [])
    pub phase : sp ≡ 0
    pub side : Filling_in f r0 r1 r3 r5
    pub same : r2 ≡ r0

  -- something is owed, or the stretch is full
  pub record Busy (f : Filling) (late more memory : List ℕ) (r0 r1 r2 r3 r5 sp : ℕ) : Type 0 where
    pub none : late ≡ []
    pub owes : Owes memory r2 r0 sp more
    pub side : (Filling_in f r0 r1 r3 r5 × (r2 < r0)) ⊎ Full f r0 r1 r5

  -- the next nibble is about to be sent
  pub record Turning (f : Filling) (late : List ℕ) (r0 r1 r2 r3 r5 : ℕ) : Type 0 where
    pub none : late ≡ []
    pub below : r2 < r0
    pub side : Side f r0 r1 r3 r5

  -- it is k, and the rest is owed behind it
  pub record Out (f : Filling) (late more memory : List ℕ) (r0 r1 r2 r3 r5 sp k : ℕ) : Type 0 where
    pub none : late ≡ []
    pub side : Side f r0 r1 r3 r5
    pub small : k < 16
    pub rest : List ℕ
    pub first : more ≡ answered k ∷ rest
    pub owes : Owes memory r2 r0 sp rest

  -- what is so where an instruction is next
  abbrev pub Facts : Point → Filling → List ℕ → List ℕ → Machine → Type 0
  Facts Start f late more m = Quiet late more × (f.high ≡ None) × Table f (place + code_bytes)
  Facts SetTable f late more m = Quiet late more × (f.high ≡ None) × Table f (place + code_bytes)
  Facts SetPhase f late more m = Quiet late more × (f.high ≡ None) × Table f m.r5
  Facts TakeEnd f late more m = Quiet late more × (m.sp ≡ 0) × IsWhole f × Behind f.left m.r5
  Facts TestEnd f late more m = Quiet late more × (m.sp ≡ 0) × (((f.left ≡ []) × (m.codes.z ≡ true)) ⊎ ((m.codes.z ≡ false) × (f.high ≡ None) × Half f m.r1 m.r5))
  Facts TakeStart f late more m = Quiet late more × (m.sp ≡ 0) × (f.high ≡ None) × Half f m.r1 m.r5
  Facts KeepStart f late more m = Quiet late more × (m.sp ≡ 0) × (f.high ≡ None) × Getting f m.r0 m.r1 m.r5
  Facts NewByteQ f late more m = Quiet late more × (m.sp ≡ 0) × (f.high ≡ None) × Getting f m.r0 m.r1 m.r5 × (m.r2 ≡ m.r0)
  Facts AskQ f late more m = Waiting f late more m.r0 m.r1 m.r2 m.r3 m.r5 m.sp
  Facts ListenQ f late more m = Waiting f late more m.r0 m.r1 m.r2 m.r3 m.r5 m.sp
  Facts IdleQ f late more m = Waiting f late more m.r0 m.r1 m.r2 m.r3 m.r5 m.sp
  Facts EmptyQ f late more m = Waiting f late more m.r0 m.r1 m.r2 m.r3 m.r5 m.sp
  Facts AskedQ f late more m = Waiting f late more m.r0 m.r1 m.r2 m.r3 m.r5 m.sp × (m.codes.z ≡ false)
  Facts ListenedQ f late more m = Waiting f late more m.r0 m.r1 m.r2 m.r3 m.r5 m.sp × (m.codes.n ≡ true → m.console.done ≡ true)
  Facts IdleTestedQ f late more m = Waiting f late more m.r0 m.r1 m.r2 m.r3 m.r5 m.sp × (m.codes.z ≡ true)
  Facts EmptyTestedQ f late more m = Waiting f late more m.r0 m.r1 m.r2 m.r3 m.r5 m.sp × (m.codes.z ≡ false)
  Facts StoredBr f late more m = (late ≡ []) × (f.high ≡ None) × (m.r2 < m.r0) × Owes m.memory m.r2 m.r0 m.sp more × Within f.left m.r0 m.r1 m.r5 × (m.r0 ≤ m.r1)
  Facts NewByte f late more m = (late ≡ []) × (f.high ≡ None) × (m.r2 < m.r0) × Owes m.memory m.r2 m.r0 m.sp more × Within f.left m.r0 m.r1 m.r5 × (m.r0 ≤ m.r1)
  Facts Ask f late more m = Busy f late more m.memory m.r0 m.r1 m.r2 m.r3 m.r5 m.sp
  Facts Asked f late more m = Busy f late more m.memory m.r0 m.r1 m.r2 m.r3 m.r5 m.sp × (m.codes.z ≡ (difference m.r0 m.r1 == 0))
  Facts Listen f late more m = (late ≡ []) × Owes m.memory m.r2 m.r0 m.sp more × Filling_in f m.r0 m.r1 m.r3 m.r5 × (m.r2 < m.r0)
  Facts Listened f late more m = (late ≡ []) × Owes m.memory m.r2 m.r0 m.sp more × Filling_in f m.r0 m.r1 m.r3 m.r5 × (m.r2 < m.r0) × (m.codes.n ≡ true → m.console.done ≡ true)
  Facts Fetch f late more m = (late ≡ []) × Owes m.memory m.r2 m.r0 m.sp more × Filling_in f m.r0 m.r1 m.r3 m.r5 × (m.console.done ≡ true)
  Facts Seven f late more m = (k : Fetched f late m.r0 m.r1 m.r5) × (m.r3 ≡ sentinel f.high) × (m.r4 ≡ extended (k.character % 256)) × Owes m.memory m.r2 m.r0 m.sp more
  Facts Lower f late more m = (k : Fetched f late m.r0 m.r1 m.r5) × (m.r3 ≡ sentinel f.high) × (m.r4 ≡ seven k.character) × Owes m.memory m.r2 m.r0 m.sp more
  Facts Compare f late more m = (k : Fetched f late m.r0 m.r1 m.r5) × (m.r3 ≡ sentinel f.high) × (m.r4 ≡ difference (seven k.character) 96) × Owes m.memory m.r2 m.r0 m.sp more
  Facts Judge f late more m = (k : Fetched f late m.r0 m.r1 m.r5) × (m.r3 ≡ sentinel f.high) × (m.r4 ≡ difference (seven k.character) 96) × (m.codes.z ≡ (difference m.r4 15 == 0)) × (m.codes.c ≡ nat_lt m.r4 15) × Owes m.memory m.r2 m.r0 m.sp more
  Facts Shift1 f late more m = Nibble f late m.r0 m.r1 m.r5 m.r4 × (m.r3 ≡ sentinel f.high) × Owes m.memory m.r2 m.r0 m.sp more
  Facts Shift2 f late more m = Nibble f late m.r0 m.r1 m.r5 m.r4 × (m.r3 ≡ 2 * sentinel f.high) × Owes m.memory m.r2 m.r0 m.sp more
  Facts Shift3 f late more m = Nibble f late m.r0 m.r1 m.r5 m.r4 × (m.r3 ≡ 4 * sentinel f.high) × Owes m.memory m.r2 m.r0 m.sp more
  Facts Shift4 f late more m = Nibble f late m.r0 m.r1 m.r5 m.r4 × (m.r3 ≡ 8 * sentinel f.high) × Owes m.memory m.r2 m.r0 m.sp more
  Facts Join f late more m = Nibble f late m.r0 m.r1 m.r5 m.r4 × (m.r3 ≡ 16 * sentinel f.high) × Owes m.memory m.r2 m.r0 m.sp more
  Facts Joined f late more m = Nibble f late m.r0 m.r1 m.r5 m.r4 × (m.r3 ≡ 16 * sentinel f.high + m.r4) × (m.codes.n ≡ negative Word m.r3) × Owes m.memory m.r2 m.r0 m.sp more
  Facts Store f late more m = Nibble f late m.r0 m.r1 m.r5 m.r4 × ((h : ℕ) × (f.high ≡ Some h) × (h < 16) × (m.r3 ≡ 32768 + 16 * h + m.r4)) × Owes m.memory m.r2 m.r0 m.sp more
  Facts Bad1 f late more m = (late ≡ []) × (f.left ≡ []) × (m.r0 ≤ top) × Owes m.memory m.r2 m.r0 m.sp more
  Facts Bad2 f late more m = (late ≡ []) × (f.left ≡ []) × (m.r0 ≤ top) × (m.r0 ≡ m.r1) × Owes m.memory m.r2 m.r0 m.sp more
  Facts Idle f late more m = Busy f late more m.memory m.r0 m.r1 m.r2 m.r3 m.r5 m.sp
  Facts IdleTested f late more m = Busy f late more m.memory m.r0 m.r1 m.r2 m.r3 m.r5 m.sp × (m.codes.z ≡ (difference m.r2 m.r0 == 0))
  Facts OutWait f late more m = Busy f late more m.memory m.r0 m.r1 m.r2 m.r3 m.r5 m.sp × (m.r2 < m.r0)
  Facts OutWaited f late more m = Busy f late more m.memory m.r0 m.r1 m.r2 m.r3 m.r5 m.sp × (m.r2 < m.r0) × (m.codes.n ≡ true → m.console.ready ≡ true)
  Facts Turn f late more m = Busy f late more m.memory m.r0 m.r1 m.r2 m.r3 m.r5 m.sp × (m.r2 < m.r0) × (m.console.ready ≡ true)
  Facts Turned f late more m = (m.console.ready ≡ true) × Turning f late m.r0 m.r1 m.r2 m.r3 m.r5 × (((m.sp ≡ 65535) × (m.codes.n ≡ true) × (more ≡ all_spelled m.memory m.r2 (m.r0 - m.r2))) ⊎ ((m.sp ≡ 0) × (m.codes.n ≡ false) × (more ≡ low_first m.memory m.r2 m.r0)))
  Facts ReadHigh f late more m = (m.console.ready ≡ true) × Turning f late m.r0 m.r1 m.r2 m.r3 m.r5 × (m.sp ≡ 65535) × (more ≡ all_spelled m.memory m.r2 (m.r0 - m.r2))
  Facts Half1 f late more m = (m.console.ready ≡ true) × Turning f late m.r0 m.r1 m.r2 m.r3 m.r5 × (m.sp ≡ 65535) × (more ≡ all_spelled m.memory m.r2 (m.r0 - m.r2)) × (m.r4 ≡ extended (byte_of m.memory m.r2))
  Facts Half2 f late more m = (m.console.ready ≡ true) × Turning f late m.r0 m.r1 m.r2 m.r3 m.r5 × (m.sp ≡ 65535) × (more ≡ all_spelled m.memory m.r2 (m.r0 - m.r2)) × (m.r4 ≡ halved (extended (byte_of m.memory m.r2)))
  Facts Half3 f late more m = (m.console.ready ≡ true) × Turning f late m.r0 m.r1 m.r2 m.r3 m.r5 × (m.sp ≡ 65535) × (more ≡ all_spelled m.memory m.r2 (m.r0 - m.r2)) × (m.r4 ≡ halved (halved (extended (byte_of m.memory m.r2))))
  Facts Half4 f late more m = (m.console.ready ≡ true) × Turning f late m.r0 m.r1 m.r2 m.r3 m.r5 × (m.sp ≡ 65535) × (more ≡ all_spelled m.memory m.r2 (m.r0 - m.r2)) × (m.r4 ≡ halved (halved (halved (extended (byte_of m.memory m.r2)))))
  Facts HighBr f late more m = (m.console.ready ≡ true) × Turning f late m.r0 m.r1 m.r2 m.r3 m.r5 × (m.sp ≡ 65535) × (more ≡ all_spelled m.memory m.r2 (m.r0 - m.r2)) × (m.r4 ≡ halved (halved (halved (halved (extended (byte_of m.memory m.r2))))))
  Facts ReadLow f late more m = (m.console.ready ≡ true) × Turning f late m.r0 m.r1 m.r2 m.r3 m.r5 × (m.sp ≡ 0) × (more ≡ low_first m.memory m.r2 m.r0)
  Facts Flip f late more m = (m.console.ready ≡ true) × (k : ℕ) × Out f late more m.memory m.r0 m.r1 m.r2 m.r3 m.r5 m.sp k × (bit_and (65535 - m.r4) 15 ≡ 15 - k)
  Facts Bits f late more m = (m.console.ready ≡ true) × (k : ℕ) × Out f late more m.memory m.r0 m.r1 m.r2 m.r3 m.r5 m.sp k × (bit_and m.r4 15 ≡ 15 - k)
  Facts Up f late more m = (m.console.ready ≡ true) × (k : ℕ) × Out f late more m.memory m.r0 m.r1 m.r2 m.r3 m.r5 m.sp k × (m.r4 ≡ 15 - k)
  Facts Send f late more m = (m.console.ready ≡ true) × (k : ℕ) × Out f late more m.memory m.r0 m.r1 m.r2 m.r3 m.r5 m.sp k × (m.r4 ≡ answered k)
  Facts SentBr f late more m = (late ≡ []) × Owes m.memory m.r2 m.r0 m.sp more × Side f m.r0 m.r1 m.r3 m.r5
  Facts Empty f late more m = Quiet late more × (m.sp ≡ 0) × Full f m.r0 m.r1 m.r5
  Facts EmptyTested f late more m = Quiet late more × (m.sp ≡ 0) × Full f m.r0 m.r1 m.r5 × (m.codes.z ≡ true)
  Facts Again f late more m = Quiet late more × (m.sp ≡ 0) × IsWhole f × Behind f.left m.r5
  Facts Stop f late more m = Quiet late more × (f.left ≡ [])

-- what is so of a machine that was started with this memory, whose transmitter held this
module _ (place : ℕ) (stretches : List Stretch) (before waited : List ℕ) where
  pub record Base (m : Machine) : Type 0 where
    pub took : List ℕ
    pub late : List ℕ
    pub few : length late ≤ 1
    pub more : List ℕ
    pub stub : Filling
    pub stub_is : stub ≡ filled before stretches took
    pub fetched : m.console.fetched ≡ took ++ late
    pub sent : waited ++ stub.answers ≡ (m.console.gone ++ waiting m.console) ++ more
    pub memory : m.memory ≡ stub.memory
    pub words : AreThere m.memory place (stub_words place stretches)
    pub size : length m.memory ≡ length before
    pub wide : IsWide m.memory
    pub fit : PlacesFit place (stub_end place stretches) (top_of before) stub.left
    pub high : HighFits stub.high

  -- it runs, and is at one of the points
  pub record Going (m : Machine) : Type 0 where
    pub base : Base m
    pub running : m.state ≡ Runs
    pub point : Point
    pub pc : m.pc ≡ place + offset point
    pub masked : Masked point m.masked
    pub facts : Facts place stretches (top_of before) point base.stub base.late base.more m

  -- it has halted
  pub record Stopped (m : Machine) : Type 0 where
    pub base : Base m
    pub halted : m.state ≡ Halted
    pub masked : m.masked ≡ true
    pub late : base.late ≡ []
    pub more : base.more ≡ []
    pub left : base.stub.left ≡ []

  abbrev pub Lasts : Machine → Type 0
  Lasts m = Going m ⊎ Stopped m

  -- ---- what an instruction has done

  abbrev pub base_of : {m : Machine} → Lasts m → Base m
  base_of (inl k) = k.base
  base_of (inr k) = k.base

  -- for the stub as the host knows it nothing has happened: what came to it, and is not taken, is the same, and so is what is on its way out
  pub record Stays (m m' : Machine) (old : Base m) (new : Base m') : Type 0 where
    pub stub : new.stub ≡ old.stub
    pub came : new.late ++ held m'.console ≡ old.late ++ held m.console
    pub out : waiting m'.console ++ new.more ≡ waiting m.console ++ old.more
    pub gone : m'.console.gone ≡ m.console.gone

  -- it took the character that was late, and answered
  pub record Took (m m' : Machine) (old : Base m) (new : Base m') : Type 0 where
    pub character : ℕ
    pub late : old.late ≡ character ∷ []
    pub address : ℕ
    pub rest : List ℕ
    pub under : old.stub.left ≡ address ∷ rest
    pub stub : new.stub ≡ taken old.stub (seven character)
    pub came : new.late ++ held m'.console ≡ held m.console
    pub text : List ℕ
    pub answers : new.stub.answers ≡ old.stub.answers ++ text
    pub out : waiting m'.console ++ new.more ≡ (waiting m.console ++ old.more) ++ text
    pub gone : m'.console.gone ≡ m.console.gone

  -- it is nearer to that
  abbrev pub Nearer : {m : Machine} → Lasts m → ℕ → Type 0
  Nearer {m} (inl k) n = dist k.point m.codes.n < n
  Nearer {m} (inr k) n = ⊥

  -- it waits for a character
  abbrev pub Waits : {m : Machine} → Lasts m → Type 0
  Waits (inl k) = Listens k.point
  Waits (inr k) = ⊥

  pub record Turns (m : Machine) (old : Base m) (p : Point) (m' : Machine) : Type 0 where
    pub lasts : Lasts m'
    pub way : Stays m m' old (base_of lasts) ⊎ Took m m' old (base_of lasts)
    pub ahead : (Listens p → m.console.done ≡ true) → m.console.ready ≡ true → Advances m m' ⊎ ((m'.console ≡ m.console) × Nearer lasts (dist p m.codes.n))
    pub listening : Listens p → m.console.done ≡ false → Waits lasts
