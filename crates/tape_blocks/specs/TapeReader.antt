-- A reader of tapes in pieces: where it stands, as a relation between what it keeps and the list that it was fed.
use Rattle.std.specs.Prelude.{◌≡◌, ◌⊎◌, ◌-◌, ℕ, ◌≤◌, ◌++◌, List, length, take, Result, Ok, Err, ⊤}
use Rattle.tape_values.specs.Block.{BlockValue}
use Rattle.tape_values.specs.Tape.{TapeValue, tape_limit}
use Rattle.tape_blocks.specs.Head.{IsSplit, IsWanting}
use Rattle.tape_blocks.specs.PartialTape.{part_of}
use Rattle.tape_blocks.specs.declared.partial_tape.PartialTape.{PartialTape}
use Rattle.tape_blocks.specs.Standing.{IsReadTo, EndsTape, IsRefusedForGood}
use Rattle.tape_blocks.specs.Reading.{IsReading}
use Rattle.tape_blocks.specs.declared.fault.Fault.{Fault}
use Rattle.tape_blocks.specs.declared.fault.Why.{Why}
use Rattle.tape_blocks.specs.declared.fault.Why.TheVariants.{Cut, NoTransfer}
use Rattle.tape_blocks.specs.declared.fault.ReadError.{ReadError}
use Rattle.tape_blocks.specs.declared.fault.ReadError.TheVariants.{Tape, Memory}
use Rattle.tape_blocks.specs.declared.reader_state.ReaderState.{ReaderState}
use Rattle.tape_blocks.specs.declared.reader_state.ReaderState.TheVariants.{Open, Done, Failed}
use Rattle.tape_blocks.specs.declared.reader.Fed.{Fed}
use Rattle.tape_blocks.specs.declared.reader.Fed.TheVariants.{More, Done as DoneAt}

-- what a reader keeps: the blocks so far and their places, the place behind them, the bytes of the block under way, and the state
pub record ReaderValue : Type 0 where
  pub blocks : List BlockValue
  pub places : List ℕ
  pub place : ℕ
  pub part : List ℕ
  pub state : ReaderState

-- the value of a reader that has come so far
abbrev pub value_of : PartialTape → ReaderState → ReaderValue
value_of p state = record { blocks = p.blocks.items; places = p.places.items; place = p.place; part = part_of p; state = state }

-- the list may yet be the beginning of a tape: blocks that were read, and then the beginning of a block or nothing
pub record IsUnderWay (fed : List ℕ) (blocks : List BlockValue) (place : ℕ) (part : List ℕ) : Type 0 where
  pub read : IsReadTo fed blocks place part
  pub wanting : IsWanting place part
  pub within : length fed ≤ tape_limit

-- by the state: the tape goes on, a front of the list is the tape, the list is refused for good. Want of memory says nothing
abbrev pub StandsAs : ReaderState → ReaderValue → List ℕ → Type 0
StandsAs Open r fed = IsUnderWay fed r.blocks r.place r.part
StandsAs (Done start) r fed = (r.place ≤ length fed) × EndsTape (take r.place fed) r.blocks r.place start
StandsAs (Failed (Tape fault)) r fed = IsRefusedForGood fed fault
StandsAs (Failed Memory) r fed = ⊤

-- the reader stands at this list
abbrev pub StandsAt : ReaderValue → List ℕ → Type 0
StandsAt r fed = StandsAs r.state r fed

-- the tape goes on: no transfer block has come, nothing was refused, and no growth of memory either
abbrev pub IsOpen : ReaderValue → Type 0
IsOpen r = r.state ≡ Open

-- a growth of memory was refused: the reader answers nothing else from then on
abbrev pub IsOutOfMemory : ReaderValue → Type 0
IsOutOfMemory r = r.state ≡ Failed Memory

-- a refusal that says only that the input is over
abbrev pub IsForMore : Why → Type 0
IsForMore why = (why ≡ Cut) ⊎ (why ≡ NoTransfer)

-- what a piece came to, behind what was fed before: what the list with the piece says, and that the tape goes on where only its end is wrong
abbrev pub IsFed : List ℕ → List ℕ → Result Fed ReadError → Type 0
IsFed fed piece (Ok More) = (fault : Fault) × IsReading (fed ++ piece) (Err (Tape fault)) × IsForMore fault.why
IsFed fed piece (Ok (DoneAt used)) =
    (tape : TapeValue) × (n : ℕ) × IsReading (fed ++ piece) (Ok (tape, n)) × (used ≡ n - length fed)
IsFed fed piece (Err (Tape fault)) =
    IsReading (fed ++ piece) (Err (Tape fault)) × (IsForMore fault.why → ⊥) × IsRefusedForGood (fed ++ piece) fault
IsFed fed piece (Err Memory) = ⊤

-- what the list says where the input ends there
abbrev pub IsFinished : List ℕ → Result TapeValue ReadError → Type 0
IsFinished fed (Ok tape) = (n : ℕ) × IsReading fed (Ok (tape, n))
IsFinished fed (Err (Tape fault)) = IsReading fed (Err (Tape fault))
IsFinished fed (Err Memory) = ⊤

-- the same where something beside the tape is answered
abbrev pub IsFinishedWith : {A : Type 0} → List ℕ → Result (TapeValue × A) ReadError → Type 0
IsFinishedWith fed (Ok (tape, more)) = IsFinished fed (Ok tape)
IsFinishedWith fed (Err error) = IsFinished fed (Err error)

-- where a tape ends in a piece: how many of its bytes are the tape's; 0 where the tape goes on
abbrev pub used_of : Fed → ℕ
used_of More = 0
used_of (DoneAt used) = used

-- what a reader of this value keeps to: it stands somewhere, and a block under way is split behind its header
pub record IsTapeReader (r : ReaderValue) (header body : List ℕ) : Type 0 where
  pub split : IsOpen r → IsSplit header body
  pub fed : List ℕ
  pub stands : StandsAt r fed
