-- One run of the stub, worked out by hand: it lies at 000000, and its one stretch is the bytes at 000236, 000237 and 000240.
use Rattle.std.specs.Prelude.{◌≡◌, ℕ, zero, suc, true, false, List, [], ◌∷◌, ◌++◌, replicate, Some}
use Rattle.tape_image.specs.Memory.{byte_of}
use Rattle.processor.specs.Machine.{Machine, Runs, Halted}
use Rattle.processor.specs.Events.{Event, Instruct, Arrive, Leave, ran}
use Rattle.exchange_core.specs.declared.stretch.Stretch.{Stretch}
use Rattle.stub.specs.Words.{stub_words}
use Rattle.stub.specs.Decoder.{stub_at}

-- the bytes at 000236, 000237 and 000240
abbrev pub three_bytes : List Stretch
three_bytes = record { from = 0o236; to = 0o241 } ∷ []

-- the machine at the stub's start; all bits of what lies behind the stub are set
abbrev pub started : Machine
started = record {
  r0 = 1;
  r1 = 2;
  r2 = 3;
  r3 = 4;
  r4 = 5;
  r5 = 6;
  sp = 7;
  pc = 0;
  codes = record { n = true; z = true; v = true; c = true };
  masked = false;
  memory = stub_words 0 three_bytes ++ replicate 24 0o177777;
  console = record { done = false; came = 0; ready = true; leaving = 0; fetched = []; gone = [] };
  state = Runs;
}

-- characters arrive one after another, slowly
abbrev pub typed : List ℕ → List Event
typed [] = []
typed (c ∷ cs) = Arrive c ∷ replicate 40 Instruct ++ typed cs

-- so many characters leave, slowly
abbrev pub heard : ℕ → List Event
heard zero = []
heard (suc n) = Leave ∷ replicate 30 Instruct ++ heard n

-- `e` (with bit 7 set), `j`, `o` and a grave accent for the bytes 132 and 360, and `c` and a grave accent for the byte 060; the `o` comes while the stub
-- waits for the transmitter
abbrev pub events : List Event
events = replicate 11 Instruct ++ typed (0o345 ∷ 0o152 ∷ 0o157 ∷ []) ++ heard 1 ++ typed (0o140 ∷ []) ++ heard 3 ++ typed (0o143 ∷ 0o140 ∷ []) ++ heard 2

abbrev pub ended : Machine
ended = ran started events

-- the stub is found there; the bytes are stored, and those beside them stay; the answers are the complements of 5 and 12, 17 and 0, 3 and 0; and the
-- machine has halted behind the stub's last instruction
abbrev pub AStubRuns : Type 0
AStubRuns =
    (stub_at started.memory 0 ≡ Some three_bytes)
    × (byte_of ended.memory 0o236 ≡ 0o132) × (byte_of ended.memory 0o237 ≡ 0o360) × (byte_of ended.memory 0o240 ≡ 0o060)
    × (byte_of ended.memory 0o235 ≡ 0o377) × (byte_of ended.memory 0o241 ≡ 0o377)
    × (ended.console.gone ≡ 0o152 ∷ 0o145 ∷ 0o140 ∷ 0o157 ∷ 0o154 ∷ 0o157 ∷ []) × (ended.state ≡ Halted) × (ended.pc ≡ 0o176)
