-- What a host may find at a line on which a stub was at work: it may still run, and characters for it may still be under way.
use Rattle.std.specs.Prelude.{◌≡◌, ℕ, ◌<◌, ◌≤◌, ◌⊎◌, true, false, List, [], ◌∷◌, length, Option, Some, None}
use Rattle.tape_image.specs.Memory.{byte_of}
use Rattle.odt_machine.specs.Laws.{is_running}
use Rattle.odt_machine.specs.Machine.{IsMachine}
use Rattle.odt_machine.specs.declared.mode.Mode.{Mode}
use Rattle.host_core.specs.Console.{resynchronise, resynchronise_carefully}
use Rattle.exchange_core.specs.declared.stretch.Stretch.{Stretch}
use Rattle.exchange_core.specs.Chunk.{is_nibble}
use Rattle.exchange_law.specs.Line.{Link}
use Rattle.exchange_law.specs.Station.{Each, Program, Stub, after_odt}

-- an address is one of the stretch's
pub record IsInStretch (stretch : Stretch) (b : ℕ) : Type 0 where
  pub from : stretch.from ≤ b
  pub to : b < stretch.to

-- an address is one of these stretches'
abbrev pub IsAmong : List Stretch → ℕ → Type 0
IsAmong [] b = ⊥
IsAmong (stretch ∷ stretches) b = IsInStretch stretch b ⊎ IsAmong stretches b

-- a stub that runs may only fill such bytes; where none runs, no program does
abbrev pub MayFill : (ℕ → Type 0) → Mode → Option Stub → Type 0
MayFill R mode None = is_running mode ≡ false
MayFill R mode (Some stub) = (is_running mode ≡ true) × Each R stub.left

-- a key by which a host resynchronises, plain or careful
abbrev pub IsResynchronising : ℕ → Type 0
IsResynchronising c = (c ≡ resynchronise) ⊎ (c ≡ resynchronise_carefully)

-- a character is one for a stub, or such a key
abbrev pub IsForStub : ℕ → Type 0
IsForStub c = (is_nibble c ≡ true) ⊎ IsResynchronising c

-- but for such bytes memory is what it was
pub record Untouched (R : ℕ → Type 0) (before now : List ℕ) : Type 0 where
  pub size : length now ≡ length before
  pub bytes : (b : ℕ) → (R b → ⊥) → byte_of now b ≡ byte_of before b

-- one key is under way, to ODT, that an earlier host sent: once it is taken only such bytes have changed, and only such may still change
pub record IsLastKey (program : Program) (R : ℕ → Type 0) (x : Link) : Type 0 where
  pub key : ℕ
  pub down : x.down ≡ key ∷ []
  pub none : x.machine.stub ≡ None
  pub untouched : Untouched R x.machine.odt.memory (after_odt program x.machine.odt key).odt.memory
  pub console : IsMachine (after_odt program x.machine.odt key).odt
  pub stub : MayFill R (after_odt program x.machine.odt key).odt.mode (after_odt program x.machine.odt key).stub

-- a line on which only such bytes may still change: a stub may run that fills them, and what is under way are characters for a stub, or such a key
pub record IsUnsettled (program : Program) (R : ℕ → Type 0) (x : Link) : Type 0 where
  pub console : IsMachine x.machine.odt
  pub stub : MayFill R x.machine.odt.mode x.machine.stub
  pub down : Each IsForStub x.down ⊎ IsLastKey program R x
