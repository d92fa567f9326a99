-- A load that brings in stubs, any number of them, and then goes on as every load.
use Rattle.std.specs.Prelude.{◌≡◌, ℕ, ◌+◌, ◌^◌, ◌<◌, ◌≤◌, true, false, List, ◌++◌, length, Contains}
use Rattle.tape_image.specs.Plan.{PlanValue, IsPlan}
use Rattle.host_core.specs.declared.heard.Heard.{Heard}
use Rattle.host_core.specs.Console.{go}
use Rattle.host_core.specs.Core.{Core, begun}
use Rattle.host_core.specs.Laws.{led}
use Rattle.line_world.specs.Promises.{EndsAtGo}
use Rattle.line_world.specs.Safe.{FirstStand, IsLoaded}
use Rattle.host_devices.specs.declared.item.Item.{Item}
use Rattle.host_devices.specs.Dialogue.{dialogue, keys_of}
use Rattle.exchange_law.specs.Law.{said_all}
use Rattle.exchange_law.specs.Line.{Link, Passes}
use Rattle.exchange_law.specs.Station.{Program}
use Rattle.exchange_law.specs.Recovery.{IsInOrder, IsPaid}
use Rattle.exchange_law.specs.Start.{program as stub_program}
use Rattle.load_lives.specs.Between.{Between, KeepsOutside}
use Rattle.load_lives.specs.StubParts.{ArePlain, AreStubParts, StubPart, stubs_said, verified_by}

-- a load: how many words were verified before it, its stubs, how many mishaps the host behind them survives, what that one heard, what was said on the line
-- in all of it, and what it was about to send where it was stopped. What it heard in a part that it never came to is nothing
pub record FastLoad : Type 0 where
  pub verified : ℕ
  pub stubs : List StubPart
  pub patience : ℕ
  pub heard : List Heard
  pub items : List Item
  pub unsent : List ℕ

-- the host behind the stubs, at its beginning
abbrev pub rest_core : PlanValue → FastLoad → Core
rest_core tape load = begun tape (verified_by tape load.verified load.stubs) false load.patience

-- it is one, from the line that it finds to the line that it leaves; `before` is memory before it and all loads before it
pub record IsFastLoad (program : Program) (tape : PlanValue) (before : List ℕ) (x : Link) (load : FastLoad) (y : Link) : Type 0 where
  pub plan : IsPlan tape
  pub within : load.verified ≤ length tape.words
  pub patient : load.patience < 2 ^ 32
  pub stubs : AreStubParts program tape load.verified load.stubs
  pub plain : ArePlain load.stubs
  pub begins : Between program tape load.verified before x
  -- it says what its parts decide, and may be stopped before any character
  pub stopped : stubs_said tape load.verified load.stubs ++ dialogue (rest_core tape load) load.heard ≡ load.items ++ said_all load.unsent
  -- the line delivers and loses as a line may
  pub passes : Passes program x load.items y

-- what came of the host behind the stubs, which became a core and decided to send these keys
pub record IsLoadedOn (program : Program) (tape : PlanValue) (before : List ℕ) (core : Core) (keys : List ℕ) (lost : ℕ) (y : Link) : Type 0 where
  pub stand : FirstStand tape.words core.verified y.machine.odt.memory
  pub kept : KeepsOutside before tape.image y.machine.odt.memory
  -- `G` is the last of its keys if it is one of them, and exactly then the mark is set
  pub last : EndsAtGo keys
  pub marked : Contains keys go → core.going ≡ true
  pub typed : core.going ≡ true → Contains keys go
  -- with the mark memory is the earlier one with the whole image laid over it, and the host is in order at a machine
  pub loaded : core.going ≡ true → IsLoaded before tape y.machine.odt.memory
  pub in_order : core.going ≡ true → IsInOrder program core y
  -- without it any host may go on behind the words that this one verified, or fewer
  pub next : core.going ≡ false → (fewer : ℕ) → fewer ≤ core.verified → Between program tape fewer before y
  pub paid : IsPaid core y.machine.odt.memory (lost + 1)

-- a load that brings in stubs may be trusted as every load, wherever it stops
abbrev pub FastLoadsAreTrusted : Type 0
FastLoadsAreTrusted =
    (tape : PlanValue) (before : List ℕ) (x y : Link) (load : FastLoad) → IsFastLoad stub_program tape before x load y →
    IsLoadedOn stub_program tape before (led (rest_core tape load) load.heard) (keys_of (dialogue (rest_core tape load) load.heard))
    (length load.unsent + y.lost) y
