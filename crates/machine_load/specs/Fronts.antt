-- Where a load may be killed while its stubs are brought in.
use Rattle.std.specs.Prelude.{◌≡◌, ℕ, List, ◌++◌}
use Rattle.tape_image.specs.Plan.{PlanValue}
use Rattle.host_devices.specs.declared.item.Item.{Item}
use Rattle.exchange_law.specs.Law.{said_all}
use Rattle.exchange_law.specs.Station.{Program}
use Rattle.load_lives.specs.StubParts.{AreStubParts, StubPart, stubs_said}

-- stubs were stopped where they had said so much: these are the first of them, the last of which heard perhaps less, and said all that they decide, or
-- all but the last characters
pub record AreStoppedAt (program : Program) (tape : PlanValue) (v : ℕ) (front : List Item) : Type 0 where
  pub fewer : List StubPart
  pub unsent : List ℕ
  pub parts : AreStubParts program tape v fewer
  pub says : stubs_said tape v fewer ≡ front ++ said_all unsent

-- a load that is killed with its stubs has said a front of what it would have said, and this is what a stopped life says
abbrev pub StubFrontsAreStopped : Type 0
StubFrontsAreStopped =
    (program : Program) (tape : PlanValue) (v : ℕ) (parts : List StubPart) (front rest : List Item) → AreStubParts program tape v parts →
    stubs_said tape v parts ≡ front ++ rest → AreStoppedAt program tape v front
