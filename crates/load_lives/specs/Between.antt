-- What holds between two hosts at a station's line, of one load or of two.
use Rattle.std.specs.Prelude.{◌≡◌, ℕ, ◌<◌, List, length, None}
use Rattle.std.specs.FinMap.{get}
use Rattle.tape_image.specs.Image.{Image}
use Rattle.tape_image.specs.Memory.{byte_of, top_of}
use Rattle.tape_image.specs.Plan.{PlanValue}
use Rattle.line_world.specs.Safe.{FirstStand}
use Rattle.exchange_law.specs.Line.{Link}
use Rattle.exchange_law.specs.Station.{Program}
use Rattle.exchange_law.specs.Unsettled.{IsUnsettled}
use Rattle.exchange_law.specs.Recovery.{IsLater}

-- outside the image each byte is the earlier one
pub record KeepsOutside (before : List ℕ) (image : Image) (now : List ℕ) : Type 0 where
  pub size : length now ≡ length before
  pub bytes : (b : ℕ) → b < top_of before → get image b ≡ None → byte_of now b ≡ byte_of before b

-- so many of the tape's words count as verified: these stand; outside the image memory is what it was before all these hosts; and only bytes of the
-- image's other words may still change
pub record Between (program : Program) (tape : PlanValue) (verified : ℕ) (before : List ℕ) (x : Link) : Type 0 where
  pub stand : FirstStand tape.words verified x.machine.odt.memory
  pub kept : KeepsOutside before tape.image x.machine.odt.memory
  pub line : IsUnsettled program (IsLater tape verified) x
