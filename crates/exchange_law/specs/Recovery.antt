-- An ordinary host over a line on which a stub was at work, or still is.
use Rattle.std.specs.Prelude.{◌≡◌, ℕ, ◌+◌, ◌-◌, ◌<◌, ◌≤◌, ◌⊎◌, true, false, List, [], length, Contains, None, IsSome}
use Rattle.std.specs.FinMap.{get}
use Rattle.tape_image.specs.Memory.{byte_of, top_of}
use Rattle.tape_image.specs.Plan.{PlanValue}
use Rattle.tape_image.specs.Word.{gives}
use Rattle.odt_machine.specs.Machine.{IsMachine}
use Rattle.odt_machine.specs.declared.mode.Mode.TheVariants.{Running}
use Rattle.host_core.specs.declared.heard.Heard.{Heard}
use Rattle.host_core.specs.declared.phase.End.TheVariants.{Started}
use Rattle.host_core.specs.declared.phase.Phase.TheVariants.{Ended}
use Rattle.host_core.specs.Console.{go}
use Rattle.host_core.specs.Core.{Core, begun_by, start_of, word_nr}
use Rattle.host_core.specs.Host.{IsHost}
use Rattle.host_core.specs.Laws.{led}
use Rattle.line_world.specs.Invariant.{IsKept}
use Rattle.line_world.specs.Promises.{EndsAtGo, HasCause}
use Rattle.line_world.specs.Safe.{FirstStand}
use Rattle.line_world.specs.Scene.{over}
use Rattle.host_devices.specs.Dialogue.{dialogue, keys_of}
use Rattle.exchange_law.specs.Line.{Link, Passes}
use Rattle.exchange_law.specs.Station.{Program, fresh}
use Rattle.exchange_law.specs.Unsettled.{IsUnsettled}
use Rattle.exchange_law.specs.Mirror.{IsJustAMachine, wire_at}

-- a byte of the image that none of the first words gives, so many: a stub may change it
pub record IsLater (tape : PlanValue) (verified : ℕ) (b : ℕ) : Type 0 where
  pub inside : IsSome (get tape.image b)
  pub later : (i : ℕ) → i < verified → gives (word_nr tape.words i) b ≡ true → ⊥

-- a stub may change none of the first words of this plan, so many
abbrev pub IsBeside : PlanValue → ℕ → PlanValue → ℕ → Type 0
IsBeside tape verified plan first = (i : ℕ) → i < first → (b : ℕ) → gives (word_nr plan.words i) b ≡ true → IsLater tape verified b → ⊥

-- a line behind an exchange: which stubs a program is, the tape of the exchange and how many of its words count as verified, and how the line was found
pub record LineBehind : Type 0 where
  pub program : Program
  pub tape : PlanValue
  pub verified : ℕ
  pub found : Link

-- a byte that a stub may still change there
abbrev pub IsLaterAt : LineBehind → ℕ → Type 0
IsLaterAt at = IsLater at.tape at.verified

-- an ordinary host, of the tape's plan or of another, may begin over such a line: what it counts as verified stands there, and no stub may change it
pub record MayRecover (at : LineBehind) (core : Core) : Type 0 where
  pub host : IsHost core
  pub at_first : core ≡ begun_by core.careful core.plan core.verified false core.patience
  pub stand : FirstStand core.plan.words core.verified at.found.machine.odt.memory
  pub beside : IsBeside at.tape at.verified core.plan core.verified
  pub line : IsUnsettled at.program (IsLaterAt at) at.found

-- what counts as verified stands; outside the host's own image each byte is what it was, but for those that a stub may change; and with the mark every
-- word stands
pub record IsSafeBut (tape : PlanValue) (count : ℕ) (before : List ℕ) (core : Core) (now : List ℕ) : Type 0 where
  pub verified : FirstStand core.plan.words core.verified now
  pub size : length now ≡ length before
  pub outside : (b : ℕ) → b < top_of before → (IsLater tape count b → ⊥) → get core.plan.image b ≡ None → byte_of now b ≡ byte_of before b
  pub going : core.going ≡ true → FirstStand core.plan.words (length core.plan.words) now

-- a machine stands at the line, the host is in order there, and a program that runs was started by it
pub record IsInOrder (program : Program) (core : Core) (y : Link) : Type 0 where
  pub lost : ℕ
  pub kept : IsKept (over core (wire_at y lost))
  pub just : IsJustAMachine program y
  pub from_start : (p : ℕ) → y.machine.odt.mode ≡ Running p → p ≡ start_of core

-- what a host leaves: a line that is still unsettled, where it verified nothing and marked nothing; or one at which a machine stands and it is in order
abbrev pub Leaves : Program → PlanValue → ℕ → Core → Link → Type 0
Leaves program tape verified core y =
    (IsUnsettled program (IsLater tape verified) y × (core.going ≡ false) × IsBeside tape verified core.plan core.verified) ⊎ IsInOrder program core y

-- the program was seen to start: every word stands, the machine runs it, nothing is under way, and where it is a stub it has taken nothing yet
pub record HasStarted (program : Program) (core : Core) (y : Link) : Type 0 where
  pub all : FirstStand core.plan.words (length core.plan.words) y.machine.odt.memory
  pub none_down : y.down ≡ []
  pub silent : y.up ≡ []
  pub console : IsMachine y.machine.odt
  pub runs : y.machine.odt.mode ≡ Running (start_of core)
  pub stub : y.machine.stub ≡ fresh (program y.machine.odt.memory (start_of core))

-- so many losses pay for the mishaps of a host, and for its end
pub record IsPaid (core : Core) (now : List ℕ) (lost : ℕ) : Type 0 where
  pub spent : core.spent ≤ lost
  pub cause : HasCause core.phase now core.patience core.spent lost

-- what came of a host that began at such a line, became a core, sent these keys and left the line so
pub record IsTrustedBehind (at : LineBehind) (core : Core) (keys : List ℕ) (left : Link) : Type 0 where
  pub safe : IsSafeBut at.tape at.verified at.found.machine.odt.memory core left.machine.odt.memory
  -- `G` is the last of its keys if it is one of them, and exactly then the mark is set
  pub last : EndsAtGo keys
  pub marked : Contains keys go → core.going ≡ true
  pub typed : core.going ≡ true → Contains keys go
  pub started : core.phase ≡ Ended Started → HasStarted at.program core left
  pub leaves : Leaves at.program at.tape at.verified core left
  -- its losses pay, and one more: a stub that it finds running halts at the key that resynchronises, which nobody answers
  pub paid : IsPaid core left.machine.odt.memory (left.lost + 1 - at.found.lost)

-- an ordinary host may be trusted that begins over such a line, whatever the stub is in the middle of and whatever is under way
abbrev pub HostsRecover : Type 0
HostsRecover =
    (at : LineBehind) (core : Core) (things : List Heard) (left : Link) → MayRecover at core →
    Passes at.program at.found (dialogue core things) left → IsTrustedBehind at (led core things) (keys_of (dialogue core things)) left
