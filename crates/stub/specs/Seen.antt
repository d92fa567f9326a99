-- What a host at the other end of the line sees of the machine with the stub in it: what it would see of the stub as it knows it.
use Rattle.std.specs.Prelude.{◌≡◌, ℕ, ◌+◌, ◌<◌, ◌≤◌, ◌⊎◌, zero, suc, true, false, if◌then◌else◌, List, [], ◌∷◌, ◌++◌, length}
use Rattle.processor.specs.Console.{Console, arrived, left}
use Rattle.processor.specs.Machine.{Machine, Runs, Halted}
use Rattle.processor.specs.Execution.{step}
use Rattle.exchange_core.specs.declared.stretch.Stretch.{Stretch}
use Rattle.line_world.specs.Wire.{Line, Moving, Times, heard, sent, without_down, without_up}
use Rattle.stub.specs.Filling.{Filling, begun, taken}
use Rattle.stub.specs.Pace.{most}
use Rattle.stub.specs.Law.{IsStarted, waiting, seven}

-- ---- the machine at the end of a line

abbrev pub Bench : Type 0
Bench = Line Machine

-- the bench with another console
abbrev pub at_console : Bench → Console → Bench
at_console x c = record x { machine = record x.machine { console = c } }

-- one instruction; the first character under way arrives at the receiver; the transmitter's character goes onto the line; a character on the line
-- is lost, on its way to the machine or from it; the host sends a character, or hears one, or hears that nothing comes
pub data Happening : Type 0 where
  Instructs : Happening
  Arrives : Happening
  Goes : Happening
  LosesDown : ℕ → Happening
  LosesUp : ℕ → Happening
  Sends : ℕ → Happening
  Hears : ℕ → Happening
  Silent : Happening

-- so many instructions that leave the console as it is, and the machine running
abbrev pub Idle : ℕ → Machine → Machine → Type 0
Idle zero m now = now ≡ m
Idle (suc n) m now = ((step m).console ≡ m.console) × ((step m).state ≡ Runs) × Idle n (step m) now

-- what each does. A character has eight bits; one that arrives over one that was not fetched makes that one lost. The host hears that nothing comes
-- only where nothing is on the line, no character waits in the receiver, the transmitter is free, and 33 instructions have passed by which nothing
-- came of it
abbrev pub Happens : Bench → Happening → Bench → Type 0
Happens x Instructs y = y ≡ record x { machine = step x.machine }
Happens x Arrives y =
    (c : ℕ) × (rest : List ℕ) × (x.down ≡ c ∷ rest) × (c < 256)
    × (y ≡ record (at_console x (arrived x.machine.console c)) { down = rest; lost = x.lost + (if x.machine.console.done then 1 else 0) })
Happens x Goes y =
    (x.machine.console.ready ≡ false) × (y ≡ record (at_console x (left x.machine.console)) { up = x.up ++ x.machine.console.leaving ∷ [] })
Happens x (LosesDown k) y = (k < length x.down) × (y ≡ without_down x k)
Happens x (LosesUp k) y = (k < length x.up) × (y ≡ without_up x k)
Happens x (Sends c) y = y ≡ sent x (c ∷ [])
Happens x (Hears c) y = (rest : List ℕ) × (x.up ≡ c ∷ rest) × (y ≡ heard x rest)
Happens x Silent y =
    (x.down ≡ []) × (x.up ≡ []) × (x.machine.console.done ≡ false) × (x.machine.console.ready ≡ true) × (x.machine.state ≡ Runs)
    × Idle most x.machine y.machine × (y ≡ record x { machine = y.machine })

-- these happen one after another
abbrev pub Ran : Bench → List Happening → Bench → Type 0
Ran x [] y = y ≡ x
Ran x (what ∷ more) y = (z : Bench) × Happens x what z × Ran z more y

-- ---- the stub as the host knows it at the end of the same line

abbrev pub Link : Type 0
Link = Line Filling

-- it has a byte to fill, and takes the first character under way, and what it answers is under way at once
pub record Takes (x y : Link) : Type 0 where
  pub address : ℕ
  pub later : List ℕ
  pub under : x.machine.left ≡ address ∷ later
  pub character : ℕ
  pub rest : List ℕ
  pub first : x.down ≡ character ∷ rest
  pub text : List ℕ
  pub answers : (taken x.machine (seven character)).answers ≡ x.machine.answers ++ text
  pub now : y ≡ record { machine = taken x.machine (seven character); down = rest; up = x.up ++ text; lost = x.lost }

-- at most one move
abbrev pub Moves : Link → Link → Type 0
Moves x y = (y ≡ x) ⊎ Moving Takes x y

-- so many
abbrev pub MovesTimes : ℕ → Link → Link → Type 0
MovesTimes n x y = Times Moves n x y

-- some, and then nothing is under way, and the stub has a byte to fill
pub record Settles (x y : Link) : Type 0 where
  pub times : ℕ
  pub moves : MovesTimes times x y
  pub down : y.down ≡ []
  pub up : y.up ≡ []
  pub address : ℕ
  pub later : List ℕ
  pub under : y.machine.left ≡ address ∷ later

-- what the link does while that happens at the bench: the host sends and hears the same, for a silence nothing is under way, and for
-- anything else there is at most one move
abbrev pub Matches : Link → Happening → Link → Type 0
Matches x (Sends c) y = y ≡ sent x (c ∷ [])
Matches x (Hears c) y = (rest : List ℕ) × (x.up ≡ c ∷ rest) × (y ≡ heard x rest)
Matches x Silent y = Settles x y
Matches x what y = Moves x y

abbrev pub Follows : Link → List Happening → Link → Type 0
Follows x [] y = y ≡ x
Follows x (what ∷ more) y = (z : Link) × Matches x what z × Follows z more y

-- ---- both

-- a character that has come and was not fetched
abbrev pub held : Console → List ℕ
held c = if c.done then c.came ∷ [] else []

-- a link that is a bench as the host sees it: memory is the same; what is under way to the stub is what is under way to the machine, behind what it
-- holds and has not worked off (`late`, at most one character, and the receiver's); what is under way from it is what is under way from the machine, and
-- behind it the transmitter's character and what it is still to send. Where the machine has halted, so has the stub, and all is taken and given out
pub record Shows (bench : Bench) (link : Link) : Type 0 where
  pub late : List ℕ
  pub more : List ℕ
  pub few : length late ≤ 1
  pub described : (bench.machine.state ≡ Runs) ⊎ (bench.machine.state ≡ Halted)
  pub memory : bench.machine.memory ≡ link.machine.memory
  pub down : link.down ≡ (late ++ held bench.machine.console) ++ bench.down
  pub up : link.up ≡ bench.up ++ (waiting bench.machine.console ++ more)
  pub lost : link.lost ≡ bench.lost
  pub halted : bench.machine.state ≡ Halted → (late ≡ []) × (more ≡ []) × (link.machine.left ≡ [])

-- the link at the beginning: what the machine holds is under way
abbrev pub opened : List Stretch → Bench → Link
opened stretches x =
    record { machine = begun x.machine.memory stretches; down = held x.machine.console ++ x.down; up = x.up ++ waiting x.machine.console; lost = x.lost }

-- whatever happens at the bench, the host sends and hears as it would at the link, and the link ends as the bench looks
abbrev pub StubsAreSeenSo : Type 0
StubsAreSeenSo =
    (place : ℕ) (stretches : List Stretch) (x y : Bench) (what : List Happening) → IsStarted place stretches x.machine → Ran x what y →
    (link : Link) × Follows (opened stretches x) what link × Shows y link
