-- The machine with the stub in it does what the stub does as the host knows it.
use Rattle.std.specs.Prelude.{◌≡◌, ℕ, ◌%◌, ◌<◌, ◌≤◌, ◌⊎◌, true, if◌then◌else◌, List, [], ◌∷◌, ◌++◌, length, map, ⊤}
use Rattle.tape_image.specs.Memory.{byte_of}
use Rattle.odt_machine.specs.Machine.{IsWide, largest_words}
use Rattle.processor.specs.Console.{Console}
use Rattle.processor.specs.Machine.{Machine, Runs, Halted}
use Rattle.processor.specs.Events.{Event, ran}
use Rattle.exchange_core.specs.declared.stretch.Stretch.{Stretch}
use Rattle.stub.specs.Filling.{Filling, begun, after}
use Rattle.stub.specs.Place.{StubStands}

-- the machine is at the stub's start, and the stub stands there; the registers, the codes and the console are whatever they are, and the notes of
-- what was fetched and what has left begin here
pub record IsStarted (place : ℕ) (stretches : List Stretch) (m : Machine) : Type 0 where
  pub size : length m.memory ≤ largest_words
  pub wide : IsWide m.memory
  pub stands : StubStands m.memory place stretches
  pub pc : m.pc ≡ place
  pub running : m.state ≡ Runs
  pub fetched : m.console.fetched ≡ []
  pub gone : m.console.gone ≡ []

-- what the transmitter was given that has not left yet
abbrev pub waiting : Console → List ℕ
waiting c = if c.ready then [] else c.leaving ∷ []

-- the stub looks at seven bits of a character
abbrev pub seven : ℕ → ℕ
seven c = c % 128

-- what the stub has come to that began with this memory and took these characters
abbrev pub filled : List ℕ → List Stretch → List ℕ → Filling
filled memory stretches characters = after (begun memory stretches) (map seven characters)

-- no stretch has a byte at the address
abbrev pub IsOutside : List Stretch → ℕ → Type 0
IsOutside [] b = ⊤
IsOutside (stretch ∷ stretches) b = ((b < stretch.from) ⊎ (stretch.to ≤ b)) × IsOutside stretches b

-- A machine that was started is now where the stub is. It never goes astray, and no interrupt is let in behind its first instruction. Of the
-- characters that were fetched the stub took all but at most the last (`late`). Memory is that of the stub after those that it took. What has left is
-- a front of what waited at the start and of the stub's answers; `more` is to come. Where it has halted, the stub took all, has halted, too, and all
-- but the transmitter's last character has left
pub record Does (place : ℕ) (stretches : List Stretch) (before now : Machine) : Type 0 where
  pub took : List ℕ
  pub late : List ℕ
  pub more : List ℕ
  pub described : (now.state ≡ Runs) ⊎ (now.state ≡ Halted)
  pub masked : (now.pc ≡ place) ⊎ (now.masked ≡ true)
  pub fetched : now.console.fetched ≡ took ++ late
  pub late_one : length late ≤ 1
  pub memory : now.memory ≡ (filled before.memory stretches took).memory
  pub sent : waiting before.console ++ (filled before.memory stretches took).answers ≡ now.console.gone ++ more
  pub halted : now.state ≡ Halted → (late ≡ []) × ((filled before.memory stretches took).left ≡ []) × (more ≡ waiting now.console)
  pub size : length now.memory ≡ length before.memory
  pub outside : (b : ℕ) → IsOutside stretches b → byte_of now.memory b ≡ byte_of before.memory b

-- for every interleaving of instructions, arrivals and leavings
abbrev pub StubsDoAsTold : Type 0
StubsDoAsTold =
    (place : ℕ) (stretches : List Stretch) (m : Machine) (events : List Event) → IsStarted place stretches m → Does place stretches m (ran m events)
