-- How soon the stub acts: so many instructions pass until it does something, and until it has come to rest.
use Rattle.std.specs.Prelude.{◌≡◌, ℕ, zero, suc, ◌⊎◌, true, false, List, ◌++◌}
use Rattle.processor.specs.Machine.{Machine, Runs, Halted}
use Rattle.processor.specs.Execution.{step}
use Rattle.processor.specs.Events.{Event, ran}
use Rattle.exchange_core.specs.declared.stretch.Stretch.{Stretch}
use Rattle.stub.specs.Law.{IsStarted, filled, waiting}

-- the most instructions
abbrev pub most : ℕ
most = 33

-- behind an instruction the machine has halted, or the receiver is free again, or the transmitter has a character
abbrev pub Acts : Machine → Type 0
Acts m = (m.state ≡ Halted) ⊎ ((m.console.done ≡ false) ⊎ (m.console.ready ≡ false))

-- this comes about within so many instructions, with nothing between them
abbrev pub ActsWithin : ℕ → Machine → Type 0
ActsWithin zero m = ⊥
ActsWithin (suc n) m = Acts (step m) ⊎ ActsWithin n (step m)

-- wherever a machine is that was started at the stub: if it runs, a character waits in the receiver, and the transmitter is free, then within so many
-- instructions it fetches the character, or gives one to the transmitter, or halts
abbrev pub StubsKeepUp : Type 0
StubsKeepUp =
    (place : ℕ) (stretches : List Stretch) (m : Machine) (events : List Event) → IsStarted place stretches m → (ran m events).state ≡ Runs →
    (ran m events).console.done ≡ true → (ran m events).console.ready ≡ true → ActsWithin most (ran m events)

-- what was fetched is worked off, and what was answered has left
pub record IsAtRest (stretches : List Stretch) (before now : Machine) : Type 0 where
  pub memory : now.memory ≡ (filled before.memory stretches now.console.fetched).memory
  pub sent : waiting before.console ++ (filled before.memory stretches now.console.fetched).answers ≡ now.console.gone

-- the machine is at rest within so many instructions, unless it has halted before, or the transmitter has a character
abbrev pub RestsWithin : List Stretch → Machine → ℕ → Machine → Type 0
RestsWithin stretches before zero m = IsAtRest stretches before m
RestsWithin stretches before (suc n) m =
    IsAtRest stretches before m ⊎ ((((step m).state ≡ Halted) ⊎ ((step m).console.ready ≡ false)) ⊎ RestsWithin stretches before n (step m))

-- wherever a machine is that was started at the stub: if it runs, no character waits, and the transmitter is free, then it is at rest within so many
-- instructions, or halts, or gives a character to the transmitter. So a silence in which nothing came for longer than that leaves nothing under way
abbrev pub StubsRest : Type 0
StubsRest =
    (place : ℕ) (stretches : List Stretch) (m : Machine) (events : List Event) → IsStarted place stretches m → (ran m events).state ≡ Runs →
    (ran m events).console.done ≡ false → (ran m events).console.ready ≡ true → RestsWithin stretches m most (ran m events)
