-- What happens to a machine and its console, one thing after another.
use Rattle.std.specs.Prelude.{ℕ, List, [], ◌∷◌}
use Rattle.processor.specs.Console.{arrived, left}
use Rattle.processor.specs.Machine.{Machine}
use Rattle.processor.specs.Execution.{step}

-- the processor executes one instruction; a character arrives; the transmitter's character has left
pub data Event : Type 0 where
  Instruct : Event
  Arrive : ℕ → Event
  Leave : Event

-- the machine after an event
abbrev pub happens : Machine → Event → Machine
happens m Instruct = step m
happens m (Arrive character) = record m { console = arrived m.console character }
happens m Leave = record m { console = left m.console }

-- the machine after all of them
abbrev pub ran : Machine → List Event → Machine
ran m [] = m
ran m (event ∷ events) = ran (happens m event) events
