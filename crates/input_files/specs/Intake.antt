-- What is known at a moment of what a request reads and writes.
use Rattle.std.specs.Prelude.{List, Option}
use Rattle.endings.specs.Held.{Held}
use Rattle.input_files.specs.Opening.{InputStep}

-- which input files were opened, where the system tells, and what the standard streams hold
pub record Intake : Type 0 where
  pub opened : Option (List InputStep)
  pub held : Held

-- the intake at which these were opened and the streams hold this
abbrev pub intake : Option (List InputStep) → Held → Intake
intake opened held = record { opened = opened; held = held }
