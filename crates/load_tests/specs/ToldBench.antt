-- What surroundings tell that tell all: their steps, their record and the lines that were given back.
use Rattle.std.specs.Prelude.{ℕ, List, map, Option, Some, None}
use Rattle.honest_line.specs.LineTable.{LineValue}
use Rattle.host_devices.specs.Devices.{LineTold, line_told}
use Rattle.machine_load.specs.Load.{Setting}
use Rattle.machine_load.specs.Step as asked
use Rattle.load_tests.specs.Told.{memory_line}
use Rattle.load_tests.specs.declared.load_step.LoadStep.{LoadStep}
use Rattle.load_tests.specs.declared.load_step.LoadStep.TheVariants.{RecordRead, Connected, RecordBegun, RecordGivenBack}
use Rattle.load_tests.specs.declared.load_step.LoadStep.TheVariants.{InUse, NotRead, NotConnected, NotBegun, OutOfMemory}

abbrev pub step_of : LoadStep → asked.LoadStep
step_of (RecordRead writable) = asked.RecordRead writable
step_of Connected = asked.Connected
step_of RecordBegun = asked.RecordBegun
step_of RecordGivenBack = asked.RecordGivenBack
step_of InUse = asked.InUse
step_of NotRead = asked.NotRead
step_of NotConnected = asked.NotConnected
step_of NotBegun = asked.NotBegun
step_of OutOfMemory = asked.OutOfMemory

abbrev pub steps_of : List LoadStep → List asked.LoadStep
steps_of steps = map step_of steps

abbrev pub lines_told : List LineValue → List LineTold
lines_told lines = map (λ line. line_told memory_line line) lines

-- a bench with these steps, this record, these lines given back, and a report
abbrev pub setting_told : List LoadStep → Option (List ℕ) → List LineValue → List ℕ → Setting
setting_told steps text lines report =
    record { around = record { steps = Some (steps_of steps); record_text = text; disk = None; left = None }; lines = Some (lines_told lines); out = Some report }
