-- What a list of files that were opened stands for.
use Rattle.std.specs.Prelude.{List, map, Some}
use Rattle.std.specs.String.{string_bytes}
use Rattle.input_files.specs.Opening.{InputStep}
use Rattle.input_files.specs.Opening as input
use Rattle.told_calls.specs.declared.told_opening.ToldOpening.{ToldOpening}
use Rattle.told_calls.specs.declared.told_opening.ToldOpening.TheVariants.{Opened, NotOpened}

-- a file was opened, and held this, or was not
abbrev pub input_step : ToldOpening → InputStep
input_step (Opened name text) = input.Opened (string_bytes name) (Some text.items)
input_step (NotOpened name) = input.NotOpened (string_bytes name)

abbrev pub opened_by : List ToldOpening → List InputStep
opened_by openings = map input_step openings
