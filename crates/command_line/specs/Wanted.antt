-- What is wanted of the program (this project's own).
use Rattle.std.specs.Prelude.{◌≡◌, ◌⊎◌, Bool, false, List, [], Option, Some, codes}
use Rattle.clap.specs.Simple.{subcommand_of}
use Rattle.clap.specs.Walk.{Row, Text, rows_of}
use Rattle.clap.specs.declared.parser.matches.Found.{Found}
use Rattle.request_values.specs.declared.request.Request.{Request}
use Rattle.request_values.specs.declared.request.Request.TheVariants.{Tape, Machine}
use Rattle.request_values.specs.declared.request.PrintRequest.TheVariants.{CheckInput}
use Rattle.request_values.specs.declared.request.TapeRequest.TheVariants.{Print}
use Rattle.command_line.specs.Commands.{IsRequestOf, known_words}
use Rattle.command_line.specs.declared.wanted.Wanted.{Wanted}
use Rattle.command_line.specs.Options.{IsFlag}

-- a request, and no line in a log
abbrev pub unlogged : Request → Wanted
unlogged request = record { request = request; log = false }

-- whether the run has a line in a log, by the option of its command: only one at a machine may have it
abbrev pub IsLogOf : Found → Request → Bool → Type 0
IsLogOf found (Machine request) log = IsFlag found (codes "log") log
IsLogOf found (Tape request) log = log ≡ false

-- a command, with what was found for its arguments and options, says what is wanted
abbrev pub IsWantedOf : Text → Found → Wanted → Type 0
IsWantedOf command found wanted = IsRequestOf command found wanted.request × IsLogOf found wanted.request wanted.log

-- the same of a command that was met, and of the rows that were found for it
abbrev pub IsWantedBy : Option (Text × List Row) → Wanted → Type 0
IsWantedBy met wanted = (command : Text) × (found : Found) × (met ≡ Some (command, rows_of found)) × IsWantedOf command found wanted

-- words ask for it: there are none, and the tape on standard input is to be checked; or the command that stands among them says it, with what the
-- parser finds there for its arguments and options
abbrev pub IsAskedBy : List Text → Wanted → Type 0
IsAskedBy words wanted = ((words ≡ []) × (wanted ≡ unlogged (Tape (Print CheckInput)))) ⊎ IsWantedBy (subcommand_of known_words words) wanted
