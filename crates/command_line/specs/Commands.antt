-- The commands: the word of each, its arguments and options, and what these say (this project's own).
use Rattle.std.specs.Prelude.{◌≡◌, Bool, true, if◌then◌else◌, List, Some, fold, map, option_map, codes}
use Rattle.clap.specs.Matches.{first_value}
use Rattle.clap.specs.Simple.{App, Shape, new_app, new_shape, on_top, with_subcommand}
use Rattle.clap.specs.Walk.{Rule, Text}
use Rattle.clap.specs.declared.parser.matches.Found.{Found}
use Rattle.host_core.specs.Core.{plain_patience}
use Rattle.reading_core.specs.declared.care.Care.{Care}
use Rattle.reading_core.specs.declared.care.Care.TheVariants.{Once, Twice, TwiceWhereOther}
use Rattle.request_values.specs.declared.machine.Load.{Load}
use Rattle.request_values.specs.declared.machine.Look.{Look}
use Rattle.request_values.specs.declared.machine.MemoryTest.{MemoryTest}
use Rattle.request_values.specs.declared.machine.Probe.{Probe}
use Rattle.request_values.specs.declared.request.Make.{Make}
use Rattle.request_values.specs.declared.request.Rehearsal.{Rehearsal}
use Rattle.request_values.specs.declared.request.Request.{Request}
use Rattle.request_values.specs.declared.request.Request.TheVariants.{Tape, Machine}
use Rattle.request_values.specs.declared.request.MachineRequest.{MachineRequest}
use Rattle.request_values.specs.declared.request.MachineRequest.TheVariants.{Load as Loads, Verify, Save as Saves, Probe as Probes, Memory as TestsMemory}
use Rattle.request_values.specs.declared.request.TapeRequest.{TapeRequest}
use Rattle.request_values.specs.declared.request.TapeRequest.TheVariants.{Print, Make as Makes}
use Rattle.request_values.specs.declared.request.PrintRequest.{PrintRequest}
use Rattle.request_values.specs.declared.request.PrintRequest.TheVariants.{CheckInput, Check, Dialogue, Rehearse, «Type» as TypeKeys}
use Rattle.request_values.specs.declared.machine.Save.{Save}
use Rattle.command_tables.specs.Words.{CommandWords, machine_commands, tape_commands, word_of}
use Rattle.command_tables.specs.declared.commands.KnownCommand.{KnownCommand}
use Rattle.command_line.specs.Arguments.{rule_told}
use Rattle.command_line.specs.Options.{IsConsoleOf, IsFlag, IsNumberGiven, IsNumberOf, IsProbedWord, IsRangeOf, IsSavedStart, IsStartOf, IsWordsFile}
use Rattle.command_line.specs.Options.{IsTestedRange, NamesTapes, more_in, plain_quiet, plain_step}

-- a command of this name with these arguments and options
abbrev pub shape_with : Text → List Rule → Shape
shape_with name rules = record (new_shape name) { rules = rules }

-- what the parser is told of a command's words
abbrev pub shape_told : CommandWords → Shape
shape_told command = shape_with command.word (map rule_told command.behind)

-- and of a command of the tables
abbrev pub command_told : KnownCommand → Shape
command_told known = shape_with known.word.now (map (λ argument. rule_told (word_of argument)) known.arguments.now)

-- what it is told of the program, but for its commands: the words begin behind the program's name, one of them is a command, and there is a version
abbrev pub program_told : App
program_told =
    on_top (λ s. record s { no_binary_name = true; has_version = true; subcommand_required = true }) (new_app (codes "ldaodt"))

-- the parser is told of one command more, by its words or as the tables have it
abbrev pub with_words : App → CommandWords → App
with_words app command = with_subcommand app (shape_told command)

abbrev pub with_command : App → KnownCommand → App
with_command app known = with_subcommand app (command_told known)

-- and of these commands, one behind the other
pub record IsToldAll (before after : App) (commands : List KnownCommand) : Type 0 where
  pub told : after ≡ fold with_command before commands

-- what the parser is told of all words that the program knows
abbrev pub known_words : App
known_words = fold with_words (fold with_words program_told machine_commands) tape_commands

-- a load, but for its tapes, is what the arguments and options of `load` say
pub record SaysLoad (found : Found) (load : Load) : Type 0 where
  pub line : first_value found (codes "LINE") ≡ Some load.line.now
  pub record_file : option_map (λ name. name.now) load.«record» ≡ first_value found (codes "record")
  pub recheck : IsFlag found (codes "recheck") load.options.recheck
  pub fast : IsFlag found (codes "fast") load.options.fast
  pub careful : IsFlag found (codes "careful") load.options.careful
  pub patience : IsNumberOf found (codes "patience") plain_patience load.options.patience
  pub quiet : IsNumberOf found (codes "quiet") plain_quiet load.quiet_ms
  pub listen : IsNumberGiven found (codes "listen") load.listen
  pub start : IsStartOf found load.start

-- a look is what the arguments and options of `verify`, `save`, `probe` and `memory` say
pub record IsLookOf (found : Found) (look : Look) : Type 0 where
  pub line : first_value found (codes "LINE") ≡ Some look.line.now
  pub patience : IsNumberOf found (codes "patience") plain_patience look.patience
  pub quiet : IsNumberOf found (codes "quiet") plain_quiet look.quiet_ms

-- where words are verified, each that is not as expected is looked at twice, and every one with the option
pub record IsVerifyingCare (found : Found) (care : Care) : Type 0 where
  pub is_careful : Bool
  pub flag : IsFlag found (codes "careful") is_careful
  pub care_is : care ≡ (if is_careful then Twice else TwiceWhereOther)

-- where words are saved, each is looked at twice, and only once with the option
pub record IsSavingCare (found : Found) (care : Care) : Type 0 where
  pub is_once : Bool
  pub flag : IsFlag found (codes "once") is_once
  pub care_is : care ≡ (if is_once then Once else Twice)

-- a save is what the arguments and options of `save` say
pub record IsSaveOf (found : Found) (save : Save) : Type 0 where
  pub file : first_value found (codes "FILE") ≡ Some save.file.now
  pub range : IsRangeOf found save.range
  pub start : IsSavedStart (first_value found (codes "start")) save.start
  pub look : IsLookOf found save.look
  pub care : IsSavingCare found save.look.care

-- a tape is made as the arguments and options of `make` say
pub record IsMakeOf (found : Found) (make : Make) : Type 0 where
  pub file : first_value found (codes "FILE") ≡ Some make.file.now
  pub words : IsWordsFile (first_value found (codes "WORDS")) make.words.now
  pub start : IsSavedStart (first_value found (codes "start")) make.start

-- a rehearsal is what the arguments of `rehearse` say
pub record IsRehearsalOf (found : Found) (rehearsal : Rehearsal) : Type 0 where
  pub tape : first_value found (codes "TAPE") ≡ Some rehearsal.tape.now
  pub script : first_value found (codes "SCRIPT") ≡ Some rehearsal.script.now
  pub more : map (λ name. name.now) rehearsal.more.items ≡ more_in found

-- a probe is what the arguments and options of `probe` say
pub record IsProbeOf (found : Found) (probe : Probe) : Type 0 where
  pub address : IsProbedWord (first_value found (codes "address")) probe.address
  pub look : IsLookOf found probe.look

-- a test of memory is what the arguments and options of `memory` say
pub record IsTestOf (found : Found) (test : MemoryTest) : Type 0 where
  pub range : IsTestedRange (first_value found (codes "FROM")) found test.range
  pub every : IsNumberOf found (codes "every") (plain_step (first_value found (codes "FROM"))) test.every
  pub look : IsLookOf found test.look

-- a request that does nothing but print is what the arguments and options of this command say
abbrev pub IsPrintRequestOf : Text → Found → PrintRequest → Type 0
IsPrintRequestOf command found (Check names options) = (command ≡ codes "check") × NamesTapes found names.items × IsFlag found (codes "blocks") options.blocks
IsPrintRequestOf command found (Dialogue names stage) =
    (command ≡ codes "dialogue") × NamesTapes found names.items × IsConsoleOf found stage.console × IsStartOf found stage.start
IsPrintRequestOf command found (Rehearse rehearsal) = (command ≡ codes "rehearse") × IsRehearsalOf found rehearsal
IsPrintRequestOf command found (TypeKeys console) = (command ≡ codes "type") × IsConsoleOf found console
IsPrintRequestOf command found CheckInput = ⊥

-- one about tapes is
abbrev pub IsTapeRequestOf : Text → Found → TapeRequest → Type 0
IsTapeRequestOf command found (Makes make) = (command ≡ codes "make") × IsMakeOf found make
IsTapeRequestOf command found (Print request) = IsPrintRequestOf command found request

-- one at a machine is
abbrev pub IsMachineRequestOf : Text → Found → MachineRequest → Type 0
IsMachineRequestOf command found (Loads names load) = (command ≡ codes "load") × NamesTapes found names.items × SaysLoad found load
IsMachineRequestOf command found (Verify names look) = (command ≡ codes "verify") × NamesTapes found names.items × IsLookOf found look × IsVerifyingCare found look.care
IsMachineRequestOf command found (Saves save) = (command ≡ codes "save") × IsSaveOf found save
IsMachineRequestOf command found (Probes probe) = (command ≡ codes "probe") × IsProbeOf found probe
IsMachineRequestOf command found (TestsMemory test) = (command ≡ codes "memory") × IsTestOf found test

-- a request is
abbrev pub IsRequestOf : Text → Found → Request → Type 0
IsRequestOf command found (Machine request) = IsMachineRequestOf command found request
IsRequestOf command found (Tape request) = IsTapeRequestOf command found request
