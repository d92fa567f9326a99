-- A dialogue: a load into a zeroed machine on a line that loses nothing, and what is printed of it.
use Rattle.std.specs.Prelude.{ℕ, ◌≡◌, ◌<◌, ◌⊎◌, false, List, [], ◌++◌, replicate, Option, ⊤}
use Rattle.std.specs.Io.KnownBytes.{Appends, Keeps}
use Rattle.tape_values.specs.Tape.{TapeValue}
use Rattle.tape_image.specs.declared.start.Start.{Start}
use Rattle.tape_image.specs.Plan.{plan_of_all, starting}
use Rattle.odt_machine.specs.declared.style.Style.{Style}
use Rattle.odt_machine.specs.Machine.{largest_words}
use Rattle.request_values.specs.declared.request.Stage.{Stage}
use Rattle.host_core.specs.declared.phase.End.{End}
use Rattle.host_core.specs.Core.{begun, plain_patience}
use Rattle.line_world.specs.Scene.{Scene}
use Rattle.line_world.specs.Opening.{opened}
use Rattle.line_world.specs.Runs.{RunsTo}
use Rattle.request_values.specs.Change.{Change}
use Rattle.endings.specs.declared.command_fault.CommandFault.{CommandFault}
use Rattle.endings.specs.declared.command_fault.CommandFault.TheVariants as fault
use Rattle.tape_commands.specs.KeyLines.{answered_keys, key_text}
use Rattle.tape_commands.specs.Rehearsal.{machine_of}
use Rattle.tape_commands.specs.Report.{report}
use Rattle.byte_io.specs.Output.{WritesProperPrefix}
use Rattle.input_files.specs.Tapes.{TapeText, AreTaken, AreAllTaken, AreTapesFault, tapes_of}

-- how many mishaps the host survives in a dialogue: as many as in a rehearsal whose script names no patience
abbrev pub dialogue_patience : ℕ
dialogue_patience = plain_patience

-- the stage of a dialogue: a machine of so many words that answers in this style, and where the program begins
abbrev pub staged : ℕ → Style → Start → Stage
staged words style start = record { console = record { words = words; style = style }; start = start }

-- the world of a dialogue at its opening: a zeroed machine, and a host that has done nothing yet
abbrev pub dialogue_opening : List TapeValue → Stage → Scene
dialogue_opening tapes stage =
    opened (machine_of stage.console.style (replicate stage.console.words 0)) (begun (starting (plan_of_all tapes) stage.start) 0 false dialogue_patience) []

-- on a line that loses nothing one world leads to another, which has this end, and the lines of all keys on the way were written
pub record Talks (world : Change Scene) (end : End) (out : Change (Option (List ℕ))) : Type 0 where
  pub run : RunsTo world.before world.after end
  pub told : Appends out.before out.after (key_text (answered_keys world.before run.events))

-- tapes were taken of the inputs, their load on a line that loses nothing comes to this end, and the text is the lines of all keys
-- on the way and then the report of the last world
pub record IsDialogueText (inputs : Change (List (Option (List ℕ)))) (stage : Stage) (end : End) (text : List ℕ) : Type 0 where
  pub texts : List TapeText
  pub taken : AreTaken inputs.before inputs.after texts
  pub last : Scene
  pub run : RunsTo (dialogue_opening (tapes_of texts) stage) last end
  pub told : text ≡ key_text (answered_keys (dialogue_opening (tapes_of texts) stage) run.events) ++ report last

-- the dialogue came to this end, and its text was written, and nothing else
pub record IsDialogue (inputs : Change (List (Option (List ℕ)))) (stage : Stage) (out : Change (Option (List ℕ))) (end : End) : Type 0 where
  pub text : List ℕ
  pub is_text : IsDialogueText inputs stage end text
  pub written : Appends out.before out.after text

-- a proper prefix of the dialogue's text was written, and nothing else
pub record IsDialogueInPart (inputs : Change (List (Option (List ℕ)))) (stage : Stage) (out : Change (Option (List ℕ))) : Type 0 where
  pub end : End
  pub text : List ℕ
  pub is_text : IsDialogueText inputs stage end text
  pub written : WritesProperPrefix out.before out.after text

-- how a dialogue fails: a refusal or a failed read of a tape's input, by its number; or, where tapes were taken, a machine of more than 28,672 words; all
-- before anything is written. A failed write leaves a proper prefix of the text written, and so does want of memory, where anything is written by then
abbrev pub IsDialogueFault : Change (List (Option (List ℕ))) → Stage → Change (Option (List ℕ)) → CommandFault → Type 0
IsDialogueFault inputs stage out (fault.Tape number refusal) = AreTapesFault inputs.before inputs.after (fault.Tape number refusal) × Keeps out.before out.after
IsDialogueFault inputs stage out (fault.ReadTape number) = AreTapesFault inputs.before inputs.after (fault.ReadTape number) × Keeps out.before out.after
IsDialogueFault inputs stage out fault.TooLarge =
    AreAllTaken inputs.before inputs.after × (largest_words < stage.console.words) × Keeps out.before out.after
IsDialogueFault inputs stage out fault.Write = IsDialogueInPart inputs stage out
IsDialogueFault inputs stage out fault.Memory = Keeps out.before out.after ⊎ IsDialogueInPart inputs stage out
IsDialogueFault inputs stage out other = ⊥

-- a conversation stops: a failed write or want of memory
abbrev pub IsTalkFault : CommandFault → Type 0
IsTalkFault fault.Write = ⊤
IsTalkFault fault.Memory = ⊤
IsTalkFault other = ⊥

-- a report was not written: a proper prefix of it was, or for want of memory nothing
abbrev pub IsReportFault : Option (List ℕ) → Option (List ℕ) → List ℕ → CommandFault → Type 0
IsReportFault out out' text fault.Write = WritesProperPrefix out out' text
IsReportFault out out' text fault.Memory = out' ≡ out
IsReportFault out out' text other = ⊥
