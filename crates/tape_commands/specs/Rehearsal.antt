-- A rehearsal: the world that a tape and a script open, what the script's lines do to it, and the text of all that.
use Rattle.std.specs.Prelude.{◌≡◌, ℕ, ◌<◌, ◌⊎◌, true, false, List, [], ◌∷◌, ◌++◌, replicate, Option, ⊤}
use Rattle.std.specs.List.{AllByRecursion}
use Rattle.std.specs.Io.KnownBytes.{Keeps}
use Rattle.tape_values.specs.Tape.{TapeValue}
use Rattle.tape_image.specs.Plan.{plan_of_all}
use Rattle.odt_machine.specs.declared.style.Style.{Style}
use Rattle.odt_machine.specs.declared.mode.Mode.TheVariants.{Prompt}
use Rattle.odt_machine.specs.Machine.{Machine, is_word, stored, largest_words}
use Rattle.host_core.specs.Core.{begun}
use Rattle.line_world.specs.Scene.{Scene}
use Rattle.line_world.specs.Opening.{opened}
use Rattle.loss_scripts.specs.declared.script.PutLine.{PutLine}
use Rattle.loss_scripts.specs.declared.script.Script.{Script}
use Rattle.request_values.specs.Change.{Change}
use Rattle.endings.specs.declared.command_fault.CommandFault.{CommandFault}
use Rattle.endings.specs.declared.command_fault.CommandFault.TheVariants as fault
use Rattle.byte_io.specs.Output.{WritesProperPrefix}
use Rattle.tape_commands.specs.Played.{Played, not_possible_lines}
use Rattle.tape_commands.specs.Report.{report}
use Rattle.loss_scripts.specs.Script.{IsScript, IsRefusedScript}
use Rattle.tape_values.specs.Told.{IsAsTold}
use Rattle.input_files.specs.Tapes.{TapeText, AreTaken, AreAllTaken, AreTapesFault, tapes_of}

-- the memory after these words are put into it, in order
abbrev pub after_puts : List ℕ → List PutLine → List ℕ
after_puts memory [] = memory
after_puts memory (put ∷ puts) = after_puts (stored memory put.address put.value) puts

-- all these words lie in the memory
abbrev pub AllLie : List ℕ → List PutLine → Type 0
AllLie memory puts = AllByRecursion (λ put. is_word memory put.address ≡ true) puts

-- the first of the words that does not lie in the memory stands on this line
pub record IsRefusedPut (memory : List ℕ) (puts : List PutLine) (number : ℕ) : Type 0 where
  pub before : List PutLine
  pub put : PutLine
  pub others : List PutLine
  pub all : puts ≡ before ++ put ∷ others
  pub lie : AllLie memory before
  pub refused : is_word memory put.address ≡ false
  pub number_is : number ≡ put.line

-- a machine at its prompt with this memory
abbrev pub machine_of : Style → List ℕ → Machine
machine_of style memory = record { style = style; memory = memory; mode = Prompt }

-- the world that tapes and a script open: the words are put into a zeroed machine, the host has done nothing yet
abbrev pub rehearsal_opening : List TapeValue → Script → Scene
rehearsal_opening tapes script =
    opened (machine_of script.style (after_puts (replicate script.words 0) script.puts.items))
    (begun (plan_of_all tapes) 0 false script.patience) script.waiting.items

-- the text of a rehearsal: the lines that were not possible, and then the report
pub record IsRehearsal (tapes : List TapeValue) (script : Script) (text : List ℕ) : Type 0 where
  pub lie : AllLie (replicate script.words 0) script.puts.items
  pub last : Scene
  pub numbers : List ℕ
  pub played : Played (rehearsal_opening tapes script) script.steps.items last numbers
  pub told : text ≡ not_possible_lines numbers ++ report last

-- the input is this script
pub record IsScriptInput (known : Option (List ℕ)) (script : Script) : Type 0 where
  pub text : List ℕ
  pub is_input : IsAsTold known text
  pub is_script : IsScript text script

-- the input is refused at this line: its text is, or it is a script and one of its puts is
pub record IsRefusedScriptInput (known : Option (List ℕ)) (number : ℕ) : Type 0 where
  pub text : List ℕ
  pub is_input : IsAsTold known text
  pub refused : IsRefusedScript text number ⊎ ((script : Script) × IsScript text script × IsRefusedPut (replicate script.words 0) script.puts.items number)

-- tapes were taken of the inputs, the other input is a script, and this is the text of their rehearsal
pub record IsRehearsed (inputs : Change (List (Option (List ℕ)))) (script_input : Option (List ℕ)) (text : List ℕ) : Type 0 where
  pub texts : List TapeText
  pub taken : AreTaken inputs.before inputs.after texts
  pub script : Script
  pub is_script : IsScriptInput script_input script
  pub rehearsal : IsRehearsal (tapes_of texts) script text

-- how a rehearsal fails: a refusal or a failed read of a tape's input, by its number; the script's only where the tapes were taken first; or want of
-- memory, all before anything is written; or a failed write, with a proper prefix of the text written
abbrev pub IsRehearseFault : Change (List (Option (List ℕ))) → Option (List ℕ) → Change (Option (List ℕ)) → CommandFault → Type 0
IsRehearseFault inputs script out (fault.Tape number refusal) =
    AreTapesFault inputs.before inputs.after (fault.Tape number refusal) × Keeps out.before out.after
IsRehearseFault inputs script out (fault.ReadTape number) = AreTapesFault inputs.before inputs.after (fault.ReadTape number) × Keeps out.before out.after
IsRehearseFault inputs script out (fault.Script number) =
    AreAllTaken inputs.before inputs.after × IsRefusedScriptInput script number × Keeps out.before out.after
IsRehearseFault inputs script out fault.ReadScript = AreAllTaken inputs.before inputs.after × Keeps out.before out.after
IsRehearseFault inputs script out fault.Memory = Keeps out.before out.after
IsRehearseFault inputs script out fault.Write = (text : List ℕ) × IsRehearsed inputs script text × WritesProperPrefix out.before out.after text
IsRehearseFault inputs script out other = ⊥

-- a machine was not made: it would be too large, or want of memory
abbrev pub IsMachineFault : ℕ → CommandFault → Type 0
IsMachineFault words fault.TooLarge = largest_words < words
IsMachineFault words fault.Memory = ⊤
IsMachineFault words other = ⊥

-- a script was not taken: the text of the input is refused, a failed read, or want of memory
abbrev pub IsScriptInputFault : Option (List ℕ) → CommandFault → Type 0
IsScriptInputFault known (fault.Script number) = (text : List ℕ) × IsAsTold known text × IsRefusedScript text number
IsScriptInputFault known fault.ReadScript = ⊤
IsScriptInputFault known fault.Memory = ⊤
IsScriptInputFault known other = ⊥

-- a script was not played: one of its puts is refused, or want of memory
abbrev pub IsPlayFault : List ℕ → List PutLine → CommandFault → Type 0
IsPlayFault memory puts (fault.Script number) = IsRefusedPut memory puts number
IsPlayFault memory puts fault.Memory = ⊤
IsPlayFault memory puts other = ⊥
