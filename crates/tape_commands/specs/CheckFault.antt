-- How `check` fails, and what it has written by then.
use Rattle.std.specs.Prelude.{ℕ, Bool, List, Option}
use Rattle.std.specs.Io.KnownBytes.{Keeps}
use Rattle.input_files.specs.Tapes.{AreTapesFault}
use Rattle.tape_commands.specs.CheckText.{IsCheckedInPart}
use Rattle.request_values.specs.Change.{Change}
use Rattle.endings.specs.declared.command_fault.CommandFault.{CommandFault}
use Rattle.endings.specs.declared.command_fault.CommandFault.TheVariants.{Tape, ReadTape, Write, Memory}

-- a tape is refused only where its input is, by its number, or can't be read, or want of memory, before anything is written;
-- or a failed write, with a proper prefix of the text written
abbrev pub IsCheckFault : Bool → Change (List (Option (List ℕ))) → Change (Option (List ℕ)) → CommandFault → Type 0
IsCheckFault blocks inputs out (Tape number fault) = AreTapesFault inputs.before inputs.after (Tape number fault) × Keeps out.before out.after
IsCheckFault blocks inputs out (ReadTape number) = AreTapesFault inputs.before inputs.after (ReadTape number) × Keeps out.before out.after
IsCheckFault blocks inputs out Memory = Keeps out.before out.after
IsCheckFault blocks inputs out Write = IsCheckedInPart blocks inputs out
IsCheckFault blocks inputs out other = ⊥
