-- What reading a line or a text comes to, where memory may be wanting.
use Rattle.std.specs.Prelude.{◌≡◌, ℕ, List, ◌++◌, Option, Some, None, Result, Ok, Err, ⊤}
use Rattle.std.specs.Option.{option_to_list}
use Rattle.tape_values.specs.Block.{BlockValue}
use Rattle.tape_making.specs.declared.refusal.WordsWhy.{WordsWhy}
use Rattle.tape_making.specs.declared.refusal.WordsWhy.TheVariants.{BadNumber}
use Rattle.tape_making.specs.declared.refusal.RowFault.{RowFault}
use Rattle.tape_making.specs.declared.refusal.RowFault.TheVariants.{Wrong, Memory}
use Rattle.tape_making.specs.declared.refusal.WordsFault.{WordsFault}
use Rattle.tape_making.specs.declared.refusal.WordsFault.TheVariants as fault
use Rattle.tape_making.specs.declared.sheet.Sheet.{Sheet}
use Rattle.tape_making.specs.Words.{HasRows, IsReading, Says}
use Rattle.tape_making.specs.Sheet.{HoldsRows}

-- no numbers are such, or memory was wanting
abbrev pub IsNone : (List ℕ → Type 0) → RowFault → Type 0
IsNone Are (Wrong why) = (why ≡ BadNumber) × ((numbers : List ℕ) → Are numbers → ⊥)
IsNone Are Memory = ⊤

-- what a line was found to say; want of memory finds nothing
abbrev pub said_by : Result (Option BlockValue) RowFault → Option (Result (Option BlockValue) WordsWhy)
said_by (Ok row) = Some (Ok row)
said_by (Err (Wrong why)) = Some (Err why)
said_by (Err Memory) = None

-- why a line was not read: it is wrong, or memory was wanting
abbrev pub IsRowFault : List ℕ → RowFault → Type 0
IsRowFault line (Wrong why) = Says line (Err why)
IsRowFault line Memory = ⊤

-- what a line says was laid over what a sheet had
pub record LaysLine (line : List ℕ) (old new : Sheet) : Type 0 where
  pub row : Option BlockValue
  pub says : Says line (Ok row)
  pub lays : (rows : List BlockValue) → HoldsRows rows old → HoldsRows (rows ++ option_to_list row) new

-- why the text is not read where this is wrong with the line of this number
abbrev pub fault_at : ℕ → RowFault → WordsFault
fault_at line (Wrong why) = fault.Refused (record { line = line; why = why })
fault_at line Memory = fault.Memory

-- the sheet has the rows of the text
pub record HoldsText (text : List ℕ) (sheet : Sheet) : Type 0 where
  pub rows : List BlockValue
  pub are : HasRows text rows
  pub holds : HoldsRows rows sheet

-- why a text was not read: it is refused, or memory was wanting
abbrev pub IsWordsFault : List ℕ → WordsFault → Type 0
IsWordsFault text (fault.Refused refusal) = IsReading text (Err refusal)
IsWordsFault text fault.Memory = ⊤
