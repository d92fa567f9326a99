-- Why a record is not read, or not begun anew.
use Rattle.std.specs.Prelude.{⊤}
use Rattle.byte_io.specs.declared.input.InputFault.{InputFault}
use Rattle.byte_io.specs.declared.input.InputFault.TheVariants as input
use Rattle.record_file.specs.declared.record_fault.RecordFault.{RecordFault}
use Rattle.record_file.specs.declared.record_fault.RecordFault.TheVariants.{Read, InUse, Write, Memory}

-- what a failed input becomes
abbrev pub fault_of_input : InputFault → RecordFault
fault_of_input input.Read = Read
fault_of_input input.Memory = Memory

-- a record is not read where its file can't be read, where another load holds it, or where memory is wanting
abbrev pub IsUnread : RecordFault → Type 0
IsUnread Read = ⊤
IsUnread InUse = ⊤
IsUnread Memory = ⊤
IsUnread other = ⊥

-- a record is not begun where it can't be written, or memory is wanting
abbrev pub IsUnbegun : RecordFault → Type 0
IsUnbegun Write = ⊤
IsUnbegun Memory = ⊤
IsUnbegun other = ⊥
