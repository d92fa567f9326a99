-- What a load asks of its surroundings, and what they answer.
use Rattle.std.specs.Prelude.{Result, Ok, Err}
use Rattle.host_devices.specs.declared.fault.LineFault.{LineFault}
use Rattle.record_file.specs.declared.old_record.OldRecord.{OldRecord}
use Rattle.record_file.specs.declared.old_record.Writable.{Writable}
use Rattle.record_file.specs.declared.record_fault.RecordFault.{RecordFault}
use Rattle.record_file.specs.declared.record_fault.RecordFault.TheVariants as fault

-- the record of earlier lives is read, which may be begun anew so, a connection is made, the record is begun anew, and its keeper is
-- given back; or one of these fails, since another load holds the record, or for another reason, or memory is wanting
pub data LoadStep : Type 0 where
  RecordRead : Writable → LoadStep
  Connected : LoadStep
  RecordBegun : LoadStep
  RecordGivenBack : LoadStep
  InUse : LoadStep
  NotRead : LoadStep
  NotConnected : LoadStep
  NotBegun : LoadStep
  OutOfMemory : LoadStep

-- what a record that failed was asked for in vain
abbrev pub failing : RecordFault → LoadStep
failing fault.Read = NotRead
failing fault.InUse = InUse
failing fault.Write = NotBegun
failing fault.Memory = OutOfMemory

-- what was answered where the record was asked for
abbrev pub read_step : Result OldRecord RecordFault → LoadStep
read_step (Ok old) = RecordRead old.writable
read_step (Err fault) = failing fault

-- what was answered where a connection was asked for
abbrev pub connect_step : {A : Type 0} → Result A LineFault → LoadStep
connect_step (Ok line) = Connected
connect_step (Err fault) = NotConnected

-- what was answered where the record was to be begun anew
abbrev pub begin_step : {A : Type 0} → Result A RecordFault → LoadStep
begin_step (Ok keeper) = RecordBegun
begin_step (Err fault) = failing fault
