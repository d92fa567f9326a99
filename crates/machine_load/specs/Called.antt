-- What a load asks for its line: for its console once, or not at all.
use Rattle.std.specs.Prelude.{◌⊎◌, List, [], Option, Some, None}
use Rattle.host_devices.specs.Told.{Gains}
use Rattle.console_lines.specs.Dialling.{LineRequest, Call, IsAskedInVain, asked_once}
use Rattle.machine_load.specs.declared.fault.LoadFault.{LoadFault}
use Rattle.machine_load.specs.declared.fault.LoadFault.TheVariants.{ReadRecord, RecordInUse, Record, Connect}

-- for a load that has a line its console was asked for once: its name dialled and the reads limited to the quiet time, or its device opened;
-- for one that has none nothing was asked
abbrev pub asked_by : {L : Type 0} → Call → Option L → List LineRequest
asked_by call (Some line) = asked_once call
asked_by call None = []

-- what was asked before a load came to nothing: nothing before its record was read; where the console was not reached, the first of it or
-- all; and else all, or nothing
abbrev pub IsAskedBefore : Call → Option (List LineRequest) → Option (List LineRequest) → LoadFault → Type 0
IsAskedBefore call asked asked' ReadRecord = Gains asked asked' []
IsAskedBefore call asked asked' RecordInUse = Gains asked asked' []
IsAskedBefore call asked asked' (Record why) = Gains asked asked' []
IsAskedBefore call asked asked' Connect = IsAskedInVain call asked asked'
IsAskedBefore call asked asked' other = Gains asked asked' [] ⊎ Gains asked asked' (asked_once call)
