-- How a fault of a tape is printed.
use Rattle.std.specs.Prelude.{ℕ, List, ◌++◌, codes, decimal}
use Rattle.tape_blocks.specs.declared.fault.Fault.{Fault}
use Rattle.tape_blocks.specs.declared.fault.Why.{Why}
use Rattle.tape_blocks.specs.declared.fault.Why.TheVariants.{Stray, BadMark, BadCount, Cut, BadSum, PastTop, NoTransfer, TooLong}

-- the name of a reason
abbrev pub why_text : Why → List ℕ
why_text Stray = codes "Stray"
why_text BadMark = codes "BadMark"
why_text BadCount = codes "BadCount"
why_text Cut = codes "Cut"
why_text BadSum = codes "BadSum"
why_text PastTop = codes "PastTop"
why_text NoTransfer = codes "NoTransfer"
why_text TooLong = codes "TooLong"

-- the place of a fault, counted from 0, and its reason
abbrev pub fault_text : Fault → List ℕ
fault_text fault = codes "refused at " ++ decimal fault.at ++ codes ": " ++ why_text fault.why

-- the same, said of a tape
abbrev pub refused_tape_text : Fault → List ℕ
refused_tape_text fault = codes "tape " ++ fault_text fault
