-- What a system tells of which each part tells, and what its streams hold.
use Rattle.std.specs.Prelude.{ℕ, false, List, map, Option, Some, None}
use Rattle.endings.specs.Held.{Held}
use Rattle.honest_line.specs.LineTable.{LineValue}
use Rattle.host_devices.specs.Devices.{LineTold}
use Rattle.load_engine.specs.Lent.{memory_told}
use Rattle.record_file.specs.DiskStep.{DiskStep}
use Rattle.requests.specs.Asked.{SystemAsked, asked_of}
use Rattle.requests.specs.Moment.{Moment}
use Rattle.told_calls.specs.LineRequests.{asked_by}
use Rattle.told_calls.specs.ToldOpenings.{opened_by}
use Rattle.told_calls.specs.declared.line_request.LineRequest.{LineRequest}
use Rattle.told_calls.specs.declared.told_opening.ToldOpening.{ToldOpening}

-- the lines that were given back
abbrev pub lines_told : List LineValue → List LineTold
lines_told lines = map memory_told lines

-- which files were opened, what was asked of the disk and for lines, and which lines were given back
abbrev pub asked_told : List ToldOpening → Option (List DiskStep) → List LineRequest → List LineValue → SystemAsked
asked_told opened disk for_lines lines = asked_of (Some (opened_by opened)) disk (Some (asked_by for_lines)) (Some (lines_told lines))

-- what is left of the input, what was written, and what was said of faults
abbrev pub held_told : List ℕ → List ℕ → List ℕ → Held
held_told rest out err = record { input = Some rest; out = Some out; unread = false; err = record { text = Some err; failures = None } }

-- the moment at which this was asked and the streams hold this; what its files hold the disk does not tell
abbrev pub moment_told : SystemAsked → Held → Moment
moment_told asked held = record { asked = asked; holds = λ name. None; held = held }
