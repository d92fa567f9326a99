-- What a call for a line asks for.
use Rattle.std.specs.Prelude.{List, Option, Some, None}
use Rattle.host_devices.specs.declared.fault.LineFault.{LineFault}
use Rattle.console_lines.specs.Dialling.{Call, LineRequest, asked_once, asked_until}

-- what a call that came to a line, or to a fault, asked for
abbrev pub asked_till : Call → Option LineFault → List LineRequest
asked_till call None = asked_once call
asked_till call (Some fault) = asked_until call fault
