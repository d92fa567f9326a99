-- What a list of what was asked for lines stands for.
use Rattle.std.specs.Prelude.{List, map}
use Rattle.std.specs.String.{string_bytes}
use Rattle.console_lines.specs.Dialling.{LineRequest as Request}
use Rattle.console_lines.specs.Dialling.{Dialled as WasDialled, OpenedDevice, Limited as WasLimited}
use Rattle.told_calls.specs.declared.line_request.LineRequest.{LineRequest}
use Rattle.told_calls.specs.declared.line_request.LineRequest.TheVariants.{Dialled, Opened, Limited}

-- a name was dialled, a device was opened at a path, or reads were limited to a time in milliseconds
abbrev pub request : LineRequest → Request
request (Dialled name) = WasDialled (string_bytes name)
request (Opened path) = OpenedDevice (string_bytes path)
request (Limited quiet_ms) = WasLimited quiet_ms

abbrev pub asked_by : List LineRequest → List Request
asked_by requests = map request requests
