-- What a name says of the way to a console.
use Rattle.std.specs.Prelude.{ℕ, ◌==◌, Bool, if◌then◌else◌, List}
use Rattle.std.specs.List.{list_any}
use Rattle.byte_io.specs.Text.{name_slash}
use Rattle.console_lines.specs.Dialling.{Call, ToPort, ToDevice}
use Rattle.console_lines.specs.declared.dial.Dial.{Dial}

-- it has a slash, as the path of a device has and no HOST:PORT
abbrev pub has_slash : List ℕ → Bool
has_slash name = list_any (λ c. c == name_slash) name

-- the console that a name stands for: one with a slash is the path of a device, any other HOST:PORT; with a quiet time in milliseconds
abbrev pub call_to : List ℕ → ℕ → Call
call_to name quiet_ms = if has_slash name then ToDevice name quiet_ms else ToPort name quiet_ms

abbrev pub call_of : Dial → Call
call_of dial = call_to dial.name.now dial.quiet_ms
