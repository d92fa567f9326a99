-- What a line tells that is behind a port or at a device.
use Rattle.console_lines.specs.declared.system_consoles.ConsoleLine.{ConsoleLine}
use Rattle.console_lines.specs.declared.system_consoles.ConsoleLine.TheVariants.{Port, Device}

-- what is told of it, whichever it is
abbrev pub of_line : {P D A : Type 0} → (P → A) → (D → A) → ConsoleLine P D → A
of_line port device (Port line) = port line
of_line port device (Device line) = device line
