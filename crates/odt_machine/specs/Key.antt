-- The keys that the console tells apart.
use Rattle.std.specs.Prelude.{ℕ, ◌==◌, if◌then◌else◌}
use Rattle.octal.specs.Octal.{is_digit}
use Rattle.odt_machine.specs.Character.{carriage_return, slash, go}
use Rattle.odt_machine.specs.declared.key.Key.{Key}
use Rattle.odt_machine.specs.declared.key.Key.TheVariants.{Digit, Return, Slash, Go, Other}

-- the key that a character is (the console ODT chapter of DEC's Microcomputer Processor Handbook)
abbrev pub key_of : ℕ → Key
key_of c = if is_digit c then Digit else (if c == carriage_return then Return else (if c == slash then Slash else (if c == go then Go else Other)))
