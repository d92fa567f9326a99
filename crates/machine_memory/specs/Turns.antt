-- How long a host may last.
use Rattle.std.specs.Prelude.{ℕ}

-- the most turns of one host
abbrev pub most_turns : ℕ
most_turns = 10000000
