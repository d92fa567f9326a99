-- How long a run over a line may last.
use Rattle.std.specs.Prelude.{ℕ}

-- the most turns of a load or a look, in each of which one thing is heard (this project's choice): more than any can need, since a load of
-- the whole memory takes far fewer, also over a line that loses; and yet a run over a line that never falls silent ends some day
abbrev pub most_turns : ℕ
most_turns = 10000000
