-- How long a run may last (this project's choice).
use Rattle.std.specs.Prelude.{ℕ, ◌+◌, ◌*◌}

-- the most turns of a run: ten thousand, and a hundred for each mishap of the patience
abbrev pub turns_of : ℕ → ℕ
turns_of patience = 10000 + 100 * patience
