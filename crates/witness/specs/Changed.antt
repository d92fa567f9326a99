-- How many characters came changed (this project's own).
use Rattle.std.specs.Prelude.{ℕ, if◌then◌else◌}
use Rattle.host_devices.specs.Failures.{one_more_in_32}
use Rattle.host_devices.specs.declared.onlooker.Sight.{Sight}

-- how many there are behind a step, where so many were before: one more where no loss explains what was heard; at its largest, 32 bits, the
-- count stays
abbrev pub changed_behind : ℕ → Sight → ℕ
changed_behind count sight = if sight.foreign then one_more_in_32 count else count
