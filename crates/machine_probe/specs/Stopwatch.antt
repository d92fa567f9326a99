-- The mean of what a stopwatch timed (no law is about it).
use Rattle.std.specs.Prelude.{ℕ, zero, suc, ◌/◌, ◌^◌, nat_lt, if◌then◌else◌, Option, Some, None}

-- a number where it has room in 32 bits
abbrev pub in_32_bits : ℕ → Option ℕ
in_32_bits n = if nat_lt n (2 ^ 32) then Some n else None

-- the mean of so many times with this sum, where there are any
abbrev pub mean : ℕ → ℕ → Option ℕ
mean sum zero = None
mean sum (suc more) = in_32_bits (sum / suc more)
