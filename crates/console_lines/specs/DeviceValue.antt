-- A device as one value.
use Rattle.std.specs.Prelude.{ℕ, List, Option}

-- the bytes that are still to come, those that went out and how many looks were in vain, where the terminal tells; and the
-- quiet time in milliseconds
pub record DeviceValue : Type 0 where
  pub to_come : Option (List ℕ)
  pub gone_out : Option (List ℕ)
  pub misses : Option ℕ
  pub quiet_ms : ℕ

-- a device over a terminal that tells this, within a quiet time
abbrev pub fresh_device : Option (List ℕ) → Option (List ℕ) → Option ℕ → ℕ → DeviceValue
fresh_device to_come gone_out misses quiet_ms = record { to_come = to_come; gone_out = gone_out; misses = misses; quiet_ms = quiet_ms }
