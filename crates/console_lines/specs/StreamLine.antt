-- A line over a stream as one value.
use Rattle.std.specs.Prelude.{◌≡◌, ℕ, Bool, List, [], Option, Some, None}
use Rattle.host_devices.specs.declared.fault.LineFault.{LineFault}
use Rattle.host_devices.specs.Failures.{one_more}

-- what was read of the stream and is not heard yet; the bytes that are still to come, those first, which went out, how often the time limit
-- was met and whether the stream is at its end, where the stream tells; how many calls failed, and how the last did
pub record StreamLineValue : Type 0 where
  pub ahead : List ℕ
  pub to_come : Option (List ℕ)
  pub gone_out : Option (List ℕ)
  pub silences : Option ℕ
  pub is_over : Bool
  pub failures : ℕ
  pub fault : Option LineFault

-- a line on which nothing has been said, and of which nothing was read
abbrev pub fresh_line : Option (List ℕ) → Option (List ℕ) → Option ℕ → Bool → StreamLineValue
fresh_line to_come gone_out silences is_over =
    record { ahead = []; to_come = to_come; gone_out = gone_out; silences = silences; is_over = is_over; failures = 0; fault = None }

-- no call of the line has failed
pub record IsFreshLine (line : StreamLineValue) : Type 0 where
  pub none_failed : line.failures ≡ 0
  pub no_fault : line.fault ≡ None

-- the line after a call whose fault is this, if it had one
abbrev pub after_call : StreamLineValue → Option LineFault → StreamLineValue
after_call line None = record line { fault = None }
after_call line (Some fault) = record line { failures = one_more line.failures; fault = Some fault }
