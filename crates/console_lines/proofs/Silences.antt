-- How often the time limit is met.
use Rattle.std.proofs.Common.{◌≡◌, ℕ, ◌+◌, Option, Some, None, Ok, Err, Result, arith}
use Rattle.host_devices.specs.declared.fault.LineFault.{LineFault}
use Rattle.console_lines.specs.Hearing.{GoesUpBy, limits_met}

-- so many times, and then so many more
pub met_then : (a b d : Option ℕ) (times more all : ℕ) → GoesUpBy a b times → GoesUpBy b d more → times + more ≡ all → GoesUpBy a d all
met_then None b d times more all before then sum = tt
met_then (Some x) None d times more all before then sum = absurd before
met_then (Some x) (Some y) None times more all before then sum = absurd then
met_then (Some x) (Some y) (Some z) times more all before then sum = omega arith

-- a byte that came is no silence
pub unmet_more : (a b d : Option ℕ) (byte : ℕ) → GoesUpBy a b 0 → GoesUpBy b d (limits_met (Ok (Some byte))) → GoesUpBy a d 0
unmet_more a b d byte before more = met_then a b d 0 0 0 before more (omega arith)

-- a receipt that gave something did not fail
pub not_closed : (result : Result (Option ℕ) LineFault) (given : Option ℕ) (fault : LineFault) → result ≡ Ok given → result ≡ Err fault → ⊥
not_closed result given fault e f = cc
