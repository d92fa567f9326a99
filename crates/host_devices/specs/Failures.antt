-- How a device counts its failures.
use Rattle.std.specs.Prelude.{◌≡◌, ℕ, ◌+◌, ◌-◌, ◌^◌, min, Option, Some, None, Result, Ok, Err, ⊤}

-- a count with one more failure; at its largest, 64 bits, it stays
abbrev pub one_more : ℕ → ℕ
one_more count = min (count + 1) (2 ^ 64 - 1)

-- a count with one more; at its largest, 32 bits, it stays
abbrev pub one_more_in_32 : ℕ → ℕ
one_more_in_32 count = min (count + 1) (2 ^ 32 - 1)

-- the count after a call
abbrev pub count_after : {T E : Type 0} → ℕ → Result T E → ℕ
count_after count (Ok _) = count
count_after count (Err _) = one_more count

-- the fault that a call answered
abbrev pub fault_of : {T E : Type 0} → Result T E → Option E
fault_of (Ok _) = None
fault_of (Err fault) = Some fault

-- the count before and after calls that a fault ended, where one is named: the device has failed once more exactly then
abbrev pub CountsFault : {E : Type 0} → Option E → ℕ → ℕ → Type 0
CountsFault None count count' = count' ≡ count
CountsFault (Some fault) count count' = count' ≡ one_more count

-- the fault that is named is the one that the device's last call answered
abbrev pub IsLastFault : {E : Type 0} → Option E → Option E → Type 0
IsLastFault None last = ⊤
IsLastFault (Some fault) last = last ≡ Some fault
