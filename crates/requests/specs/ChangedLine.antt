-- What standard error is told of characters that came changed (this project's own).
use Rattle.std.specs.Prelude.{◌≡◌, ℕ, zero, suc, ◌==◌, if◌then◌else◌, List, ◌++◌, codes, decimal}
use Rattle.endings.specs.FaultOutput.{StandardError, IsSaidOnError}
use Rattle.request_values.specs.declared.request.Request.{Request}
use Rattle.request_values.specs.declared.request.Request.TheVariants.{Tape, Machine}

-- one or several
abbrev pub plural : ℕ → List ℕ
plural count = if count == 1 then codes " character" else codes " characters"

-- the line that tells how many came changed
abbrev pub changed_line : ℕ → List ℕ
changed_line count =
    codes "ldaodt: " ++ (decimal count ++ (plural count ++ codes " came changed, or not from ODT: docs/REAL-MACHINE.md, step 7\n"))

-- standard error was told that so many came changed, where any did, of a request at a machine: that line and nothing else
abbrev pub IsChangeTold : Request → ℕ → StandardError → StandardError → Type 0
IsChangeTold (Machine request) zero err err' = err' ≡ err
IsChangeTold (Machine request) (suc count) err err' = IsSaidOnError err err' (changed_line (suc count))
IsChangeTold (Tape request) count err err' = err' ≡ err
