-- A keeper in memory: what it keeps, and what its calls answer.
use Rattle.std.specs.Prelude.{ℕ, Bool, false, nat_le, nat_lt, if◌then◌else◌, List, [], ◌∷◌, ◌++◌, length, Option, Some, None}
use Rattle.host_devices.specs.Failures.{one_more, one_more_in_32}
use Rattle.host_devices.specs.declared.item.Kept.{Kept}
use Rattle.host_devices.specs.declared.fault.KeepFault.{KeepFault}
use Rattle.host_devices.specs.declared.fault.KeepFault.TheVariants.{Write, Full}

-- what is kept, how much may be, the number of the first call that fails, the calls so far, how many failed, and the fault of the last
pub record KeepValue : Type 0 where
  pub kept : List Kept
  pub room : ℕ
  pub fail_at : Option ℕ
  pub calls : ℕ
  pub failures : ℕ
  pub fault : Option KeepFault

-- the number of the next call, from 1; at its largest, 32 bits, it stays
abbrev pub next_call : KeepValue → ℕ
next_call keep = one_more_in_32 keep.calls

-- whether the call with this number is one of those that fail
abbrev pub is_failing : Option ℕ → ℕ → Bool
is_failing None call = false
is_failing (Some first) call = nat_le first call

-- what the next call fails with, if it does: Write by its number, else Full where no room is left
abbrev pub keep_refusal : KeepValue → Option KeepFault
keep_refusal keep =
    if is_failing keep.fail_at (next_call keep) then Some Write
    else (if nat_lt (length keep.kept) keep.room then None
    else Some Full)

-- the keeper after a call that keeps this, or fails
abbrev pub after_answer : KeepValue → Kept → Option KeepFault → KeepValue
after_answer keep item None = record keep { kept = keep.kept ++ item ∷ []; calls = next_call keep; fault = None }
after_answer keep item (Some fault) =
    record keep { calls = next_call keep; failures = one_more keep.failures; fault = Some fault }

-- the keeper after its next call
abbrev pub after_keeping : KeepValue → Kept → KeepValue
after_keeping keep item = after_answer keep item (keep_refusal keep)

-- a keeper that keeps nothing yet
abbrev pub empty_keep : ℕ → Option ℕ → KeepValue
empty_keep room fail_at = record {
  kept = [];
  room = room;
  fail_at = fail_at;
  calls = 0;
  failures = 0;
  fault = None;
}
