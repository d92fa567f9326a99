-- A keeper that writes a record of version 2, as one value, and what its calls do to it.
use Rattle.std.specs.Prelude.{◌≡◌, ℕ, ◌<◌, nat_lt, if◌then◌else◌, false, List, Option, Some, None, ⊤}
use Rattle.std.specs.Io.KnownBytes.{Appends, Keeps}
use Rattle.byte_io.specs.Output.{WritesPrefix}
use Rattle.tape_image.specs.Plan.{PlanValue}
use Rattle.host_devices.specs.declared.item.Kept.{Kept}
use Rattle.host_devices.specs.declared.item.Kept.TheVariants.{Word, Go}
use Rattle.host_devices.specs.declared.fault.KeepFault.{KeepFault}
use Rattle.host_devices.specs.declared.fault.KeepFault.TheVariants.{Write}
use Rattle.host_devices.specs.Failures.{one_more}
use Rattle.load_record.specs.declared.version.Version.TheVariants.{Second}
use Rattle.load_record.specs.declared.run.OpenRun.{OpenRun}
use Rattle.load_record.specs.RecordText.{open_run, record_text, second_piece, second_run, mark_text}

-- what the writer holds and what of it lasts, where it tells its bytes; the run line that stands open; and how many calls
-- have failed
pub record Keeper : Type 0 where
  pub text : Option (List ℕ)
  pub lasting : Option (List ℕ)
  pub run : Option OpenRun
  pub failures : ℕ

-- the fault of the last call: once a call has failed, each call fails
abbrev pub fault_now : ℕ → Option KeepFault
fault_now failures = if nat_lt 0 failures then Some Write else None

-- all that was written is what a loss of power leaves, where the writer tells that
abbrev pub Lasts : Option (List ℕ) → Option (List ℕ) → Type 0
Lasts None written = ⊤
Lasts (Some left) written = written ≡ Some left

-- a call that succeeds: none has failed, the text was written and lasts, and this run line stands open now
pub record Wrote (before after : Keeper) (text : List ℕ) (run : Option OpenRun) : Type 0 where
  pub sound : before.failures ≡ 0
  pub appended : Appends before.text after.text text
  pub lasts : Lasts after.lasting after.text
  pub now_open : after.run ≡ run
  pub no_failure : after.failures ≡ 0

-- a call that fails is counted; it has written a prefix of its text, and nothing where a call had failed before
pub record Failed (before after : Keeper) (text : List ℕ) : Type 0 where
  pub counted : after.failures ≡ one_more before.failures
  pub part : WritesPrefix before.text after.text text
  pub silent : 0 < before.failures → Keeps before.text after.text

-- the writer holds the record of the first k words of a plan and nothing else, and the keeper knows which run line
-- stands open at its end
pub record HoldsRecord (keeper : Keeper) (plan : PlanValue) (k : ℕ) : Type 0 where
  pub written : keeper.text ≡ Some (record_text Second plan k false)
  pub knows : keeper.run ≡ open_run Second plan k

-- a thing was kept: its text was written
abbrev pub HasKept : Keeper → Kept → Keeper → Type 0
HasKept before (Word word) after = Wrote before after (second_piece before.run word) (second_run before.run word)
HasKept before Go after = Wrote before after (mark_text before.run) None

-- a thing was not kept: a prefix of its text was written, if anything
abbrev pub HasCutShort : Keeper → Kept → Keeper → Type 0
HasCutShort before (Word word) after = Failed before after (second_piece before.run word)
HasCutShort before Go after = Failed before after (mark_text before.run)
