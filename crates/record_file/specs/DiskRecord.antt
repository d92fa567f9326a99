-- A record that is begun anew, as its keeper knows it.
use Rattle.std.specs.Prelude.{◌≡◌, ℕ, false, List, Option}
use Rattle.std.specs.Io.KnownBytes.{Appends}
use Rattle.tape_image.specs.Plan.{PlanValue}
use Rattle.load_record.specs.declared.version.Version.TheVariants.{Second}
use Rattle.load_record.specs.Keeper.{Keeper, Lasts}
use Rattle.load_record.specs.RecordText.{open_run, record_text}

-- the keeper of a file has written the record of the plan's first k words behind what was written to that file before, and nothing behind it,
-- and that lasts; it knows which run line stands open at the end, and no call of it failed
pub record HasBegun {T : Type 0} (contents : T → Option (List ℕ)) (plan : PlanValue) (k : ℕ) (keeper : Keeper) : Type 0 where
  pub file : T
  pub written : Appends (contents file) keeper.text (record_text Second plan k false)
  pub lasts : Lasts keeper.lasting keeper.text
  pub knows : keeper.run ≡ open_run Second plan k
  pub sound : keeper.failures ≡ 0
