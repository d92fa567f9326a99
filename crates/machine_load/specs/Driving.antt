-- How a life goes on, over the line that was reached for it and the keeper that was begun for it.
use Rattle.std.specs.Prelude.{◌≡◌, ℕ, ◌+◌, List, [], ◌∷◌, length, Option, Some, None, is_some, ⊤}
use Rattle.tape_image.specs.Plan.{PlanValue}
use Rattle.host_devices.specs.Devices.{LineTold}
use Rattle.host_devices.specs.declared.item.Kept.{Kept}
use Rattle.host_devices.specs.KeepTable.{KeepValue, empty_keep}
use Rattle.engine.specs.Keeping.{KeeperCalls}
use Rattle.load_lives.specs.Keepers.{record_calls}
use Rattle.load_record.specs.Keeper.{Keeper}
use Rattle.machine_load.specs.Asked.{Change}
use Rattle.machine_load.specs.Load.{SurroundingsTold, Finish, Going, Asks, IsBegunThere, course_of}
use Rattle.machine_load.specs.Parts.{ArePartsOver, held}
use Rattle.machine_load.specs.Step.{RecordBegun, RecordGivenBack}
use Rattle.record_file.specs.DiskRecord.{HasBegun}

-- what keepers of a type tell and what their calls make of them; what one is that was begun, and what its record is
pub record KeeperTells (K : Type 0) : Type 1 where
  pub calls : KeeperCalls K Kept
  pub begins : K → PlanValue → ℕ → Type 0
  pub text : K → Option (List ℕ)

-- keepers of records in files, of which it is known what their calls write, and that each was begun with just its words behind what its file had then
abbrev pub on_disk : KeeperTells Keeper
on_disk = record {
  calls = record_calls;
  begins = λ keeper plan k. HasBegun (λ (written : Option (List ℕ)). written) plan k keeper;
  text = λ _. None;
}

-- keepers in memory, which tell what they keep: nothing at first, with room for each word and the mark
abbrev pub in_memory : KeeperTells KeepValue
in_memory = record {
  calls = record {
    told = λ keeper. Some keeper.kept;
    failures = λ keeper. keeper.failures;
    fault = λ keeper. keeper.fault;
    keeps = λ _ _ _. ⊤;
    fails = λ _ _ _. ⊤;
  };
  begins = λ keeper plan k. keeper ≡ empty_keep (length plan.words + 1) None;
  text = λ _. None;
}

-- so a life goes on behind its looks, over its line: the record is begun anew with the words that were verified already, stubs, where they are asked for,
-- looks behind those that were in vain, and the host have the line and the new keeper, and in the end the record is what the keeper has kept
pub record IsDrivenOn {K : Type 0} (tells : KeeperTells K) (life : Going) (around : Change SurroundingsTold) (finish : Finish) : Type 0 where
  pub asked : Asks around.before around.after (RecordBegun ∷ RecordGivenBack ∷ [])
  pub begun_there : IsBegunThere life.first around.before around.after
  pub stubs_asked : is_some finish.stubs ≡ life.fast
  pub line' : LineTold
  pub has_line : finish.line ≡ Some line'
  pub keeper : K
  pub begun_so : tells.begins keeper life.first.plan life.first.verified
  pub keeper' : K
  pub parts : ArePartsOver tells.calls (course_of life.first finish) (held life.line keeper) (held line' keeper')
  pub left : around.after.record_text ≡ tells.text keeper'
