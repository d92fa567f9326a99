use Rattle.host_devices.proofs.Told.{tells_join}
use Rattle.record_file.proofs.Asking.{asked_one}
use Rattle.std.proofs.Common.{Result, Ok, Err, true, false, ℕ, List, [], ◌∷◌}
use Rattle.std.specs.Prelude.{Option}
use Rattle.record_file.specs.DiskStep.{answered, Failed, FindFile, Rename}
use Rattle.tape_shelf.specs.ShelfDisk.{HasItsOwn, IsTakenBack, RenamedBack}
use Rattle.tape_shelf.proofs.new_file.take_back.Goals as goal

renamed_back : {A E : Type 0} (own name : List ℕ) (written left : Option (List ℕ)) (back : Result A E) → IsTakenBack own name written (Failed (FindFile own written) ∷ answered (Rename name own left) back ∷ [])
renamed_back own name written left (Ok u) = RenamedBack left true
renamed_back own name written left (Err e) = RenamedBack left false

pub returns-then-has_name : goal.returns-then-has_name
returns-then-has_name g c = let going = c.let_go.ensures.asked in record { asked = asked_one _ _ _ (tells_join _ _ _ _ _ c.if-has_name.ensures.asked going.1) (HasItsOwn _ going.2) }

pub returns-else-has_name : goal.returns-else-has_name
returns-else-has_name g c = record { asked = asked_one _ _ _ (tells_join _ _ _ _ _ c.if-has_name.ensures.asked c.rename.ensures.asked) (renamed_back _ _ _ _ c.rename.result) }
