-- What reaching a console gives, and what it is for.
use Rattle.std.specs.Prelude.{◌≡◌, ℕ, List, [], Option, None, ⊤}
use Rattle.tape_values.specs.Told.{IsAsTold}
use Rattle.host_devices.specs.declared.item.Item.{Item}
use Rattle.host_devices.specs.declared.fault.LineFault.{LineFault}
use Rattle.host_devices.specs.declared.fault.LineFault.TheVariants.{Connect, Receive}

-- a line on which nothing was said, where it tells, and of which no call failed
pub record IsUnused (told : Option (List Item)) (failures : ℕ) (fault : Option LineFault) : Type 0 where
  pub nothing_said : IsAsTold told []
  pub none_failed : failures ≡ 0
  pub no_fault : fault ≡ None

-- a console can't be reached, or its line takes no such quiet time
abbrev pub IsReachFault : LineFault → Type 0
IsReachFault Connect = ⊤
IsReachFault Receive = ⊤
IsReachFault other = ⊥
