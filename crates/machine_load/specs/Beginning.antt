-- How an opened life begins, over the line that is reached for it and with the keeper that is begun for it.
use Rattle.std.specs.Prelude.{◌≡◌, ◌⊎◌, List, [], ◌∷◌, Some, IfSome}
use Rattle.console_lines.specs.Dialling.{Call, LineRequest, asked_once}
use Rattle.host_devices.specs.Devices.{line_told}
use Rattle.machine_load.specs.declared.beginning.Beginning.{Beginning}
use Rattle.machine_load.specs.declared.beginning.Beginning.TheVariants.{Over, Begun}
use Rattle.machine_load.specs.declared.beginning.BegunLife.{BegunLife}
use Rattle.machine_load.specs.Asked.{Change, Opened, ◌⇒◌}
use Rattle.machine_load.specs.Called.{asked_by}
use Rattle.machine_load.specs.Load.{SurroundingsTold, Asks, HasLookedFirst, IsBegunThere, IsHeldUp, IsIdleLife}
use Rattle.machine_load.specs.Looks.{AreFewLooks, IsRoom, behind_looks}
use Rattle.machine_load.specs.Scene.{LoadTells, finish_told}
use Rattle.machine_load.specs.Step.{RecordBegun}
use Rattle.machine_load.specs.Stubs.{AreFew}
use Rattle.sample_looks.specs.declared.finding.Finding.TheVariants.{AllStand}

-- a life goes on: over its new line it has looked at words of its record, which all stand, and then the record was begun anew with those that count; and
-- there is room to look again
pub record IsBegunLife {L K : Type 0} (tells : LoadTells L K) (life : Opened) (around : Change SurroundingsTold) (begun : BegunLife L K) : Type 0 where
  pub between : SurroundingsTold
  pub first_looks : HasLookedFirst life (around.before ⇒ between) (Some begun.looks)
  pub all_stand : first_looks.looks.finding ≡ AllStand
  pub first_is : begun.first ≡ behind_looks life.first first_looks.looks
  pub line_is : line_told tells.line begun.line ≡ first_looks.behind
  pub record_begun : Asks between around.after (RecordBegun ∷ [])
  pub begun_there : IsBegunThere begun.first between around.after
  pub begun_so : tells.keeper.begins begun.keeper begun.first.plan begun.first.verified
  pub room_is : IsRoom begun.room

-- what the beginning of a life came to: it was over before, or its looks held it up, or it goes on
abbrev pub IsBeginning : {L K : Type 0} → LoadTells L K → Opened → Change SurroundingsTold → Beginning L K → Type 0
IsBeginning tells life around (Over lived) =
    IsIdleLife life around (finish_told tells.line lived) ⊎ IsHeldUp life around (finish_told tells.line lived)
IsBeginning tells life around (Begun begun) = IsBegunLife tells life around begun

-- so few was sent and met that a sum has room for it
abbrev pub SendsFew : {L K : Type 0} → Beginning L K → Type 0
SendsFew (Over lived) = IfSome lived.looks AreFewLooks × (IfSome lived.stubs AreFew × IfSome lived.again AreFewLooks)
SendsFew (Begun begun) = AreFewLooks begun.looks

-- what was asked for its line
abbrev pub asked_to_begin : {L K : Type 0} → Call → Beginning L K → List LineRequest
asked_to_begin call (Over lived) = asked_by call lived.line
asked_to_begin call (Begun begun) = asked_once call
