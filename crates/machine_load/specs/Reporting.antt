-- How a life is reported that is over, or is not reported whole.
use Rattle.std.specs.Prelude.{◌≡◌}
use Rattle.std.specs.Io.KnownBytes.{Appends}
use Rattle.byte_io.specs.Output.{WritesPrefix}
use Rattle.host_devices.specs.declared.line.Line.{Ghosts as Line}
use Rattle.machine_load.specs.declared.fault.LoadFault.{LoadFault}
use Rattle.machine_load.specs.declared.fault.LoadFault.TheVariants.{WriteOutput}
use Rattle.machine_load.specs.declared.lived.Lived.{Lived}
use Rattle.machine_load.specs.declared.outcome.Outcome.{Outcome}
use Rattle.machine_load.specs.Asked.{Change}
use Rattle.machine_load.specs.GivenBack.{IsGivenBack}
use Rattle.machine_load.specs.Load.{finish_report}
use Rattle.machine_load.specs.Outcome.{outcome_of}
use Rattle.machine_load.specs.Scene.{Scene, finish_told}

-- surroundings were asked for nothing
pub record AsksNoMore (scenes : Change Scene) : Type 0 where
  pub around_same : scenes.after.setting.around ≡ scenes.before.setting.around
  pub asked_same : scenes.after.asked ≡ scenes.before.asked

-- a life was reported, and this is given back
pub record IsLifeReported {L : Type 0} (tell : Line L) (lived : Lived L) (scenes : Change Scene) (outcome : Outcome L) : Type 0 where
  pub outcome_is : outcome ≡ outcome_of lived
  pub nothing_asked : AsksNoMore scenes
  pub reported : Appends scenes.before.setting.out scenes.after.setting.out (finish_report (finish_told tell lived))
  pub lines_kept : scenes.after.setting.lines ≡ scenes.before.setting.lines

-- its report could not be written whole, and its line was given back, where it has one
pub record IsLifeUnreported {L : Type 0} (tell : Line L) (lived : Lived L) (scenes : Change Scene) (why : LoadFault) : Type 0 where
  pub fault_is : why ≡ WriteOutput lived.core.going
  pub nothing_asked : AsksNoMore scenes
  pub reported : WritesPrefix scenes.before.setting.out scenes.after.setting.out (finish_report (finish_told tell lived))
  pub given_back : IsGivenBack scenes.before.setting.lines scenes.after.setting.lines (finish_told tell lived).line
