-- How the runs of a probe leave their line: no call of it failed, or the last one.
use Rattle.std.specs.Prelude.{◌≡◌, Bool, true, false, Option, Some, None}
use Rattle.engine.specs.declared.stop.Cut.TheVariants.{LineFailed}
use Rattle.host_devices.specs.Devices.{LineTold}
use Rattle.host_devices.specs.Failures.{CountsFault, IsLastFault}
use Rattle.host_devices.specs.declared.fault.LineFault.{LineFault}
use Rattle.probe_report.specs.declared.findings.Extent.{Extent}
use Rattle.probe_report.specs.declared.findings.Extent.TheVariants as extent
use Rattle.probe_report.specs.declared.findings.Findings.{Findings}
use Rattle.probe_report.specs.declared.findings.Sighting.{Sighting}
use Rattle.probe_report.specs.declared.findings.Sighting.TheVariants as look
use Rattle.probe_report.specs.declared.findings.TrialFindings.{TrialFindings}
use Rattle.probe_report.specs.declared.findings.TrialEnd.{TrialEnd}
use Rattle.probe_report.specs.declared.findings.TrialEnd.TheVariants as trial
use Rattle.request_values.specs.Change.{Change, ◌⇒◌}

-- the fault of the line by which a look ended, if by one
abbrev pub fault_seen : Sighting → Option LineFault
fault_seen (look.CutOff (LineFailed fault)) = Some fault
fault_seen other = None

-- the one by which a trial ended
abbrev pub fault_tried : TrialEnd → Option LineFault
fault_tried (trial.CutOff (LineFailed fault)) = Some fault
fault_tried other = None

-- the one by which a search ended
abbrev pub fault_searched : Extent → Option LineFault
fault_searched (extent.CutOff (LineFailed fault)) = Some fault
fault_searched other = None

-- a line has counted this fault, if there is one, and then it is that of its last call
pub record Leaves (fault : Option LineFault) (line : Change LineTold) : Type 0 where
  pub counted : CountsFault fault line.before.failures line.after.failures
  pub named : IsLastFault fault line.after.fault

-- so looks leave it, a trial and a search
abbrev pub LeavesLook : Sighting → Change LineTold → Type 0
LeavesLook sighting line = Leaves (fault_seen sighting) line

abbrev pub LeavesTrial : TrialFindings → Change LineTold → Type 0
LeavesTrial attempt line = Leaves (fault_tried attempt.end) line

abbrev pub LeavesSearch : Extent → Change LineTold → Type 0
LeavesSearch found line = Leaves (fault_searched found) line

-- so it is left where a number was put back: one that is back was read over a line that did not fail
abbrev pub LeavesDeposit : Bool → Change LineTold → Type 0
LeavesDeposit true line = Leaves None line
LeavesDeposit false line = (fault : Option LineFault) × Leaves fault line

-- a run that was made leaves the line so; where none was made it is as it was
abbrev pub LeftBy : {A : Type 0} → (A → Change LineTold → Type 0) → Option A → Change LineTold → Type 0
LeftBy {A} leaves None line = line.after ≡ line.before
LeftBy {A} leaves (Some found) line = leaves found line

-- runs with these findings left it so, one after another
pub record AreLeftBy (f : Findings) (line : Change LineTold) : Type 0 where
  pub looked : LineTold
  pub look : LeavesLook f.first (line.before ⇒ looked)
  pub tried : LineTold
  pub trial : LeftBy LeavesTrial f.trial (looked ⇒ tried)
  pub looked_again : LineTold
  pub second_look : LeftBy LeavesLook f.second (tried ⇒ looked_again)
  pub put_back : LineTold
  pub deposit : LeftBy LeavesDeposit f.put_back (looked_again ⇒ put_back)
  pub search : LeftBy LeavesSearch f.search (put_back ⇒ line.after)
