-- How runs leave their line.
use Rattle.std.proofs.Common.{◌≡◌, ℕ, Bool, Option, Some, None, Ok, Err, sym, subst}
use Rattle.host_core.specs.declared.phase.End.TheVariants as host
use Rattle.host_devices.specs.Devices.{LineTold}
use Rattle.host_devices.specs.Failures.{CountsFault, IsLastFault}
use Rattle.engine.specs.declared.stop.Stop.TheVariants as drive
use Rattle.engine.specs.Stopping.{line_fault as drive_fault}
use Rattle.load_engine.specs.Driving.{LoadStop as Stop}
use Rattle.looking_engine.specs.Stopping.{LookStop, TrialStop, line_fault}
use Rattle.engine.specs.declared.stop.Cut.TheVariants.{LineFailed, TurnsOver}
use Rattle.probe_report.specs.declared.findings.Extent.{Extent}
use Rattle.probe_report.specs.declared.findings.Findings.{Findings}
use Rattle.probe_report.specs.declared.findings.Sighting.{Sighting}
use Rattle.probe_report.specs.declared.findings.TrialFindings.{TrialFindings}
use Rattle.reading_core.specs.declared.phase.End.TheVariants.{Complete, GaveUp, NoWord}
use Rattle.request_values.specs.Change.{◌⇒◌}
use Rattle.trial_core.specs.declared.phase.End.TheVariants as last
use Rattle.trial_core.specs.declared.trial.Trial.{Trial}
use Rattle.machine_probe.specs.Came.{extent_of, sighting_of, trial_findings_of}
use Rattle.machine_probe.specs.Left.{AreLeftBy, LeavesDeposit, LeavesLook, LeavesSearch, LeavesTrial, LeftBy}
use Rattle.machine_probe.specs.MemoryEnd.{stop_of}
use Rattle.machine_probe.specs.PuttingBack.{is_loaded}
use Rattle.machine_probe.specs.declared.search.Search.{Search}
use Rattle.machine_probe.specs.declared.search.Search.TheVariants as search_end

module _ (before after : LineTold) where
  seen : (stop : LookStop) (number : Option ℕ) → CountsFault (line_fault (Some stop)) before.failures after.failures → IsLastFault (line_fault (Some stop)) after.fault
      → LeavesLook (sighting_of stop number) (before ⇒ after)
  seen (Ok Complete) (Some number) counted named = record { counted = counted; named = named }
  seen (Ok Complete) None counted named = record { counted = counted; named = named }
  seen (Ok GaveUp) number counted named = record { counted = counted; named = named }
  seen (Ok (NoWord address)) number counted named = record { counted = counted; named = named }
  seen (Err (LineFailed fault)) number counted named = record { counted = counted; named = named }
  seen (Err TurnsOver) number counted named = record { counted = counted; named = named }

  pub look_leaves : (stop : LookStop) (number : Option ℕ) (sighting : Sighting) → sighting ≡ sighting_of stop number → CountsFault (line_fault (Some stop)) before.failures after.failures
      → IsLastFault (line_fault (Some stop)) after.fault → LeavesLook sighting (before ⇒ after)
  look_leaves stop number sighting is counted named = subst (λ s. LeavesLook s (before ⇒ after)) (sym is) (seen stop number counted named)

  tried : (t : Trial) (stop : TrialStop) → CountsFault (line_fault (Some stop)) before.failures after.failures → IsLastFault (line_fault (Some stop)) after.fault
      → LeavesTrial (trial_findings_of t stop) (before ⇒ after)
  tried t (Ok last.Tried) counted named = record { counted = counted; named = named }
  tried t (Ok last.GaveUp) counted named = record { counted = counted; named = named }
  tried t (Ok last.NoWord) counted named = record { counted = counted; named = named }
  tried t (Err (LineFailed fault)) counted named = record { counted = counted; named = named }
  tried t (Err TurnsOver) counted named = record { counted = counted; named = named }

  pub trial_leaves : (t : Trial) (stop : TrialStop) (attempt : TrialFindings) → attempt ≡ trial_findings_of t stop → CountsFault (line_fault (Some stop)) before.failures after.failures
      → IsLastFault (line_fault (Some stop)) after.fault → LeavesTrial attempt (before ⇒ after)
  trial_leaves t stop attempt is counted named = subst (λ a. LeavesTrial a (before ⇒ after)) (sym is) (tried t stop counted named)

  loaded : (stop : Stop) → CountsFault (drive_fault (Some stop)) before.failures after.failures → IsLastFault (drive_fault (Some stop)) after.fault
      → LeavesDeposit (is_loaded stop) (before ⇒ after)
  loaded (drive.Ended host.Loaded) counted named = record { counted = counted; named = named }
  loaded (drive.Ended host.Started) counted named = (None, record { counted = counted; named = named })
  loaded (drive.Ended host.Uncertain) counted named = (None, record { counted = counted; named = named })
  loaded (drive.Ended host.MaybeStarted) counted named = (None, record { counted = counted; named = named })
  loaded (drive.Ended host.GaveUp) counted named = (None, record { counted = counted; named = named })
  loaded (drive.Ended (host.NoWord address)) counted named = (None, record { counted = counted; named = named })
  loaded (drive.Ended (host.WontHold address)) counted named = (None, record { counted = counted; named = named })
  loaded (drive.CutOff (LineFailed fault)) counted named = (Some fault, record { counted = counted; named = named })
  loaded (drive.KeepFailed fault) counted named = (None, record { counted = counted; named = named })
  loaded (drive.CutOff TurnsOver) counted named = (None, record { counted = counted; named = named })

  pub deposit_leaves : (stop : Stop) (is_back : Bool) → is_back ≡ is_loaded stop → CountsFault (drive_fault (Some stop)) before.failures after.failures
      → IsLastFault (drive_fault (Some stop)) after.fault → LeavesDeposit is_back (before ⇒ after)
  deposit_leaves stop is_back is counted named = subst (λ back. LeavesDeposit back (before ⇒ after)) (sym is) (loaded stop counted named)

  searched : (search : Search) → CountsFault (line_fault (stop_of search)) before.failures after.failures → IsLastFault (line_fault (stop_of search)) after.fault
      → LeavesSearch (extent_of search) (before ⇒ after)
  searched (search_end.Ends top) counted named = record { counted = counted; named = named }
  searched (search_end.Stopped (Ok end)) counted named = record { counted = counted; named = named }
  searched (search_end.Stopped (Err (LineFailed fault))) counted named = record { counted = counted; named = named }
  searched (search_end.Stopped (Err TurnsOver)) counted named = record { counted = counted; named = named }

  pub search_leaves : (search : Search) (found : Extent) → found ≡ extent_of search → CountsFault (line_fault (stop_of search)) before.failures after.failures
      → IsLastFault (line_fault (stop_of search)) after.fault → LeavesSearch found (before ⇒ after)
  search_leaves search found is counted named = subst (λ e. LeavesSearch e (before ⇒ after)) (sym is) (searched search counted named)

-- a search leaves a line as it does behind what came before
pub leave_behind : (f : Findings) (search : Option Extent) (changed : ℕ) (first between last : LineTold) → AreLeftBy (record f { search = None }) (first ⇒ between) → LeftBy LeavesSearch search (between ⇒ last)
    → AreLeftBy (record f { search = search; changes = record f.changes { search = changed } }) (first ⇒ last)
leave_behind f search changed first between last before behind = record {
  looked = before.looked;
  look = before.look;
  tried = before.tried;
  trial = before.trial;
  looked_again = before.looked_again;
  second_look = before.second_look;
  put_back = between;
  deposit = subst (λ (line : LineTold). LeftBy LeavesDeposit f.put_back (before.looked_again ⇒ line)) (sym before.search) before.deposit;
  search = behind;
}
