-- What the runs of a probe come to, by how their engines stopped.
use Rattle.std.specs.Prelude.{ℕ, nat_lt, List, [], ◌∷◌, Option, Some, None, Ok, Err}
use Rattle.machine_probe.specs.declared.search.Search.{Search}
use Rattle.machine_probe.specs.declared.search.Search.TheVariants as search
use Rattle.probe_report.specs.declared.findings.TrialFindings.{TrialFindings}
use Rattle.probe_report.specs.declared.findings.Extent.{Extent}
use Rattle.probe_report.specs.declared.findings.Extent.TheVariants as extent
use Rattle.probe_report.specs.declared.findings.Sighting.{Sighting}
use Rattle.probe_report.specs.declared.findings.Sighting.TheVariants as look
use Rattle.probe_report.specs.declared.findings.TrialEnd.{TrialEnd}
use Rattle.probe_report.specs.declared.findings.TrialEnd.TheVariants as trial
use Rattle.reading_core.specs.declared.phase.End.TheVariants.{Complete, GaveUp, NoWord}
use Rattle.looking_engine.specs.Stopping.{LookStop, TrialStop}
use Rattle.trial_core.specs.declared.phase.End.TheVariants as last
use Rattle.trial_core.specs.declared.trial.Trial.{Trial}

-- the first of the numbers that were read
abbrev pub first_of : List ℕ → Option ℕ
first_of [] = None
first_of (number ∷ more) = Some number

-- what a look gave that stopped so and read this number, if any: one that is complete has read it
abbrev pub sighting_of : LookStop → Option ℕ → Sighting
sighting_of (Ok Complete) (Some number) = look.Number number
sighting_of (Ok Complete) None = look.GaveUp
sighting_of (Ok GaveUp) number = look.GaveUp
sighting_of (Ok (NoWord address)) number = look.NoWord
sighting_of (Err cut) number = look.CutOff cut

-- how a trial ended that stopped so
abbrev pub trial_end_of : TrialStop → TrialEnd
trial_end_of (Ok last.Tried) = trial.Tried
trial_end_of (Ok last.GaveUp) = trial.GaveUp
trial_end_of (Ok last.NoWord) = trial.NoWord
trial_end_of (Err cut) = trial.CutOff cut

-- what a trial gave that stopped so: its end, what it saw, and whether it had a mishap
abbrev pub trial_findings_of : Trial → TrialStop → TrialFindings
trial_findings_of t stop = record { end = trial_end_of stop; seen = t.seen; had_mishap = nat_lt 0 t.spent }

-- what a search gave that came out so
abbrev pub extent_of : Search → Extent
extent_of (search.Ends top) = extent.Top top
extent_of (search.Stopped (Ok end)) = extent.GaveUp
extent_of (search.Stopped (Err cut)) = extent.CutOff cut
