-- How a probe ends (this project's choice).
use Rattle.std.specs.Prelude.{ℕ, ◌==◌, if◌then◌else◌, Bool, Option, Some, None}
use Rattle.engine.specs.declared.stop.Cut.TheVariants.{LineFailed}
use Rattle.probe_report.specs.declared.findings.TrialFindings.{TrialFindings}
use Rattle.probe_report.specs.declared.findings.Findings.{Findings}
use Rattle.probe_report.specs.declared.findings.Extent.{Extent}
use Rattle.probe_report.specs.declared.findings.Extent.TheVariants as extent
use Rattle.probe_report.specs.declared.findings.Sighting.{Sighting}
use Rattle.probe_report.specs.declared.findings.Sighting.TheVariants as look
use Rattle.probe_report.specs.declared.findings.TrialEnd.{TrialEnd}
use Rattle.probe_report.specs.declared.findings.TrialEnd.TheVariants as trial
use Rattle.probe_report.specs.declared.probe_end.ProbeEnd.{ProbeEnd}
use Rattle.probe_report.specs.declared.probe_end.ProbeEnd.TheVariants.{Probed, NotTrusted, NoPrompt, GaveUp, NoWord, CutOff}

-- behind the search of memory's end
abbrev pub search_end : Option Extent → ProbeEnd
search_end (Some (extent.Top top)) = Probed
search_end (Some (extent.CutOff cut)) = CutOff cut
search_end (Some extent.GaveUp) = GaveUp
search_end None = GaveUp

-- where both looks read the same number: the trial's end, and behind one that was made the search's
abbrev pub same_end : Option Extent → TrialEnd → ProbeEnd
same_end found trial.Tried = search_end found
same_end found (trial.CutOff cut) = CutOff cut
same_end found end = GaveUp

-- behind the second look: where it read another number than before, the machine is not to be trusted, whatever made that number
abbrev pub second_end : Findings → ℕ → TrialEnd → Option Sighting → ProbeEnd
second_end f old end (Some (look.Number now)) = if now == old then same_end f.search end else NotTrusted
second_end f old end (Some look.NoWord) = NoWord f.address
second_end f old end (Some (look.CutOff cut)) = CutOff cut
second_end f old end (Some look.GaveUp) = GaveUp
second_end f old end None = GaveUp

-- behind the trial: a second look, but where the line failed
abbrev pub trial_end : Findings → ℕ → TrialEnd → ProbeEnd
trial_end f old (trial.CutOff (LineFailed fault)) = CutOff (LineFailed fault)
trial_end f old end = second_end f old end f.second

-- behind a first look that read the word
abbrev pub first_end : Findings → ℕ → Option TrialFindings → ProbeEnd
first_end f old (Some found) = trial_end f old found.end
first_end f old None = GaveUp

-- behind the first look
abbrev pub look_end : Findings → Bool → Sighting → ProbeEnd
look_end f prompt (look.Number old) = first_end f old f.trial
look_end f prompt look.NoWord = NoWord f.address
look_end f prompt look.GaveUp = if prompt then GaveUp else NoPrompt
look_end f prompt (look.CutOff cut) = CutOff cut

-- what a probe with these findings ends as, where a prompt was heard or not
abbrev pub probe_end : Findings → Bool → ProbeEnd
probe_end f prompt = look_end f prompt f.first
